use Rattle.std.proofs.Common.{◌≡◌, ◌+◌, ℕ, true, false, Option, Some, None, is_some, ap, ◌∙◌, sym}
use Rattle.std.proofs.lemmas.Bool.{false≢true}
use Rattle.lr_tables.specs.Grammar.{after}
use Rattle.lr_tables.specs.declared.grammar.Grammar.{Grammar}
use Rattle.sc_lalr.specs.Propagation.{IsFollowed}
use Rattle.sc_lalr.proofs.lookahead.is_followed.Goals as goal

followed_of : (g : Grammar) (i : ℕ) (o p : Option ℕ) → o ≡ after g i → p ≡ after g (i + 1) → is_some o ≡ true → is_some p ≡ true → IsFollowed g i
followed_of g i (Some x) (Some y) e f a b = record { x = x; y = y; over = sym e; next = sym f }
followed_of g i None p e f a b = absurd (false≢true a)
followed_of g i (Some x) None e f a b = absurd (false≢true b)

pub returns-then-is_none : goal.returns-then-is_none
returns-then-is_none c =
    let none : is_some c.after.result ≡ false = c.if-is_none.ensures in
    (λ m. absurd (false≢true m), λ h. sym none ∙ ap is_some (c.after.ensures.symbol ∙ h.over))

pub returns : goal.returns
returns c =
    let some : is_some c.after.result ≡ true = c.if-is_none.ensures in (
      λ m. followed_of c.args.grammar.now c.args.item c.after.result c.after-2.result c.after.ensures.symbol c.after-2.ensures.symbol some (sym c.is_some.ensures ∙ m),
      λ h. c.is_some.ensures ∙ ap is_some (c.after-2.ensures.symbol ∙ h.next),
    )
