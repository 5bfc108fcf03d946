use Rattle.std.proofs.Common.{◌≡◌, ◌<◌, ◌≤◌, ℕ, length, ap, ◌∙◌, sym, arith, Option, Some, None, is_some, true, false, refl, subst}
use Rattle.std.proofs.lemmas.Bool.{false≢true}
use Rattle.lr_tables.specs.Grammar.{IsStart, begun, production_at}
use Rattle.lr_tables.specs.declared.grammar.Grammar.{Grammar}
use Rattle.sc_items.proofs.Listing.{IsListOf-kept, IsListOf-left, IsListOf-done}
use Rattle.sc_items.proofs.kernel.start.Goals as goal
use Rattle.sc_items.proofs.kernel.start.Goals.{then-is_some+then-production_at-lt3+in_ok-push, then-is_some+else-production_at-lt3, else-is_some}

some_of : (o : Option ℕ) → is_some o ≡ true → (x : ℕ) × (o ≡ Some x)
some_of None e = absurd (false≢true e)
some_of (Some x) e = (x, refl)

starts : (g : Grammar) (i n : ℕ) → is_some (begun g i) ≡ true → n ≡ production_at g i → n < 3 → IsStart g i
starts g i n e f h =
    let begins = some_of (begun g i) e in
    record { symbol = begins.0; begins = begins.1; first_two = subst (λ k. k < 3) f h }

starts_not : (g : Grammar) (i : ℕ) → is_some (begun g i) ≡ false → IsStart g i → ⊥
starts_not g i e s = false≢true (sym e ∙ ap is_some s.begins)

starts_late : (g : Grammar) (i n : ℕ) → n ≡ production_at g i → 3 ≤ n → IsStart g i → ⊥
starts_late g i n f h s = omega (arith, s.first_two, f, h)

pub loop-item-preserved : goal.loop-item-preserved
loop-item-preserved c =
    let g = c.args.grammar.now in
    let i = c.loop-item.item in
    let some_is = c.is_some.ensures ∙ ap is_some c.begun.ensures.left in
    elim c.if-is_some.branch [
      | then-is_some+then-production_at-lt3+in_ok-push w ↦ IsListOf-kept (IsStart g) i _ _ c.loop-item.invariant (ap (λ v. v.items) w.items-is ∙ w.in_ok-push.ensures.items) (starts g i w.production_at.result (sym some_is ∙ w.if-is_some.true) w.production_at.ensures w.if-production_at-lt3.true)
      | then-is_some+else-production_at-lt3 w ↦ IsListOf-left (IsStart g) i _ _ c.loop-item.invariant (ap (λ v. v.items) w.items-is) (starts_late g i w.production_at.result w.production_at.ensures w.if-production_at-lt3.false)
      | else-is_some w ↦ IsListOf-left (IsStart g) i _ _ c.loop-item.invariant (ap (λ v. v.items) w.items-is) (starts_not g i (sym some_is ∙ w.if-is_some.false))
    ]

pub returns : goal.returns
returns c = IsListOf-done (IsStart c.args.grammar.now) c.loop-item.item (length c.args.grammar.now.entries.now) _ (omega arith) (omega arith) c.loop-item.invariant
