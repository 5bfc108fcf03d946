use Rattle.std.proofs.Common.{◌≡◌, drop, arith, sym, ap, ◌∙◌, subst, ne_eqb, length-drop}
use Rattle.std.proofs.lemmas.List.{take_rest}
use Rattle.c11_tokens.specs.Lex.{closes}
use Rattle.sc_lex.specs.Scan.{quoted_length}
use Rattle.sc_lex.proofs.Fronts.{Unmet, IsStuck-end, at_first}
use Rattle.sc_lex.proofs.Quotes.{Goes, closing-steps}
use Rattle.sc_lex.proofs.UnclosedLemmas.{IsUnclosed-none, Seeks-none, Seeks-more, Seeks-end, quoted_length-le}
use Rattle.sc_lex.proofs.unclosed.unclosed_front.Goals as goal
use Rattle.sc_lex.proofs.unclosed.unclosed_front.Goals.{After-quoted_part-part}

steps : (c : After-quoted_part-part) → Goes (closes c.args.quote) (drop c.loop-length.length c.args.text.now) (quoted_length (drop c.loop-length.length c.args.text.now))
steps c =
    closing-steps c.args.quote _ (omega (arith, length-drop c.loop-length.length c.args.text.now))
    (ne_eqb _ c.args.quote (λ e. c.if-text-length.false (sym (at_first c.args.text.now c.loop-length.length) ∙ e)))

part_is : (c : After-quoted_part-part) → c.quoted_part-part.result ≡ quoted_length (drop c.loop-length.length c.args.text.now)
part_is c = c.quoted_part-part.ensures ∙ ap quoted_length (take_rest c.args.text.now c.loop-length.length)

pub loop-length-init : goal.loop-length-init
loop-length-init c = Seeks-none c.args.quote c.args.text.now

pub loop-length-preserved : goal.loop-length-preserved
loop-length-preserved c =
    let d = (goal.at.loop-length-preserved c).After-quoted_part-part in
    let is = part_is d in
    let some = c.if-part-eq0.false in
    let rest = drop c.loop-length.length c.args.text.now in
    let short = quoted_length-le rest in
    Seeks-more c.quoted_part-part.result (omega arith) (omega (arith, is, short)) (λ e. c.if-text-length.false (sym (at_first c.args.text.now c.loop-length.length) ∙ e))
    (subst (λ k. Unmet (closes c.args.quote) (closes c.args.quote) rest k) (sym is) ((steps d).goes (omega arith))) c.loop-length.invariant

pub returns-then-text-length : goal.returns-then-text-length
returns-then-text-length c = IsUnclosed-none c.args.quote c.args.text.now

pub returns-then-part-eq0 : goal.returns-then-part-eq0
returns-then-part-eq0 c =
    let d = (goal.at.returns-then-part-eq0 c).After-quoted_part-part in
    Seeks-end c.loop-length.invariant ((steps d).stops (sym (part_is d) ∙ c.if-part-eq0.true))

pub returns : goal.returns
returns c =
    let rest = drop c.loop-length.length c.args.text.now in
    Seeks-end c.loop-length.invariant (IsStuck-end (closes c.args.quote) rest (omega (arith, length-drop c.loop-length.length c.args.text.now)))
