use Rattle.std.proofs.Common.{◌≡◌, drop, arith, sym, ap, ◌∙◌, subst, eq-eqb, ne_eqb, length-drop}
use Rattle.std.proofs.lemmas.List.{take_rest}
use Rattle.c11_tokens.specs.Lex.{closes}
use Rattle.sc_lex.specs.Scan.{quoted_length}
use Rattle.sc_lex.proofs.Fronts.{Unmet, Unmet-more, Unmet-met, Unmet-never, never_longest, at_first}
use Rattle.sc_lex.proofs.Quotes.{Goes, closing-steps, closing-found}
use Rattle.sc_lex.proofs.scan.closing.Goals as goal
use Rattle.sc_lex.proofs.scan.closing.Goals.{After-quoted_part-part}

pub returns-then-text-length : goal.returns-then-text-length
returns-then-text-length c =
    Unmet-met 1 c.loop-length.invariant
    (closing-found c.args.quote (drop c.loop-length.length c.args.text.now) (omega (arith, length-drop c.loop-length.length c.args.text.now))
    (eq-eqb _ c.args.quote (at_first c.args.text.now c.loop-length.length ∙ c.if-text-length.true)))
    (omega arith)

steps : (c : After-quoted_part-part) → Goes (closes c.args.quote) (drop c.loop-length.length c.args.text.now) (quoted_length (drop c.loop-length.length c.args.text.now))
steps c =
    closing-steps c.args.quote _ (omega (arith, length-drop c.loop-length.length c.args.text.now))
    (ne_eqb _ c.args.quote (λ e. c.if-text-length.false (sym (at_first c.args.text.now c.loop-length.length) ∙ e)))

part_is : (c : After-quoted_part-part) → c.quoted_part-part.result ≡ quoted_length (drop c.loop-length.length c.args.text.now)
part_is c = c.quoted_part-part.ensures ∙ ap quoted_length (take_rest c.args.text.now c.loop-length.length)

pub returns-then-part-eq0 : goal.returns-then-part-eq0
returns-then-part-eq0 c =
    let d = (goal.at.returns-then-part-eq0 c).After-quoted_part-part in
    never_longest (closes c.args.quote) c.args.text.now (Unmet-never c.loop-length.invariant ((steps d).stops (sym (part_is d) ∙ c.if-part-eq0.true)))

pub loop-length-preserved : goal.loop-length-preserved
loop-length-preserved c =
    let d = (goal.at.loop-length-preserved c).After-quoted_part-part in
    let is = part_is d in
    let some = c.if-part-eq0.false in
    Unmet-more c.quoted_part-part.result c.loop-length.invariant
    (subst (λ k. Unmet (closes c.args.quote) (closes c.args.quote) (drop c.loop-length.length c.args.text.now) k) (sym is) ((steps d).goes (omega arith)))
