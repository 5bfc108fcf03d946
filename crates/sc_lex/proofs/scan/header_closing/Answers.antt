use Rattle.std.proofs.Common.{arith, eq-eqb, ne_eqb}
use Rattle.c11_tokens.specs.Lex.{header_closes}
use Rattle.sc_lex.specs.Scan.{IsLongestFront}
use Rattle.sc_lex.proofs.Fronts.{IsStuck, Unmet-met, Unmet-never, never_longest, at_place}
use Rattle.sc_lex.proofs.Quotes.{header-found, header-stops}
use Rattle.sc_lex.proofs.scan.header_closing.Goals as goal

pub returns-then-b-end : goal.returns-then-b-end
returns-then-b-end c =
    Unmet-met 1 c.loop-i.invariant
    (at_place (λ bs. IsLongestFront (header_closes c.args.end) bs 1) c.args.text.now c.loop-i.i c.loop-i-test.true (header-found c.args.end _ _ (eq-eqb _ c.args.end c.if-b-end.true)))
    (omega arith)

pub returns-then-b-eq10 : goal.returns-then-b-eq10
returns-then-b-eq10 c =
    never_longest (header_closes c.args.end) c.args.text.now
    (Unmet-never c.loop-i.invariant
    (at_place (IsStuck (header_closes c.args.end)) c.args.text.now c.loop-i.i c.loop-i-test.true (header-stops c.args.end _ _ (ne_eqb _ c.args.end c.if-b-end.false) (eq-eqb _ 10 c.if-b-eq10.true))))
