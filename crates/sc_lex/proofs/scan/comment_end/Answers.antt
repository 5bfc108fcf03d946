use Rattle.std.proofs.Common.{true, false, arith, subst, eq-eqb}
use Rattle.sc_lex.specs.Scan.{IsLongestFront}
use Rattle.sc_lex.proofs.Fronts.{Unmet, Unmet-met, at_place}
use Rattle.sc_lex.proofs.Quotes.{closes_after, comment-found}
use Rattle.sc_lex.proofs.scan.comment_end.Goals as goal

pub returns-then-b-eq47-clause-front : goal.returns-then-b-eq47-clause-front
returns-then-b-eq47-clause-front c =
    Unmet-met 1 (subst (λ s. Unmet (closes_after false) (closes_after s) c.args.text.now c.loop-i.i) c.if-star.true c.loop-i.invariant)
    (at_place (λ bs. IsLongestFront (closes_after true) bs 1) c.args.text.now c.loop-i.i c.loop-i-test.true (comment-found _ _ (eq-eqb _ 47 c.if-b-eq47.true)))
    (omega arith)
