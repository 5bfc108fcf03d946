use Rattle.std.proofs.Common.{◌≡◌, length, refl, arith, subst, eq-eqb, length-drop}
use Rattle.sc_model.specs.Bytes.{has_no_newline}
use Rattle.sc_lex.specs.Scan.{IsLongestFront}
use Rattle.sc_lex.proofs.Fronts.{IsStuck, IsStuck-end, longest_where_stuck, at_place}
use Rattle.sc_lex.proofs.Quotes.{line-stops}
use Rattle.sc_lex.proofs.scan.line_length.Goals as goal

pub returns-then-b-eq10 : goal.returns-then-b-eq10
returns-then-b-eq10 c =
    longest_where_stuck c.loop-i.invariant refl
    (at_place (IsStuck has_no_newline) c.args.text.now c.loop-i.i c.loop-i-test.true (line-stops _ _ (eq-eqb _ 10 c.if-b-eq10.true)))

pub returns : goal.returns
returns c =
    let all : c.loop-i.i ≡ length c.args.text.now = omega (arith, c.loop-i.invariant.within) in
    subst (IsLongestFront has_no_newline c.args.text.now) all
    (longest_where_stuck c.loop-i.invariant refl (IsStuck-end has_no_newline _ (omega (arith, length-drop c.loop-i.i c.args.text.now))))
