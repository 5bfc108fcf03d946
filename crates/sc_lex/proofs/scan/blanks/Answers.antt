use Rattle.std.proofs.Common.{◌≡◌, length, refl, sym, ◌∙◌, arith, subst, length-drop}
use Rattle.std.specs.List.{list_all}
use Rattle.c11_tokens.specs.Lex.{is_blank}
use Rattle.sc_lex.specs.Scan.{IsLongestFront}
use Rattle.sc_lex.proofs.Fronts.{IsStuck, IsStuck-end, longest_where_stuck, at_place, blanks-front, blanks-stop}
use Rattle.sc_lex.proofs.scan.blanks.Goals as goal

pub returns-then-not-is_blank : goal.returns-then-not-is_blank
returns-then-not-is_blank c =
    blanks-front _ _ (longest_where_stuck c.loop-i.invariant refl
    (at_place (IsStuck (list_all is_blank)) c.args.text.now c.loop-i.i c.loop-i-test.true (blanks-stop _ _ (sym c.is_blank.ensures ∙ c.if-not-is_blank.true))))

pub returns : goal.returns
returns c =
    let all : c.loop-i.i ≡ length c.args.text.now = omega (arith, c.loop-i.invariant.within) in
    blanks-front _ _ (subst (IsLongestFront (list_all is_blank) c.args.text.now) all
    (longest_where_stuck c.loop-i.invariant refl (IsStuck-end (list_all is_blank) _ (omega (arith, length-drop c.loop-i.i c.args.text.now)))))
