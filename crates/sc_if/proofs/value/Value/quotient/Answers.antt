use Rattle.std.proofs.Common.{◌∙◌, sym, ap, refl, rules, false, FitsSigned}
use Rattle.std.proofs.lemmas.Int.{to_z-of_z}
use Rattle.std.specs.Int.{w64}
use Rattle.c11_expressions.specs.Arithmetic.{quotient, typed}
use Rattle.c11_macros.specs.Results.{result_map}
use Rattle.sc_if.specs.Seen.{seen_value}
use Rattle.sc_if.proofs.Division.{divides, in_pair, second-zero}
use Rattle.sc_if.proofs.value.Value.quotient.Goals as goal

pub returns-in-Signed : goal.returns-in-Signed
returns-in-Signed c =
    let first_fits : FitsSigned w64 c.in-Signed.x = search rules in
    let fits : FitsSigned w64 c.in-Signed.y = search rules in
    let nonzero = second-zero (seen_value c.args.self) (seen_value c.args.other) _ c.in-Signed.ensures (cc (c.is_zero.ensures, c.if-is_zero.false)) refl in
    c.fitted.ensures.exact ∙ ap (result_map (typed false)) (divides _ _ _ nonzero fits (simp to_z-of_z at c.checked_div.ensures))
    ∙ sym (in_pair quotient (seen_value c.args.self) (seen_value c.args.other) _ c.in-Signed.ensures)
