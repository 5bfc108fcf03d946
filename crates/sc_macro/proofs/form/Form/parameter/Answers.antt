use Rattle.std.proofs.Common.{◌∙◌, refl, sym, ap, length, Some, None, if◌then◌else◌, subst}
use Rattle.std.specs.Option.{option_map}
use Rattle.sc_macro.specs.Seen.{IsHeldForm, seen_rest}
use Rattle.sc_macro.proofs.Parameters.{parameter_some, parameter_none}
use Rattle.sc_macro.proofs.form.Form.parameter.Goals as goal

pub returns-in-Some : goal.returns-in-Some
returns-in-Some c =
    let names = c.args.names.now in
    let held = subst (IsHeldForm names) c.in-Function.is c.requires.form in
    rw c.in-Function.is (sym (parameter_some names c.one_to_one.ensures c.args.name c.requires.name _ (λ k. refl) (option_map (seen_rest names) c.in-Function.rest)
    c.in-Function.parameters.keys c.in-Some.index held.0 (sym c.get_index_of.ensures.index ∙ c.in-Some.is)))

pub returns-in-None : goal.returns-in-None
returns-in-None c =
    let names = c.args.names.now in
    let held = subst (IsHeldForm names) c.in-Function.is c.requires.form in
    ap Some c.len.ensures.len ∙ rw c.in-Function.is (sym (parameter_none names c.one_to_one.ensures c.args.name c.requires.name _ (λ k. refl) (option_map (seen_rest names) c.in-Function.rest)
    c.in-Function.parameters.keys held.0 (sym c.get_index_of.ensures.index ∙ c.in-None.is)
    ∙ ap (λ b. if b then Some (length c.in-Function.parameters.keys) else None) (sym c.is_named.ensures ∙ c.if-is_named.true)))

pub returns-in-None-2 : goal.returns-in-None-2
returns-in-None-2 c =
    let names = c.args.names.now in
    let held = subst (IsHeldForm names) c.in-Function.is c.requires.form in
    rw c.in-Function.is (sym (parameter_none names c.one_to_one.ensures c.args.name c.requires.name _ (λ k. refl) (option_map (seen_rest names) c.in-Function.rest)
    c.in-Function.parameters.keys held.0 (sym c.get_index_of.ensures.index ∙ c.in-None.is)
    ∙ ap (λ b. if b then Some (length c.in-Function.parameters.keys) else None) (sym c.is_named.ensures ∙ c.if-is_named.false)))
