use Rattle.std.proofs.Common.{◌≡◌, ◌∙◌, sym, ap, subst}
use Rattle.std.specs.Option.{option_map}
use Rattle.std.proofs.lemmas.Bool.{true≢false}
use Rattle.c11_macros.specs.Macros as model
use Rattle.sc_macro.specs.Seen.{IsHeldForm, seen_form, seen_rest, texts_of}
use Rattle.sc_macro.proofs.Equality.{same_names, same_rests}
use Rattle.sc_macro.proofs.same.same_form.Goals as goal

pub returns-then-same_names : goal.returns-then-same_names
returns-then-same_names c = λ names one in_a in_b.
    let d = c.in-Function-Function in
    let keys : d.a.keys ≡ d.b.keys = sym c.as_slice.ensures.keys ∙ (c.same_names.ensures.0 c.if-same_names.true ∙ c.as_slice-in-Function-Function.ensures.keys) in
    let form : seen_form names c.args.a.now ≡ model.function_like (texts_of names d.a.keys) (option_map (seen_rest names) d.x) = ap (seen_form names) d.is-0 in
    let other : seen_form names c.args.b.now ≡ model.function_like (texts_of names d.b.keys) (option_map (seen_rest names) d.y) = ap (seen_form names) d.is-1 in
    let held_a = subst (IsHeldForm names) d.is-0 in_a in
    let held_b = subst (IsHeldForm names) d.is-1 in_b in (
      λ h. form ∙ (ap (λ ks. model.function_like (texts_of names ks) (option_map (seen_rest names) d.x)) keys
          ∙ (ap (λ r. model.function_like (texts_of names d.b.keys) (option_map (seen_rest names) r)) (c.same_rest.ensures.0 h) ∙ sym other)),
      λ e. c.same_rest.ensures.1 (same_rests names one d.x d.y held_a.1 held_b.1 (cc)),
    )

pub returns-else-same_names : goal.returns-else-same_names
returns-else-same_names c = λ names one in_a in_b.
    let d = c.in-Function-Function in
    let form : seen_form names c.args.a.now ≡ model.function_like (texts_of names d.a.keys) (option_map (seen_rest names) d.x) = ap (seen_form names) d.is-0 in
    let other : seen_form names c.args.b.now ≡ model.function_like (texts_of names d.b.keys) (option_map (seen_rest names) d.y) = ap (seen_form names) d.is-1 in
    let held_a = subst (IsHeldForm names) d.is-0 in_a in
    let held_b = subst (IsHeldForm names) d.is-1 in_b in (
      λ h. absurd (true≢false (sym h ∙ c.if-same_names.false)),
      λ e. c.same_names.ensures.1 (c.as_slice.ensures.keys ∙ (same_names names one d.a.keys d.b.keys held_a.0 held_b.0 (cc) ∙ sym c.as_slice-in-Function-Function.ensures.keys)),
    )
