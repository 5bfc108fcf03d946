use Rattle.std.proofs.Common.{◌≡◌, ◌∙◌, List, [], Ok, Err, map, sym}
use Rattle.sc_expand.proofs.BeginningLemmas.{Fails, map_none, map_some, no_hash, refused_none, refused_some}
use Rattle.sc_expand.proofs.Facts.{Extends-refl, if_ok}
use Rattle.sc_expand.proofs.Placing.{held-template}
use Rattle.sc_expand.proofs.Terms.{BadStringize, HiddenToken, OnFault, Place, failure_at, no_names, provenance_of, seen_arguments, seen_form, seen_item, stores}
use Rattle.sc_expand.proofs.beginning.template_of.Goals as goal

pub returns-in-Ok-clause-some : goal.returns-in-Ok-clause-some
returns-in-Ok-clause-some c = record {
  at = λ later later_sets names sets. record {
    stringized = λ head place.
        no_hash (provenance_of []) (seen_form later c.args.form.now) (map (seen_item later) c.args.items.now) head (seen_arguments later later_sets c.args.raw.now) [] no_names
        (λ hash. differs head (sym (c.in-Ok.ensures.ok.at later later_sets names sets head [] (provenance_of []) no_names place) ∙ hash));
    completes = λ s head expanded provenance hidden place. c.in-Ok.ensures.ok.at later later_sets names sets head expanded provenance hidden place;
  };
}
  where
    differs : {made : List (HiddenToken Place)} (head : HiddenToken Place) → Ok made ≡ Err (failure_at BadStringize head) → ⊥
    differs head is = cc

pub returns-in-Ok-clause-held : goal.returns-in-Ok-clause-held
returns-in-Ok-clause-held c = λ s files here own.
    let names = c.template.new.names in
    let sets = c.template.new.sets in
    held-template (stores s names sets) files (seen_form names c.args.form.now) (map (seen_item names) c.args.items.now) c.args.place c.args.raw.now c.in-Ok.parts.items here
    own c.in-Ok.ensures.own (c.in-Ok.ensures.ok.at names sets (Extends-refl names) (Extends-refl sets))

pub returns-in-Err-clause-some : goal.returns-in-Err-clause-some
returns-in-Err-clause-some c =
    let raw = c.args.raw.now in
    let err : OnFault c.in-Err.stop (Fails c.template.new.names c.template.new.sets c.args.form.now c.args.items.now raw c.args.place) = c.in-Err.ensures.err in
    if_ok _ _ c.refused.result (λ made. map_some made (λ template told. refused_some _ _ c.args.form.now c.args.items.now raw c.args.place c.in-Err.stop template err told)) c.refused.ensures.some

pub returns-in-Err-clause-none : goal.returns-in-Err-clause-none
returns-in-Err-clause-none c =
    let raw = c.args.raw.now in
    let err : OnFault c.in-Err.stop (Fails c.template.new.names c.template.new.sets c.args.form.now c.args.items.now raw c.args.place) = c.in-Err.ensures.err in
    if_ok _ _ c.refused.result (λ made. map_none made (λ is. refused_none _ _ c.args.form.now c.args.items.now raw c.args.place c.in-Err.stop err is)) c.refused.ensures.none
