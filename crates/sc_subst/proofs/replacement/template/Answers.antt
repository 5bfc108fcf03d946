use Rattle.std.proofs.Common.{◌∙◌, false, List, [], map, Ok, Err, ap, refl, sym, subst}
use Rattle.std.specs.Prelude.{All, Contains}
use Rattle.c11_macros.specs.Hidden as model
use Rattle.c11_macros.specs.Hidden.{failure_at, no_names}
use Rattle.c11_macros.specs.Results.{result_map}
use Rattle.c11_macros.specs.Substitution.{all_glued, each_once, filled, kept, parts_of, tokens_of, wanted_of}
use Rattle.sc_base.specs.declared.place.Place.{Place}
use Rattle.sc_base.proofs.Growth.{Extends-refl, Extends-trans}
use Rattle.sc_macro.specs.Seen.{seen_form, seen_item}
use Rattle.sc_model.specs.declared.cause.Cause.TheVariants.{BadPaste, BadStringize}
use Rattle.sc_model.specs.declared.kind.Kind.TheVariants.{Identifier}
use Rattle.sc_subst.specs.Parts.{IsHeldSlot, seen_arguments, seen_part, seen_slot}
use Rattle.sc_subst.proofs.Commas.{kept-wanted}
use Rattle.sc_subst.proofs.Gluing.{arguments_later}
use Rattle.sc_subst.proofs.Store.{if_err, if_ok}
use Rattle.sc_subst.proofs.Templates.{by_hash, by_paste, cause_of, glue_fails, in_halves, slots_fail}
use Rattle.sc_subst.proofs.Turns.{on_fault}
use Rattle.sc_subst.proofs.Wanted.{parts_wanted, place_wanted}
use Rattle.sc_subst.proofs.replacement.template.Goals as goal

pub returns-in-Ok-clause-ok : goal.returns-in-Ok-clause-ok
returns-in-Ok-clause-ok c =
    if_ok _ _ c.glue.result
    (λ result h. record {
      at = λ n s en es head expanded provenance hidden at.
          in_halves provenance (seen_form n c.args.form.now) (map (seen_item n) c.args.items.now) head (seen_arguments n s c.args.raw.now) expanded hidden (map (seen_slot n s) c.in-Ok.slots.items)
          (Ok (map (seen_part n s) result.items)) (c.in-Ok.ensures.ok.at n s (Extends-trans c.glue.ensures.names en) (Extends-trans c.glue.ensures.sets es) head at)
          (ap (λ ss. result_map tokens_of (all_glued head (filled (seen_arguments n s c.args.raw.now) expanded false (map (seen_slot n s) ss)))) (sym c.deref.ensures.value)
          ∙ h.at n s en es head expanded);
    }) c.glue.ensures.ok

pub returns-in-Ok-clause-wanted : goal.returns-in-Ok-clause-wanted
returns-in-Ok-clause-wanted c =
    let n = c.glue.new.names in
    let s = c.glue.new.sets in
    let head : model.Hidden Place = record { kind = Identifier; spelling = []; space = false; place = c.args.place; hide = no_names } in
    if_ok _ _ c.glue.result
    (λ result h. parts_wanted n s (wanted_of (seen_form n c.args.form.now) (map (seen_item n) c.args.items.now)) result.items
    (λ k there. subst (λ ns. Contains (each_once ns) k) (kept-wanted (seen_arguments n s c.args.raw.now) (seen_form n c.args.form.now) (map (seen_item n) c.args.items.now))
    (place_wanted head (seen_arguments n s c.args.raw.now) (kept (seen_arguments n s c.args.raw.now) (parts_of (seen_form n c.args.form.now) (map (seen_item n) c.args.items.now))) (map (seen_slot n s) c.in-Ok.slots.items)
    (c.in-Ok.ensures.ok.at n s c.glue.ensures.names c.glue.ensures.sets head refl) (map (seen_part n s) result.items)
    (λ xs. ap (λ ss. result_map tokens_of (all_glued head (filled (seen_arguments n s c.args.raw.now) xs false (map (seen_slot n s) ss)))) (sym c.deref.ensures.value)
    ∙ h.at n s (Extends-refl n) (Extends-refl s) head xs) k there))) c.glue.ensures.ok

pub returns-in-Ok-clause-err : goal.returns-in-Ok-clause-err
returns-in-Ok-clause-err c =
    if_err _ _ c.glue.result
    (λ stop k. on_fault _ _ stop
    (λ cause h. record {
      at = λ n s en es head at.
          let raw = seen_arguments n s c.args.raw.now in
          let list = filled raw [] false (map (seen_slot n s) c.in-Ok.slots.items) in
          let glued = λ (expanded : List (List (model.Hidden Place))). ap (λ ss. result_map tokens_of (all_glued head (filled raw expanded false (map (seen_slot n s) ss)))) (sym c.deref.ensures.value) ∙ h.at n s en es head expanded in
          let is = cause_of cause BadPaste head (glue_fails head list (failure_at cause head) (glued [])) in
          by_paste cause _ _ is
          (λ expanded provenance hidden.
          in_halves provenance (seen_form n c.args.form.now) (map (seen_item n) c.args.items.now) head raw expanded hidden (map (seen_slot n s) c.in-Ok.slots.items)
          (Err (failure_at BadPaste head)) (c.in-Ok.ensures.ok.at n s (Extends-trans c.glue.ensures.names en) (Extends-trans c.glue.ensures.sets es) head at)
          (glued expanded ∙ ap (λ x. Err (failure_at x head)) is));
    }) k) c.glue.ensures.err

pub returns-in-Err-clause-err : goal.returns-in-Err-clause-err
returns-in-Err-clause-err c =
    on_fault _ _ c.in-Err.stop
    (λ cause h. record {
      at = λ n s en es head at.
          let made = h.at n s en es head at in
          let is = slots_fail head (seen_arguments n s c.args.raw.now) (kept (seen_arguments n s c.args.raw.now) (parts_of (seen_form n c.args.form.now) (map (seen_item n) c.args.items.now))) (failure_at cause head) made in
          by_hash cause _ _ (cause_of cause BadStringize head is) (made ∙ ap Err is);
    }) c.in-Err.ensures.err

pub glue-requires : goal.glue-requires
glue-requires c = record {
  slots = subst (All (IsHeldSlot c.slots.new.names c.args.sets.now)) (sym c.deref.ensures.value) c.in-Ok.ensures.own;
  raw = arguments_later c.args.raw.now c.requires.raw c.slots.ensures.names (Extends-refl c.args.sets.now);
}
