use Rattle.std.proofs.Common.{◌≡◌, ℕ, ◌<◌, ◌∙◌, ◌++◌, ◌∷◌, ◌+◌, List, [], false, true, length, map, drop, get_or, Ok, ap, sym, subst}
use Rattle.std.specs.Prelude.{All}
use Rattle.std.proofs.lemmas.List.{append-nil, drop_all, map-append}
use Rattle.std.proofs.lemmas.List.Elements.{All-push}
use Rattle.c11_macros.specs.Hidden as model
use Rattle.c11_macros.specs.Hidden.{failure_at}
use Rattle.c11_macros.specs.Results.{result_and_then, result_map}
use Rattle.c11_macros.specs.Substitution.{is_deleted, kept, slot_of, slots}
use Rattle.sc_base.proofs.Growth.{Extends-refl, Extends-trans}
use Rattle.sc_base.specs.declared.place.Place.{Place}
use Rattle.sc_subst.specs.declared.parts.ListPart.{ListPart}
use Rattle.sc_subst.specs.ListParts.{seen_list_part}
use Rattle.sc_subst.specs.Parts.{IsHeldSlot, seen_arguments, seen_slot}
use Rattle.sc_subst.proofs.Commas.{kept-goes, kept-stays}
use Rattle.sc_subst.proofs.Gluing.{arguments_later, from_at, tail_at}
use Rattle.sc_subst.proofs.PartTurns.{blank_part}
use Rattle.sc_subst.proofs.Turns.{fails, held_slots, list_part_held, on_fault, turned}
use Rattle.sc_subst.proofs.slots.slots_from.Goals as goal

module _ (names : List (List ℕ)) (head : model.Hidden Place) (raw : List (List (model.Hidden Place))) (ps : List ListPart) (i : ℕ) (h : i < length ps) where
  next : kept raw (map (seen_list_part names) (drop i ps)) ≡ kept raw (seen_list_part names (get_or ps i blank_part) ∷ map (seen_list_part names) (drop (i + 1) ps))
  next = ap (λ xs. kept raw (map (seen_list_part names) xs)) (from_at ps i blank_part h ∙ ap (λ xs. get_or ps i blank_part ∷ xs) (tail_at ps i))

  slots-stays : is_deleted raw (seen_list_part names (get_or ps i blank_part)) ≡ false → slots head raw (kept raw (map (seen_list_part names) (drop i ps)))
      ≡ result_and_then (λ x. result_map (λ ss. x ∷ ss) (slots head raw (kept raw (map (seen_list_part names) (drop (i + 1) ps))))) (slot_of head raw (seen_list_part names (get_or ps i blank_part)))
  slots-stays stays = ap (slots head raw) (next ∙ kept-stays raw (seen_list_part names (get_or ps i blank_part)) (map (seen_list_part names) (drop (i + 1) ps)) stays)

  slots-goes : is_deleted raw (seen_list_part names (get_or ps i blank_part)) ≡ true
      → slots head raw (kept raw (map (seen_list_part names) (drop i ps))) ≡ slots head raw (kept raw (map (seen_list_part names) (drop (i + 1) ps)))
  slots-goes goes = ap (slots head raw) (next ∙ kept-goes raw (seen_list_part names (get_or ps i blank_part)) (map (seen_list_part names) (drop (i + 1) ps)) goes)

pub returns-in-Err-clause-err : goal.returns-in-Err-clause-err
returns-in-Err-clause-err c =
    on_fault _ _ c.in-Err.stop
    (λ cause h. record {
      at = λ n s en es head at.
          let raw = seen_arguments n s c.args.raw.now in
          let i = c.loop-part.part-index in
          let ps = c.args.parts.now in
          fails _ (slots head raw (kept raw (map (seen_list_part n) (drop i ps)))) (map (seen_slot n s) c.loop-part.made.items) (failure_at cause head)
          (c.loop-part.invariant.is.at n s (Extends-trans c.slot_from.ensures.names en) es head at)
          (slots-stays n head raw ps i c.loop-part-test.true (sym (c.is_deleted.ensures n s) ∙ c.if-is_deleted.false)
          ∙ ap (result_and_then (λ x. result_map (λ ss. x ∷ ss) (slots head raw (kept raw (map (seen_list_part n) (drop (i + 1) ps)))))) (h.at n s en es head at));
    }) c.in-Err.ensures.err

pub loop-part-preserved-then-is_deleted : goal.loop-part-preserved-then-is_deleted
loop-part-preserved-then-is_deleted c = record {
  grows = c.loop-part.invariant.grows;
  own = c.loop-part.invariant.own;
  is = record {
    at = λ n s en es head at.
        c.loop-part.invariant.is.at n s en es head at
        ∙ ap (result_map (λ ss. map (seen_slot n s) c.loop-part.made.items ++ ss))
        (slots-goes n head (seen_arguments n s c.args.raw.now) c.args.parts.now c.loop-part.part-index c.loop-part-test.true (sym (c.is_deleted.ensures n s) ∙ c.if-is_deleted.true));
  };
}

pub loop-part-preserved : goal.loop-part-preserved
loop-part-preserved c = record {
  grows = Extends-trans c.loop-part.invariant.grows c.slot_from.ensures.names;
  own = subst (All (IsHeldSlot c.slot_from.new.names c.args.sets.now)) (sym c.in_ok-push-in-Ok.ensures.items)
      (All-push (IsHeldSlot c.slot_from.new.names c.args.sets.now) c.loop-part.made.items c.in-Ok.slot (held_slots c.loop-part.made.items c.loop-part.invariant.own c.slot_from.ensures.names (Extends-refl c.args.sets.now))
      c.in-Ok.ensures.own);
  is = record {
    at = λ n s en es head at.
        let raw = seen_arguments n s c.args.raw.now in
        let i = c.loop-part.part-index in
        let ps = c.args.parts.now in
        let left = slots head raw (kept raw (map (seen_list_part n) (drop (i + 1) ps))) in
        turned _ (slots head raw (kept raw (map (seen_list_part n) (drop i ps)))) left (map (seen_slot n s) c.loop-part.made.items) (seen_slot n s c.in-Ok.slot ∷ []) (map (seen_slot n s) c.push.new.self.items)
        (c.loop-part.invariant.is.at n s (Extends-trans c.slot_from.ensures.names en) es head at)
        (slots-stays n head raw ps i c.loop-part-test.true (sym (c.is_deleted.ensures n s) ∙ c.if-is_deleted.false)
        ∙ ap (result_and_then (λ x. result_map (λ ss. x ∷ ss) left)) (c.in-Ok.ensures.ok.at n s en es head at))
        (ap (map (seen_slot n s)) c.in_ok-push-in-Ok.ensures.items ∙ map-append (seen_slot n s) c.loop-part.made.items (c.in-Ok.slot ∷ []));
  };
}

pub returns-clause-ok : goal.returns-clause-ok
returns-clause-ok c = record {
  at = λ n s en es head at.
      let raw = seen_arguments n s c.args.raw.now in
      c.loop-part.invariant.is.at n s en es head at
      ∙ (ap (λ ps. result_map (λ ss. map (seen_slot n s) c.loop-part.made.items ++ ss) (slots head raw (kept raw (map (seen_list_part n) ps)))) (drop_all c.loop-part.part-index c.args.parts.now c.loop-part-test.false)
      ∙ ap Ok (append-nil (map (seen_slot n s) c.loop-part.made.items)));
}

pub slot_from-requires : goal.slot_from-requires
slot_from-requires c = record {
  part = list_part_held (get_or c.args.parts.now c.loop-part.part-index blank_part) (c.requires.parts c.loop-part.part-index blank_part c.loop-part-test.true) c.loop-part.invariant.grows;
  raw = arguments_later c.args.raw.now c.requires.raw c.loop-part.invariant.grows (Extends-refl c.args.sets.now);
}
