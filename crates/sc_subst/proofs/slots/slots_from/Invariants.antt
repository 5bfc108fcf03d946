use Rattle.std.proofs.Common.{◌≡◌, ◌++◌, map, drop}
use Rattle.std.specs.Prelude.{All}
use Rattle.c11_macros.specs.Hidden as model
use Rattle.c11_macros.specs.Results.{result_map}
use Rattle.c11_macros.specs.Substitution.{kept, slots}
use Rattle.sc_base.specs.declared.place.Place.{Place}
use Rattle.sc_model.specs.Growth.{Extends}
use Rattle.sc_subst.specs.ListParts.{seen_list_part}
use Rattle.sc_subst.specs.Parts.{IsHeldSlot, seen_arguments, seen_slot}
use Rattle.sc_subst.specs.Seen.{Lasting}
use Rattle.sc_subst.proofs.slots.slots_from.Given as goal

-- what was made, and what the rest makes
abbrev pub invariant-loop-part : goal.invariant-loop-part
invariant-loop-part l = record {
  grows : Extends l.fn.names l.names;
  own : All (IsHeldSlot l.names l.sets) l.made.items;
  is : Lasting l.names l.sets (λ names sets. (head : model.Hidden Place) → head.place ≡ l.place
      → slots head (seen_arguments names sets l.raw) (kept (seen_arguments names sets l.raw) (map (seen_list_part names) l.parts))
      ≡ result_map (λ ss. map (seen_slot names sets) l.made.items ++ ss) (slots head (seen_arguments names sets l.raw) (kept (seen_arguments names sets l.raw) (map (seen_list_part names) (drop l.part-index l.parts)))));
}
