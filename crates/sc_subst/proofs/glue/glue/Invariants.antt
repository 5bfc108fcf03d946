use Rattle.std.proofs.Common.{◌≡◌, false, List, [], map, drop}
use Rattle.c11_macros.specs.Substitution.{filled}
use Rattle.std.specs.Prelude.{All}
use Rattle.c11_macros.specs.Hidden as model
use Rattle.sc_base.specs.declared.place.Place.{Place}
use Rattle.sc_model.specs.Growth.{Extends}
use Rattle.sc_subst.specs.declared.glue.Left.TheVariants as left
use Rattle.sc_subst.specs.Glue.{IsHeldLeft, is_pasting, tokens_behind}
use Rattle.sc_subst.specs.Parts.{IsHeldPart, seen_arguments, seen_slot}
use Rattle.sc_subst.specs.Seen.{Lasting}
use Rattle.sc_subst.proofs.glue.glue.Given as goal

-- what was read, and the slots that are left
abbrev pub invariant-loop-i : goal.invariant-loop-i
invariant-loop-i l = record {
  names_grow : Extends l.fn.names l.names;
  sets_grow : Extends l.fn.sets l.sets;
  parts : All (IsHeldPart l.names l.sets) l.parts.items;
  held : IsHeldLeft l.names l.sets l.left;
  pasting : l.behind ≡ false → is_pasting l.left ≡ false;
  is : Lasting l.names l.sets (λ names sets. (head : model.Hidden Place) (expanded : List (List (model.Hidden Place)))
      → tokens_behind names sets head expanded [] left.Nothing (filled (seen_arguments names sets l.raw) expanded false (map (seen_slot names sets) l.slots))
      ≡ tokens_behind names sets head expanded l.parts.items l.left (filled (seen_arguments names sets l.raw) expanded l.behind (map (seen_slot names sets) (drop l.i l.slots))));
}
