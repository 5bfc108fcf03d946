-- The tokens between the parentheses of a call, as far as they are parted.
use Rattle.std.specs.Prelude.{ℕ, ◌++◌, List, drop, take}
use Rattle.c11_macros.specs.Hidden as model
use Rattle.sc_base.specs.declared.id.Name.{Name}
use Rattle.sc_base.specs.declared.place.Place.{Place}
use Rattle.sc_expand.specs.Arguments.{begun_with, parted}
use Rattle.sc_expand.specs.declared.arguments.Parting.{Parting}
use Rattle.sc_subst.specs.declared.hidden.Hidden.{Hidden}
use Rattle.sc_subst.specs.Parts.{seen_arguments, seen_list}

-- what is parted so far of these tokens, up to an index, with other tokens behind it
abbrev pub parted_with : List (List ℕ) → List (List Name) → List Hidden → ℕ → Parting → List (model.Hidden Place) → List (List (model.Hidden Place))
parted_with names sets between index p rest =
    seen_arguments names sets p.arguments.items ++ begun_with (seen_list names sets (drop p.begin (take index between))) (parted p.commas p.depth rest)
