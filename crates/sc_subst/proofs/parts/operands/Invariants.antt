use Rattle.std.proofs.Common.{◌≡◌, ◌++◌, map, drop}
use Rattle.std.specs.Prelude.{All}
use Rattle.c11_macros.specs.Substitution as substitution
use Rattle.sc_macro.specs.Seen.{seen_form, seen_item}
use Rattle.sc_subst.specs.ListParts.{IsHeldListPart, seen_before, seen_list_part}
use Rattle.sc_subst.proofs.parts.operands.Given as goal

-- what was made, and what the rest makes
abbrev pub invariant-loop-i : goal.invariant-loop-i
invariant-loop-i l = record {
  own : All (IsHeldListPart l.names) l.made.items;
  is : substitution.parts (seen_form l.names l.form) substitution.neither (map (seen_item l.names) l.items)
      ≡ map (seen_list_part l.names) l.made.items ++ substitution.parts (seen_form l.names l.form) (seen_before l.before) (map (seen_item l.names) (drop l.i l.items));
}
