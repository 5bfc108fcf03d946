use Rattle.std.proofs.Common.{◌≡◌, ◌++◌, Some, map, drop}
use Rattle.std.specs.Prelude.{All}
use Rattle.c11_macros.specs.Substitution as substitution
use Rattle.sc_subst.specs.ListParts.{IsHeldListPart, seen_joint, seen_list_part}
use Rattle.sc_subst.proofs.parts.with_commas.Given as goal

-- what was made, and what the rest makes
abbrev pub invariant-loop-i : goal.invariant-loop-i
invariant-loop-i l = record {
  own : All (IsHeldListPart l.names) l.made.items;
  is : substitution.with_commas (Some l.rest) substitution.apart (map (seen_list_part l.names) l.parts)
      ≡ map (seen_list_part l.names) l.made.items ++ substitution.with_commas (Some l.rest) (seen_joint l.before) (map (seen_list_part l.names) (drop l.i l.parts));
}
