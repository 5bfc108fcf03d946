use Rattle.std.proofs.Common.{◌≡◌, ℕ, false, List, [], map, drop}
use Rattle.c11_macros.specs.Substitution.{wanted_places}
use Rattle.sc_subst.specs.ListParts.{seen_list_part}
use Rattle.sc_subst.proofs.Wanted.{added}
use Rattle.sc_subst.proofs.parts.wanted_in.Given as goal

-- those that were found, and those of the rest
abbrev pub invariant-loop-i : goal.invariant-loop-i
invariant-loop-i l = (names : List (List ℕ)) → added l.wanted.items (wanted_places l.behind (map (seen_list_part names) (drop l.i l.parts))) ≡ added [] (wanted_places false (map (seen_list_part names) l.parts))
