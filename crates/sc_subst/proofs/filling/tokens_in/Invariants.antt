use Rattle.std.proofs.Common.{◌≡◌, ◌++◌, ℕ, List, map, drop}
use Rattle.std.specs.Prelude.{All}
use Rattle.sc_base.specs.declared.id.Name.{Name}
use Rattle.sc_subst.specs.Parts.{AreHeldArguments, IsHeldPart, filled_in, seen_arguments, seen_part}
use Rattle.sc_subst.specs.Seen.{IsHeldHidden, seen_hidden}
use Rattle.sc_subst.proofs.filling.tokens_in.Given as goal

-- what was made, and the parts that are left
abbrev pub invariant-loop-part : goal.invariant-loop-part
invariant-loop-part l = record {
  is : (names : List (List ℕ)) (sets : List (List Name)) → map (seen_hidden names sets) l.made.items ++ filled_in (seen_arguments names sets l.expanded) (map (seen_part names sets) (drop l.part-index l.template))
      ≡ filled_in (seen_arguments names sets l.expanded) (map (seen_part names sets) l.template);
  own : (names : List (List ℕ)) (sets : List (List Name)) → All (IsHeldPart names sets) l.template → AreHeldArguments names sets l.expanded → All (IsHeldHidden names sets) l.made.items;
}
