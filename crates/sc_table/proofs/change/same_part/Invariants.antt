use Rattle.std.proofs.Common.{ℕ, List, Contains, take}
use Rattle.sc_macro.specs.Seen.{IsHeldDefinition, seen_definition}
use Rattle.sc_model.specs.Growth.{IsOneToOne}
use Rattle.sc_table.specs.Parts.{AreNamed, seen_all, valued}
use Rattle.sc_table.proofs.change.same_part.Given as goal

abbrev pub invariant-loop-index : goal.invariant-loop-index
invariant-loop-index l = (names : List (List ℕ)) → IsOneToOne names → AreNamed names (valued l.parts) → IsHeldDefinition names l.definition
    → Contains (seen_all names (take l.index (valued l.parts))) (seen_definition names l.definition) → ⊥
