use Rattle.std.proofs.Common.{ℕ, List, Contains, IfSome, map, take}
use Rattle.sc_macro.specs.Seen.{IsHeldDefinition}
use Rattle.sc_model.specs.Growth.{IsOneToOne}
use Rattle.sc_table.specs.Table.{AreHeldOptions, seen_shared}
use Rattle.sc_table.proofs.start.place_of.Given as goal

abbrev pub invariant-loop-place : goal.invariant-loop-place
invariant-loop-place l = (names : List (List ℕ)) → IsOneToOne names → AreHeldOptions names l.definitions → IfSome l.definition (λ shared. IsHeldDefinition names shared.value)
    → Contains (map (seen_shared names) (take l.place l.definitions)) (seen_shared names l.definition) → ⊥
