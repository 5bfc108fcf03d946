use Rattle.std.proofs.Common.{map, take}
use Rattle.std.specs.List.{Contains}
use Rattle.sc_guarded.specs.Items.{seen_fault}
use Rattle.sc_show.proofs.merge.has_pair.Given as goal

abbrev pub invariant-loop-other : goal.invariant-loop-other
invariant-loop-other l = Contains (map (seen_fault l.files) (take l.other-index l.faults)) (seen_fault l.files l.fault) → ⊥
