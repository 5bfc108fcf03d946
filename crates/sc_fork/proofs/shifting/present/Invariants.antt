use Rattle.std.proofs.Common.{◌≡◌, take}
use Rattle.std.specs.List.{filter_map}
use Rattle.sc_fork.proofs.shifting.present.Given as goal

abbrev pub invariant-loop-value : goal.invariant-loop-value
invariant-loop-value l = l.trees.items ≡ filter_map (λ value. value) (take l.value-index l.values)
