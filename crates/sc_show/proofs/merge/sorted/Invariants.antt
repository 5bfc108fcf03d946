use Rattle.std.proofs.Common.{◌≡◌, All, map, take}
use Rattle.sc_guarded.specs.Items.{seen_fault}
use Rattle.sc_base.specs.declared.fault.Fault.{Fault}
use Rattle.sc_show.specs.Order.{IsKeyOf}
use Rattle.sc_show.proofs.MergeOrdering.{Key}
use Rattle.sc_show.proofs.merge.sorted.Given as goal

abbrev pub invariant-loop-fault : goal.invariant-loop-fault
invariant-loop-fault l = record {
  faults : map (λ pair. pair.1) l.keyed.items ≡ take l.fault-index l.faults;
  keys : All (λ (pair : Key × Fault). IsKeyOf (seen_fault l.files pair.1) pair.0) l.keyed.items;
}

abbrev pub invariant-loop-fault-2 : goal.invariant-loop-fault-2
invariant-loop-fault-2 l = l.sorted.items ≡ map (λ pair. pair.1) (take l.fault-index l.fault-items)
