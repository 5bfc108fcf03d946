use Rattle.std.proofs.Common.{◌≡◌, ◌++◌, take}
use Rattle.sc_prep.proofs.settling.hold.Given as goal

abbrev pub invariant-loop-fault : goal.invariant-loop-fault
invariant-loop-fault l = l.held.items ≡ l.fn.held.items ++ take l.fault-index l.more
