use Rattle.std.proofs.Common.{◌≡◌, ◌++◌, take}
use Rattle.sc_stack.specs.Entries.{values_of}
use Rattle.sc_stack.specs.Links.{entries_of}
use Rattle.sc_stack.proofs.link.Link.values.Given as goal

abbrev pub invariant-loop-left : goal.invariant-loop-left
invariant-loop-left l = l.values.items ++ values_of (take l.left (entries_of l.link)) ≡ values_of (take l.n (entries_of l.self))

abbrev pub decreases-loop-left : goal.decreases-loop-left
decreases-loop-left l = l.left
