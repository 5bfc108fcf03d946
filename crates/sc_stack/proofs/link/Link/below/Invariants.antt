use Rattle.std.proofs.Common.{◌≡◌, drop}
use Rattle.sc_stack.specs.Links.{entries_of}
use Rattle.sc_stack.proofs.link.Link.below.Given as goal

abbrev pub invariant-loop-left : goal.invariant-loop-left
invariant-loop-left l = drop l.left (entries_of l.link) ≡ drop l.n (entries_of l.self)

abbrev pub decreases-loop-left : goal.decreases-loop-left
decreases-loop-left l = l.left
