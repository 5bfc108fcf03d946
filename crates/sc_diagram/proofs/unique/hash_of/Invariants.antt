use Rattle.std.proofs.Common.{◌≡◌, take}
use Rattle.std.specs.List.{fold}
use Rattle.sc_diagram.specs.Unique.{mixed}
use Rattle.sc_diagram.proofs.unique.hash_of.Given as goal

abbrev pub invariant-loop-child : goal.invariant-loop-child
invariant-loop-child l = l.hash ≡ fold mixed l.variable (take l.child-index l.children)
