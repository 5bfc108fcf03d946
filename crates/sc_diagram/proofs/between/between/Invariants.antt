use Rattle.std.proofs.Common.{◌≡◌, take}
use Rattle.sc_diagram.specs.Decision.{numbers_of}
use Rattle.sc_diagram.proofs.between.between.Given as goal

abbrev pub invariant-loop-child : goal.invariant-loop-child
invariant-loop-child l = l.numbers.items ≡ numbers_of (take l.child-index l.children)
