use Rattle.std.proofs.Common.{◌≡◌, length, take}
use Rattle.sc_grammar.specs.Production.{symbols_of}
use Rattle.sc_fork.proofs.reducing.size.Given as goal

abbrev pub invariant-loop-entry : goal.invariant-loop-entry
invariant-loop-entry l = l.count ≡ length (symbols_of (take l.entry-index l.right))
