use Rattle.std.proofs.Common.{take}
use Rattle.sc_fork.specs.Owns.{AreTerminals}
use Rattle.sc_fork.proofs.source.Source.new.Given as goal

abbrev pub invariant-loop-index : goal.invariant-loop-index
invariant-loop-index g l = AreTerminals l.standard l.names (take l.index l.list) l.first.items
