use Rattle.std.proofs.Common.{◌≡◌, ◌++◌, map, take}
use Rattle.sc_lalr.specs.Tables.{conflict_at}
use Rattle.sc_lalr.proofs.conflict.note_lost.Given as goal

abbrev pub invariant-loop-production : goal.invariant-loop-production
invariant-loop-production l = l.conflicts.items ≡ l.initial.conflicts.items ++ map (conflict_at l.state l.terminal.0 l.kept) (take l.production-index l.lost)
