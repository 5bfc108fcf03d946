use Rattle.std.proofs.Common.{◌≡◌, take}
use Rattle.sc_if.specs.Halves.{line_of, seen_line}
use Rattle.sc_if.proofs.readings.symbols.Given as goal

-- those so far
abbrev pub invariant-loop-index : goal.invariant-loop-index
invariant-loop-index l = seen_line l.line.items ≡ line_of l.standard l.names (take l.index l.list)
