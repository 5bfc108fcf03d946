use Rattle.std.proofs.Common.{◌≡◌, take}
use Rattle.std.specs.List.{flat_map}
use Rattle.sc_source.proofs.memory_sink.joined.Given as goal

abbrev pub invariant-loop-written : goal.invariant-loop-written
invariant-loop-written l = l.all.items ≡ flat_map (λ written. written.bytes.items) (take l.written-index l.writes)
