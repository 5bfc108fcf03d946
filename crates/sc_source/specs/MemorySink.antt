-- What a sink in memory was given.
use Rattle.std.specs.Prelude.{List, map}
use Rattle.sc_model.specs.Outside.{Write}
use Rattle.sc_source.specs.Plan.{Plan}
use Rattle.sc_source.specs.declared.memory_sink.Written.{Written}
use Rattle.sc_source.specs.declared.memory_sink.MemorySink.{MemorySink}

abbrev pub write_of : Written → Write
write_of w = record { bytes = w.bytes.items; whole = w.whole }

-- the writes so far
abbrev pub log_of : MemorySink → List Write
log_of s = map write_of s.writes.items

-- which writes are to fail, and how many writes and faults there were
abbrev pub plan_of : MemorySink → Plan
plan_of s = s.plan
