-- A sink over a writer.
use Rattle.std.specs.Prelude.{ℕ, List, Option}
use Rattle.sc_source.specs.declared.std_sink.StdSink.{StdSink}

-- how many writes failed
abbrev pub faults_of : {W : Type 0} → StdSink W → ℕ
faults_of s = s.faults

-- what the writer holds, where it tells
abbrev pub contents_of : {W : Type 0} → (W → Option (List ℕ)) → StdSink W → Option (List ℕ)
contents_of contents s = contents s.to
