-- A source over the system's files.
use Rattle.std.specs.Prelude.{ℕ}
use Rattle.sc_source.specs.declared.file_source.FileSource.{FileSource}

-- how many reads failed
abbrev pub faults_of : {R : Type 0} → FileSource R → ℕ
faults_of s = s.faults
