-- What is told where there is no text.
use Rattle.std.specs.Prelude.{ℕ, ◌++◌, List, codes, string_bytes}
use Rattle.sc_args.specs.declared.stop.ArgsStop.{ArgsStop}
use Rattle.sc_args.specs.declared.stop.ArgsStop.TheVariants as args
use Rattle.sc_core.specs.declared.run_error.RunError.{RunError}
use Rattle.sc_core.specs.declared.run_error.RunError.TheVariants.{Usage, BadFile, BadCount, NoSpace, BadSpace, BranchesFull, ReadFault, OutOfMemory}
use Rattle.sc_core.specs.declared.status.Status.{Status}
use Rattle.sc_core.specs.declared.status.Status.TheVariants as status
use Rattle.sc_source.specs.declared.source.SourceStop.{SourceStop}
use Rattle.sc_source.specs.declared.source.SourceStop.TheVariants as source
use Rattle.sc_space.specs.SpaceFile.{Fault, fault_text}
use Rattle.sc_text.specs.Text.{numeral}

-- the line of a error
abbrev pub line_of : RunError → List ℕ
line_of (Usage text) = string_bytes text
line_of BadFile = codes "superc: bad file name\n"
line_of BadCount = codes "superc: bad number of items\n"
line_of NoSpace = codes "superc: space: Absent\n"
line_of (BadSpace line) = line.items
line_of (BranchesFull line) = line.items
line_of ReadFault = codes "superc: read fault\n"
line_of OutOfMemory = codes "superc: out of memory\n"

abbrev pub status_of : RunError → Status
status_of (Usage text) = status.BadWords
status_of BadFile = status.BadWords
status_of BadCount = status.BadWords
status_of NoSpace = status.BadSpace
status_of (BadSpace line) = status.BadSpace
status_of (BranchesFull line) = status.BranchesFull
status_of ReadFault = status.ReadFault
status_of OutOfMemory = status.OutOfMemory

abbrev pub of_args : ArgsStop → RunError
of_args (args.Usage text) = Usage text
of_args args.BadFile = BadFile
of_args args.BadCount = BadCount
of_args args.OutOfMemory = OutOfMemory

abbrev pub of_source : SourceStop → RunError
of_source source.Failed = ReadFault
of_source source.OutOfMemory = OutOfMemory

-- the line of a space file's fault: its name, and its item where it has one
abbrev pub space_line : Fault → List ℕ
space_line fault = codes "superc: space: " ++ fault_text fault ++ codes "\n"

-- the line of a call with so many branches or more
abbrev pub branches_line : ℕ → List ℕ
branches_line count = codes "superc: branches full: " ++ numeral count ++ codes "\n"
