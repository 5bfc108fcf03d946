-- How a run ended, as a number.
use Rattle.std.specs.Prelude.{ℕ}
use Rattle.sc_core.specs.declared.status.Status.{Status}
use Rattle.sc_core.specs.declared.status.Status.TheVariants.{Accepted, Refused, BadWords, BadSpace, BranchesFull, ReadFault, WriteFault, OutOfMemory}

-- the exit status
abbrev pub code_of : Status → ℕ
code_of Accepted = 0
code_of Refused = 1
code_of BadWords = 2
code_of BadSpace = 3
code_of BranchesFull = 5
code_of ReadFault = 6
code_of WriteFault = 7
code_of OutOfMemory = 8
