-- How the errors of `clap` are answered.
use Rattle.std.specs.Prelude.{◌≢◌}
use Rattle.clap.specs.declared.error.ErrorKind.{ErrorKind}
use Rattle.clap.specs.declared.error.ErrorKind.TheVariants as kind
use Rattle.sc_args.specs.declared.stop.ArgsStop.{ArgsStop}
use Rattle.sc_args.specs.declared.stop.ArgsStop.TheVariants as stop

-- Usage is told only for an error that isn't want of memory.
abbrev pub RefusesFor : ErrorKind → ArgsStop → Type 0
RefusesFor k (stop.Usage text) = k ≢ kind.OutOfMemory
RefusesFor k stop.BadFile = ⊥
RefusesFor k stop.BadCount = ⊥
RefusesFor k stop.OutOfMemory = Unit {0}
