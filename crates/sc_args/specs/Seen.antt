-- An answer of the call as the definitions see it.
use Rattle.std.specs.Prelude.{◌≡◌, map, string_bytes, Result, Ok, Err}
use Rattle.sc_args.specs.declared.command.Command.{Command}
use Rattle.sc_args.specs.declared.command.Command.TheVariants as command
use Rattle.sc_args.specs.declared.stop.ArgsStop.{ArgsStop}
use Rattle.sc_args.specs.declared.stop.ArgsStop.TheVariants as stop
use Rattle.sc_args.specs.Words.{Asked, Misuse, tokens, parse, project, conflicts, make, usage, bad_file, bad_count}

abbrev pub seen_command : Command → Asked
seen_command (command.Tokens space file) = tokens (string_bytes space) (string_bytes file)
seen_command (command.Parse space file) = parse (string_bytes space) (string_bytes file)
seen_command (command.Project space file choices) = project (string_bytes space) (string_bytes file) (map string_bytes choices.items)
seen_command command.Conflicts = conflicts
seen_command (command.Make items) = make items

-- The call refuses the words for the misuse of the definition, or memory ran out.
abbrev pub Refuses : ArgsStop → Result Asked Misuse → Type 0
Refuses (stop.Usage text) answer = answer ≡ Err usage
Refuses stop.BadFile answer = answer ≡ Err bad_file
Refuses stop.BadCount answer = answer ≡ Err bad_count
Refuses stop.OutOfMemory answer = Unit {0}

-- The call gave what the words ask for, or refused them. Or memory ran out.
abbrev pub Answers : Result Command ArgsStop → Result Asked Misuse → Type 0
Answers (Ok asked) answer = answer ≡ Ok (seen_command asked)
Answers (Err refused) answer = Refuses refused answer
