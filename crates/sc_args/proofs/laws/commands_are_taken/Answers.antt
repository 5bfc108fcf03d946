use Rattle.sc_args.proofs.Taken.{conflicts_alone, parse_taken, project_taken, project_with_taken, tokens_taken}
use Rattle.sc_args.proofs.laws.commands_are_taken.Goals as goal

pub returns : goal.returns
returns c = record { tokens = tokens_taken; parse = parse_taken; project = project_taken; choice = project_with_taken; conflicts = conflicts_alone }
