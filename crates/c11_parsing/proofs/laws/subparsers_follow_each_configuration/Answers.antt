use Rattle.c11_parsing.proofs.Events.{finished-answers, run-stands, start-stands}
use Rattle.c11_parsing.proofs.laws.subparsers_follow_each_configuration.Goals as goal

pub returns : goal.returns
returns c = record { start = start-stands; events = run-stands; answers = finished-answers }
