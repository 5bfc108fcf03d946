use Rattle.sc_core.proofs.Choices.{root-accepted}
use Rattle.sc_core.proofs.laws.parse_root_has_a_configuration.Goals as goal

pub returns : goal.returns
returns c = λ s pieces accepted text answer reads refused. root-accepted text reads refused
