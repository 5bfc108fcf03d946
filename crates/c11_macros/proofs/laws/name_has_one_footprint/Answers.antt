use Rattle.c11_macros.proofs.OneAnswer.{one_footprint}
use Rattle.c11_macros.proofs.laws.name_has_one_footprint.Goals as goal

pub returns : goal.returns
returns g c = λ provenance macros t rest r s. one_footprint
