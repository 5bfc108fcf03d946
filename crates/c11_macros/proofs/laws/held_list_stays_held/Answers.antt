use Rattle.c11_macros.proofs.Settling.{held-stays}
use Rattle.c11_macros.proofs.laws.held_list_stays_held.Goals as goal

pub returns : goal.returns
returns g c = λ provenance macros ts more failure held. held-stays provenance macros more held
