use Rattle.c11_macros.proofs.SettledLists.{held-more}
use Rattle.c11_macros.proofs.laws.held_list_fails.Goals as goal

pub returns : goal.returns
returns g c = λ provenance macros ts more failure held. held-more provenance macros more held
