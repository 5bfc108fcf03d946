use Rattle.c11_macros.proofs.SettlesLaws.{one-settled}
use Rattle.c11_macros.proofs.laws.settling_has_one_answer.Goals as goal

pub returns : goal.returns
returns g c = λ provenance macros ts r s. one-settled provenance macros ts r s
