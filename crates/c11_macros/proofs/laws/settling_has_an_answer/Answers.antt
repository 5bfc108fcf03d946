use Rattle.c11_macros.proofs.SettlesLaws.{some-settled}
use Rattle.c11_macros.proofs.laws.settling_has_an_answer.Goals as goal

pub returns : goal.returns
returns g c = λ provenance macros names within ts. some-settled provenance macros names within ts
