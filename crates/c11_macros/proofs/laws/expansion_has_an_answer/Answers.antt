use Rattle.c11_macros.proofs.Halting.{halts}
use Rattle.c11_macros.proofs.laws.expansion_has_an_answer.Goals as goal

pub returns : goal.returns
returns g c = λ provenance macros names. halts provenance macros names
