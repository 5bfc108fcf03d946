use Rattle.c11_macros.proofs.Settling.{held-again}
use Rattle.c11_macros.proofs.laws.list_is_held_again.Goals as goal

pub returns : goal.returns
returns g c = λ provenance macros ts before left more failure one two. held-again provenance macros ts more one two
