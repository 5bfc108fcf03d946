use Rattle.c11_macros.proofs.Settling.{settle-again}
use Rattle.c11_macros.proofs.laws.list_settles_again.Goals as goal

pub returns : goal.returns
returns g c = λ provenance macros ts before left more done rest one two. settle-again provenance macros ts more one two
