use Rattle.c11_macros.proofs.Agreement.{agrees}
use Rattle.c11_macros.proofs.laws.expansion_depends_on_the_names_looked_up.Goals as goal

pub returns : goal.returns
returns g c = λ provenance one two ts r. agrees one two
