use Rattle.c11_macros.proofs.RunsAgree.{runs-agree}
use Rattle.c11_macros.proofs.laws.run_depends_on_the_names_looked_up.Goals as goal

pub returns : goal.returns
returns g c = λ provenance one two front source done end u run agree. runs-agree one two run agree
