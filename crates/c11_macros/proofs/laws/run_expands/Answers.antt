use Rattle.c11_macros.proofs.RunExpands.{runs-expand}
use Rattle.c11_macros.proofs.laws.run_expands.Goals as goal

pub returns : goal.returns
returns g c = λ provenance macros front source done end u r run left. runs-expand provenance macros run r left
