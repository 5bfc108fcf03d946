use Rattle.c11_macros.proofs.Resuming.{resume}
use Rattle.c11_macros.proofs.laws.run_goes_on.Goals as goal

pub returns : goal.returns
returns g c = λ provenance macros more front source done later first last u v run next. resume provenance macros more run next
