use Rattle.c11_macros.proofs.OneRun.{one-run}
use Rattle.c11_macros.proofs.laws.run_has_one_answer.Goals as goal

pub returns : goal.returns
returns g c = λ provenance macros front source one two x y u v r s. let same = one-run provenance macros r two y v s in (same.done, same.end, same.uses)
