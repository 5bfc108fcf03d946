use Rattle.std.proofs.Common.{refl}
use Rattle.c11_macros.proofs.Splitting.{split}
use Rattle.c11_macros.proofs.laws.expansion_begins_with_a_run.Goals as goal

pub returns : goal.returns
returns g c = λ provenance macros front source r e. split provenance macros e front source refl
