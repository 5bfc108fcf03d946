use Rattle.c11_macros.proofs.RunExpands.{passes-expand}
use Rattle.c11_macros.proofs.laws.names_that_passed_expand.Goals as goal

pub returns : goal.returns
returns g c = λ provenance macros ts done after r passes expands. passes-expand provenance macros passes r expands
