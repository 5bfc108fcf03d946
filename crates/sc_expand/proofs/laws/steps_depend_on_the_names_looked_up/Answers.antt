use Rattle.std.proofs.Common.{[], ap, subst}
use Rattle.sc_expand.proofs.Facts.{one}
use Rattle.sc_expand.proofs.AlikeRunning.{agrees-start, leads-agrees}
use Rattle.sc_expand.proofs.Terms.{Agree, scanning}
use Rattle.sc_expand.proofs.laws.steps_depend_on_the_names_looked_up.Goals as goal

pub returns : goal.returns
returns g c = λ provenance macros other names within list r d agree s leads.
    leads-agrees provenance macros other names within (scanning [] list) s leads (agrees-start provenance macros other list (λ q e. subst (Agree macros other) (ap (λ x. x.looked_up) (one d q e).trace) agree))
