use Rattle.sc_expand.proofs.ThinLemmas.{segments-thin}
use Rattle.sc_expand.proofs.laws.settled_list_is_thin.Goals as goal

pub returns : goal.returns
returns g c = λ see provenance macros s list cond later look count out kept b at x found one two p q here there first second. segments-thin see provenance macros s list b at x found one two p q here there first second
