use Rattle.sc_hoist.proofs.CallLemmas.{closes_at}
use Rattle.sc_hoist.proofs.laws.call_is_closed_where_its_arguments_end.Goals as goal

pub returns : goal.returns
returns g c = closes_at
