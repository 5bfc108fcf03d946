use Rattle.c11_expressions.proofs.OneWaiting.{one_waiting}
use Rattle.c11_expressions.proofs.laws.symbols_wait_in_one_way.Goals as goal

pub returns : goal.returns
returns c = one_waiting
