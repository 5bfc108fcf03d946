use Rattle.sc_expand.proofs.GatherCases.{held-under}
use Rattle.sc_expand.proofs.first_calls.known_end.Goals as goal

pub closing-requires-clause-names : goal.closing-requires-clause-names
closing-requires-clause-names c = held-under c.args.names.now c.args.list.now c.args.cond c.in_ok-tokens.tokens.now c.in_ok-tokens.ensures c.requires
