use Rattle.std.proofs.Common.{length}
use Rattle.tests_parser.proofs.memory.checks_given_up.Goals as goal

pub apply-first-requires-clause-own : goal.apply-first-requires-clause-own
apply-first-requires-clause-own g c = c.in_ok-core.ensures.own (length c.new-trees.result)
