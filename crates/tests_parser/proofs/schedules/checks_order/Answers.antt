use Rattle.std.proofs.Common.{length}
use Rattle.tests_parser.proofs.schedules.checks_order.Goals as goal

pub run-requires-clause-own : goal.run-requires-clause-own
run-requires-clause-own g c = c.in_ok-core.ensures.own (length c.new-trees.result)
