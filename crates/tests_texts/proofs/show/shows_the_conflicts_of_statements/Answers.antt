use Rattle.std.proofs.Common.{arith}
use Rattle.sc_show.proofs.ConflictLines.{are_named}
use Rattle.tests_texts.proofs.show.shows_the_conflicts_of_statements.Goals as goal

pub show_conflicts-requires : goal.show_conflicts-requires
show_conflicts-requires g c = are_named c.in_ok-tables.ensures (omega arith)
