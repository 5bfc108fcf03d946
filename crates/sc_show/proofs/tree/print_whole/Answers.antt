use Rattle.sc_show.proofs.TreePrinting.{printed_nothing}
use Rattle.sc_show.proofs.tree.print_whole.Goals as goal

pub returns-in-None-clause-lines : goal.returns-in-None-clause-lines
returns-in-None-clause-lines g c = printed_nothing c.args.root c.in-None.is c.requires.table
