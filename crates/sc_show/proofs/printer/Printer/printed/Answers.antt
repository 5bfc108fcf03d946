use Rattle.sc_show.proofs.TreeNumbers.{number_of_tree}
use Rattle.sc_show.proofs.printer.Printer.printed.Goals as goal

pub returns : goal.returns
returns c = number_of_tree c.args.self.now.trees.keys c.args.tree c.in-Some.number c.in-Some.ensures.index
