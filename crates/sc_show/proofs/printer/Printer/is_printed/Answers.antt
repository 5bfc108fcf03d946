use Rattle.std.proofs.Common.{sym, ◌∙◌}
use Rattle.sc_show.proofs.TreeNumbers.{found_tree, listed_tree}
use Rattle.sc_show.proofs.printer.Printer.is_printed.Goals as goal

pub returns : goal.returns
returns c =
    (λ some. found_tree c.args.self.now.trees.keys c.args.tree (sym c.contains.ensures ∙ some), λ has. c.contains.ensures ∙ listed_tree c.args.self.now.trees.keys c.args.tree has)
