use Rattle.std.proofs.Common.{take}
use Rattle.sc_show.specs.TreeShows.{AreNumbersOf}
use Rattle.sc_show.proofs.printer.Printer.tree_numbers.Given as goal

abbrev pub invariant-loop-tree : goal.invariant-loop-tree
invariant-loop-tree l = AreNumbersOf l.self.trees.keys (take l.tree-index l.trees) l.numbers.items
