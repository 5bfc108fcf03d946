use Rattle.std.proofs.Common.{[], sym, subst}
use Rattle.sc_show.specs.TreeShows.{AreNumbersOf, no_numbers}
use Rattle.sc_show.proofs.TreeNumbers.{AreNumbersOf-more}
use Rattle.sc_show.proofs.printer.Printer.tree_numbers.Goals as goal

pub loop-tree-init : goal.loop-tree-init
loop-tree-init c = subst (AreNumbersOf c.args.self.now.trees.keys []) (sym c.new-numbers.ensures.items) no_numbers

pub loop-tree-preserved : goal.loop-tree-preserved
loop-tree-preserved c =
    AreNumbersOf-more c.args.trees.now c.loop-tree.tree-index c.printed.result _ c.loop-tree-test.true c.loop-tree.invariant c.printed.ensures c.in_ok-push.ensures.items
