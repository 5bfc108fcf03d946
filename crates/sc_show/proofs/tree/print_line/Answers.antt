use Rattle.std.proofs.Common.{All, ap, subst}
use Rattle.std.specs.List.{Contains}
use Rattle.sc_tree.specs.declared.line.TreeView.{TreeView}
use Rattle.sc_tree.specs.Lines.{children_of}
use Rattle.sc_tree.specs.Views.{line_seen}
use Rattle.sc_show.proofs.TreePrinting.{all_branches}
use Rattle.sc_show.proofs.tree.print_line.Goals as goal

pub print_leaf-requires-clause-leaf : goal.print_leaf-requires-clause-leaf
print_leaf-requires-clause-leaf g c = c.requires.ready.held c.in-Leaf.place c.in-Leaf.spelling (ap line_seen c.in-Leaf.is)

pub print_node-requires-clause-below : goal.print_node-requires-clause-below
print_node-requires-clause-below g c = subst (λ (v : TreeView). All (Contains c.args.printer.now.trees.keys) (children_of (line_seen v))) c.in-Node.is c.requires.ready.below

pub print_choice-requires-clause-own : goal.print_choice-requires-clause-own
print_choice-requires-clause-own g c = c.requires.ready.own c.in-Choice.branches.now (ap line_seen c.in-Choice.is)

pub print_choice-requires-clause-below : goal.print_choice-requires-clause-below
print_choice-requires-clause-below g c =
    all_branches (Contains c.args.printer.now.trees.keys) c.in-Choice.branches.now
    (subst (λ (v : TreeView). All (Contains c.args.printer.now.trees.keys) (children_of (line_seen v))) c.in-Choice.is c.requires.ready.below)
