-- The line that the code keeps, and the one that it shows.
use Rattle.sc_tree.specs.declared.line.Line as kept
use Rattle.sc_tree.specs.declared.line.Line.TheVariants as in_store
use Rattle.sc_tree.specs.declared.line.TreeView as shown
use Rattle.sc_tree.specs.declared.line.TreeView.TheVariants as in_view
use Rattle.sc_tree.specs.Lines.{Line, leaf, node, choice}

abbrev pub line_of : kept.Line → Line
line_of (in_store.Leaf place spelling) = leaf place spelling
line_of (in_store.Node production children) = node production children.items
line_of (in_store.Choice branches) = choice branches.items

abbrev pub line_seen : shown.TreeView → Line
line_seen (in_view.Leaf place spelling) = leaf place spelling
line_seen (in_view.Node production children) = node production children.now
line_seen (in_view.Choice branches) = choice branches.now
