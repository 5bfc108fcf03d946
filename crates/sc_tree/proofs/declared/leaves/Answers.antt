use Rattle.sc_tree.proofs.DeclaredLemmas.{leaves-more}
use Rattle.sc_tree.proofs.declared.leaves.Goals as goal

pub loop-tree-preserved : goal.loop-tree-preserved
loop-tree-preserved c =
    leaves-more c.args.lines.now c.args.trees.now c.loop-tree.tree-index _ c.index-lines-tree.result c.loop-tree.names.items c.note_leaf.new.names.items c.loop-tree-test.true c.index-lines-tree.is
    (c.requires c.loop-tree.tree-index _ c.loop-tree-test.true) c.loop-tree.invariant c.in_ok-note_leaf.ensures
