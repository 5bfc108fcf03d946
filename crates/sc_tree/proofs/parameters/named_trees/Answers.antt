use Rattle.std.proofs.Common.{ap, ◌∙◌, sym, true, false}
use Rattle.std.proofs.lemmas.List.{append-nil}
use Rattle.sc_tree.proofs.GuardedLemmas.{named-more}
use Rattle.sc_tree.proofs.parameters.named_trees.Goals as goal
use Rattle.sc_tree.proofs.parameters.named_trees.Goals.{then-is_named+in_ok-push, else-is_named}

pub loop-tree-preserved : goal.loop-tree-preserved
loop-tree-preserved c =
    elim c.if-is_named.branch [
      | then-is_named+in_ok-push w ↦ named-more c.args.lines.now c.args.trees.now c.loop-tree.tree-index _ c.index-lines-tree.result c.loop-tree.named.items c.if-is_named.named.items true c.loop-tree-test.true
          c.index-lines-tree.is (c.requires c.loop-tree.tree-index _ c.loop-tree-test.true) (sym c.is_named.ensures ∙ w.if-is_named.true) c.loop-tree.invariant (ap (λ v. v.items) w.named-is ∙ w.in_ok-push.ensures.items)
      | else-is_named w ↦ named-more c.args.lines.now c.args.trees.now c.loop-tree.tree-index _ c.index-lines-tree.result c.loop-tree.named.items c.if-is_named.named.items false c.loop-tree-test.true
          c.index-lines-tree.is (c.requires c.loop-tree.tree-index _ c.loop-tree-test.true) (sym c.is_named.ensures ∙ w.if-is_named.false) c.loop-tree.invariant
          (ap (λ v. v.items) w.named-is ∙ sym (append-nil c.loop-tree.named.items))
    ]
