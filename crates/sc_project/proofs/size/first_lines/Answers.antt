use Rattle.std.proofs.Common.{◌≡◌, add-one, ap, arith, inl, inr, take}
use Rattle.sc_project.proofs.Sizes.{leaves-take}
use Rattle.sc_project.specs.Leaves.{leaves_in, one_leaf}
use Rattle.sc_project.proofs.size.first_lines.Goals as goal
use Rattle.sc_project.proofs.size.first_lines.Goals.{in-Leaf, in-Node}
use Rattle.sc_tree.specs.declared.line.TreeView.{TreeView}
use Rattle.sc_tree.specs.Views.{line_seen}

pub loop-id-preserved : goal.loop-id-preserved
loop-id-preserved c =
    let trees = c.args.trees.now in
    let was = c.loop-id.invariant in
    let line = line_seen c.read.result in
    let more = leaves-take trees c.loop-id.id line c.read.ensures in
    let next = ap (λ n. leaves_in (take n trees)) (add-one c.loop-id.id) in
    elim c.match-read.branch [
      | in-Leaf w ↦
          let one : one_leaf line ≡ 1 = ap (λ (v : TreeView). one_leaf (line_seen v)) w.in-Leaf.is in
          record { leaves = omega (arith, w.leaves-is, was.leaves, more, next, one); all = omega (arith, w.leaves-is, w.nodes-is, was.all) }
      | in-Node w ↦
          let none : one_leaf line ≡ 0 = elim w.in-Node.is [
            | inl node ↦ ap (λ (v : TreeView). one_leaf (line_seen v)) node.2
            | inr choice ↦ ap (λ (v : TreeView). one_leaf (line_seen v)) choice.1
          ] in
          record { leaves = omega (arith, w.leaves-is, was.leaves, more, next, none); all = omega (arith, w.leaves-is, w.nodes-is, was.all) }
    ]
