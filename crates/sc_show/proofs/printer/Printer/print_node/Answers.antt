use Rattle.std.proofs.Common.{◌==◌, ◌++◌, List, ℕ, refl, ap, ◌∙◌}
use Rattle.sc_base.specs.declared.id.TreeId.{TreeId}
use Rattle.sc_text.specs.Text.{line_text, node_line}
use Rattle.sc_show.proofs.PrinterNumbers.{pushed, pushed_at}
use Rattle.sc_show.proofs.TreeLines.{LaidOutTree-node}
use Rattle.sc_show.proofs.TreeNumbers.{fresh_tree}
use Rattle.sc_show.proofs.printer.Printer.print_node.Goals as goal

pub returns : goal.returns
returns c =
    let fresh = fresh_tree c.args.self.now.trees.keys c.args.tree c.requires.fresh in
    record {
      lines = λ space s names files. LaidOutTree-node c.args.tree c.args.production c.args.children.now c.in_ok-children.children.items c.in_ok-number.number c.in_ok-children.ensures
          (pushed_at (λ (a b : TreeId). a.0 == b.0) _ _ c.insert_full.new.self.keys _ fresh c.in_ok-number.ensures.index)
          (pushed (λ (a b : TreeId). a.0 == b.0) _ _ _ c.in_ok-number.number fresh c.in_ok-number.ensures.keys) refl refl
          (c.in_ok-write_node.ensures ∙ ap (λ (ns : List ℕ). c.args.self.now.text.items ++ line_text (node_line c.in_ok-number.number c.args.production ns)) c.deref.ensures.value)
          space s;
    }
