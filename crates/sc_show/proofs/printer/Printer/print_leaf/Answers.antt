use Rattle.std.proofs.Common.{◌==◌, List, refl, sym, subst}
use Rattle.std.specs.List.{Contains}
use Rattle.sc_base.specs.declared.id.TreeId.{TreeId}
use Rattle.sc_show.proofs.PrinterNumbers.{pushed, pushed_at}
use Rattle.sc_show.proofs.TreeLines.{LaidOutTree-leaf}
use Rattle.sc_show.proofs.TreeNumbers.{fresh_tree}
use Rattle.sc_show.proofs.printer.Printer.print_leaf.Goals as goal

pub returns : goal.returns
returns c =
    let file = c.in_ok-file.ensures.lines in
    let fresh = fresh_tree c.file_number.new.self.trees.keys c.args.tree (subst (λ (ks : List TreeId). Contains ks c.args.tree → ⊥) (sym file.same_trees) c.requires.fresh) in
    record {
      lines = LaidOutTree-leaf c.args.tree c.args.place c.args.spelling c.text.result.now c.in_ok-file.file c.in_ok-number.number c.text.ensures file c.in_ok-file.ensures.number c.requires.leaf
          (pushed_at (λ (a b : TreeId). a.0 == b.0) _ _ c.insert_full.new.self.keys _ fresh c.in_ok-number.ensures.index)
          (pushed (λ (a b : TreeId). a.0 == b.0) _ _ _ c.in_ok-number.number fresh c.in_ok-number.ensures.keys) refl refl c.in_ok-write_leaf.ensures;
    }
