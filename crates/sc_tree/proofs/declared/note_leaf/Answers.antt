use Rattle.std.proofs.Common.{◌++◌, ◌∙◌, ap, sym}
use Rattle.std.proofs.lemmas.List.{append-nil}
use Rattle.sc_tree.specs.Walks.{under}
use Rattle.sc_tree.proofs.DeclaredLemmas.{not_leaf}
use Rattle.sc_tree.proofs.declared.note_leaf.Goals as goal

pub returns-in_default : goal.returns-in_default
returns-in_default c = sym (ap (λ ns. c.args.names.now.items ++ under c.args.cond ns) (not_leaf c.args.line.now c.in_default.not-Leaf) ∙ append-nil c.args.names.now.items)
