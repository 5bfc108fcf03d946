use Rattle.std.proofs.Common.{◌<◌, List, Some, length, All, refl, subst, sym, ap, ◌∙◌}
use Rattle.sc_base.specs.declared.id.TreeId.{TreeId}
use Rattle.sc_fork.specs.Reducing.{made}
use Rattle.sc_fork.proofs.NodeLemmas.{adds-line, adds-none}
use Rattle.sc_fork.proofs.ReduceLemmas.{one-value, among-own}
use Rattle.sc_tree.specs.Lines.{node}
use Rattle.sc_fork.proofs.reducing.value_of.Goals as goal

pub returns-then-values-eq1-clause-value : goal.returns-then-values-eq1-clause-value
returns-then-values-eq1-clause-value c = one-value c.args.trees.now c.args.number c.args.values.now _ c.if-values-eq1.true

pub shared_node-requires : goal.shared_node-requires
shared_node-requires c =
    subst (All (λ (id : TreeId). id.0 < length c.args.trees.now)) (sym (c.deref.ensures.value ∙ c.in_ok-children.ensures)) (among-own (λ id. id.0 < length c.args.trees.now) c.args.values.now c.requires)

pub returns-clause-value : goal.returns-clause-value
returns-clause-value c =
    made c.args.values.now c.in_ok-node.node c.if-values-eq1.false
    (c.in_ok-node.ensures.named ∙ ap (λ (ids : List TreeId). Some (node c.args.number ids)) (c.deref.ensures.value ∙ c.in_ok-children.ensures))

pub returns-then-values-eq1-clause-adds : goal.returns-then-values-eq1-clause-adds
returns-then-values-eq1-clause-adds c = adds-none _ _ _ refl

pub returns-in_err-children-clause-adds : goal.returns-in_err-children-clause-adds
returns-in_err-children-clause-adds c = adds-none _ _ _ refl

pub returns-in_err-node-clause-adds : goal.returns-in_err-node-clause-adds
returns-in_err-node-clause-adds c = adds-none _ _ _ c.in_err-node.ensures.err

pub returns-clause-adds : goal.returns-clause-adds
returns-clause-adds c =
    adds-line c.args.trees.now c.shared_node.new.self _ _ (ap (λ (ids : List TreeId). node c.args.number ids) (c.deref.ensures.value ∙ c.in_ok-children.ensures)) c.in_ok-node.ensures.adds
    c.shared_node.ensures.last
