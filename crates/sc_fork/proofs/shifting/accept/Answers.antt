use Rattle.std.proofs.Common.{length, ap, ◌∙◌}
use Rattle.sc_fork.proofs.ShiftLemmas.{own-children}
use Rattle.sc_fork.proofs.ValueLemmas.{trees_among}
use Rattle.sc_fork.proofs.shifting.accept.Goals as goal

pub shared_node-requires : goal.shared_node-requires
shared_node-requires c =
    own-children (length c.args.trees.now) c.parent.inside.stack.now c.in_ok-values.values.items c.deref-2.result.now (rw (← c.parent.view_is) at c.requires) c.in_ok-values.ensures
    (c.deref-2.ensures.value ∙ c.in_ok-children.ensures ∙ ap trees_among c.deref.ensures.value)
