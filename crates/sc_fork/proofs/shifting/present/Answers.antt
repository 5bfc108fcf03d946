use Rattle.std.proofs.Common.{ap, ◌∙◌, Vec, Global}
use Rattle.sc_base.specs.declared.id.TreeId.{TreeId}
use Rattle.sc_fork.proofs.ValueLemmas.{present-some, present-none}
use Rattle.sc_fork.proofs.shifting.present.Goals as goal
use Rattle.sc_fork.proofs.shifting.present.Goals.{in-Some+in_ok-push, in_default}

pub loop-value-preserved : goal.loop-value-preserved
loop-value-preserved c =
    elim c.match-value.branch [
      | in-Some+in_ok-push w ↦ present-some c.args.values.now c.loop-value.value-index w.in-Some.tree _ c.loop-value.trees.items c.match-value.trees.items c.loop-value-test.true
          w.in-Some.is c.loop-value.invariant (ap (λ (v : Vec TreeId Global). v.items) w.trees-is ∙ w.in_ok-push.ensures.items)
      | in_default w ↦ present-none c.args.values.now c.loop-value.value-index _ c.loop-value.trees.items c.match-value.trees.items c.loop-value-test.true
          w.in_default.is c.loop-value.invariant (ap (λ (v : Vec TreeId Global). v.items) w.trees-is)
    ]
