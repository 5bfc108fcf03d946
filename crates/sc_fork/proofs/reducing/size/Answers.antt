use Rattle.std.proofs.Common.{take, ◌∙◌, arith, length-take}
use Rattle.sc_fork.proofs.ReduceLemmas.{few-symbols, symbol-more, no-symbol-more}
use Rattle.sc_fork.proofs.reducing.size.Goals as goal
use Rattle.sc_fork.proofs.reducing.size.Goals.{in-Right, in_default}

pub overflow_add-count : goal.overflow_add-count
overflow_add-count c =
    omega (arith, c.loop-entry.invariant, few-symbols (take c.loop-entry.entry-index c.args.right.now), length-take c.loop-entry.entry-index c.args.right.now)

pub loop-entry-preserved : goal.loop-entry-preserved
loop-entry-preserved c = elim c.match-entry.branch [
  | in-Right w ↦ w.count-is ∙ symbol-more c.args.right.now c.loop-entry.entry-index c.loop-entry.count w.in-Right.field-0 _ c.loop-entry-test.true w.in-Right.is c.loop-entry.invariant
  | in_default w ↦ w.count-is ∙ no-symbol-more c.args.right.now c.loop-entry.entry-index c.loop-entry.count _ c.loop-entry-test.true w.in_default.not-Right c.loop-entry.invariant
]
