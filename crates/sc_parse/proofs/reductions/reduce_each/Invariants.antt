use Rattle.std.proofs.Common.{length}
use Rattle.sc_parse.proofs.WeightLemmas.{HasTaken}
use Rattle.sc_parse.proofs.reductions.reduce_each.Given as goal

abbrev pub invariant-loop-left : goal.invariant-loop-left
invariant-loop-left g l =
    HasTaken (g.C.Conditions.sets l.fn.conds) (g.C.Conditions.sets l.conds) l.fn.trees l.trees l.fn.steps l.steps l.fn.ready.items l.fn.heaviest.items l.fn.waiting.entries l.ready.items l.left
    l.waiting.entries

abbrev pub decreases-loop-left : goal.decreases-loop-left
decreases-loop-left g l = length l.left
