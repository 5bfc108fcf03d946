use Rattle.std.proofs.Common.{◌+◌, ◌*◌}
use Rattle.sc_parse.proofs.WeightLemmas.{height_at, IsAlone}
use Rattle.sc_parse.proofs.reductions.reduced_alone.Given as goal

abbrev pub invariant-loop-rule : goal.invariant-loop-rule
invariant-loop-rule g l = IsAlone (g.C.Conditions.sets l.fn.conds) (g.C.Conditions.sets l.conds) l.fn.trees l.trees l.fn.steps l.steps l.fn.number l.number l.rank

-- each reduction lowers the stack, or the rank alone
abbrev pub decreases-loop-rule : goal.decreases-loop-rule
decreases-loop-rule g l = 101 * height_at l.steps.core.subparsers l.number + l.rank
