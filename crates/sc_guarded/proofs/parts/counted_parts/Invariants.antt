use Rattle.std.proofs.Common.{length, ◌-◌}
use Rattle.sc_guarded.proofs.NextLemmas.{PartsTo}
use Rattle.sc_guarded.proofs.WalkLemmas.{WalksTo}
use Rattle.sc_guarded.proofs.parts.counted_parts.Given as goal

abbrev pub invariant-loop-index : goal.invariant-loop-index
invariant-loop-index g l = record {
  parts : PartsTo (g.C.Conditions.sets l.fn.conds) (g.C.Conditions.sets l.conds) l.items l.from l.fn.cond l.index l.left l.parts.items;
  walk : WalksTo (g.C.Conditions.sets l.conds) l.ends l.from l.index l.left l.parts.items l.fn.steps l.steps;
}

abbrev pub decreases-loop-index : goal.decreases-loop-index
decreases-loop-index g l = length l.items - l.index
