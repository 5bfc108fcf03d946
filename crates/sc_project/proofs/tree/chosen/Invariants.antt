use Rattle.std.proofs.Common.{◌≡◌, ◌-◌, drop, length}
use Rattle.sc_guarded.specs.Items.{items_at}
use Rattle.sc_project.proofs.tree.chosen.Given as goal

abbrev pub invariant-loop-i : goal.invariant-loop-i
invariant-loop-i g l = items_at (g.C.Conditions.sets l.conds) (drop l.i l.branches) l.config ≡ items_at (g.C.Conditions.sets l.conds) l.branches l.config

abbrev pub decreases-loop-i : goal.decreases-loop-i
decreases-loop-i g l = length l.branches - l.i
