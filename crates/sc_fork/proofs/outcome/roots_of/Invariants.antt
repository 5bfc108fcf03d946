use Rattle.std.proofs.Common.{take}
use Rattle.sc_fork.specs.Roots.{AreRoots, trees_of}
use Rattle.sc_model.specs.Sets.{Keeps}
use Rattle.sc_fork.proofs.outcome.roots_of.Given as goal

abbrev pub invariant-loop-part : goal.invariant-loop-part
invariant-loop-part g l = record {
  keeps : Keeps (g.C.Conditions.sets l.fn.conds) (g.C.Conditions.sets l.conds);
  roots : AreRoots (g.C.Conditions.sets l.fn.conds) (g.C.Conditions.sets l.conds) (trees_of (take l.part-index l.ended)) l.roots.items;
}
