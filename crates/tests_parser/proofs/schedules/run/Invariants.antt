use Rattle.std.proofs.Common.{◌≡◌, length}
use Rattle.sc_fork.specs.Owns.{OwnsCore}
use Rattle.sc_tree.specs.Lines.{OwnsBranches}
use Rattle.tests_parser.proofs.schedules.run.Given as goal

abbrev pub invariant-loop : goal.invariant-loop
invariant-loop g l = record {
  own : OwnsCore (g.C.Conditions.sets l.conds) (length l.trees) l.core;
  branches : OwnsBranches (g.C.Conditions.sets l.conds) l.trees;
  arities : (g.C.Conditions.sets l.conds).arities ≡ (g.C.Conditions.sets l.initial.conds).arities;
}
