use Rattle.std.proofs.Common.{◌≡◌, false, take, drop, length}
use Rattle.sc_fork.specs.Bundles.{AreDone, AreEnabled, events_of}
use Rattle.sc_fork.specs.Owns.{OwnsCore}
use Rattle.sc_tree.specs.Lines.{OwnsBranches}
use Rattle.sc_fork.proofs.NodeLemmas.{HasAdded}
use Rattle.sc_fork.proofs.fork.Core.apply_all.Given as goal

abbrev pub invariant-loop-number : goal.invariant-loop-number
invariant-loop-number g l = let s = g.C.Conditions.sets in record {
  done : AreDone (s l.initial.conds) l.initial.trees l.initial.self (events_of l.kind (take l.number-index l.members)) (s l.conds) l.trees l.self l.made.items;
  added : HasAdded l.kind l.members l.number-index l.initial.self l.self l.initial.trees l.trees;
  left : AreEnabled l.self.source l.self.subparsers l.kind (drop l.number-index l.members);
  usable : l.self.is_given_up ≡ false;
  own : OwnsCore (s l.conds) (length l.trees) l.self;
  branches : OwnsBranches (s l.conds) l.trees;
}
