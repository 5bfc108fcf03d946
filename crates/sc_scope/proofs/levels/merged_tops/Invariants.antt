use Rattle.std.proofs.Common.{All, map}
use Rattle.sc_model.specs.Growth.{Extends}
use Rattle.sc_scope.specs.Kept.{bindings_at, levels_of}
use Rattle.sc_scope.specs.Numbered.{AreNumbered, IsNumbered, levels_made}
use Rattle.sc_scope.proofs.LevelLemmas.{MergesSome}
use Rattle.sc_scope.proofs.levels.merged_tops.Given as goal

abbrev pub invariant-loop-left : goal.invariant-loop-left
invariant-loop-left g l = record {
  merges : MergesSome (g.C.Conditions.sets l.fn.conds) (g.C.Conditions.sets l.conds) l.here l.there (levels_of l.fn.left) (levels_of l.fn.right)
      (map bindings_at l.tops.items) (levels_of l.left) (levels_of l.right);
  grows : Extends (levels_made l.fn.numbers) (levels_made l.numbers);
  tops : All (IsNumbered (levels_made l.numbers)) l.tops.items;
  left : AreNumbered (levels_made l.numbers) l.left;
  right : AreNumbered (levels_made l.numbers) l.right;
}
