use Rattle.std.proofs.Common.{◌≡◌, ◌++◌, List, All, map, vec_len}
use Rattle.sc_scope.specs.Kept.{bindings_at, levels_of}
use Rattle.sc_scope.specs.Levels.{Level}
use Rattle.sc_scope.specs.Numbered.{AreNumbered, IsNumbered}
use Rattle.sc_scope.proofs.levels.stacked.Given as goal

abbrev pub invariant-loop-top : goal.invariant-loop-top
invariant-loop-top l = record {
  levels : map bindings_at l.tops.items ++ levels_of l.levels ≡ map bindings_at l.fn.tops.items;
  tops : (made : List Level) → All (IsNumbered made) l.fn.tops.items → All (IsNumbered made) l.tops.items;
  numbered : (made : List Level) → All (IsNumbered made) l.fn.tops.items → AreNumbered made l.levels;
}

abbrev pub decreases-loop-top : goal.decreases-loop-top
decreases-loop-top l = vec_len l.tops
