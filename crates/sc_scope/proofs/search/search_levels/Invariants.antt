use Rattle.sc_scope.specs.Kept.{levels_of}
use Rattle.sc_scope.specs.Search.{bindings_in, AreOwn, GoesOn}
use Rattle.sc_scope.proofs.search.search_levels.Given as goal

abbrev pub invariant-loop-levels : goal.invariant-loop-levels
invariant-loop-levels g l =
    let sets = g.C.Conditions.sets in
    record {
      on : GoesOn (sets l.fn.conds) (sets l.conds) l.fn.search l.search (bindings_in l.name.0 (levels_of l.fn.levels)) (bindings_in l.name.0 (levels_of l.levels));
      own : AreOwn (sets l.fn.conds) (bindings_in l.name.0 (levels_of l.levels));
    }
