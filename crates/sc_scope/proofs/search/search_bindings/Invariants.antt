use Rattle.sc_scope.specs.Kept.{bindings_of}
use Rattle.sc_scope.specs.Search.{AreOwn, GoesOn}
use Rattle.sc_scope.proofs.search.search_bindings.Given as goal

abbrev pub invariant-loop-bindings : goal.invariant-loop-bindings
invariant-loop-bindings g l =
    let sets = g.C.Conditions.sets in
    record {
      on : GoesOn (sets l.fn.conds) (sets l.conds) l.fn.search l.search (bindings_of l.fn.bindings) (bindings_of l.bindings);
      own : AreOwn (sets l.fn.conds) (bindings_of l.bindings);
    }
