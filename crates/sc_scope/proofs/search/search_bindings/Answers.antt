use Rattle.std.proofs.Common.{[], ◌∷◌}
use Rattle.sc_scope.specs.Kept.{bindings_of}
use Rattle.sc_scope.proofs.SearchLemmas.{GoesOn-over, own_first, own_rest}
use Rattle.sc_scope.proofs.search.search_bindings.Goals as goal

pub take-requires-clause-own : goal.take-requires-clause-own
take-requires-clause-own g c =
    c.loop-bindings.invariant.on.keeps.own _
    (own_first _ _ (c.in-Bound.cond, c.in-Bound.kind) (bindings_of c.in-Bound.older.value) (rw c.in-Bound.is) c.loop-bindings.invariant.own)

pub loop-bindings-preserved : goal.loop-bindings-preserved
loop-bindings-preserved g c =
    let some = (c.in-Bound.cond, c.in-Bound.kind) ∷ [] in
    record {
      on = GoesOn-over _ _ some (bindings_of c.deref-bindings.result.now) (rw (c.in-Bound.is, c.deref-bindings.ensures)) c.loop-bindings.invariant.own
          c.loop-bindings.invariant.on c.in_ok-search.ensures.found;
      own = own_rest _ _ some (bindings_of c.deref-bindings.result.now) (rw (c.in-Bound.is, c.deref-bindings.ensures)) c.loop-bindings.invariant.own;
    }
