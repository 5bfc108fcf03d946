use Rattle.sc_scope.specs.Kept.{bindings_of, levels_of}
use Rattle.sc_scope.specs.Search.{bindings_in}
use Rattle.sc_scope.proofs.SearchLemmas.{GoesOn-over, AreOwn-Keeps, own_some, own_rest}
use Rattle.sc_scope.proofs.search.search_levels.Goals as goal

pub search_bindings-requires-clause-own : goal.search_bindings-requires-clause-own
search_bindings-requires-clause-own g c =
    AreOwn-Keeps _ c.loop-levels.invariant.on.keeps
    (own_some _ _ (bindings_of c.in_ok-bindings.bindings) (bindings_in c.args.name.0 (levels_of c.in-Level.below.value))
    (rw (c.in-Level.is, c.in_ok-bindings.ensures)) c.loop-levels.invariant.own)

pub loop-levels-preserved : goal.loop-levels-preserved
loop-levels-preserved g c =
    let some = bindings_of c.in_ok-bindings.bindings in
    let others = bindings_in c.args.name.0 (levels_of c.deref-levels.result.now) in
    record {
      on = GoesOn-over _ _ some others (rw (c.in-Level.is, c.in_ok-bindings.ensures, c.deref-levels.ensures)) c.loop-levels.invariant.own
          c.loop-levels.invariant.on c.in_ok-search.ensures.found;
      own = own_rest _ _ some others (rw (c.in-Level.is, c.in_ok-bindings.ensures, c.deref-levels.ensures)) c.loop-levels.invariant.own;
    }
