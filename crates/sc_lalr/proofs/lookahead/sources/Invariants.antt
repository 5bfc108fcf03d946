use Rattle.std.proofs.Common.{ℕ, List, take}
use Rattle.sc_lalr.specs.Propagation.{AreNodes}
use Rattle.sc_lalr.proofs.Looking.{SourcesSoFar}
use Rattle.sc_lalr.proofs.lookahead.sources.Given as goal

abbrev pub invariant-loop-place : goal.invariant-loop-place
invariant-loop-place l = (states : List (List ℕ)) → AreNodes l.grammar states l.nodes → SourcesSoFar l.grammar states (take l.place-index l.nodes.places.items) l.sources.items
