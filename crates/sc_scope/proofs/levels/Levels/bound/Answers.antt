use Rattle.sc_scope.proofs.NumberLemmas.{AreNumbered-Extends}
use Rattle.sc_scope.proofs.levels.Levels.bound.Goals as goal

pub returns-in_ok-clone-in-Level-clause-numbered : goal.returns-in_ok-clone-in-Level-clause-numbered
returns-in_ok-clone-in-Level-clause-numbered c =
    (c.in_ok-top-in-Level.ensures.numbered, rw c.in_ok-clone-in-Level.ensures.cases (AreNumbered-Extends _ c.set.ensures.grows (rw c.in-Level.is at c.requires).1))
