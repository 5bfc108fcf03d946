use Rattle.sc_scope.specs.Numbered.{AreNumbered}
use Rattle.sc_scope.proofs.levels.Levels.share.Goals as goal

pub returns-in_ok-share-in-Level-clause-numbered : goal.returns-in_ok-share-in-Level-clause-numbered
returns-in_ok-share-in-Level-clause-numbered c = λ made numbered.
    let parts = rw c.in-Level.is at numbered in
    (c.in_ok-share-in-Level.ensures.numbered made parts.0, rw c.in_ok-clone-in-Level.ensures.cases parts.1)
