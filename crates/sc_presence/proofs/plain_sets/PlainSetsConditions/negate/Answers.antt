use Rattle.std.proofs.lemmas.Result.{IfOk-weaker}
use Rattle.sc_presence.proofs.SetsLemmas.{Denotes-complement}
use Rattle.sc_presence.proofs.plain_sets.PlainSetsConditions.negate.Goals as goal

pub returns-clause-meaning : goal.returns-clause-meaning
returns-clause-meaning c =
    IfOk-weaker c.intern.result _ _ (λ r stores. Denotes-complement _ stores (rw c.row.ensures.row at c.in_ok-row.ensures)) c.intern.ensures.stores
