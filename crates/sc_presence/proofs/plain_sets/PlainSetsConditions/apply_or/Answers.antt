use Rattle.std.proofs.Common.{◌||◌, ◌∙◌, length, ap}
use Rattle.std.proofs.lemmas.Result.{IfOk-weaker}
use Rattle.sc_presence.proofs.SetsLemmas.{Denotes-zip, length-zipped}
use Rattle.sc_presence.proofs.plain_sets.PlainSetsConditions.apply_or.Goals as goal

pub intern-requires : goal.intern-requires
intern-requires c = ap length c.in_ok-row.ensures ∙ length-zipped ◌||◌ _ _ _ c.row.ensures.long c.row-2.ensures.long

pub returns-clause-meaning : goal.returns-clause-meaning
returns-clause-meaning c =
    IfOk-weaker c.intern.result _ _ (λ r stores. Denotes-zip ◌||◌ _ _ stores (rw (c.row.ensures.row, c.row-2.ensures.row) at c.in_ok-row.ensures)) c.intern.ensures.stores
