use Rattle.std.proofs.Common.{◌&&◌, ◌∙◌, not, length, ap}
use Rattle.std.proofs.lemmas.Result.{IfOk-weaker}
use Rattle.sc_presence.proofs.SetsLemmas.{Denotes-zip, length-zipped}
use Rattle.sc_presence.proofs.plain_sets.PlainSetsConditions.apply_without.Goals as goal

pub intern-requires : goal.intern-requires
intern-requires c = ap length c.in_ok-row.ensures ∙ length-zipped (λ x y. x && not y) _ _ _ c.row.ensures.long c.row-2.ensures.long

pub returns-clause-meaning : goal.returns-clause-meaning
returns-clause-meaning c =
    IfOk-weaker c.intern.result _ _ (λ r stores. Denotes-zip (λ x y. x && not y) _ _ stores (rw (c.row.ensures.row, c.row-2.ensures.row) at c.in_ok-row.ensures)) c.intern.ensures.stores
