use Rattle.std.proofs.Common.{arith, ap, sym, ◌∙◌, ◌++◌, ◌∷◌, []}
use Rattle.sc_prep.proofs.Facts.{take-next, take_all}
use Rattle.sc_prep.proofs.settling.copied.Goals as goal

pub loop-index-preserved : goal.loop-index-preserved
loop-index-preserved c = c.in_ok-push.ensures.ok ∙ (ap (λ xs. xs ++ (c.item.result.0, c.item.result.1.now) ∷ []) c.loop-index.invariant
    ∙ sym (take-next c.args.list.now c.loop-index.index (c.item.result.0, c.item.result.1.now) c.item.ensures))

pub returns : goal.returns
returns c = c.loop-index.invariant ∙ take_all c.loop-index.index c.args.list.now (omega (arith, c.loop-index-test.false, c.len-index-end.ensures))
