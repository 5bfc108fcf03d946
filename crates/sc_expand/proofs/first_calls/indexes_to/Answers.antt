use Rattle.std.proofs.Common.{◌≡◌, ◌∙◌, ◌++◌, [], ◌∷◌, ap, arith}
use Rattle.sc_expand.proofs.GatherCases.{indexes_from-more}
use Rattle.sc_expand.proofs.Terms.{indexes_from}
use Rattle.sc_expand.proofs.first_calls.indexes_to.Goals as goal

pub loop-index-preserved : goal.loop-index-preserved
loop-index-preserved c =
    let i = c.loop-index.index in
    c.in_ok-push.ensures.items ∙ (ap (λ ks. ks ++ i ∷ []) c.loop-index.invariant ∙ indexes_from-more i)

pub returns : goal.returns
returns c =
    let last = c.args.last in
    let end : c.loop-index.index ≡ last = omega arith in
    c.in_ok-push-2.ensures.items
    ∙ (ap (λ ks. ks ++ last ∷ []) c.loop-index.invariant ∙ (ap (λ n. indexes_from 0 n ++ last ∷ []) end ∙ indexes_from-more last))
