use Rattle.std.proofs.Common.{◌∙◌, ◌++◌, [], ◌∷◌, take, get_or, sym, ap}
use Rattle.sc_prep.proofs.Facts.{take_more, tokens_at-push}
use Rattle.sc_prep.proofs.Terms.{tokens_at}
use Rattle.sc_prep.proofs.alternatives.tokens_at.Goals as goal

pub loop-place-preserved : goal.loop-place-preserved
loop-place-preserved c =
    let list = c.args.list.now in
    let places = c.args.places.now in
    let i = c.loop-place.place-index in
    c.in_ok-push.ensures.items
    ∙ (ap (λ ts. ts ++ c.item.result.1.now ∷ []) c.loop-place.invariant
    ∙ (sym (tokens_at-push list (take i places) (get_or places i 0) (c.item.result.0, c.item.result.1.now) c.item.ensures)
    ∙ ap (tokens_at list) (sym (take_more places i 0 c.loop-place-test.true))))
