use Rattle.std.proofs.Common.{◌≡◌, ◌∙◌, ◌++◌, [], ◌∷◌, map, take, get_or, sym, ap}
use Rattle.sc_expand.proofs.Facts.{get_or_from_slice_get, map-append, take_more}
use Rattle.sc_expand.proofs.Terms.{token_at}
use Rattle.sc_expand.proofs.beginning.tokens_at.Goals as goal

pub loop-place-preserved : goal.loop-place-preserved
loop-place-preserved c = λ other.
    let list = c.args.list.now in
    let places = c.args.places.now in
    let i = c.loop-place.place-index in
    let token : c.item.result.1 ≡ token_at list other (get_or places i 0) = ap (λ pair. pair.1) (sym (get_or_from_slice_get list _ c.item.result other c.item.ensures)) in
    c.in_ok-push.ensures.items
    ∙ ((λ k. c.loop-place.invariant other k ++ token k ∷ [])
    ∙ sym (ap (map (token_at list other)) (take_more places i 0 c.loop-place-test.true) ∙ map-append (token_at list other) (take i places) (get_or places i 0 ∷ [])))
