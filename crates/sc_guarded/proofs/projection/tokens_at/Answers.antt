use Rattle.std.proofs.Common.{◌++◌, ◌∷◌, [], ◌∙◌, true, false, sym, ap, append-nil}
use Rattle.sc_guarded.proofs.ItemLemmas.{map-items_at-take}
use Rattle.sc_guarded.proofs.projection.tokens_at.Goals as goal
use Rattle.sc_guarded.proofs.projection.tokens_at.Goals.{then-holds+in_ok-push, else-holds}

pub loop-item-preserved : goal.loop-item-preserved
loop-item-preserved g c =
    let s = g.C.Conditions.sets c.args.conds.now in
    let f = g.T.HasToken.token_of in
    let i = c.loop-item.item-index in
    let xs = c.args.items.now in
    let x = c.item-item.result in
    elim c.if-holds.branch [
      | then-holds+in_ok-push w ↦ ap (λ v. v.items) w.tokens-is
          ∙ (w.in_ok-push.ensures.items ∙ (ap (λ t. c.loop-item.tokens.items ++ t ∷ []) w.token.ensures ∙ map-items_at-take f s xs i x c.args.config.now true c.loop-item.tokens.items c.loop-item-test.true c.item-item.is (sym c.holds.ensures ∙ w.if-holds.true) c.loop-item.invariant))
      | else-holds w ↦ ap (λ v. v.items) w.tokens-is
          ∙ (sym (append-nil c.loop-item.tokens.items) ∙ map-items_at-take f s xs i x c.args.config.now false c.loop-item.tokens.items c.loop-item-test.true c.item-item.is (sym c.holds.ensures ∙ w.if-holds.false) c.loop-item.invariant)
    ]
