use Rattle.std.proofs.Common.{◌≤◌, ◌∙◌, refl, map, length, sym, ap, arith, take_all}
use Rattle.sc_expand.proofs.Facts.{length-map, map-id}
use Rattle.sc_expand.proofs.FillingLemmas.{taken_more}
use Rattle.sc_expand.proofs.Terms.{Cond, Hidden}
use Rattle.sc_expand.proofs.filling.tokens_of.Goals as goal

pub loop-index-preserved : goal.loop-index-preserved
loop-index-preserved c =
    let f : Cond × Hidden → Hidden = λ item. item.1 in
    let g : Hidden → Hidden = λ t. t in
    ap (map g) c.in_ok-push.ensures.items
    ∙ taken_more f g c.args.list.now c.loop-index.tokens.items c.loop-index.index (c.item.result.0, c.item.result.1.now) c.item.result.1.now c.item.ensures refl c.loop-index.invariant

pub returns : goal.returns
returns c =
    let f : Cond × Hidden → Hidden = λ item. item.1 in
    let end : length (map f c.args.list.now) ≤ c.loop-index.index = omega (arith, length-map c.args.list.now f, c.loop-index-test.false, c.len-index-end.ensures) in
    sym (map-id c.loop-index.tokens.items) ∙ (c.loop-index.invariant ∙ take_all c.loop-index.index (map f c.args.list.now) end)
