use Rattle.std.proofs.Common.{◌<◌, ◌≤◌, ◌∙◌, refl, map, length, get_or, ap, arith, take_all}
use Rattle.sc_expand.proofs.Facts.{length-map, map-id, slice_get-get_or, slice_get_within}
use Rattle.sc_expand.proofs.FillingLemmas.{taken_more}
use Rattle.sc_expand.proofs.Terms.{Cond, Hidden}
use Rattle.sc_expand.proofs.filling.paired.Goals as goal

pub loop-index-preserved : goal.loop-index-preserved
loop-index-preserved c =
    let item : Cond × Hidden = (c.item.result.0, c.item.result.1.now) in
    let f : Cond × Hidden → Cond = λ pair. pair.0 in
    let g : Cond × Hidden → Hidden = λ pair. pair.1 in
    let same : Hidden → Hidden = λ t. t in
    let within : c.loop-index.index < length c.args.tokens.now = omega (arith, c.requires, slice_get_within c.args.list.now c.loop-index.index item c.item.ensures) in
    let t : Hidden = get_or c.args.tokens.now c.loop-index.index item.1 in
    record {
      conditions = ap (map f) c.in_ok-push.ensures.items ∙ taken_more f f c.args.list.now c.loop-index.made.items c.loop-index.index item (item.0, _) c.item.ensures refl c.loop-index.invariant.conditions;
      tokens = ap (map g) c.in_ok-push.ensures.items
          ∙ taken_more same g c.args.tokens.now c.loop-index.made.items c.loop-index.index _ (item.0, _) (slice_get-get_or c.args.tokens.now c.loop-index.index _ within) refl c.loop-index.invariant.tokens;
    }

pub returns-clause-conditions : goal.returns-clause-conditions
returns-clause-conditions c =
    let f : Cond × Hidden → Cond = λ pair. pair.0 in
    let end : length (map f c.args.list.now) ≤ c.loop-index.index = omega (arith, length-map c.args.list.now f, c.loop-index-test.false, c.len-index-end.ensures) in
    c.loop-index.invariant.conditions ∙ take_all c.loop-index.index (map f c.args.list.now) end

pub returns-clause-tokens : goal.returns-clause-tokens
returns-clause-tokens c =
    let same : Hidden → Hidden = λ t. t in
    let end : length (map same c.args.tokens.now) ≤ c.loop-index.index = omega (arith, length-map c.args.tokens.now same, c.requires, c.loop-index-test.false, c.len-index-end.ensures) in
    c.loop-index.invariant.tokens ∙ (take_all c.loop-index.index (map same c.args.tokens.now) end ∙ map-id c.args.tokens.now)
