use Rattle.std.proofs.Common.{◌≤◌, ◌++◌, ◌∷◌, [], ◌∙◌, List, map, length, ap, sym, arith}
use Rattle.std.proofs.lemmas.List.{take_all}
use Rattle.sc_base.specs.declared.id.Cond.{Cond}
use Rattle.sc_base.specs.declared.token.Token.{Token}
use Rattle.sc_hoist.proofs.PlaceLemmas.{conditions_more}
use Rattle.sc_hoist.proofs.line_branches.conditions.Goals as goal

pub loop-index-preserved : goal.loop-index-preserved
loop-index-preserved g c =
    c.in_ok-push.ensures.items ∙ (ap (λ (ks : List Cond). ks ++ c.item-item.result.0 ∷ []) c.loop-index.invariant ∙ sym (conditions_more (g.L.TokenList.tokens c.args.list.now) c.loop-index.index (c.item-item.result.0, c.item-item.result.1) c.item-item.ensures))

pub returns : goal.returns
returns g c =
    let tokens = g.L.TokenList.tokens c.args.list.now in
    let past : length tokens ≤ c.loop-index.index = omega arith in
    c.loop-index.invariant ∙ ap (map (λ (item : Cond × Token). item.0)) (take_all c.loop-index.index tokens past)
