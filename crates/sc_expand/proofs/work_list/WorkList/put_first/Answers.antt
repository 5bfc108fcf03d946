use Rattle.std.proofs.Common.{◌≡◌, ◌++◌, ◌∙◌, ap, append_assoc, arith, drop}
use Rattle.sc_expand.proofs.Terms.{items_behind}
use Rattle.sc_expand.proofs.work_list.WorkList.put_first.Goals as goal

pub returns : goal.returns
returns c =
    let tokens = c.args.tokens.now in
    let was = c.self.inside.front.items in
    let end : c.loop-index.index ≡ 0 = omega (arith, c.loop-index-test.false, c.loop-index.auto.index) in
    (λ i. (c.loop-index.invariant.front ∙ ap (λ n. drop n tokens ++ was) end) i ++ items_behind (c.loop-index.invariant.behind i))
    ∙ (append_assoc tokens was (items_behind c.self.inside.behind) ∙ ap (λ l. tokens ++ l) c.self.view_is)
