use Rattle.std.proofs.Common.{◌≡◌, ℕ, get_or, Option, Some, None, is_some, false, ap, ◌∙◌, sym, arith, refl, subst}
use Rattle.std.proofs.lemmas.Bool.{false≢true}
use Rattle.std.proofs.lemmas.List.{take_all}
use Rattle.std.proofs.lemmas.List.Elements.{Contains-get_or}
use Rattle.sc_items.specs.States.{kernels_of}
use Rattle.sc_lalr.proofs.Placing.{items_of_state}
use Rattle.sc_lalr.proofs.Reducing.{EndsSoFar, EndsSoFar-none, EndsSoFar-left, EndsSoFar-kept, EndsSoFar-done}
use Rattle.sc_lalr.proofs.reduction.ends.Goals as goal
use Rattle.sc_lalr.proofs.reduction.ends.Goals.{then-is_none+in_ok-push, else-is_none}

none_of : (o : Option ℕ) → is_some o ≡ false → o ≡ None
none_of None e = refl
none_of (Some x) e = absurd (false≢true (sym e))

pub after-requires-clause-within : goal.after-requires-clause-within
after-requires-clause-within c =
    let are = items_of_state c.args.grammar.now c.args.states.now c.args.state c.index.result.now c.deref-item-items.result.now c.requires.states c.requires.state c.index.ensures c.deref-item-items.ensures.value in
    omega (arith, are.below (get_or c.deref-item-items.result.now c.loop-item.item-index 0) (Contains-get_or c.deref-item-items.result.now c.loop-item.item-index 0 c.loop-item-test.true))

pub loop-item-init : goal.loop-item-init
loop-item-init c = rw c.new-items.ensures.items (EndsSoFar-none c.args.grammar.now)

pub loop-item-preserved : goal.loop-item-preserved
loop-item-preserved c =
    let g = c.args.grammar.now in
    let view = c.deref-item-items.result.now in
    let k = c.loop-item.item-index in
    let are = items_of_state c.args.grammar.now c.args.states.now c.args.state c.index.result.now c.deref-item-items.result.now c.requires.states c.requires.state c.index.ensures c.deref-item-items.ensures.value in
    elim c.if-is_none.branch [
      | then-is_none+in_ok-push w ↦ rw (ap (λ v. v.items) w.items-is ∙ w.in_ok-push.ensures.items) (EndsSoFar-kept g view c.loop-item.items.items k are.rising c.loop-item-test.true c.loop-item.invariant (sym c.after.ensures.symbol ∙ none_of c.after.result w.if-is_none.ensures))
      | else-is_none w ↦ rw (ap (λ v. v.items) w.items-is) (EndsSoFar-left g view c.loop-item.items.items k c.loop-item-test.true c.loop-item.invariant (λ e. false≢true (sym (ap is_some (c.after.ensures.symbol ∙ e)) ∙ w.if-is_none.ensures)))
    ]

pub returns : goal.returns
returns c =
    let g = c.args.grammar.now in
    let view = c.deref-item-items.result.now in
    let are = items_of_state c.args.grammar.now c.args.states.now c.args.state c.index.result.now c.deref-item-items.result.now c.requires.states c.requires.state c.index.ensures c.deref-item-items.ensures.value in
    EndsSoFar-done g (kernels_of c.args.states.now) c.args.state view c.loop-item.items.items are (subst (λ zs. EndsSoFar g zs c.loop-item.items.items) (take_all c.loop-item.item-index view c.loop-item-test.false) c.loop-item.invariant)
