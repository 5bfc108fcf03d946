use Rattle.std.proofs.Common.{◌≡◌, ◌<◌, ◌*◌, ◌+◌, ℕ, List, length, get_or, ap, ◌∙◌, sym, arith, subst}
use Rattle.std.proofs.lemmas.List.{take_all}
use Rattle.std.proofs.lemmas.List.Elements.{Contains-get_or}
use Rattle.std.proofs.lemmas.Nat.{mul-add-lt}
use Rattle.lr_tables.specs.declared.grammar.Grammar.{Grammar}
use Rattle.sc_items.specs.Kernel.{IsListOf}
use Rattle.sc_items.specs.States.{HasItem, kernels_of}
use Rattle.sc_lalr.proofs.Placing.{items_of_state, NodesBelow, NodesBelow-none, NodesBelow-push, NodesBelow-next, AreNodes-done}
use Rattle.sc_lalr.proofs.nodes.nodes_of.Goals as goal

pub loop-state-init : goal.loop-state-init
loop-state-init c =
    let long : length c.in_ok-numbers.numbers.items ≡ length (kernels_of c.args.states.now) * length c.args.grammar.now.entries.now = sym c.in_ok-numbers.numbers.ok.0 ∙ c.in_ok-numbers.ensures.len ∙ ap (λ k. k * length c.args.grammar.now.entries.now) c.len.ensures in
    rw c.new-places.ensures.items (NodesBelow-none c.args.grammar.now (kernels_of c.args.states.now) c.in_ok-numbers.numbers.items long)

place_below : (g : Grammar) (states : List (List ℕ)) (s : ℕ) (items : List ℕ) (k : ℕ) → s < length states → IsListOf (length g.entries.now) (HasItem g states s) items → k < length items → s * length g.entries.now + get_or items k 0 < length states * length g.entries.now
place_below g states s items k s_in are k_in = omega (arith, mul-add-lt s (length g.entries.now) (get_or items k 0) (length states) s_in (are.below (get_or items k 0) (Contains-get_or items k 0 k_in)))

pub overflow_add-place : goal.overflow_add-place
overflow_add-place c =
    let s_in : c.loop-state.state < length (kernels_of c.args.states.now) = omega (arith, c.len-state-end.ensures, c.loop-state-test.true) in
    omega (arith, c.requires.small, place_below c.args.grammar.now (kernels_of c.args.states.now) c.loop-state.state c.deref-item-items.result.now c.loop-item.item-index s_in (items_of_state c.args.grammar.now c.args.states.now c.loop-state.state c.index.result.now c.deref-item-items.result.now c.requires.states s_in c.index.ensures c.deref-item-items.ensures.value) c.loop-item-test.true)

pub index_mut-requires : goal.index_mut-requires
index_mut-requires c =
    let s_in : c.loop-state.state < length (kernels_of c.args.states.now) = omega (arith, c.len-state-end.ensures, c.loop-state-test.true) in
    omega (arith, c.loop-item.invariant.long, c.loop-item.numbers.ok.0, place_below c.args.grammar.now (kernels_of c.args.states.now) c.loop-state.state c.deref-item-items.result.now c.loop-item.item-index s_in (items_of_state c.args.grammar.now c.args.states.now c.loop-state.state c.index.result.now c.deref-item-items.result.now c.requires.states s_in c.index.ensures c.deref-item-items.ensures.value) c.loop-item-test.true)

pub loop-item-preserved : goal.loop-item-preserved
loop-item-preserved c =
    let g = c.args.grammar.now in
    let states = kernels_of c.args.states.now in
    let s = c.loop-state.state in
    let s_in : s < length states = omega (arith, c.len-state-end.ensures, c.loop-state-test.true) in
    let are = items_of_state g c.args.states.now s c.index.result.now c.deref-item-items.result.now c.requires.states s_in c.index.ensures c.deref-item-items.ensures.value in
    let next = NodesBelow-push g states s c.deref-item-items.result.now are s_in c.loop-item.item-index c.loop-item.places.items c.loop-item.numbers.items c.loop-item-test.true c.loop-item.invariant in
    rw (c.in_ok-push.ensures.items, c.len-in-loop-item.ensures ∙ c.loop-item.places.ok.0) next

pub loop-state-preserved : goal.loop-state-preserved
loop-state-preserved c =
    let g = c.args.grammar.now in
    let states = kernels_of c.args.states.now in
    let s = c.loop-state.state in
    let s_in : s < length states = omega (arith, c.len-state-end.ensures, c.loop-state-test.true) in
    let view = c.deref-item-items.result.now in
    let are = items_of_state g c.args.states.now s c.index.result.now c.deref-item-items.result.now c.requires.states s_in c.index.ensures c.deref-item-items.ensures.value in
    NodesBelow-next g states s view are s_in c.loop-item.places.items c.loop-item.numbers.items (subst (λ zs. NodesBelow g states s zs c.loop-item.places.items c.loop-item.numbers.items) (take_all c.loop-item.item-index view c.loop-item-test.false) c.loop-item.invariant)

pub returns : goal.returns
returns c = AreNodes-done c.args.grammar.now (kernels_of c.args.states.now) c.loop-state.state (record { places = c.loop-state.places; numbers = c.loop-state.numbers }) (omega (arith, c.len-state-end.ensures, c.loop-state.auto.state-end, c.loop-state-test.false)) c.loop-state.invariant
