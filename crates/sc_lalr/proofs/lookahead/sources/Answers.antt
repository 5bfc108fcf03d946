use Rattle.std.proofs.Common.{◌≡◌, ◌<◌, ◌≤◌, ℕ, List, length, get_or, refl, ap, ◌∙◌, sym, arith, subst}
use Rattle.std.specs.List.{Contains}
use Rattle.std.proofs.lemmas.Bool.{false≢true}
use Rattle.std.proofs.lemmas.List.Elements.{Contains-get_or}
use Rattle.lr_tables.specs.declared.grammar.Grammar.{Grammar}
use Rattle.sc_lalr.specs.Propagation.{HasPlace, AreNodes}
use Rattle.sc_lalr.specs.declared.nodes.Nodes.{Nodes}
use Rattle.sc_items.proofs.Listing.{IsCollected-done, IsCollected-kept, IsCollected-left, IsCollected-none}
use Rattle.sc_lalr.proofs.Placing.{place_at}
use Rattle.sc_lalr.proofs.Looking.{IsSourceAt, AreSources-done, source_of, followed_of_source}
use Rattle.sc_lalr.proofs.lookahead.sources.Goals as goal
use Rattle.sc_lalr.proofs.lookahead.sources.Goals.{then-is_followed+in_ok-push, else-is_followed}

-- the place of this iteration
place_of : (g : Grammar) (states : List (List ℕ)) (nodes : Nodes) (view : List ℕ) (k : ℕ) → AreNodes g states nodes → view ≡ nodes.places.items → k < length view → HasPlace g states (get_or view k 0)
place_of g states nodes view k are e h = are.places.sound (get_or view k 0) (subst (λ zs. Contains zs (get_or view k 0)) e (Contains-get_or view k 0 h))

some_entries : (g : Grammar) (states : List (List ℕ)) (p : ℕ) → HasPlace g states p → 0 < length g.entries.now
some_entries g states p h = omega (arith, h.at.within)

pub nonzero_rem-place : goal.nonzero_rem-place
nonzero_rem-place c = some_entries c.args.grammar.now c.requires.nodes.states _ (place_of c.args.grammar.now c.requires.nodes.states c.args.nodes.now c.deref-place-items.result.now c.loop-place.place-index c.requires.nodes.are c.deref-place-items.ensures.value c.loop-place-test.true)

pub is_followed-requires-clause-item : goal.is_followed-requires-clause-item
is_followed-requires-clause-item c =
    let g = c.args.grammar.now in
    let states = c.requires.nodes.states in
    let p = get_or c.deref-place-items.result.now c.loop-place.place-index 0 in
    (place_at (length g.entries.now) p (some_entries g states p (place_of g states c.args.nodes.now c.deref-place-items.result.now c.loop-place.place-index c.requires.nodes.are c.deref-place-items.ensures.value c.loop-place-test.true))).within

pub loop-place-init : goal.loop-place-init
loop-place-init c = λ states are. rw c.new-sources.ensures.items (IsCollected-none (IsSourceAt c.args.grammar.now states))

pub loop-place-preserved : goal.loop-place-preserved
loop-place-preserved c = λ states are.
    let g = c.args.grammar.now in
    let k = c.loop-place.place-index in
    let places = c.args.nodes.now.places.items in
    let view = c.deref-place-items.result.now in
    let same : get_or view k 0 ≡ get_or places k 0 = ap (λ zs. get_or zs k 0) c.deref-place-items.ensures.value in
    let k_in : k < length places = omega (arith, ap length c.deref-place-items.ensures.value, c.loop-place-test.true) in
    let there = place_of g states c.args.nodes.now view k are c.deref-place-items.ensures.value c.loop-place-test.true in
    elim c.if-is_followed.branch [
      | then-is_followed+in_ok-push w ↦ rw (ap (λ v. v.items) w.sources-is ∙ w.in_ok-push.ensures.items, same) (IsCollected-kept (IsSourceAt g states) places c.loop-place.sources.items k (get_or places k 0) k_in (c.loop-place.invariant states are) (rw same at (source_of g states (get_or view k 0) there (c.is_followed.ensures.0 w.if-is_followed.true)), refl) (λ q r. r.1))
      | else-is_followed w ↦ rw (ap (λ v. v.items) w.sources-is) (IsCollected-left (IsSourceAt g states) places c.loop-place.sources.items k k_in (c.loop-place.invariant states are) (λ q s. false≢true (sym w.if-is_followed.false ∙ c.is_followed.ensures.1 (followed_of_source g states (get_or view k 0) (rw same s.0)))))
    ]

pub returns : goal.returns
returns c = λ states are.
    let g = c.args.grammar.now in
    let all : length c.args.nodes.now.places.items ≤ c.loop-place.place-index = omega (arith, ap length c.deref-place-items.ensures.value, c.loop-place-test.false) in
    AreSources-done g states c.args.nodes.now c.loop-place.sources.items are (IsCollected-done (IsSourceAt g states) c.args.nodes.now.places.items c.loop-place.sources.items c.loop-place.place-index all (c.loop-place.invariant states are))
