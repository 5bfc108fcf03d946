use Rattle.std.proofs.Common.{◌≡◌, ℕ, Bool, false, Some, None, slice_get, unwrap_or, sym, ap, ◌∙◌}
use Rattle.std.specs.Option.{option_map_or}
use Rattle.std.proofs.lemmas.Option.{unwrap_or-slice_get}
use Rattle.sc_items.specs.declared.automaton.State.{State}
use Rattle.sc_items.specs.declared.automaton.States.{States}
use Rattle.sc_items.specs.Reach.{marked}
use Rattle.sc_items.specs.States.{has_item}
use Rattle.sc_items.proofs.Reading.{has_exact, read_is}
use Rattle.sc_items.proofs.automaton.States.has.Goals as goal

has_none : (states : States) (s i : ℕ) → slice_get states.rows.items s ≡ None → false ≡ has_item states s i
has_none states s i e = sym (ap (λ o. option_map_or (λ (state : State). marked state.items.items i) o false) e)

has_some : (states : States) (state : State) (s i : ℕ) (r : Bool) → slice_get states.rows.items s ≡ Some state → r ≡ unwrap_or (slice_get state.items.items i) false → r ≡ has_item states s i
has_some states state s i r e f = f ∙ unwrap_or-slice_get state.items.items i false ∙ sym (ap (λ o. option_map_or (λ (state : State). marked state.items.items i) o false) e)

pub returns-in-None-clause-value : goal.returns-in-None-clause-value
returns-in-None-clause-value c = has_none c.args.self.now c.args.state c.args.item (read_is c.args.self.now.rows.items c.deref.result.now c.args.state None c.deref.ensures.value c.in-None.ensures.lookup)

pub returns-in-None-clause-exact : goal.returns-in-None-clause-exact
returns-in-None-clause-exact c = λ g h. has_exact g c.args.self.now c.args.state c.args.item false (has_none c.args.self.now c.args.state c.args.item (read_is c.args.self.now.rows.items c.deref.result.now c.args.state None c.deref.ensures.value c.in-None.ensures.lookup)) h

pub returns-in-Some-clause-value : goal.returns-in-Some-clause-value
returns-in-Some-clause-value c =
    let at = read_is c.args.self.now.rows.items c.deref.result.now c.args.state (Some c.in-Some.row) c.deref.ensures.value c.in-Some.ensures.lookup in
    let item_at = read_is c.in-Some.row.now.items.items c.deref-in-Some.result.now c.args.item c.get-in-Some.result c.deref-in-Some.ensures.value c.get-in-Some.ensures.lookup in
    has_some c.args.self.now c.in-Some.row.now c.args.state c.args.item c.unwrap_or.result at (c.unwrap_or.ensures ∙ ap (λ o. unwrap_or o false) (c.copied.ensures ∙ sym item_at))

pub returns-in-Some-clause-exact : goal.returns-in-Some-clause-exact
returns-in-Some-clause-exact c = λ g h.
    let at = read_is c.args.self.now.rows.items c.deref.result.now c.args.state (Some c.in-Some.row) c.deref.ensures.value c.in-Some.ensures.lookup in
    let item_at = read_is c.in-Some.row.now.items.items c.deref-in-Some.result.now c.args.item c.get-in-Some.result c.deref-in-Some.ensures.value c.get-in-Some.ensures.lookup in
    has_exact g c.args.self.now c.args.state c.args.item c.unwrap_or.result (has_some c.args.self.now c.in-Some.row.now c.args.state c.args.item c.unwrap_or.result at (c.unwrap_or.ensures ∙ ap (λ o. unwrap_or o false) (c.copied.ensures ∙ sym item_at))) h
