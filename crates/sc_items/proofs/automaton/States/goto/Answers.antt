use Rattle.std.proofs.Common.{◌≡◌, ℕ, Option, Some, None, slice_get, option_and_then, sym, ap, ◌∙◌}
use Rattle.sc_items.specs.declared.automaton.State.{State}
use Rattle.sc_items.specs.declared.automaton.States.{States}
use Rattle.sc_items.specs.States.{goto_of}
use Rattle.sc_items.proofs.Reading.{goto_exact, read_is}
use Rattle.sc_items.proofs.automaton.States.goto.Goals as goal

goto_some : (states : States) (state : State) (s x : ℕ) (to : Option ℕ) → slice_get states.rows.items s ≡ Some state → slice_get state.gotos.items x ≡ Some to → to ≡ goto_of states s x
goto_some states state s x to e f = sym (ap (λ o. option_and_then (λ (state : State). option_and_then (λ (to : Option ℕ). to) (slice_get state.gotos.items x)) o) e ∙ ap (λ o. option_and_then (λ (to : Option ℕ). to) o) f)

goto_past : (states : States) (state : State) (s x : ℕ) → slice_get states.rows.items s ≡ Some state → slice_get state.gotos.items x ≡ None → None ≡ goto_of states s x
goto_past states state s x e f = sym (ap (λ o. option_and_then (λ (state : State). option_and_then (λ (to : Option ℕ). to) (slice_get state.gotos.items x)) o) e ∙ ap (λ o. option_and_then (λ (to : Option ℕ). to) o) f)

goto_none : (states : States) (s x : ℕ) → slice_get states.rows.items s ≡ None → None ≡ goto_of states s x
goto_none states s x e = sym (ap (λ o. option_and_then (λ (state : State). option_and_then (λ (to : Option ℕ). to) (slice_get state.gotos.items x)) o) e)

pub returns-in_err-get-2-clause-value : goal.returns-in_err-get-2-clause-value
returns-in_err-get-2-clause-value c =
    let at = read_is c.args.self.now.rows.items c.deref.result.now c.args.state (Some c.in_ok-get.field-0) c.deref.ensures.value c.in_ok-get.ensures.lookup in
    let to_at = read_is c.in_ok-get.field-0.now.gotos.items c.deref-2.result.now c.args.symbol None c.deref-2.ensures.value c.in_err-get-2.ensures.lookup in
    let value = c.from_residual-in_err-get-2.ensures ∙ goto_past c.args.self.now c.in_ok-get.field-0.now c.args.state c.args.symbol at to_at in
    value

pub returns-in_err-get-2-clause-exact : goal.returns-in_err-get-2-clause-exact
returns-in_err-get-2-clause-exact c = λ g grammar h.
    let at = read_is c.args.self.now.rows.items c.deref.result.now c.args.state (Some c.in_ok-get.field-0) c.deref.ensures.value c.in_ok-get.ensures.lookup in
    let to_at = read_is c.in_ok-get.field-0.now.gotos.items c.deref-2.result.now c.args.symbol None c.deref-2.ensures.value c.in_err-get-2.ensures.lookup in
    let value = c.from_residual-in_err-get-2.ensures ∙ goto_past c.args.self.now c.in_ok-get.field-0.now c.args.state c.args.symbol at to_at in
    goto_exact g c.args.self.now c.args.state c.args.symbol c.from_residual-in_err-get-2.result value grammar h

pub returns-clause-value : goal.returns-clause-value
returns-clause-value c =
    let at = read_is c.args.self.now.rows.items c.deref.result.now c.args.state (Some c.in_ok-get.field-0) c.deref.ensures.value c.in_ok-get.ensures.lookup in
    let to_at = read_is c.in_ok-get.field-0.now.gotos.items c.deref-2.result.now c.args.symbol (Some c.in_ok-get-2.field-0) c.deref-2.ensures.value c.in_ok-get-2.ensures.lookup in
    let value = goto_some c.args.self.now c.in_ok-get.field-0.now c.args.state c.args.symbol c.in_ok-get-2.field-0.now at to_at in
    value

pub returns-clause-exact : goal.returns-clause-exact
returns-clause-exact c = λ g grammar h.
    let at = read_is c.args.self.now.rows.items c.deref.result.now c.args.state (Some c.in_ok-get.field-0) c.deref.ensures.value c.in_ok-get.ensures.lookup in
    let to_at = read_is c.in_ok-get.field-0.now.gotos.items c.deref-2.result.now c.args.symbol (Some c.in_ok-get-2.field-0) c.deref-2.ensures.value c.in_ok-get-2.ensures.lookup in
    let value = goto_some c.args.self.now c.in_ok-get.field-0.now c.args.state c.args.symbol c.in_ok-get-2.field-0.now at to_at in
    goto_exact g c.args.self.now c.args.state c.args.symbol c.in_ok-get-2.field-0.now value grammar h
