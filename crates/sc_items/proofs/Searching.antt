-- The whole search.
use Rattle.std.proofs.Common.{◌≡◌, ◌<◌, ◌≤◌, ◌+◌, ◌⊎◌, ℕ, List, [], ◌∷◌, ◌++◌, length, slice_get, Vec, Some, sym, ap, ◌∙◌, subst, arith, inl, inr}
use Rattle.std.specs.declared.alloc.Global.{Global}
use Rattle.std.proofs.lemmas.List.{length_push}
use Rattle.std.proofs.lemmas.Option.{none-some}
use Rattle.lr_tables.specs.Grammar.{IsStart}
use Rattle.lr_tables.specs.declared.grammar.Grammar.{Grammar}
use Rattle.sc_items.specs.declared.automaton.State.{State}
use Rattle.sc_items.specs.declared.automaton.States.{States}
use Rattle.sc_model.specs.Growth.{Extends}
use Rattle.sc_base.proofs.Growth.{Extends-keeps}
use Rattle.sc_items.specs.Kernel.{IsListOf, IsNumbered, lists}
use Rattle.sc_items.specs.Found.{Found}
use Rattle.sc_items.specs.States.{IsState, AreStates, kernels_of}
use Rattle.sc_items.proofs.Finding.{Found-begin, IsStates-done}
use Rattle.sc_items.proofs.Exploring.{goto_keeps}
use Rattle.sc_items.proofs.Opening.{each-push, begun_within}

pub record Searched (g : Grammar) (states : List (List ℕ)) (rows : List State) : Type 0 where
  pub found : Found g states (length rows) 0
  pub each : (s : ℕ) (state : State) → slice_get rows s ≡ Some state → IsState g states s state
  pub within : length rows ≤ length states

state_keeps : (g : Grammar) (old new : List (List ℕ)) (s : ℕ) (state : State) → Extends old new → IsState g old s state → IsState g new s state
state_keeps g old new s state k h = record {
  kernel = h.kernel;
  kernel_at = Extends-keeps s h.kernel h.kernel_at k;
  long = h.long;
  items = h.items;
  members = h.members;
  gotos = record { long = h.gotos.long; some = λ y t at. goto_keeps g old new s y t k (h.gotos.some y t at); none = h.gotos.none };
}

pub Searched-begin : (g : Grammar) (old new : List (Vec ℕ Global)) (first : List ℕ) (number : ℕ) (rows : List State) → old ≡ [] → rows ≡ [] → IsListOf (length g.entries.now) (IsStart g) first → IsNumbered (lists old) (lists new) first number → Searched g (lists new) rows
Searched-begin g old new first number rows e f h n =
    let empty : lists old ≡ [] = ap lists e in
    let start : Found g (first ∷ []) 0 0 = Found-begin g first h.rising h.below (λ i. (h.sound i, λ s. h.complete i (starts_within i s) s)) in
    let only : lists new ≡ first ∷ [] = is_only n.grown empty in
    rw (f, only) (record { found = start; each = λ s state at. absurd (none-some state at); within = omega arith })
  where
    starts_within : (i : ℕ) → IsStart g i → i < length g.entries.now
    starts_within i s = begun_within g i s.symbol s.begins

    is_only : (lists new ≡ lists old) ⊎ ((lists new ≡ lists old ++ first ∷ []) × (number ≡ length (lists old)) × ((t : ℕ) → slice_get (lists old) t ≡ Some first → ⊥)) → lists old ≡ [] → lists new ≡ first ∷ []
    is_only (inl a) empty = absurd (none-some first (subst (λ zs. slice_get zs number ≡ Some first) (a ∙ empty) n.at))
    is_only (inr a) empty = a.0 ∙ ap (λ zs. zs ++ first ∷ []) empty

pub Searched-step : (g : Grammar) (old new : List (List ℕ)) (rows : List State) (state : State) (number : ℕ) → number ≡ length rows → length rows < length old → Searched g old rows → Found g new (number + 1) 0 → Extends old new → IsState g new number state → Searched g new (rows ++ state ∷ [])
Searched-step g old new rows state number e within h found keeps one = record {
  found = subst (λ n. Found g new n 0) (ap (λ n. n + 1) e ∙ sym (length_push rows state)) found;
  each = each-push (IsState g new) rows state number (sym e) (λ s other at. state_keeps g old new s other keeps (h.each s other at)) one;
  within = omega (arith, length_push rows state, keeps.longer);
}

pub Searched-done : (g : Grammar) (states : States) → length (kernels_of states) ≤ length states.rows.items → Searched g (kernels_of states) states.rows.items → AreStates g states
Searched-done g states all h = record {
  exact = IsStates-done g (kernels_of states) (length states.rows.items) all h.found;
  long = omega (arith, h.within);
  each = h.each;
}
