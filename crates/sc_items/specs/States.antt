-- The states as the code keeps them.
use Rattle.std.specs.Prelude.{◌≡◌, ◌↔◌, ◌+◌, ℕ, Bool, false, List, length, slice_get, Option, Some, option_and_then, IsTrue}
use Rattle.std.specs.Option.{option_map_or}
use Rattle.lr_tables.specs.Tables.{Closure, IsStates}
use Rattle.lr_tables.specs.declared.grammar.Grammar.{Grammar}
use Rattle.sc_items.specs.declared.automaton.State.{State}
use Rattle.sc_items.specs.declared.automaton.States.{States}
use Rattle.sc_items.specs.Reach.{marked}
use Rattle.sc_items.specs.Kernel.{IsListOf, lists}
use Rattle.sc_items.specs.Found.{IsGotoRow}

-- the items and the gotos are those of state s
pub record IsState (g : Grammar) (states : List (List ℕ)) (s : ℕ) (state : State) : Type 0 where
  pub kernel : List ℕ
  pub kernel_at : slice_get states s ≡ Some kernel
  pub long : length state.items.items ≡ length g.entries.now
  pub items : (i : ℕ) → IsTrue (marked state.items.items i) ↔ Closure g kernel i
  pub members : IsListOf (length g.entries.now) (Closure g kernel) state.members.items
  pub gotos : IsGotoRow g states s kernel state.gotos.items (g.terminals + g.nonterminals)

-- the kernels of the states
abbrev pub kernels_of : States → List (List ℕ)
kernels_of states = lists states.kernels.keys

-- these are the LR(0) states of the grammar
pub record AreStates (g : Grammar) (states : States) : Type 0 where
  pub exact : IsStates g (kernels_of states)
  pub long : length states.rows.items ≡ length (kernels_of states)
  pub each : (s : ℕ) (state : State) → slice_get states.rows.items s ≡ Some state → IsState g (kernels_of states) s state

-- the item stands in the state
pub record HasItem (g : Grammar) (states : List (List ℕ)) (s i : ℕ) : Type 0 where
  pub kernel : List ℕ
  pub kernel_at : slice_get states s ≡ Some kernel
  pub within : Closure g kernel i

-- whether the state is kept with the item
abbrev pub has_item : States → ℕ → ℕ → Bool
has_item states s i = option_map_or (λ (state : State). marked state.items.items i) (slice_get states.rows.items s) false

-- the state that is kept as the goto
abbrev pub goto_of : States → ℕ → ℕ → Option ℕ
goto_of states s x = option_and_then (λ (state : State). option_and_then (λ (to : Option ℕ). to) (slice_get state.gotos.items x)) (slice_get states.rows.items s)
