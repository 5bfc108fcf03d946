-- A stack as a list, the top first.
use Rattle.std.specs.Prelude.{ℕ, List, [], ◌∷◌, map, Option}
use Rattle.sc_base.specs.declared.id.TreeId.{TreeId}

-- a state above the lowest, and the tree of its symbol where it has one
pub record Entry : Type 0 where
  pub state : ℕ
  pub value : Option TreeId

-- the state on top; the lowest is 0
abbrev pub state_of : List Entry → ℕ
state_of [] = 0
state_of (entry ∷ entries) = entry.state

abbrev pub states_of : List Entry → List ℕ
states_of entries = map (λ (entry : Entry). entry.state) entries

abbrev pub values_of : List Entry → List (Option TreeId)
values_of entries = map (λ (entry : Entry). entry.value) entries

-- the stack with another state on top
abbrev pub with_state : ℕ → List Entry → List Entry
with_state state [] = []
with_state state (entry ∷ entries) = record { state = state; value = entry.value } ∷ entries
