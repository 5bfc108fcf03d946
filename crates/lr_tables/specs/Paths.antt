-- Stacks of states as paths of gotos, and what a reduction finds on them.
use Rattle.std.specs.Prelude.{◌≡◌, ℕ, suc, ◌+◌, ◌-◌, ◌<◌, ◌≤◌, List, [], ◌∷◌, length, drop, slice_get, Some}
use Rattle.lr_tables.specs.Grammar.{after, begun, Ends, IsStart}
use Rattle.lr_tables.specs.Tables.{IsGoto}
use Rattle.lr_tables.specs.declared.grammar.Grammar.{Grammar}

-- the state on top of a stack, which stands above state 0
abbrev pub top : List ℕ → ℕ
top [] = 0
top (state ∷ stack) = state

-- Each state of the stack is the goto of the one below it by its symbol. The top comes first.
pub data Path (g : Grammar) (states : List (List ℕ)) : List ℕ → List ℕ → Type 0 where
  lowest : Path g states [] []
  above : (t x : ℕ) (stack symbols : List ℕ) → IsGoto g states (top stack) x t → Path g states stack symbols
      → Path g states (t ∷ stack) (x ∷ symbols)

-- the left sides of productions 1 and 2 stand on no right side
pub record StartsApart (g : Grammar) : Type 0 where
  pub apart : (i j x : ℕ) → IsStart g j → begun g j ≡ Some x → after g i ≡ Some x → ⊥

-- What a reduction by production p finds: its right side on top of the stack, and below it a state
-- that has a goto by its left side.
pub record Reduces (g : Grammar) (states : List (List ℕ)) (stack symbols : List ℕ) (p : ℕ) : Type 0 where
  pub first : ℕ
  pub size : ℕ
  pub left : ℕ
  pub begins : begun g first ≡ Some left
  pub ends : Ends g (first + size) p
  pub some : 0 < size
  pub high : size ≤ length stack
  pub on_top : (k : ℕ) → k < size → slice_get symbols k ≡ after g (first + size - suc k)
  pub goto : (t : ℕ) × IsGoto g states (top (drop size stack)) left t
