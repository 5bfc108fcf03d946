-- The states that a search has found so far.
use Rattle.std.specs.Prelude.{◌≡◌, ◌↔◌, ◌<◌, ℕ, List, [], length, slice_get, Option, Some, None}
use Rattle.std.specs.List.{Contains}
use Rattle.std.specs.List.Sorted.{IsStrictlyIncreasing}
use Rattle.sc_model.specs.Growth.{IsOneToOne}
use Rattle.lr_tables.specs.Grammar.{IsStart}
use Rattle.lr_tables.specs.Tables.{Moved, IsGoto, IsLeastPair, Before}
use Rattle.lr_tables.specs.declared.grammar.Grammar.{Grammar}
use Rattle.sc_items.specs.Kernel.{IsNumbered}

-- the least pair of a state is before this pair
pub record FoundAt (g : Grammar) (states : List (List ℕ)) (t s x : ℕ) : Type 0 where
  pub from : ℕ
  pub by : ℕ
  pub pair : IsLeastPair g states t from by
  pub before : Before from by s x

-- the gotos of all pairs before this one are among the states, and there are no others
pub record Found (g : Grammar) (states : List (List ℕ)) (s x : ℕ) : Type 0 where
  pub first : List ℕ
  pub first_at : slice_get states 0 ≡ Some first
  pub starts : (i : ℕ) → Contains first i ↔ IsStart g i
  pub rising : (r : ℕ) (kernel : List ℕ) → slice_get states r ≡ Some kernel → IsStrictlyIncreasing kernel
  pub within : (r i : ℕ) (kernel : List ℕ) → slice_get states r ≡ Some kernel → Contains kernel i → i < length g.entries.now
  pub different : IsOneToOne states
  pub closed : (r y m : ℕ) (kernel : List ℕ) → Before r y s x → slice_get states r ≡ Some kernel → Moved g kernel y m → (t : ℕ) × IsGoto g states r y t
  pub found : (t : ℕ) → 0 < t → t < length states → FoundAt g states t s x
  pub in_order : (t u r y p z : ℕ) → t < u → IsLeastPair g states t r y → IsLeastPair g states u p z → Before r y p z

-- the row has the gotos of a state by its first symbols
pub record IsGotoRow (g : Grammar) (states : List (List ℕ)) (s : ℕ) (kernel : List ℕ) (row : List (Option ℕ)) (n : ℕ) : Type 0 where
  pub long : length row ≡ n
  pub some : (y t : ℕ) → slice_get row y ≡ Some (Some t) → IsGoto g states s y t
  pub none : (y : ℕ) → slice_get row y ≡ Some None → (m : ℕ) → Moved g kernel y m → ⊥

-- what follows with this kernel got its number, or nothing follows
pub data IsStep (kernel : List ℕ) (old new : List (List ℕ)) : Option ℕ → Type 0 where
  nothing : new ≡ old → kernel ≡ [] → IsStep kernel old new None
  follows : (t : ℕ) → 0 < length kernel → IsNumbered old new kernel t → IsStep kernel old new (Some t)
