-- Words of 64 marks, one for each node of a graph.
use Rattle.std.specs.Prelude.{◌≡◌, ◌↔◌, ◌≤◌, ◌<◌, ◌+◌, ◌-◌, ◌^◌, ◌⊎◌, ℕ, List, length, slice_get, slice_index, Some, Vec}
use Rattle.std.specs.Int.{bit_at}
use Rattle.std.specs.List.{Contains, sum_by}
use Rattle.std.specs.declared.alloc.Global.{Global}
use Rattle.sc_items.specs.Reach.{Edge}

-- mark b of the node is set
abbrev pub HasMark : List ℕ → ℕ → ℕ → Type 0
HasMark words b v = bit_at (slice_index words v) b ≡ 1

-- a chain of edges leads to the node from one that has the mark
pub data Spreads (edges : List (Vec ℕ Global)) (words : List ℕ) (b : ℕ) : ℕ → Type 0 where
  start : (v : ℕ) → HasMark words b v → Spreads edges words b v
  step : (u v : ℕ) → Spreads edges words b u → Edge edges u v → Spreads edges words b v

-- each node has the marks of all nodes from which it can be reached
pub record IsSpread (edges : List (Vec ℕ Global)) (old new : List ℕ) : Type 0 where
  pub long : length new ≡ length old
  pub sound : (b v : ℕ) → HasMark new b v → Spreads edges old b v
  pub complete : (b v : ℕ) → Spreads edges old b v → HasMark new b v

-- these nodes got the marks of the word
pub record IsGiven (old new nodes : List ℕ) (word : ℕ) : Type 0 where
  pub long : length new ≡ length old
  pub each : (b v : ℕ) → HasMark new b v ↔ HasMark old b v ⊎ (Contains nodes v × (bit_at word b ≡ 1))

-- what can be added to a word
abbrev pub room : ℕ → ℕ
room word = 2 ^ 64 - word

-- The nodes got the marks of the word, and those to which they were new now wait behind the ones
-- that waited.
pub record IsPassed (old new waiting now nodes : List ℕ) (word : ℕ) : Type 0 where
  pub given : IsGiven old new nodes word
  pub waits : (v : ℕ) → Contains waiting v → Contains now v
  pub from : (v : ℕ) → Contains now v → Contains waiting v ⊎ Contains nodes v
  pub others : (v : ℕ) → (slice_index new v ≡ slice_index old v) ⊎ Contains now v
  pub left : sum_by room new + length now ≤ sum_by room old + length waiting

-- of the symbols each of the 64 from this one on has a mark of its own
pub record HaveOwnMarks (from : ℕ) (words : List ℕ) : Type 0 where
  pub each : (x word : ℕ) → slice_get words x ≡ Some word → (b : ℕ) → b < 64 → (bit_at word b ≡ 1) ↔ (x ≡ from + b)
