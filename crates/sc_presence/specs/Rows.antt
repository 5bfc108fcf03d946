-- Rows: a truth value for each configuration, in order.
use Rattle.std.specs.Prelude.{◌≡◌, ◌≢◌, ℕ, ◌%◌, ◌<◌, ◌≤◌, Bool, false, List, length, slice_index_or}
use Rattle.sc_model.specs.Sets.{Sets, IsConfig}
use Rattle.sc_presence.specs.Rank.{rank, strides_of}

-- the value at place i
abbrev pub value_at : List Bool → ℕ → Bool
value_at row i = slice_index_or row i false

-- not all blocks of this length are like the first
pub record Varies (block : ℕ) (row : List Bool) : Type 0 where
  pub place : ℕ
  pub within : place < length row
  pub differs : value_at row place ≢ value_at row (place % block)

-- all blocks of this length are like the first
pub record Repeats (block : ℕ) (row : List Bool) : Type 0 where
  pub alike : (place : ℕ) → block ≤ place → place < length row → value_at row place ≡ value_at row (place % block)

-- the row has the value of the condition at each configuration
pub record IsRowOf (s : Sets) (a : ℕ) (arities : List ℕ) (row : List Bool) : Type 0 where
  pub over : s.arities ≡ arities
  pub at : (c : List ℕ) → IsConfig arities c → s.has a c ≡ value_at row (rank (strides_of arities) c)
