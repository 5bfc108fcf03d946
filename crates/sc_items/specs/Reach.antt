-- What can be reached along the edges of a graph.
use Rattle.std.specs.Prelude.{◌≡◌, ◌<◌, ℕ, Bool, false, List, length, slice_get, slice_index_or, count_by, not, ◌+◌, ◌⊎◌, Some, All, IsTrue, Vec}
use Rattle.std.specs.List.{Contains}
use Rattle.std.specs.declared.alloc.Global.{Global}

-- whether a node is marked
abbrev pub marked : List Bool → ℕ → Bool
marked marks node = slice_index_or marks node false

-- an edge leads from one node to the other
pub record Edge (edges : List (Vec ℕ Global)) (from to : ℕ) : Type 0 where
  pub row : Vec ℕ Global
  pub row_at : slice_get edges from ≡ Some row
  pub in_row : Contains row.items to

-- a chain of edges leads to the node from one of these
pub data Reaches (edges : List (Vec ℕ Global)) (starts : List ℕ) : ℕ → Type 0 where
  start : (node : ℕ) → Contains starts node → Reaches edges starts node
  step : (from to : ℕ) → Reaches edges starts from → Edge edges from to → Reaches edges starts to

-- the marks are those of the nodes that can be reached
pub record IsReached (edges : List (Vec ℕ Global)) (starts : List ℕ) (marks : List Bool) : Type 0 where
  pub sound : (node : ℕ) → IsTrue (marked marks node) → Reaches edges starts node
  pub complete : (node : ℕ) → Reaches edges starts node → IsTrue (marked marks node)

-- each edge leads to a node of the graph
pub record EdgesWithin (edges : List (Vec ℕ Global)) : Type 0 where
  pub within : All (λ row. All (λ node. node < length edges) row.items) edges

-- The nodes were marked, and those that were not marked before now wait behind the ones that
-- waited.
pub record Marks (old new : List Bool) (waiting now nodes : List ℕ) : Type 0 where
  pub long : length new ≡ length old
  pub kept : (v : ℕ) → IsTrue (marked old v) → IsTrue (marked new v)
  pub each : (v : ℕ) → Contains nodes v → IsTrue (marked new v)
  pub only : (v : ℕ) → IsTrue (marked new v) → IsTrue (marked old v) ⊎ (Contains nodes v × Contains now v)
  pub waits : (v : ℕ) → Contains waiting v → Contains now v
  pub from : (v : ℕ) → Contains now v → Contains waiting v ⊎ Contains nodes v
  pub left : count_by not new + length now ≡ count_by not old + length waiting
