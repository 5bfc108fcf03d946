-- How a diagram grows, and which of its nodes a node leads to.
use Rattle.std.specs.Prelude.{◌≡◌, ℕ, ◌<◌, ◌≤◌, List, length, slice_get, slice_index, Some}
use Rattle.sc_model.specs.Growth.{Extends}
use Rattle.sc_diagram.specs.Diagram.{Diagram, IsDiagram, branch, branch_of, child_of}

-- each node that was there is there still
pub record Grows (old new : Diagram) : Type 0 where
  pub was : IsDiagram old
  pub valid : IsDiagram new
  pub arities : new.arities ≡ old.arities
  pub extends : Extends old.nodes new.nodes

-- the second node is one of the diagram of the first
pub data Reaches (d : Diagram) : ℕ → ℕ → Type 0 where
  here : (n : ℕ) → Reaches d n n
  below : (n m k : ℕ) → k < length (branch_of d n).children → Reaches d (child_of d n k) m → Reaches d n m

-- each node that was added is one of the diagram of r
pub record AddsOnly (old new : Diagram) (r : ℕ) : Type 0 where
  pub each : (n : ℕ) → length old.nodes ≤ n → n < length new.nodes → Reaches new r n

-- each node that was added is one of the diagram of one of these
pub record AddsBelow (old new : Diagram) (tops : List ℕ) : Type 0 where
  pub each : (n : ℕ) → length old.nodes ≤ n → n < length new.nodes → record { place : ℕ; within : place < length tops; reaches : Reaches new (slice_index tops place) n }

-- r stands for the choice of a child by a variable: it is the one child that there is, or the node
-- with these children
pub data IsChoice (d : Diagram) (r variable : ℕ) (children : List ℕ) : Type 0 where
  only : ((k : ℕ) → k < length children → slice_index children k ≡ r) → IsChoice d r variable children
  decides : slice_get d.nodes r ≡ Some (branch variable children) → IsChoice d r variable children
