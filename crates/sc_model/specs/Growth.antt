-- Stores that only grow: what an id stands for stays.
use Rattle.std.specs.Prelude.{◌≡◌, ℕ, ◌<◌, ◌≤◌, List, length, slice_get, Some}

-- the new list begins with the old one
pub record Extends {A : Type 0} (old new : List A) : Type 0 where
  pub kept : (i : ℕ) → i < length old → slice_get new i ≡ slice_get old i
  pub longer : length old ≤ length new

-- no item stands at two places
pub record IsOneToOne {A : Type 0} (xs : List A) : Type 0 where
  pub same : (i j : ℕ) (x : A) → slice_get xs i ≡ Some x → slice_get xs j ≡ Some x → i ≡ j
