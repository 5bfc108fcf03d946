-- Which items of a list under conditions configurations have.
use Rattle.std.specs.Prelude.{◌≡◌, ℕ, ◌+◌, Bool, List, [], ◌∷◌, slice_get, Some, if◌then◌else◌}

-- the indexes, from this one on, of the items that the configuration has
abbrev pub indexes_from : {A : Type 0} → ℕ → List ((List ℕ → Bool) × A) → List ℕ → List ℕ
indexes_from i [] c = []
indexes_from i (item ∷ items) c = if item.0 c then i ∷ indexes_from (i + 1) items c else indexes_from (i + 1) items c

-- the n-th item that the one has, and the m-th that the other has, is one
abbrev pub HaveOneItem : {A : Type 0} → List ((List ℕ → Bool) × A) → (c d : List ℕ) (n m : ℕ) → Type 0
HaveOneItem items c d n m = (i : ℕ) × (slice_get (indexes_from 0 items c) n ≡ Some i) × (slice_get (indexes_from 0 items d) m ≡ Some i)
