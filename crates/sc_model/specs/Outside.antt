-- The outside of the program: files that are read, and pieces that are written.
use Rattle.std.specs.Prelude.{◌≡◌, ℕ, ◌-◌, ◌^◌, ◌<◌, ◌⊎◌, Bool, true, false, List, [], ◌∷◌, ◌++◌, map, Option, Some, None}

-- what a source holds: the bytes at each name
abbrev pub Files : Type 0
Files = List ℕ → Option (List ℕ)

-- the most bytes that a file may have: 16 MiB
abbrev pub largest_file : ℕ
largest_file = 16777216

-- a count of faults rose, or stands at its last value
abbrev pub Rose : ℕ → ℕ → Type 0
Rose old new = (old < new) ⊎ (new ≡ 2 ^ 64 - 1)

-- one call that writes: the bytes that were taken, and whether they are the whole piece
pub record Write : Type 0 where
  pub bytes : List ℕ
  pub whole : Bool

abbrev pub whole_write : List ℕ → Write
whole_write piece = record { bytes = piece; whole = true }

-- after these writes, where the sink tells
abbrev pub Writes : Option (List Write) → Option (List Write) → List Write → Type 0
Writes None None more = Unit {0}
Writes (Some old) (Some new) more = new ≡ old ++ more
Writes None (Some new) more = ⊥
Writes (Some old) None more = ⊥

-- a piece that was cut: nothing is noted, or one write of a prefix of it
pub data IsCut (piece : List ℕ) : List Write → Type 0 where
  nothing : IsCut piece []
  prefix : (done rest : List ℕ) → piece ≡ done ++ rest → IsCut piece (record { bytes = done; whole = false } ∷ [])

-- the pieces up to one, each whole, that one cut, and nothing after it
pub record WritesPart (old new : Option (List Write)) (pieces : List (List ℕ)) : Type 0 where
  pub done : List (List ℕ)
  pub part : List ℕ
  pub rest : List (List ℕ)
  pub end : List Write
  pub begins : pieces ≡ done ++ part ∷ rest
  pub broken : IsCut part end
  pub writes : Writes old new (map whole_write done ++ end)
