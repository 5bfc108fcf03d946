-- The numbers of what has a hash, linked from the newest to the oldest of each slot.
use Rattle.std.specs.Prelude.{◌≡◌, ℕ, ◌-◌, ◌<◌, ◌≤◌, List, length, slice_index, bit_and}

-- the slot that a hash names
abbrev pub slot_in : ℕ → ℕ → ℕ
slot_in slots hash = bit_and hash (slots - 1)

-- the link, which is one more than a number, leads to the last number below the bound whose hash
-- names the slot, or there is none and it is 0
pub record IsLink (slots : ℕ) (hashes : List ℕ) (bound slot link : ℕ) : Type 0 where
  pub within : link ≤ bound
  pub own : 0 < link → slot_in slots (slice_index hashes (link - 1)) ≡ slot
  pub rest : (n : ℕ) → link ≤ n → n < bound → slot_in slots (slice_index hashes n) ≡ slot → ⊥

-- numbers with their hashes, the link of each to an older one, and of each slot to the newest
pub record Links : Type 0 where
  pub hashes : List ℕ
  pub older : List ℕ
  pub newest : List ℕ

abbrev pub links : List ℕ → List ℕ → List ℕ → Links
links hashes older newest = record { hashes = hashes; older = older; newest = newest }

-- each slot leads to its newest number, and each number to the next older one of its slot
pub record AreLinked (l : Links) : Type 0 where
  pub long : length l.older ≡ length l.hashes
  pub some : 0 < length l.hashes → 0 < length l.newest
  pub slots : (slot : ℕ) → slot < length l.newest → IsLink (length l.newest) l.hashes (length l.hashes) slot (slice_index l.newest slot)
  pub numbers : (n : ℕ) → n < length l.hashes → IsLink (length l.newest) l.hashes n (slot_in (length l.newest) (slice_index l.hashes n)) (slice_index l.older n)

-- the link leads to the last number below the bound whose hash names the slot of this hash, so no
-- number between has the hash
pub record IsCandidate (l : Links) (bound hash link : ℕ) : Type 0 where
  pub within : link ≤ bound
  pub own : 0 < link → slot_in (length l.newest) (slice_index l.hashes (link - 1)) ≡ slot_in (length l.newest) hash
  pub rest : (n : ℕ) → link ≤ n → n < bound → slice_index l.hashes n ≡ hash → ⊥
