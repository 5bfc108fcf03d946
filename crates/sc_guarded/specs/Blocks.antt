-- The block of an item: the items from it on, up to the first one that doesn't lie within it.
use Rattle.std.specs.Prelude.{◌≡◌, ℕ, ◌-◌, ◌<◌, ◌≤◌, ◌&&◌, nat_le, Bool, true, List, length, map, slice_index}
use Rattle.std.specs.List.{filter, list_all, list_any, range_with_len}
use Rattle.sc_base.specs.declared.id.Cond.{Cond}
use Rattle.sc_model.specs.Sets.{Sets, IsConfig}

-- the condition of the item of an index
abbrev pub cond_at : {T : Type 0} → List (Cond × T) → ℕ → ℕ
cond_at items i = slice_index (map (λ item. item.0.0) items) i

-- each configuration that a has, b has too
pub record LiesWithin (s : Sets) (a b : ℕ) : Type 0 where
  pub has : (c : List ℕ) → IsConfig s.arities c → s.has a c ≡ true → s.has b c ≡ true

-- the block of item i ends here
pub record IsBlock {T : Type 0} (s : Sets) (items : List (Cond × T)) (i end : ℕ) : Type 0 where
  pub behind : i < end
  pub most : end ≤ length items
  pub inside : (k : ℕ) → i ≤ k → k < end → LiesWithin s (cond_at items k) (cond_at items i)
  pub first : end < length items → LiesWithin s (cond_at items end) (cond_at items i) → ⊥

-- each block ends here
pub record AreBlocks {T : Type 0} (s : Sets) (items : List (Cond × T)) (ends : List ℕ) : Type 0 where
  pub long : length ends ≡ length items
  pub each : (i : ℕ) → i < length items → IsBlock s items i (slice_index ends i)

-- item i stands in no block of an item from `from` on before it
abbrev pub is_outside : List ℕ → ℕ → ℕ → Bool
is_outside ends from i = list_all (λ g. nat_le (slice_index ends g) i) (range_with_len from (i - from))

-- the items from `from` on, up to the last of these parts, that stand in no block of such an item
-- before them
abbrev pub heads : List ℕ → ℕ → List (Cond × ℕ) → List ℕ
heads ends from parts = filter (λ i. list_any (λ part. nat_le i part.1) parts && is_outside ends from i) (range_with_len from (length ends - from))
