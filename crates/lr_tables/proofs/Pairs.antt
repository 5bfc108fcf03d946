-- The order of the pairs of a state and a symbol, and of conflicts.
use Rattle.std.proofs.Common.{◌<◌, ◌≤◌, ◌⊎◌, ℕ, inl, inr, arith}
use Rattle.std.proofs.lemmas.Bool.{cases_lt}
use Rattle.lr_tables.specs.Tables.{Before, ConflictBefore}
use Rattle.lr_tables.specs.declared.grammar.Conflict.{Conflict}

-- what is not after a pair is before each pair that this one is before
pub before_from_least : (r y s x p z : ℕ) → (Before s x r y → ⊥) → Before s x p z → Before r y p z
before_from_least r y s x p z not b = go (cases_lt s r) (cases_lt r s) (cases_lt x y) b
  where
    go : (s < r) ⊎ (r ≤ s) → (r < s) ⊎ (s ≤ r) → (x < y) ⊎ (y ≤ x) → Before s x p z → Before r y p z
    go (inl a) other third b = absurd (not (inl a))
    go (inr a) (inl c) third (inl b) = inl (omega arith)
    go (inr a) (inl c) third (inr b) = inl (omega (arith, b.0))
    go (inr a) (inr c) (inl d) b = absurd (not (inr (omega arith, d)))
    go (inr a) (inr c) (inr d) (inl b) = inl (omega arith)
    go (inr a) (inr c) (inr d) (inr b) = inr (omega (arith, b.0), omega (arith, b.1))

pub before_or_not : (s x p z : ℕ) → (Before p z s x → ⊥) → (r y : ℕ) → Before r y s x → Before r y p z
before_or_not s x p z not r y b = go (cases_lt p s) (cases_lt s p) (cases_lt z x) b
  where
    go : (p < s) ⊎ (s ≤ p) → (s < p) ⊎ (p ≤ s) → (z < x) ⊎ (x ≤ z) → Before r y s x → Before r y p z
    go (inl a) other third b = absurd (not (inl a))
    go (inr a) (inl c) third (inl b) = inl (omega arith)
    go (inr a) (inl c) third (inr b) = inl (omega (arith, b.0))
    go (inr a) (inr c) (inl d) b = absurd (not (inr (omega arith, d)))
    go (inr a) (inr c) (inr d) (inl b) = inl (omega arith)
    go (inr a) (inr c) (inr d) (inr b) = inr (omega (arith, b.0), omega (arith, b.1))

pub before_cycle : (s x r y : ℕ) → Before s x r y → Before r y s x → ⊥
before_cycle s x r y (inl u) (inl v) = omega arith
before_cycle s x r y (inl u) (inr v) = omega (arith, v.0)
before_cycle s x r y (inr u) (inl v) = omega (arith, u.0)
before_cycle s x r y (inr u) (inr v) = omega (arith, u.1, v.1)

pub conflict_cycle : (c d : Conflict) → ConflictBefore c d → ConflictBefore d c → ⊥
conflict_cycle c d (inl u) (inl v) = before_cycle c.state c.terminal.0 d.state d.terminal.0 u v
conflict_cycle c d (inl (inl u)) (inr v) = omega (arith, u, v.0)
conflict_cycle c d (inl (inr u)) (inr v) = omega (arith, u.1, v.1)
conflict_cycle c d (inr u) (inl (inl v)) = omega (arith, u.0, v)
conflict_cycle c d (inr u) (inl (inr v)) = omega (arith, u.1, v.1)
conflict_cycle c d (inr u) (inr v) = omega (arith, u.2, v.2)
