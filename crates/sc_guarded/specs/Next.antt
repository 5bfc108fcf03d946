-- The next item of each configuration.
use Rattle.std.specs.Prelude.{ℕ, ◌<◌, List, All, AllPairs}
use Rattle.std.specs.List.{position_or_len}
use Rattle.sc_base.specs.declared.id.Cond.{Cond}
use Rattle.sc_model.specs.Sets.{Sets, IsCond, IsNever}

-- the index of the first item whose condition has the configuration, or the length
abbrev pub next_at : {T : Type 0} → Sets → List (Cond × T) → List ℕ → ℕ
next_at s items config = position_or_len (λ item. s.has item.0.0 config) items

-- parts that some configuration has, with rising indices below a bound
pub record ArePartsBelow (s : Sets) (bound : ℕ) (parts : List (Cond × ℕ)) : Type 0 where
  pub own : All (λ part. IsCond s part.0.0) parts
  pub some : All (λ part. IsNever s part.0.0 → ⊥) parts
  pub rising : AllPairs (λ a b. a.1 < b.1) parts
  pub below : All (λ part. part.1 < bound) parts
