-- Calls that are to fail.
use Rattle.std.specs.Prelude.{◌≡◌, ℕ, ◌+◌, ◌-◌, ◌^◌, List, min}

-- the numbers of the calls that are to fail, how many calls there were, and how many faults
pub record Plan : Type 0 where
  pub failing : List ℕ
  pub calls : ℕ
  pub faults : ℕ

-- the next number of a count, which stands still at its last one
abbrev pub next : ℕ → ℕ
next count = min (count + 1) (2 ^ 64 - 1)

-- one more call was made, and the same calls are to fail
pub record Advances (old new : Plan) : Type 0 where
  pub failing : new.failing ≡ old.failing
  pub calls : new.calls ≡ next old.calls
