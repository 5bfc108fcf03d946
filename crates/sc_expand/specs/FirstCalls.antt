-- The call of the first token of a list, all tokens of which stand under one condition.
use Rattle.std.specs.Prelude.{◌≡◌, ℕ, zero, suc, ◌+◌, ◌<◌, List, [], ◌∷◌, length, map}
use Rattle.sc_base.specs.declared.id.Cond.{Cond}
use Rattle.sc_subst.specs.declared.hidden.Hidden.{Hidden}
use Rattle.sc_subst.specs.Groups.{IsParenthesized}

-- so many indexes from the first on
abbrev pub indexes_from : ℕ → ℕ → List ℕ
indexes_from first zero = []
indexes_from first (suc count) = first ∷ indexes_from (first + 1) count

-- the parenthesis of this index closes the one that stands behind the first token
pub record IsKnownCall (names : List (List ℕ)) (list : List (Cond × Hidden)) (cond : Cond) (close : ℕ) : Type 0 where
  pub tokens : List Hidden
  pub are : list ≡ map (λ t. (cond, t)) tokens
  pub within : close < length tokens
  pub is : IsParenthesized names tokens 1 close
