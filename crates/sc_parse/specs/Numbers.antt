-- Numbers of subparsers, and what becomes of the subparsers that have them.
use Rattle.std.specs.Prelude.{◌≡◌, ◌≤◌, ◌+◌, ◌==◌, ℕ, List, [], ◌∷◌, slice_get, Option, None, Some, All, AllPairs, if◌then◌else◌}
use Rattle.std.specs.List.{Contains}
use Rattle.lr_tables.specs.declared.grammar.Action.TheVariants.{Reduce}
use Rattle.sc_fork.specs.declared.source.Source.{Source}
use Rattle.sc_fork.specs.Enabled.{Has}
use Rattle.sc_fork.specs.Seen.{action_in}
use Rattle.sc_merge.specs.declared.subparser.Phase.TheVariants.{At, Between}
use Rattle.sc_merge.specs.declared.subparser.Subparser.{Subparser}
use Rattle.sc_merge.specs.Keys.{AreAlike}

-- the number, where there is one
abbrev pub given : Option ℕ → List ℕ
given None = []
given (Some n) = n ∷ []

-- how often the number is in the list
abbrev pub times : ℕ → List ℕ → ℕ
times n [] = 0
times n (m ∷ ms) = (if n == m then 1 else 0) + times n ms

abbrev pub one_for : Option (Option Subparser) → ℕ
one_for (Some (Some s)) = 1
one_for _ = 0

-- 1 where a subparser has the number, or 0
abbrev pub filled_at : List (Option Subparser) → ℕ → ℕ
filled_at rows n = one_for (slice_get rows n)

-- each number is that of a subparser, and none is there twice
pub record AreNumbers (rows : List (Option Subparser)) (numbers : List ℕ) : Type 0 where
  pub once : (n : ℕ) → times n numbers ≤ filled_at rows n

-- These subparsers are gone and those have come. All others have kept their numbers.
pub record Replaces (old new : List (Option Subparser)) (gone made : List ℕ) : Type 0 where
  pub counts : (n : ℕ) → filled_at new n + times n gone ≡ filled_at old n + times n made
  pub kept : (n : ℕ) (s : Subparser) → Has old n s → times n gone ≡ 0 → Has new n s

-- each number is that of a subparser of which the statement holds
abbrev pub Each : (Subparser → Type 0) → List (Option Subparser) → List ℕ → Type 0
Each P rows numbers = All (λ n. (s : Subparser) × (Has rows n s × P s)) numbers

-- the element comes next, or the end
abbrev pub IsAt : ℕ → Subparser → Type 0
IsAt j s = s.phase ≡ At j

-- it comes next, and the subparser's action there is no reduction
pub record IsReady (source : Source) (j : ℕ) (s : Subparser) : Type 0 where
  pub at : IsAt j s
  pub shifts : (p : ℕ) → action_in source s j ≡ Some (Reduce p) → ⊥

-- the elements before this one are done
abbrev pub IsBetween : ℕ → Subparser → Type 0
IsBetween i s = s.phase ≡ Between i

-- no two of the subparsers are alike
abbrev pub AreApart : List (Option Subparser) → List ℕ → Type 0
AreApart rows numbers = AllPairs (λ n m. (s t : Subparser) → Has rows n s → Has rows m t → AreAlike s t → ⊥) numbers

-- the new subparser is like one of the old ones
pub record IsLikeOne (old : List (Option Subparser)) (others : List ℕ) (new : List (Option Subparser)) (number : ℕ) : Type 0 where
  pub other : ℕ
  pub member : Contains others other
  pub now : Subparser
  pub has : Has new number now
  pub alike : (before : Subparser) → Has old other before → AreAlike before now

-- each of the new subparsers is like one of the old ones
abbrev pub AreLike : List (Option Subparser) → List ℕ → List (Option Subparser) → List ℕ → Type 0
AreLike old others new numbers = All (IsLikeOne old others new) numbers
