-- Conditions: sets of configurations, seen through the test whether they have one.
use Rattle.std.specs.Prelude.{◌≡◌, ℕ, ◌*◌, ◌<◌, Bool, true, false, List, [], ◌∷◌, length, slice_index, slice_set}

-- How many options each variable has, how many conditions were made, and which configurations each
-- has. A configuration is a list with one option index for each variable.
pub record Sets : Type 0 where
  pub arities : List ℕ
  pub count : ℕ
  pub has : ℕ → List ℕ → Bool

-- one option in range for each variable
pub record IsConfig (arities config : List ℕ) : Type 0 where
  pub long : length config ≡ length arities
  pub each : (v : ℕ) → v < length arities → slice_index config v < slice_index arities v

-- each variable has an option
pub record HasOptions (arities : List ℕ) : Type 0 where
  pub each : (v : ℕ) → v < length arities → 0 < slice_index arities v

-- how many configurations there are
abbrev pub config_count : List ℕ → ℕ
config_count [] = 1
config_count (arity ∷ arities) = arity * config_count arities

-- the condition was made by this store
pub record IsCond (s : Sets) (a : ℕ) : Type 0 where
  pub made : a < s.count

-- the condition has exactly the configurations that pass the test
pub record Denotes (s : Sets) (a : ℕ) (f : List ℕ → Bool) : Type 0 where
  pub own : IsCond s a
  pub at : (c : List ℕ) → IsConfig s.arities c → s.has a c ≡ f c

-- each condition that was made means what it meant
pub record Keeps (old new : Sets) : Type 0 where
  pub arities : new.arities ≡ old.arities
  pub own : (a : ℕ) → IsCond old a → IsCond new a
  pub at : (a : ℕ) (c : List ℕ) → IsCond old a → IsConfig old.arities c → new.has a c ≡ old.has a c

-- no configuration has it
pub record IsNever (s : Sets) (a : ℕ) : Type 0 where
  pub none : (c : List ℕ) → IsConfig s.arities c → s.has a c ≡ false

-- every configuration has it
pub record IsAlways (s : Sets) (a : ℕ) : Type 0 where
  pub all : (c : List ℕ) → IsConfig s.arities c → s.has a c ≡ true

-- two conditions with the same configurations
pub record IsSame (s : Sets) (a b : ℕ) : Type 0 where
  pub at : (c : List ℕ) → IsConfig s.arities c → s.has a c ≡ s.has b c

-- conditions with the same configurations are one
pub record IsCanonical (s : Sets) : Type 0 where
  pub one : (a b : ℕ) → IsCond s a → IsCond s b → IsSame s a b → a ≡ b

-- whether the condition has a configuration can change with the option of this variable alone
pub record DependsOn (s : Sets) (a v : ℕ) : Type 0 where
  pub config : List ℕ
  pub option : ℕ
  pub listed : IsConfig s.arities config
  pub within : v < length s.arities
  pub in_range : option < slice_index s.arities v
  pub changes : s.has a config ≡ s.has a (slice_set config v option) → ⊥

-- the condition depends on no variable before v
pub record DependsFrom (s : Sets) (a v : ℕ) : Type 0 where
  pub free : (u : ℕ) → u < v → DependsOn s a u → ⊥

-- v is the first variable on which the condition depends
pub record IsTop (s : Sets) (a v : ℕ) : Type 0 where
  pub depends : DependsOn s a v
  pub first : DependsFrom s a v
