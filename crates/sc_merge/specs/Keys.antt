-- What two subparsers that can be merged have in common.
use Rattle.std.specs.Prelude.{◌≡◌, ℕ, List, ◌∷◌, length}
use Rattle.sc_merge.specs.declared.keys.Key.{Key}
use Rattle.sc_merge.specs.declared.subparser.Phase.{Phase}
use Rattle.sc_merge.specs.declared.subparser.Phase.TheVariants.{Between, At, Named}
use Rattle.sc_merge.specs.declared.subparser.Subparser.{Subparser}
use Rattle.sc_scope.specs.Seen.{levels_in}
use Rattle.sc_stack.specs.Entries.{states_of}

-- the phases as numbers
abbrev pub before_phase : Phase → List ℕ → List ℕ
before_phase (Between i) numbers = 0 ∷ (i ∷ numbers)
before_phase (At i) numbers = 1 ∷ (i ∷ numbers)
before_phase (Named i) numbers = 2 ∷ (i ∷ numbers)

-- keys are compared as these numbers
abbrev pub numbers_of : Key → List ℕ
numbers_of key = before_phase key.phase (key.levels ∷ states_of key.stack.now)

-- the key of the subparser
pub record IsKeyOf (key : Key) (s : Subparser) : Type 0 where
  pub phase : key.phase ≡ s.phase
  pub states : states_of key.stack.now ≡ states_of s.stack
  pub levels : key.levels ≡ length (levels_in s.scopes)

-- the subparsers are in one phase, with the same states and with as many levels
pub record AreAlike (s t : Subparser) : Type 0 where
  pub phase : t.phase ≡ s.phase
  pub states : states_of t.stack ≡ states_of s.stack
  pub levels : length (levels_in t.scopes) ≡ length (levels_in s.scopes)
