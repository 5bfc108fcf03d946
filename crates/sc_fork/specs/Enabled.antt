-- Which events a core can do, and of what stands against one the first fact.
use Rattle.std.specs.Prelude.{◌≡◌, ℕ, List, Option, Some, length, slice_get}
use Rattle.lr_tables.specs.declared.grammar.Action.TheVariants.{Reduce}
use Rattle.sc_fork.specs.declared.enabled.Enabled as named
use Rattle.sc_fork.specs.declared.enabled.Enabled.{Enabled}
use Rattle.sc_fork.specs.declared.event.Event.{Event}
use Rattle.sc_fork.specs.declared.event.Event.TheVariants as event
use Rattle.sc_fork.specs.declared.event.Fact.{Fact}
use Rattle.sc_fork.specs.declared.event.Fact.TheVariants.{NoSuchSubparser, WrongPhase, ActionIsReduction, ActionIsNoReduction, SameSubparser, OtherPhase, OtherStates, OtherLevels}
use Rattle.sc_fork.specs.declared.source.Source.{Source}
use Rattle.sc_fork.specs.Seen.{action_in}
use Rattle.sc_merge.specs.declared.subparser.Phase.TheVariants.{Between, At, Named}
use Rattle.sc_merge.specs.declared.subparser.Subparser.{Subparser}
use Rattle.sc_merge.specs.Keys.{AreAlike}
use Rattle.sc_scope.specs.Seen.{levels_in}
use Rattle.sc_stack.specs.Entries.{states_of}

-- the subparser has the number
abbrev pub Has : List (Option Subparser) → ℕ → Subparser → Type 0
Has rows n s = slice_get rows n ≡ Some (Some s)

-- no subparser has it
abbrev pub HasNone : List (Option Subparser) → ℕ → Type 0
HasNone rows n = (s : Subparser) → Has rows n s → ⊥

-- it has the number, and looks at this element
pub record LooksAt (rows : List (Option Subparser)) (n : ℕ) (s : Subparser) (j : ℕ) : Type 0 where
  pub has : Has rows n s
  pub phase : s.phase ≡ At j

pub data IsMissing (rows : List (Option Subparser)) (n : ℕ) : Fact → Type 0 where
  missing : HasNone rows n → IsMissing rows n NoSuchSubparser

pub data IsNotLooking (rows : List (Option Subparser)) (n : ℕ) : Fact → Type 0 where
  none_looks : HasNone rows n → IsNotLooking rows n NoSuchSubparser
  other_phase : (s : Subparser) → Has rows n s → ((j : ℕ) → s.phase ≡ At j → ⊥) → IsNotLooking rows n WrongPhase

pub data IsEnabled (source : Source) (rows : List (Option Subparser)) : Event → Enabled → Type 0 where
  can_split : (n i : ℕ) (s : Subparser) → Has rows n s → s.phase ≡ Between i → IsEnabled source rows (event.Split n) (named.TheVariants.Split s i)
  can_reduce : (n j p : ℕ) (s : Subparser) → Has rows n s → s.phase ≡ At j → action_in source s j ≡ Some (Reduce p)
      → IsEnabled source rows (event.Reduce n) (named.TheVariants.Reduce s j p)
  can_shift : (n j : ℕ) (s : Subparser) → Has rows n s → s.phase ≡ At j → ((p : ℕ) → action_in source s j ≡ Some (Reduce p) → ⊥)
      → IsEnabled source rows (event.Shift n) (named.TheVariants.Shift s j)
  can_classify : (n j : ℕ) (s : Subparser) → Has rows n s → s.phase ≡ Named j → IsEnabled source rows (event.Classify n) (named.TheVariants.Classify s j)
  can_merge : (n m : ℕ) (s t : Subparser) → Has rows n s → Has rows m t → (n ≡ m → ⊥) → AreAlike s t
      → IsEnabled source rows (event.Merge n m) (named.TheVariants.Merge s t)

pub data IsRefused (source : Source) (rows : List (Option Subparser)) : Event → Fact → Type 0 where
  none_to_split : (n : ℕ) → HasNone rows n → IsRefused source rows (event.Split n) NoSuchSubparser
  none_to_reduce : (n : ℕ) → HasNone rows n → IsRefused source rows (event.Reduce n) NoSuchSubparser
  none_to_shift : (n : ℕ) → HasNone rows n → IsRefused source rows (event.Shift n) NoSuchSubparser
  none_to_classify : (n : ℕ) → HasNone rows n → IsRefused source rows (event.Classify n) NoSuchSubparser
  none_to_merge : (n m : ℕ) → HasNone rows n → IsRefused source rows (event.Merge n m) NoSuchSubparser
  none_to_merge_with : (n m : ℕ) → HasNone rows m → IsRefused source rows (event.Merge n m) NoSuchSubparser
  not_between : (n : ℕ) (s : Subparser) → Has rows n s → ((i : ℕ) → s.phase ≡ Between i → ⊥) → IsRefused source rows (event.Split n) WrongPhase
  no_lookahead_to_reduce : (n : ℕ) (s : Subparser) → Has rows n s → ((j : ℕ) → s.phase ≡ At j → ⊥) → IsRefused source rows (event.Reduce n) WrongPhase
  no_lookahead_to_shift : (n : ℕ) (s : Subparser) → Has rows n s → ((j : ℕ) → s.phase ≡ At j → ⊥) → IsRefused source rows (event.Shift n) WrongPhase
  not_named : (n : ℕ) (s : Subparser) → Has rows n s → ((j : ℕ) → s.phase ≡ Named j → ⊥) → IsRefused source rows (event.Classify n) WrongPhase
  no_reduction : (n j : ℕ) (s : Subparser) → Has rows n s → s.phase ≡ At j → ((p : ℕ) → action_in source s j ≡ Some (Reduce p) → ⊥)
      → IsRefused source rows (event.Reduce n) ActionIsNoReduction
  reduction : (n j p : ℕ) (s : Subparser) → Has rows n s → s.phase ≡ At j → action_in source s j ≡ Some (Reduce p)
      → IsRefused source rows (event.Shift n) ActionIsReduction
  same : (n : ℕ) (s : Subparser) → Has rows n s → IsRefused source rows (event.Merge n n) SameSubparser
  other_phase : (n m : ℕ) (s t : Subparser) → Has rows n s → Has rows m t → (n ≡ m → ⊥) → (t.phase ≡ s.phase → ⊥)
      → IsRefused source rows (event.Merge n m) OtherPhase
  other_states : (n m : ℕ) (s t : Subparser) → Has rows n s → Has rows m t → (n ≡ m → ⊥) → t.phase ≡ s.phase → (states_of t.stack ≡ states_of s.stack → ⊥)
      → IsRefused source rows (event.Merge n m) OtherStates
  other_levels : (n m : ℕ) (s t : Subparser) → Has rows n s → Has rows m t → (n ≡ m → ⊥) → t.phase ≡ s.phase → states_of t.stack ≡ states_of s.stack
      → (length (levels_in t.scopes) ≡ length (levels_in s.scopes) → ⊥) → IsRefused source rows (event.Merge n m) OtherLevels
