-- What a turn of the expansion does at a configuration.
use Rattle.std.specs.Prelude.{◌≡◌, ◌≤◌, Bool, true, false, List, [], ◌∷◌, ◌++◌, length}
use Rattle.c11_macros.specs.Hidden.{Failure, Provenance}
use Rattle.c11_macros.specs.Macros.{Macros}
use Rattle.sc_base.specs.declared.place.Place.{Place}
use Rattle.sc_expand.specs.Open.{Waits}
use Rattle.sc_expand.specs.Plain.{Fails, Moves, State}
use Rattle.sc_expand.specs.Seen.{View, state_of}

-- how the turns of a configuration end before nothing is left: it is refused, or waits for what
-- follows the whole list
pub data End : Type 0 where
  fails : Failure Place → End
  waits : End

-- the failures of a configuration, and whether it waits
pub record Ends : Type 0 where
  pub failures : List (Failure Place)
  pub waiting : Bool

-- none, for a configuration that goes on
abbrev pub no_end : Ends
no_end = record { failures = []; waiting = false }

abbrev pub with_end : Ends → End → Ends
with_end ends (fails failure) = record ends { failures = ends.failures ++ failure ∷ [] }
with_end ends waits = record ends { waiting = true }

-- a configuration: whether it goes on, whether its frame on top is the whole list, what it has of
-- that frame, and how it ended
pub record At : Type 0 where
  pub live : Bool
  pub whole : Bool
  pub view : View
  pub ends : Ends

-- what follows the list doesn't decide what is next
abbrev pub IsDecided : Bool → Macros → State Place → Type 0
IsDecided whole macros s = whole ≡ true → Waits macros s → ⊥

-- The turns end in this state: it fails whatever follows the list, or waits for that.
pub data EndsBy (provenance : Provenance Place) (macros : Macros) (whole : Bool) (s : State Place) : End → Type 0 where
  refused : (failure : Failure Place) → Fails provenance macros s failure → IsDecided whole macros s → EndsBy provenance macros whole s (fails failure)
  held_up : whole ≡ true → Waits macros s → EndsBy provenance macros whole s waits

-- A configuration that takes part makes one step of the expansion or ends; another stays as it is.
pub data Turn (provenance : Provenance Place) (macros : Macros) (a b : At) : Bool → Type 0 where
  passed : b.live ≡ a.live → b.ends ≡ a.ends → (a.live ≡ true → b.view ≡ a.view) → Turn provenance macros a b false
  over : {takes : Bool} → a.live ≡ false → b.live ≡ false → b.ends ≡ a.ends → Turn provenance macros a b takes
  moved : a.live ≡ true → b.live ≡ true → b.ends ≡ a.ends → IsDecided a.whole macros (state_of a.view) → Moves provenance macros (state_of a.view) (state_of b.view)
      → length b.view.calls ≤ 1 → Turn provenance macros a b true
  ended : (end : End) → a.live ≡ true → b.live ≡ false → b.ends ≡ with_end a.ends end → EndsBy provenance macros a.whole (state_of a.view) end → Turn provenance macros a b true
