-- A core as the code keeps it, as it is seen.
use Rattle.std.specs.Prelude.{◌≡◌, ℕ, ◌-◌, List, [], ◌∷◌, length, Option, Some, None, All, false}
use Rattle.std.specs.List.{range_with_len}
use Rattle.c11_parsing.specs.Classes.{Input}
use Rattle.c11_parsing.specs.Core as core
use Rattle.c11_parsing.specs.Core.{CoreStep, Has, IsStart}
use Rattle.sc_base.specs.declared.id.Cond.{Cond}
use Rattle.sc_fork.specs.View.{View}
use Rattle.sc_fork.specs.declared.event.Event.{Event}
use Rattle.sc_fork.specs.declared.event.Event.TheVariants.{Split, Reduce, Shift, Classify, Merge}
use Rattle.sc_fork.specs.declared.piece.Ended.{Ended}
use Rattle.sc_fork.specs.Seen.{IsInput, IsSeen, IsOver}
use Rattle.sc_merge.specs.declared.subparser.Subparser.{Subparser}
use Rattle.sc_tree.specs.Reads.{Tables}

abbrev pub event_of : Event → core.Event
event_of (Split p) = core.split p
event_of (Reduce p) = core.reduce p
event_of (Shift p) = core.shift p
event_of (Classify p) = core.classify p
event_of (Merge p q) = core.merge p q

-- a row for each number that was given, empty where its subparser is gone
pub data AreRows (w : Tables) (input : Input) : List (Option Subparser) → List (Option core.Subparser) → Type 0 where
  no_rows : AreRows w input [] []
  empty_row : (rows : List (Option Subparser)) (others : List (Option core.Subparser)) → AreRows w input rows others → AreRows w input (None ∷ rows) (None ∷ others)
  full_row : (s : Subparser) (t : core.Subparser) (rows : List (Option Subparser)) (others : List (Option core.Subparser)) → IsSeen w input s t → AreRows w input rows others
      → AreRows w input (Some s ∷ rows) (Some t ∷ others)

pub data AreOver (w : Tables) (input : Input) : List Ended → List core.Ended → Type 0 where
  none_over : AreOver w input [] []
  more_over : (e : Ended) (f : core.Ended) (es : List Ended) (fs : List core.Ended) → IsOver w input e f → AreOver w input es fs → AreOver w input (e ∷ es) (f ∷ fs)

-- the core is seen so
pub record IsCore (w : Tables) (input : Input) (c : View) (d : core.Core) : Type 0 where
  pub source : IsInput w c.source input
  pub rows : AreRows w input c.subparsers d.rows
  pub ended : AreOver w input c.ended d.ended

-- no subparser is left, and the core is not given up
pub record IsFinished (c : View) : Type 0 where
  pub rows : All (λ (row : Option Subparser). row ≡ None) c.subparsers
  pub usable : c.is_given_up ≡ false

-- The core does this event, and the numbers are those of its new subparsers.
pub record IsApplied (w v : Tables) (input : Input) (before : View) (event : Event) (after : View) (made : List ℕ) (seen : core.Core) : Type 0 where
  pub next : core.Core
  pub step : CoreStep input seen (event_of event) next
  pub seen_after : IsCore v input after next
  pub numbers : made ≡ range_with_len (length before.subparsers) (length after.subparsers - length before.subparsers)

-- the core is at its start, as each input that is this list is seen
pub record Starts (w : Tables) (started : View) (live : Cond) : Type 0 where
  pub seen : (input : Input) → IsInput w started.source input → Has input input.live (w.sets.has live.0) → (d : core.Core) × (IsStart input d × IsCore w input started d)
