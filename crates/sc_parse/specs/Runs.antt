-- The events of a core as a run of the parser of all configurations.
use Rattle.std.specs.Prelude.{◌≡◌, ◌<◌, ◌+◌, ℕ, true, false, List, ◌++◌, length, map, Option, Result, All}
use Rattle.c11_parsing.specs.Classes.{Input, class_of, left_from, project, IsLive}
use Rattle.c11_parsing.specs.Core as core
use Rattle.c11_parsing.specs.Core.{CoreRun, CoreStep, index_of, IsStart, Stands}
use Rattle.c11_parsing.specs.LR.{Run, answered, on, Reaches, start, step}
use Rattle.c11_parsing.specs.Trees.{Tree}
use Rattle.sc_fork.specs.Choices.{AddsLeaves, AreSound}
use Rattle.sc_fork.specs.declared.event.Event.{Event}
use Rattle.sc_fork.specs.declared.event.Event.TheVariants.{Split, Reduce, Shift, Classify, Merge}
use Rattle.sc_fork.specs.View.{View, states_in, depth_of}
use Rattle.sc_fork.specs.declared.piece.Ended.{Ended}
use Rattle.sc_fork.specs.Cores.{event_of, IsCore}
use Rattle.sc_fork.specs.Enabled.{Has}
use Rattle.sc_fork.specs.Owns.{OwnsCore}
use Rattle.sc_merge.specs.declared.subparser.Phase.TheVariants.{At}
use Rattle.sc_merge.specs.declared.subparser.Subparser.{Subparser}
use Rattle.sc_merge.specs.Merges.{tables_with}
use Rattle.sc_merge.specs.Phases.{phase_of}
use Rattle.sc_model.specs.Fault.{Fault}
use Rattle.sc_model.specs.Growth.{Extends}
use Rattle.sc_model.specs.Sets.{Sets, IsConfig, Keeps}
use Rattle.sc_parse.specs.declared.steps.Steps.{Steps}
use Rattle.sc_parse.specs.Numbers.{Each}
use Rattle.sc_tree.specs.Lines.{Line, OwnsBranches}
use Rattle.sc_tree.specs.Reads.{Tables}

-- the core is of these stores, and is not given up
pub record OwnsSteps (sets : Sets) (count : ℕ) (s : Steps) : Type 0 where
  pub core : OwnsCore sets count s.core
  pub usable : s.core.is_given_up ≡ false

-- the events lead from the start to the core
pub record IsRun (w : Tables) (input : Input) (first : core.Core) (s : Steps) : Type 0 where
  pub start : IsStart input first
  pub last : core.Core
  pub run : CoreRun input first (map event_of s.events.items) last
  pub is : IsCore w input s.core last

-- ---- what waits, and what has ended

-- The configuration ends with a step that has more tokens left than there are from the place on.
pub record EndsBefore (input : Input) (i : ℕ) (c : List ℕ) : Type 0 where
  pub run : Run
  pub reached : Reaches input.parser input.end (on (start (project c input.items))) (on run)
  pub answer : Result Tree Fault
  pub last : step input.parser input.end run ≡ answered answer
  pub more : length (left_from input i c) < length run.left

-- each configuration of what has ended has ended at an element before the place
abbrev pub HaveEndedBefore : Sets → Input → ℕ → List Ended → Type 0
HaveEndedBefore sets input i ended =
    All (λ (e : Ended). (c : List ℕ) → IsConfig input.arities c → sets.has e.cond.0 c ≡ true → EndsBefore input i c) ended

-- The configuration is live at the place, with the states and as many levels as the subparser, and
-- this element comes next.
pub record IsOfClass (input : Input) (i : ℕ) (c : List ℕ) (s : Subparser) (next : ℕ) : Type 0 where
  pub run : Run
  pub live : IsLive input i c run
  pub class : class_of input i c run ≡ record { states = states_in s; next = next; depth = depth_of s }

-- at each of its configurations the subparser is in the configuration's class at the place
pub record IsWaiting (sets : Sets) (input : Input) (i : ℕ) (s : Subparser) : Type 0 where
  pub next : ℕ
  pub phase : s.phase ≡ At next
  pub each : (c : List ℕ) → IsConfig input.arities c → sets.has s.cond.0 c ≡ true → IsOfClass input i c s next

-- each number is that of a subparser that is
abbrev pub AreWaiting : Sets → Input → ℕ → List (Option Subparser) → List ℕ → Type 0
AreWaiting sets input i rows numbers = Each (IsWaiting sets input i) rows numbers

-- ---- what calls do

-- an event is the step of the core as it is seen
pub record IsStepTo (w v : Tables) (input : Input) (old : View) (event : Event) (new : View) : Type 0 where
  pub before : core.Core
  pub was : IsCore w input old before
  pub stands : Stands input before
  pub after : core.Core
  pub step : CoreStep input before (event_of event) after
  pub is : IsCore v input new after

-- an event by which a configuration may end is that of a subparser before the place
abbrev pub IsBefore : List (Option Subparser) → ℕ → Event → Type 0
IsBefore rows place (Split n) = Unit {0}
IsBefore rows place (Merge n m) = Unit {0}
IsBefore rows place (Reduce n) = (s : Subparser) → Has rows n s → index_of (phase_of s.phase) < place
IsBefore rows place (Shift n) = (s : Subparser) → Has rows n s → index_of (phase_of s.phase) < place
IsBefore rows place (Classify n) = (s : Subparser) → Has rows n s → index_of (phase_of s.phase) < place

-- the element that comes next for the subparser, or for which its kind does, is before the place
abbrev pub StandsBefore : ℕ → Subparser → Type 0
StandsBefore place s = index_of (phase_of s.phase) < place

-- What is true of each call that does events: the stores grow, the core is one of them, and what
-- was a run is one. No configuration ends at or behind the place.
pub record GoesOn (old new : Sets) (lines added : List Line) (place : ℕ) (before after : Steps) : Type 0 where
  pub keeps : Keeps old new
  pub grows : Extends lines added
  pub branches : OwnsBranches new added
  pub own : OwnsSteps new (length added) after
  pub source : after.core.source ≡ before.core.source
  pub leaves : AddsLeaves before.core.source.list.now lines added
  pub run : (names files : List (List ℕ)) (input : Input) (first : core.Core) → IsRun (tables_with old lines names files) input first before
      → IsRun (tables_with new added names files) input first after
  pub ended : (names files : List (List ℕ)) (input : Input) (first : core.Core) → IsRun (tables_with old lines names files) input first before
      → place < length input.items + 1 → HaveEndedBefore old input place before.core.ended → HaveEndedBefore new input place after.core.ended
  pub sound : (names files : List (List ℕ)) (input : Input) (first : core.Core) → IsRun (tables_with old lines names files) input first before
      → AreSound old lines → AreSound new added
  pub more : List core.Event
  pub events : map event_of after.events.items ≡ map event_of before.events.items ++ more
