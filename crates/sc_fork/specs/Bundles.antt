-- What a core does with several of its subparsers, one after the other.
use Rattle.std.specs.Prelude.{◌≡◌, ℕ, ◌-◌, Option, List, [], ◌∷◌, ◌++◌, length, map, All, AllPairs, false}
use Rattle.std.specs.List.{Contains, range_with_len}
use Rattle.c11_parsing.specs.Classes.{Input}
use Rattle.c11_parsing.specs.Core as core
use Rattle.c11_parsing.specs.Core.{CoreRun, Stands}
use Rattle.sc_fork.specs.declared.enabled.Enabled.{Enabled}
use Rattle.sc_fork.specs.declared.event.Event.{Event}
use Rattle.sc_fork.specs.declared.event.Event.TheVariants.{Reduce, Shift}
use Rattle.sc_fork.specs.declared.event.Fact.{Fact}
use Rattle.sc_fork.specs.declared.event.Fact.TheVariants.{SameSubparser}
use Rattle.sc_fork.specs.declared.event.Kind.{Kind}
use Rattle.sc_fork.specs.declared.event.Kind.TheVariants as kind
use Rattle.sc_fork.specs.declared.source.Source.{Source}
use Rattle.sc_fork.specs.Choices.{AddsLeaves, AreSound}
use Rattle.sc_fork.specs.Cores.{IsApplied, IsCore, event_of}
use Rattle.sc_fork.specs.Enabled.{IsEnabled, IsRefused}
use Rattle.sc_fork.specs.Nodes.{AddsNode}
use Rattle.sc_fork.specs.Owns.{OwnsCore}
use Rattle.sc_fork.specs.Pieces.{HasMade}
use Rattle.sc_fork.specs.View.{View}
use Rattle.sc_merge.specs.declared.subparser.Subparser.{Subparser}
use Rattle.sc_merge.specs.Merges.{tables_with}
use Rattle.sc_model.specs.Growth.{Extends}
use Rattle.sc_model.specs.Sets.{Keeps, Sets}
use Rattle.sc_tree.specs.Lines.{Line, OwnsBranches}
use Rattle.sc_tree.specs.Reads.{Tables}

abbrev pub event_by : Kind → ℕ → Event
event_by kind.Reduce n = Reduce n
event_by kind.Shift n = Shift n

-- the events of these subparsers
abbrev pub events_of : Kind → List ℕ → List Event
events_of kind members = map (event_by kind) members

-- ---- whether it can

-- The core can do the event of each, and none is there twice.
pub record AreEnabled (source : Source) (rows : List (Option Subparser)) (kind : Kind) (members : List ℕ) : Type 0 where
  pub each : All (λ n. (e : Enabled) × IsEnabled source rows (event_by kind n) e) members
  pub once : AllPairs (λ n m. n ≡ m → ⊥) members

-- The first member that stands against it is refused alone, or is there a second time.
pub data IsFirstRefused (source : Source) (rows : List (Option Subparser)) (kind : Kind) : List ℕ → Fact → Type 0 where
  first_refused : (front : List ℕ) (n : ℕ) (back : List ℕ) (fact : Fact) → AreEnabled source rows kind front
      → IsRefused source rows (event_by kind n) fact → IsFirstRefused source rows kind (front ++ n ∷ back) fact
  first_twice : (front : List ℕ) (n : ℕ) (back : List ℕ) → AreEnabled source rows kind front → Contains front n
      → IsFirstRefused source rows kind (front ++ n ∷ back) SameSubparser

-- ---- what it does

-- what is so of a core and of its stores after any number of events
pub record Leads (old new : Sets) (lines added : List Line) (before after : View) : Type 0 where
  pub leaves : AddsLeaves before.source.list.now lines added
  pub source : after.source ≡ before.source
  pub keeps : Keeps old new
  pub grows : Extends lines added

-- sound choices stay sound, whatever the core was seen as
abbrev pub KeepsSound : Sets → Sets → List Line → List Line → View → Type 0
KeepsSound old new lines added before = (names files : List (List ℕ)) (input : Input) (seen : core.Core)
    → IsCore (tables_with old lines names files) input before seen → Stands input seen → AreSound old lines → AreSound new added

-- all that is so of them after an event that was done
pub record IsDone (old new : Sets) (lines added : List Line) (before : View) (event : Event) (after : View) (made : List ℕ) : Type 0 where
  pub applied : (names files : List (List ℕ)) (input : Input) (seen : core.Core)
      → IsCore (tables_with old lines names files) input before seen → Stands input seen
      → IsApplied (tables_with old lines names files) (tables_with new added names files) input before event after made seen
  pub rows : HasMade before event after made
  pub choices : KeepsSound old new lines added before
  pub adds : (n : ℕ) → event ≡ Reduce n → AddsNode before n lines added
  pub leads : Leads old new lines added before after
  pub own : OwnsCore new (length added) after
  pub branches : OwnsBranches new added
  pub usable : after.is_given_up ≡ false

-- Each event is done as it is alone, in the core and the stores that the ones before it have left.
pub data AreDone (old : Sets) (lines : List Line) (before : View) : List Event → Sets → List Line → View → List ℕ → Type 0 where
  none_done : AreDone old lines before [] old lines before []
  one_more : (events : List Event) (event : Event) (sets new : Sets) (trees added : List Line) (between after : View) (made more : List ℕ)
      → AreDone old lines before events sets trees between made → IsDone sets new trees added between event after more
      → AreDone old lines before (events ++ event ∷ []) new added after (made ++ more)

-- The core does these events, and the numbers are those of the new subparsers.
pub record AreApplied (w v : Tables) (input : Input) (before : View) (events : List Event) (after : View) (made : List ℕ) (seen : core.Core) : Type 0 where
  pub next : core.Core
  pub run : CoreRun input seen (map event_of events) next
  pub seen_after : IsCore v input after next
  pub numbers : made ≡ range_with_len (length before.subparsers) (length after.subparsers - length before.subparsers)
