-- What the events of parsing are.
use Rattle.std.specs.Prelude.{◌≡◌, ℕ, ◌+◌, ◌<◌, ◌≤◌, true, List, length, map, take, Some}
use Rattle.std.specs.List.{Contains}
use Rattle.c11_parsing.specs.Classes.{AreDistinct, Input, IsLive, left_from}
use Rattle.c11_parsing.specs.Core as core
use Rattle.c11_parsing.specs.Core.{CoreRun, filled, index_of, IsAnswered, IsFinished, IsStart}
use Rattle.c11_parsing.specs.LR.{Run}
use Rattle.sc_fork.specs.declared.event.Event.{Event}
use Rattle.sc_fork.specs.Cores.{event_of}
use Rattle.sc_model.specs.Sets.{IsConfig}

-- The configuration has a subparser by which all elements before the place are shifted, and none at
-- or behind it.
pub record HasShifted (input : Input) (c : List ℕ) (seen : core.Core) (i : ℕ) : Type 0 where
  pub subparser : core.Subparser
  pub member : Contains seen.rows (Some subparser)
  pub has : subparser.condition c ≡ true
  pub not_named : (j : ℕ) → subparser.phase ≡ core.named j → ⊥
  pub left : left_from input (index_of subparser.phase) c ≡ left_from input i c

-- Some of the events lead to a core in which each configuration that is live at the place has
-- shifted all before it. It has no more subparsers than there are classes at the place.
pub record HasPlace (input : Input) (first : core.Core) (events : List core.Event) (i : ℕ) : Type 0 where
  pub count : ℕ
  pub within : count ≤ length events
  pub seen : core.Core
  pub run : CoreRun input first (take count events) seen
  pub each : (c : List ℕ) (r : Run) → IsLive input i c r → HasShifted input c seen i
  pub configs : List (List ℕ)
  pub distinct : AreDistinct input i configs
  pub few : length (filled seen.rows) ≤ length configs

-- The events lead from the start to a finished core, in which each live configuration has its
-- answer, and by each place of the list.
pub record IsSchedule (input : Input) (events : List Event) : Type 0 where
  pub first : core.Core
  pub last : core.Core
  pub start : IsStart input first
  pub run : CoreRun input first (map event_of events) last
  pub finished : IsFinished last
  pub answers : (c : List ℕ) → IsConfig input.arities c → input.live c ≡ true → IsAnswered input last c
  pub places : (i : ℕ) → i < length input.items + 1 → HasPlace input first (map event_of events) i
