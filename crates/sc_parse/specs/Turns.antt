-- What has come of a list when the elements before a place are done.
use Rattle.std.specs.Prelude.{◌≡◌, ◌<◌, ◌≤◌, ◌+◌, ℕ, List, [], length, map}
use Rattle.c11_parsing.specs.Classes.{AreDistinct, Input}
use Rattle.c11_parsing.specs.Core as core
use Rattle.sc_fork.specs.Cores.{event_of}
use Rattle.sc_fork.specs.View.{View}
use Rattle.sc_fork.specs.Enabled.{Has}
use Rattle.sc_merge.specs.declared.subparser.Phase.TheVariants.{Between}
use Rattle.sc_merge.specs.declared.subparser.Subparser.{Subparser}
use Rattle.sc_parse.specs.declared.rows.Rows.{Rows}
use Rattle.sc_parse.specs.declared.steps.Steps.{Steps}
use Rattle.sc_model.specs.Sets.{Sets}
use Rattle.sc_parse.specs.Filed.{numbers_in}
use Rattle.sc_parse.specs.Numbers.{Each, IsBetween, Replaces}
use Rattle.sc_parse.specs.Places.{HasPlace}
use Rattle.sc_parse.specs.Runs.{AreWaiting, GoesOn, HaveEndedBefore, IsRun}
use Rattle.sc_tree.specs.Lines.{Line}
use Rattle.sc_tree.specs.Reads.{Tables}

-- at some place there are so many classes, and at none before this one there are more
pub record HasMostBefore (input : Input) (i most : ℕ) : Type 0 where
  pub place : ℕ
  pub within : place < length input.items + 1
  pub configs : List (List ℕ)
  pub distinct : AreDistinct input place configs
  pub many : length configs ≡ most
  pub none_more : (k : ℕ) → k < i → (others : List (List ℕ)) → AreDistinct input k others → length others ≤ most

-- All subparsers wait since the place, and what has ended has ended before it. The events lead by
-- each place up to this one.
pub record IsAtPlace (w : Tables) (input : Input) (first : core.Core) (s : Steps) (r : Rows) (i : ℕ) : Type 0 where
  pub run : IsRun w input first s
  pub waiting : i < length input.items + 1 → AreWaiting w.sets input i s.core.subparsers (numbers_in r)
  pub ended : i < length input.items + 1 → HaveEndedBefore w.sets input i s.core.ended
  pub places : (k : ℕ) → k ≤ i → k < length input.items + 1 → HasPlace input first (map event_of s.events.items) k

-- the core has one subparser, number 0, before the first element, or none
pub record HasBegun (c : View) : Type 0 where
  pub rows : (n : ℕ) (s : Subparser) → Has c.subparsers n s → (n ≡ 0) × (s.phase ≡ Between 0)
  pub none : c.ended ≡ []

-- the numbers are gone, and those have come that are made, which are behind the element; there are
-- none behind the end
pub record HasShifted (old new : Sets) (lines added : List Line) (j : ℕ) (before after : Steps) (gone made : List ℕ) : Type 0 where
  pub goes_on : GoesOn old new lines added (j + 1) before after
  pub replaces : Replaces before.core.subparsers after.core.subparsers gone made
  pub behind : Each (IsBetween (j + 1)) after.core.subparsers made
  pub none : j ≡ length before.core.source.list.now → made ≡ []
