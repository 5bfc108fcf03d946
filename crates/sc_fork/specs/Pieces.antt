-- What an event that a core can do makes of its subparsers, and what becomes of the core.
use Rattle.std.specs.Prelude.{◌≡◌, ◌<◌, ◌≤◌, ◌||◌, ℕ, ◌+◌, ◌-◌, Bool, List, [], ◌∷◌, ◌++◌, drop, length, option_map, slice_get, slice_set, Option, Some, None, All, AllPairs}
use Rattle.std.specs.List.{range_with_len}
use Rattle.c11_parsing.specs.Core as core
use Rattle.lr_tables.specs.declared.grammar.Action.TheVariants.{Reduce as Reduction}
use Rattle.lr_tables.specs.declared.grammar.Grammar.{Grammar}
use Rattle.lr_tables.specs.Grammar.{Production, symbol_number}
use Rattle.lr_tables.specs.Paths.{Path}
use Rattle.sc_fork.specs.declared.enabled.Enabled.{Enabled}
use Rattle.sc_fork.specs.declared.enabled.Enabled.TheVariants as enabled
use Rattle.sc_fork.specs.declared.event.Event.{Event}
use Rattle.sc_fork.specs.declared.event.Event.TheVariants.{Split, Reduce, Shift, Classify, Merge}
use Rattle.sc_fork.specs.View.{View}
use Rattle.sc_fork.specs.declared.piece.Ended.{Ended}
use Rattle.sc_fork.specs.declared.piece.Piece.{Piece}
use Rattle.sc_fork.specs.declared.piece.Piece.TheVariants.{Going, Over}
use Rattle.sc_fork.specs.declared.source.Source.{Source}
use Rattle.sc_fork.specs.Choices.{AddsNoChoices}
use Rattle.sc_fork.specs.Enabled.{Has}
use Rattle.sc_fork.specs.Owns.{HasC11Tables}
use Rattle.sc_fork.specs.Seen.{Events, action_in, terminal_in}
use Rattle.sc_fork.specs.Shifts.{phase_after}
use Rattle.sc_grammar.specs.C11.{productions}
use Rattle.sc_merge.specs.declared.subparser.Phase.TheVariants.{At, Between, Named}
use Rattle.sc_merge.specs.declared.subparser.Subparser.{Subparser}
use Rattle.sc_merge.specs.Keys.{AreAlike}
use Rattle.sc_merge.specs.Merges.{AddsPartings, KeepsShown}
use Rattle.sc_model.specs.Sets.{Sets, Denotes}
use Rattle.sc_stack.specs.Entries.{states_of}
use Rattle.sc_tree.specs.Lines.{Line}

-- what two subparsers become when they are merged
pub record IsMerged (old new : Sets) (lines added : List Line) (s t m : Subparser) : Type 0 where
  pub cond : (f g : List ℕ → Bool) → Denotes old s.cond.0 f → Denotes old t.cond.0 g → Denotes new m.cond.0 (λ c. f c || g c)
  pub alike : AreAlike s m
  pub first : KeepsShown old new lines added s.cond t.cond s m
  pub second : KeepsShown old new lines added t.cond s.cond t m

pub record AreMerged (old new : Sets) (lines added : List Line) (s t : Subparser) (pieces : List Piece) : Type 0 where
  pub merged : Subparser
  pub is : pieces ≡ Going merged ∷ []
  pub merges : IsMerged old new lines added s t merged

-- the pieces are those of the event
abbrev pub AreMade : Sets → Sets → List Line → List Line → Source → Enabled → List Piece → Type 0
AreMade old new lines added source (enabled.Split s i) pieces = Events old new lines added source s core.split pieces
AreMade old new lines added source (enabled.Reduce s j p) pieces = Events old new lines added source s core.reduce pieces
AreMade old new lines added source (enabled.Shift s j) pieces = Events old new lines added source s core.shift pieces
AreMade old new lines added source (enabled.Classify s j) pieces = Events old new lines added source s core.classify pieces
AreMade old new lines added source (enabled.Merge s t) pieces = AreMerged old new lines added s t pieces

-- only a merge adds choices, between conditions that part its two subparsers
abbrev pub AddsOwnChoices : Sets → List Line → List Line → Enabled → Type 0
AddsOwnChoices sets lines added (enabled.Merge s t) = AddsPartings sets s.cond t.cond lines added
AddsOwnChoices sets lines added _ = AddsNoChoices lines added

-- ---- the phases of the pieces

-- a piece that goes on is such a subparser
abbrev pub IfGoing : (Subparser → Type 0) → Piece → Type 0
IfGoing P (Going s) = P s
IfGoing P (Over e) = Unit {0}

-- the subparser looks at an element from the first on, or at the end
pub record LooksFrom (first end : ℕ) (s : Subparser) : Type 0 where
  pub at : ℕ
  pub phase : s.phase ≡ At at
  pub low : first ≤ at
  pub high : at ≤ end

-- The left side stands on the stack in the place of the right side, of which one symbol alone was
-- on top.
pub record ReplacesSide (g : Grammar) (states : List (List ℕ)) (before after : List ℕ) (rule : Production) : Type 0 where
  pub symbols : List ℕ
  pub was : Path g states before symbols
  pub becomes : Path g states after ((96 + rule.left) ∷ drop (length rule.right) symbols)
  pub alone : length rule.right ≡ 1 → slice_get symbols 0 ≡ option_map (symbol_number 96) (slice_get rule.right 0)

-- the subparser is the parent reduced by production p, at the same element
pub record IsReducedBy (source : Source) (j p : ℕ) (parent next : Subparser) : Type 0 where
  pub phase : next.phase ≡ At j
  pub rule : Production
  pub numbered : slice_get productions (p - 1) ≡ Some rule
  pub some : 0 < length rule.right
  pub height : length (states_of next.stack) + length rule.right ≡ length (states_of parent.stack) + 1
  pub sides : (c11 : HasC11Tables source.tables.now) → ReplacesSide c11.are.grammar c11.states (states_of parent.stack) (states_of next.stack) rule

-- the one piece looks at an element before that of the other
pub record LooksBefore (p q : Piece) : Type 0 where
  pub before : (s t : Subparser) (i j : ℕ) → p ≡ Going s → q ≡ Going t → s.phase ≡ At i → t.phase ≡ At j → i < j

-- the subparser is behind the shift of the element
pub record IsPast (source : Source) (j : ℕ) (s : Subparser) : Type 0 where
  pub within : j < length source.list.now
  pub terminal : ℕ
  pub found : terminal_in source j ≡ Some terminal
  pub phase : s.phase ≡ phase_after j terminal

-- a piece that goes on is in a phase to which the event leads
abbrev pub InNextPhase : Source → Enabled → Piece → Type 0
InNextPhase source (enabled.Split s i) = IfGoing (LooksFrom i (length source.list.now))
InNextPhase source (enabled.Reduce s j p) = IfGoing (IsReducedBy source j p s)
InNextPhase source (enabled.Shift s j) = IfGoing (IsPast source j)
InNextPhase source (enabled.Classify s j) = IfGoing (λ next. next.phase ≡ Between (j + 1))
InNextPhase source (enabled.Merge s t) = IfGoing (AreAlike s)

-- The parts of a split look at one element after the other. Of a reduction and of a shift there is
-- one piece, of a merge one that goes on.
abbrev pub AreInOrder : Enabled → List Piece → Type 0
AreInOrder (enabled.Split s i) pieces = AllPairs LooksBefore pieces
AreInOrder (enabled.Reduce s j p) pieces = length pieces ≡ 1
AreInOrder (enabled.Shift s j) pieces = length pieces ≡ 1
AreInOrder (enabled.Classify s j) pieces = Unit {0}
AreInOrder (enabled.Merge s t) pieces = (m : Subparser) × (pieces ≡ Going m ∷ [])

-- ---- what becomes of the core

-- the numbers that the event names
abbrev pub numbers_of : Event → List ℕ
numbers_of (Split n) = n ∷ []
numbers_of (Reduce n) = n ∷ []
numbers_of (Shift n) = n ∷ []
numbers_of (Classify n) = n ∷ []
numbers_of (Merge n m) = n ∷ (m ∷ [])

-- the subparsers of these numbers are gone
abbrev pub without : List ℕ → List (Option Subparser) → List (Option Subparser)
without [] rows = rows
without (n ∷ numbers) rows = without numbers (slice_set rows n None)

abbrev pub going_of : List Piece → List (Option Subparser)
going_of [] = []
going_of (Going s ∷ pieces) = Some s ∷ going_of pieces
going_of (Over e ∷ pieces) = going_of pieces

abbrev pub over_of : List Piece → List Ended
over_of [] = []
over_of (Going s ∷ pieces) = over_of pieces
over_of (Over e ∷ pieces) = e ∷ over_of pieces

-- so many pieces were put behind the subparsers and what had ended
pub record IsPlaced (subparsers : List (Option Subparser)) (ended : List Ended) (taken : List Piece) (next : List (Option Subparser)) (over : List Ended) (made : List ℕ) : Type 0 where
  pub rows_are : next ≡ subparsers ++ going_of taken
  pub ended_are : over ≡ ended ++ over_of taken
  pub numbers : made ≡ range_with_len (length subparsers) (length (going_of taken))

-- the pieces take the place of the event's subparsers, under the next numbers
pub record Becomes (before : View) (event : Event) (pieces : List Piece) (after : View) (made : List ℕ) : Type 0 where
  pub rows : after.subparsers ≡ without (numbers_of event) before.subparsers ++ going_of pieces
  pub ended : after.ended ≡ before.ended ++ over_of pieces
  pub numbers : made ≡ range_with_len (length before.subparsers) (length (going_of pieces))

-- Which pieces an event makes that the core can do. The parts of a split look at one element after
-- the other. Of a reduction and of a shift there is one piece, of a merge one that goes on.
pub data Makes (source : Source) (rows : List (Option Subparser)) : Event → List Piece → Type 0 where
  splits : (n i : ℕ) (s : Subparser) (pieces : List Piece) → Has rows n s → s.phase ≡ Between i → All (IfGoing (LooksFrom i (length source.list.now))) pieces
      → AllPairs LooksBefore pieces → Makes source rows (Split n) pieces
  reduces : (n j p : ℕ) (s : Subparser) (piece : Piece) → Has rows n s → s.phase ≡ At j → action_in source s j ≡ Some (Reduction p)
      → IfGoing (IsReducedBy source j p s) piece → Makes source rows (Reduce n) (piece ∷ [])
  shifts : (n j : ℕ) (s : Subparser) (piece : Piece) → Has rows n s → s.phase ≡ At j → IfGoing (IsPast source j) piece → Makes source rows (Shift n) (piece ∷ [])
  classifies : (n j : ℕ) (s : Subparser) (pieces : List Piece) → Has rows n s → s.phase ≡ Named j → All (IfGoing (λ next. next.phase ≡ Between (j + 1))) pieces
      → Makes source rows (Classify n) pieces
  merges : (n m : ℕ) (s t u : Subparser) → Has rows n s → Has rows m t → (n ≡ m → ⊥) → AreAlike s t → AreAlike s u → Makes source rows (Merge n m) (Going u ∷ [])

-- The core can do the event, and this is what it does.
pub record HasMade (before : View) (event : Event) (after : View) (made : List ℕ) : Type 0 where
  pub pieces : List Piece
  pub makes : Makes before.source before.subparsers event pieces
  pub becomes : Becomes before event pieces after made
