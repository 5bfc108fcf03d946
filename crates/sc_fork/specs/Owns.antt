-- What a core keeps of its source, its subparsers and what has ended.
use Rattle.std.specs.Prelude.{◌≡◌, ℕ, ◌<◌, ◌≤◌, ◌==◌, ◌||◌, not, false, Bool, List, Option, is_some, length, map, option_map, slice_get, All, IfSome, [], ◌∷◌}
use Rattle.lr_tables.specs.declared.grammar.Grammar.{Grammar}
use Rattle.lr_tables.specs.declared.grammar.Terminal.{Terminal}
use Rattle.lr_tables.specs.Paths.{Path}
use Rattle.sc_base.specs.declared.id.Cond.{Cond}
use Rattle.sc_base.specs.declared.place.Place.{Place}
use Rattle.sc_base.specs.declared.token.Token.{Token}
use Rattle.sc_base.specs.Seen.{text_at}
use Rattle.sc_fork.specs.declared.enabled.Enabled.{Enabled}
use Rattle.sc_fork.specs.declared.enabled.Enabled.TheVariants as enabled
use Rattle.sc_fork.specs.View.{View}
use Rattle.sc_fork.specs.declared.piece.Answer.{Answer}
use Rattle.sc_fork.specs.declared.piece.Answer.TheVariants.{Root, Refused}
use Rattle.sc_fork.specs.declared.piece.Ended.{Ended}
use Rattle.sc_fork.specs.declared.piece.Piece.{Piece}
use Rattle.sc_fork.specs.declared.piece.Piece.TheVariants.{Going, Over}
use Rattle.sc_fork.specs.declared.source.Source.{Source}
use Rattle.sc_fork.specs.Parsers.{AreC11Tables}
use Rattle.sc_fork.specs.Seen.{place_of}
use Rattle.sc_guarded.specs.Blocks.{AreBlocks}
use Rattle.sc_kinds.specs.Kinds.{terminal_of}
use Rattle.sc_lalr.specs.declared.tables.Tables.{Tables}
use Rattle.sc_lalr.specs.Tables.{tables_of}
use Rattle.sc_merge.specs.declared.subparser.Phase.{Phase}
use Rattle.sc_merge.specs.declared.subparser.Phase.TheVariants.{Between, At, Named}
use Rattle.sc_merge.specs.declared.subparser.Subparser.{Subparser}
use Rattle.sc_merge.specs.Merges.{OwnsSubparser}
use Rattle.sc_model.specs.Sets.{Sets, IsCond}
use Rattle.sc_scope.specs.declared.numbers.Numbers.{Numbers}
use Rattle.sc_scope.specs.Levels.{no_bindings}
use Rattle.sc_scope.specs.Numbered.{HasNumbers}
use Rattle.sc_scope.specs.Seen.{levels_in}
use Rattle.sc_stack.specs.Entries.{Entry, states_of, values_of}
use Rattle.sc_model.specs.declared.standard.Standard.{Standard}

-- the entries are those of the tables of C11
pub record HasC11Tables (tables : Tables) : Type 0 where
  pub states : List (List ℕ)
  pub are : AreC11Tables (tables_of states tables)

-- each terminal is the first one of its token
abbrev pub AreTerminals : Standard → List (List ℕ) → List (Cond × Token) → List (Option Terminal) → Type 0
AreTerminals standard names list terminals =
    map (option_map (λ (x : Terminal). x.0)) terminals ≡ map (λ (item : Cond × Token). terminal_of standard item.1.kind (text_at names item.1.spelling.0)) list

pub record IsSource (source : Source) : Type 0 where
  pub tables : HasC11Tables source.tables.now
  pub standard : Standard
  pub names : List (List ℕ)
  pub terminals : AreTerminals standard names source.list.now source.terminals.items

-- a symbol has a tree, but for the kind of a name
abbrev pub has_tree : ℕ → Bool
has_tree x = not (x == 1 || x == 2)

-- The stack is a path of gotos, and has the trees of its symbols.
pub record IsOnPath (g : Grammar) (states : List (List ℕ)) (stack : List Entry) : Type 0 where
  pub symbols : List ℕ
  pub path : Path g states (states_of stack) symbols
  pub trees : map is_some (values_of stack) ≡ map has_tree symbols

-- the phase is at an element of a list with so many, or at its end
abbrev pub IsWithin : ℕ → Phase → Type 0
IsWithin count (Between i) = i ≤ count
IsWithin count (At i) = i ≤ count
IsWithin count (Named i) = i < count

-- the subparser's conditions and trees are those of the stores, its phase and its stack those of
-- the source
pub record OwnsRow (sets : Sets) (count : ℕ) (source : Source) (s : Subparser) : Type 0 where
  pub owns : OwnsSubparser sets count s
  pub within : IsWithin (length source.list.now) s.phase
  pub path : (c11 : HasC11Tables source.tables.now) → IsOnPath c11.are.grammar c11.states s.stack

-- the place is that of an element, or the end
abbrev pub IsPlaceOf : List (Cond × Token) → Place → Place → Type 0
IsPlaceOf list end place = (j : ℕ) × (place ≡ place_of end (slice_get list j))

abbrev pub OwnsAnswer : ℕ → Source → Answer → Type 0
OwnsAnswer count source (Root id) = id.0 < count
OwnsAnswer count source (Refused cause place) = IsPlaceOf source.list.now source.end place

pub record OwnsEnded (sets : Sets) (count : ℕ) (source : Source) (e : Ended) : Type 0 where
  pub cond : IsCond sets e.cond.0
  pub answer : OwnsAnswer count source e.answer

abbrev pub OwnsPiece : Sets → ℕ → Source → Piece → Type 0
OwnsPiece sets count source (Going s) = OwnsRow sets count source s
OwnsPiece sets count source (Over e) = OwnsEnded sets count source e

-- each subparser that an event names is so
abbrev pub EachIs : (Subparser → Type 0) → Enabled → Type 0
EachIs P (enabled.Split s i) = P s
EachIs P (enabled.Reduce s j p) = P s
EachIs P (enabled.Shift s j) = P s
EachIs P (enabled.Classify s j) = P s
EachIs P (enabled.Merge s t) = P s × P t

abbrev pub OwnsEnabled : Sets → ℕ → Source → Enabled → Type 0
OwnsEnabled sets count source = EachIs (OwnsRow sets count source)

-- the scopes of the piece have numbers from these, if it goes on
abbrev pub IsNumbered : Numbers → Piece → Type 0
IsNumbered numbers (Going s) = HasNumbers numbers s.scopes
IsNumbered numbers (Over e) = Unit {0}

-- the scopes of the subparsers that an event names have numbers from these
abbrev pub AreNumbered : Numbers → Enabled → Type 0
AreNumbered numbers = EachIs (λ s. HasNumbers numbers s.scopes)

-- the scopes of each subparser have numbers from these
abbrev pub AllNumbered : Numbers → List (Option Subparser) → Type 0
AllNumbered numbers rows = All (λ (row : Option Subparser). IfSome row (λ s. HasNumbers numbers s.scopes)) rows

-- The core is one of the stores with these conditions and with so many trees. Nothing is kept by a
-- core that was given up.
pub record OwnsCore (sets : Sets) (count : ℕ) (core : View) : Type 0 where
  pub source : IsSource core.source
  pub items : All (λ (item : Cond × Token). IsCond sets item.0.0) core.source.list.now
  pub blocks : AreBlocks sets core.source.list.now core.source.blocks
  pub rows : core.is_given_up ≡ false → All (λ (row : Option Subparser). IfSome row (OwnsRow sets count core.source)) core.subparsers
  pub ended : core.is_given_up ≡ false → All (OwnsEnded sets count core.source) core.ended

-- no frames, one level without bindings, before the first element
pub record IsFirst (live : Cond) (s : Subparser) : Type 0 where
  pub cond : s.cond ≡ live
  pub stack : s.stack ≡ []
  pub levels : levels_in s.scopes ≡ no_bindings ∷ []
  pub numbered : (numbers : Numbers) → HasNumbers numbers s.scopes
  pub phase : s.phase ≡ Between 0
