-- Parsing of all configurations at once, by subparsers that fork and are merged. A subparser is
-- seen by its states and by what it has at each configuration of its condition.
use Rattle.std.specs.Prelude.{◌≡◌, ℕ, ◌+◌, ◌==◌, ◌<◌, ◌&&◌, ◌||◌, not, Bool, true, List, [], ◌∷◌, ◌++◌, length, map, drop, slice_get, slice_set, Option, Some, None, Result, All, AllPairs, if◌then◌else◌}
use Rattle.std.specs.List.{Contains}
use Rattle.lr_tables.specs.declared.grammar.Action.{Action}
use Rattle.lr_tables.specs.declared.grammar.Action.TheVariants.{Reduce}
use Rattle.sc_model.specs.Fault.{Fault}
use Rattle.sc_model.specs.Sets.{IsConfig}
use Rattle.sc_model.specs.Token.{Token}
use Rattle.c11_parsing.specs.Bindings.{Level}
use Rattle.c11_parsing.specs.Classes.{Input, left_from, next_from, project}
use Rattle.c11_parsing.specs.LR as lr
use Rattle.c11_parsing.specs.LR.{Frame, Run, Point, on, answered, next_terminal, kind_of, step, Reaches, start, LR}
use Rattle.c11_parsing.specs.Trees.{Condition, Tree}

-- ---- subparsers

pub data Phase : Type 0 where
  -- the elements before this one are done
  between : ℕ → Phase
  -- this element comes next, or the end where it is the length
  at : ℕ → Phase
  -- the name of this element was shifted, its kind was not
  named : ℕ → Phase

pub record Subparser : Type 0 where
  pub condition : Condition
  pub phase : Phase
  -- of the stack and at each configuration its trees, the top first
  pub states : List ℕ
  pub trees : List ℕ → List (Option Tree)
  pub levels : List ℕ → List Level

-- what has ended: at each configuration the answer
pub record Ended : Type 0 where
  pub condition : Condition
  pub answer : List ℕ → Result Tree Fault

-- the subparsers by their numbers, where they are not gone, and what has ended
pub record Core : Type 0 where
  pub rows : List (Option Subparser)
  pub ended : List Ended

abbrev pub frames : List ℕ → List (Option Tree) → List Frame
frames [] trees = []
frames (state ∷ states) [] = record { state = state; tree = None } ∷ frames states []
frames (state ∷ states) (tree ∷ trees) = record { state = state; tree = tree } ∷ frames states trees

abbrev pub index_of : Phase → ℕ
index_of (between i) = i
index_of (at i) = i
index_of (named i) = i

abbrev pub plain_phase : Phase → lr.Phase
plain_phase (between i) = lr.reading
plain_phase (at i) = lr.looking
plain_phase (named i) = lr.named

-- the subparser at a configuration
abbrev pub run_of : Input → Subparser → List ℕ → Run
run_of input s c = record {
  stack = frames s.states (s.trees c);
  levels = s.levels c;
  left = left_from input (index_of s.phase) c;
  phase = plain_phase s.phase;
}

-- some configuration has it
pub record IsPossible (input : Input) (condition : Condition) : Type 0 where
  pub config : List ℕ
  pub is_config : IsConfig input.arities config
  pub has : condition config ≡ true

-- the condition has exactly the configurations that pass the test
abbrev pub Has : Input → Condition → (List ℕ → Bool) → Type 0
Has input condition test = (c : List ℕ) → IsConfig input.arities c → condition c ≡ test c

-- ---- what comes of a subparser

pub data Piece : Type 0 where
  going : Subparser → Piece
  over : Ended → Piece

abbrev pub condition_of : Piece → Condition
condition_of (going s) = s.condition
condition_of (over e) = e.condition

abbrev pub point_of : Input → Piece → List ℕ → Point
point_of input (going s) c = on (run_of input s c)
point_of input (over e) c = answered (e.answer c)

-- where it goes on, it is in this phase
abbrev pub InPhase : Phase → Piece → Type 0
InPhase phase (going s) = s.phase ≡ phase
InPhase phase (over e) = Unit {0}

-- the piece has the configurations that pass the test, and at each it is the subparser after the
-- step that LR parsing takes there
pub record IsStepped (input : Input) (s : Subparser) (phase : Phase) (test : List ℕ → Bool) (piece : Piece) : Type 0 where
  pub possible : IsPossible input (condition_of piece)
  pub has : Has input (condition_of piece) test
  pub in_phase : InPhase phase piece
  pub stepped : (c : List ℕ) → IsConfig input.arities c → condition_of piece c ≡ true
      → step input.parser input.end (run_of input s c) ≡ point_of input piece c

-- ---- events

-- a part for each index of a next element at or after i, in order
abbrev pub part : Subparser → ℕ × Condition → Piece
part s p = going (record s { condition = p.1; phase = at p.0 })

pub record AreParts (input : Input) (s : Subparser) (i : ℕ) (parts : List (ℕ × Condition)) : Type 0 where
  pub possible : All (λ p. IsPossible input p.1) parts
  pub each : All (λ p. Has input p.1 (λ c. s.condition c && next_from input i c == p.0)) parts
  pub rising : AllPairs (λ p q. p.0 < q.0) parts
  pub all : (c : List ℕ) → IsConfig input.arities c → s.condition c ≡ true → Contains (map (λ (p : ℕ × Condition). p.0) parts) (next_from input i c)

abbrev pub tokens_from : Input → ℕ → List Token
tokens_from input j = map (λ (item : Condition × Token). item.1) (drop j input.items)

abbrev pub terminal_at : Input → ℕ → Option ℕ
terminal_at input j = next_terminal input.parser (tokens_from input j)

abbrev pub top_of : List ℕ → ℕ
top_of [] = 0
top_of (state ∷ states) = state

abbrev pub action_by : Input → ℕ → Option ℕ → Option Action
action_by input state None = None
action_by input state (Some x) = input.parser.tables.action state x

-- the action of the subparser at element j
abbrev pub action_at : Input → Subparser → ℕ → Option Action
action_at input s j = action_by input (top_of s.states) (terminal_at input j)

abbrev pub after_shift : Input → ℕ → Option ℕ → Phase
after_shift input j None = between (j + 1)
after_shift input j (Some x) = if x == input.parser.name then named j else between (j + 1)

-- at the configuration the name is a typedef's
abbrev pub is_typedef : Input → Subparser → Token → List ℕ → Bool
is_typedef input s t c = kind_of input.parser (top_of s.states) (s.levels c) t == input.parser.typedef_kind

abbrev pub is_variable : Input → Subparser → Token → List ℕ → Bool
is_variable input s t c = not (is_typedef input s t c)

-- the part of the subparser whose configurations pass the test, which is left out where none does
pub data Classified (input : Input) (s : Subparser) (j : ℕ) (test : List ℕ → Bool) : List Piece → Type 0 where
  none : (IsPossible input (λ c. s.condition c && test c) → ⊥) → Classified input s j test []
  one : (piece : Piece) → IsStepped input s (between (j + 1)) (λ c. s.condition c && test c) piece → Classified input s j test (piece ∷ [])

-- as many levels
abbrev pub SameDepth : Input → Subparser → Subparser → Type 0
SameDepth input s t = (c d : List ℕ) → IsConfig input.arities c → IsConfig input.arities d → s.condition c ≡ true → t.condition d ≡ true
    → length (s.levels c) ≡ length (t.levels d)

-- at each configuration what the one or the other subparser has there
pub record IsMerged (input : Input) (s t u : Subparser) : Type 0 where
  pub has : Has input u.condition (λ c. s.condition c || t.condition c)
  pub phase : u.phase ≡ s.phase
  pub states : u.states ≡ s.states
  pub first : (c : List ℕ) → IsConfig input.arities c → s.condition c ≡ true → (u.trees c ≡ s.trees c) × (u.levels c ≡ s.levels c)
  pub second : (c : List ℕ) → IsConfig input.arities c → t.condition c ≡ true → (u.trees c ≡ t.trees c) × (u.levels c ≡ t.levels c)

pub data Event : Type 0 where
  split : ℕ → Event
  reduce : ℕ → Event
  shift : ℕ → Event
  classify : ℕ → Event
  merge : ℕ → ℕ → Event

-- the pieces of a subparser and event
pub data Makes (input : Input) (s : Subparser) : (ℕ → Event) → List Piece → Type 0 where
  splits : (i : ℕ) (parts : List (ℕ × Condition)) → s.phase ≡ between i → AreParts input s i parts → Makes input s split (map (part s) parts)
  reduces : (j p : ℕ) (piece : Piece) → s.phase ≡ at j → action_at input s j ≡ Some (Reduce p) → IsStepped input s (at j) s.condition piece
      → Makes input s reduce (piece ∷ [])
  shifts : (j : ℕ) (piece : Piece) → s.phase ≡ at j → ((p : ℕ) → action_at input s j ≡ Some (Reduce p) → ⊥)
      → IsStepped input s (after_shift input j (terminal_at input j)) s.condition piece → Makes input s shift (piece ∷ [])
  classifies : (j : ℕ) (item : Condition × Token) (types variables : List Piece) → s.phase ≡ named j → slice_get input.items j ≡ Some item
      → Classified input s j (is_typedef input s item.1) types → Classified input s j (is_variable input s item.1) variables
      → Makes input s classify (types ++ variables)

abbrev pub going_in : List Piece → List (Option Subparser)
going_in [] = []
going_in (going s ∷ pieces) = Some s ∷ going_in pieces
going_in (over e ∷ pieces) = going_in pieces

abbrev pub over_in : List Piece → List Ended
over_in [] = []
over_in (going s ∷ pieces) = over_in pieces
over_in (over e ∷ pieces) = e ∷ over_in pieces

-- the subparser of the number is gone
abbrev pub without : ℕ → Core → Core
without n core = record core { rows = slice_set core.rows n None }

-- new subparsers take the next numbers
abbrev pub with_pieces : List Piece → Core → Core
with_pieces pieces core = record { rows = core.rows ++ going_in pieces; ended = core.ended ++ over_in pieces }

-- what an event does to a core
pub data CoreStep (input : Input) (core : Core) : Event → Core → Type 0 where
  alone : (event : ℕ → Event) (n : ℕ) (s : Subparser) (pieces : List Piece) → slice_get core.rows n ≡ Some (Some s) → Makes input s event pieces
      → CoreStep input core (event n) (with_pieces pieces (without n core))
  merged : (n o : ℕ) (s t u : Subparser) → (n ≡ o → ⊥) → slice_get core.rows n ≡ Some (Some s) → slice_get core.rows o ≡ Some (Some t)
      → t.phase ≡ s.phase → t.states ≡ s.states → SameDepth input s t → IsMerged input s t u
      → CoreStep input core (merge n o) (with_pieces (going u ∷ []) (without o (without n core)))

-- what a list of events does to a core
pub data CoreRun (input : Input) : Core → List Event → Core → Type 0 where
  nothing : {core : Core} → CoreRun input core [] core
  after_event : {core : Core} {event : Event} {next : Core} {events : List Event} {last : Core} → CoreStep input core event next → CoreRun input next events last
      → CoreRun input core (event ∷ events) last

-- one subparser with the live configurations, before the first element, where there are any
abbrev pub first_of : Input → Subparser
first_of input = record { condition = input.live; phase = between 0; states = []; trees = λ c. []; levels = λ c. [] ∷ [] }

pub data IsStart (input : Input) : Core → Type 0 where
  no_live : (IsPossible input input.live → ⊥) → IsStart input (record { rows = []; ended = [] })
  some_live : IsPossible input input.live → IsStart input (record { rows = Some (first_of input) ∷ []; ended = [] })

-- no subparser is left
abbrev pub IsFinished : Core → Type 0
IsFinished core = All (λ row. row ≡ None) core.rows

-- ---- where each configuration is

abbrev pub filled : List (Option Subparser) → List Piece
filled [] = []
filled (None ∷ rows) = filled rows
filled (Some s ∷ rows) = going s ∷ filled rows

abbrev pub pieces_of : Core → List Piece
pieces_of core = filled core.rows ++ map over core.ended

-- how many pieces have the configuration
abbrev pub count : List ℕ → List Piece → ℕ
count c [] = 0
count c (piece ∷ pieces) = (if condition_of piece c then 1 else 0) + count c pieces

-- at each of its configurations LR parsing comes to where the piece is
abbrev pub IsReached : Input → Piece → Type 0
IsReached input piece = (c : List ℕ) → IsConfig input.arities c → condition_of piece c ≡ true
    → Reaches input.parser input.end (on (start (project c input.items))) (point_of input piece c)

-- a live configuration has exactly one piece, any other none, and each piece is where LR parsing
-- comes to
pub record Stands (input : Input) (core : Core) : Type 0 where
  pub counted : (c : List ℕ) → IsConfig input.arities c → count c (pieces_of core) ≡ (if input.live c then 1 else 0)
  pub reached : All (IsReached input) (pieces_of core)

-- Everything of the configuration has ended: this is its only piece.
pub record IsAnswered (input : Input) (core : Core) (c : List ℕ) : Type 0 where
  pub ended : Ended
  pub member : Contains core.ended ended
  pub has : ended.condition c ≡ true
  pub answer : LR input.parser input.end (project c input.items) (ended.answer c)
