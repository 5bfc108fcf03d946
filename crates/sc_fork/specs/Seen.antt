-- What the code keeps, as subparsers are seen.
use Rattle.std.specs.Prelude.{◌≡◌, ℕ, ◌<◌, true, List, [], ◌∷◌, map, length, nat_lt, slice_get, option_map, option_and_then, if◌then◌else◌, Option, Some, None, Result, Ok, Err, All}
use Rattle.c11_parsing.specs.Classes.{Input}
use Rattle.c11_parsing.specs.Core as core
use Rattle.c11_parsing.specs.Core.{Has, IsPossible, Piece, going, over, Makes}
use Rattle.c11_parsing.specs.Trees.{Condition, Tree}
use Rattle.sc_base.specs.declared.id.Cond.{Cond}
use Rattle.sc_base.specs.declared.id.TreeId.{TreeId}
use Rattle.sc_base.specs.declared.place.Place as declared
use Rattle.sc_base.specs.declared.token.Token.{Token}
use Rattle.sc_base.specs.Seen.{IsHeld, seen, seen_place}
use Rattle.sc_fork.specs.declared.piece.Answer.{Answer}
use Rattle.sc_fork.specs.declared.piece.Answer.TheVariants.{Root, Refused}
use Rattle.sc_fork.specs.declared.piece.Ended.{Ended}
use Rattle.sc_fork.specs.declared.piece.Piece as kept
use Rattle.sc_fork.specs.declared.piece.Piece.TheVariants.{Going, Over}
use Rattle.sc_merge.specs.declared.subparser.Phase.TheVariants.{At}
use Rattle.sc_merge.specs.declared.subparser.Subparser.{Subparser}
use Rattle.sc_fork.specs.Parsers.{c11_parser}
use Rattle.sc_merge.specs.Merges.{OwnsSubparser, tables_with}
use Rattle.sc_merge.specs.Phases.{phase_of}
use Rattle.sc_merge.specs.Shows.{ShowsAt}
use Rattle.sc_fork.specs.declared.source.Source.{Source}
use Rattle.lr_tables.specs.declared.grammar.Terminal.{Terminal}
use Rattle.lr_tables.specs.declared.grammar.Action.{Action}
use Rattle.lr_tables.specs.declared.grammar.Action.TheVariants.{Shift, Reduce}
use Rattle.sc_lalr.specs.declared.tables.Tables as code
use Rattle.sc_lalr.specs.Tables.{action_of, tables_of}
use Rattle.sc_model.specs.declared.cause.Cause.{Cause}
use Rattle.sc_model.specs.Fault.{Fault, fault_at}
use Rattle.sc_model.specs.Growth.{IsOneToOne}
use Rattle.sc_model.specs.Token as plain
use Rattle.sc_model.specs.Sets.{Sets, IsConfig, IsCond}
use Rattle.sc_stack.specs.Entries.{state_of, states_of}
use Rattle.sc_tree.specs.Lines.{Line}
use Rattle.sc_tree.specs.Reads.{Tables, Reads}
use Rattle.sc_model.specs.declared.standard.Standard.{Standard}

-- The source is what is parsed. Its conditions, names and files are held, and no text has two
-- names.
pub record IsInput (w : Tables) (source : Source) (input : Input) : Type 0 where
  pub standard : Standard
  pub states : List (List ℕ)
  pub parser : input.parser ≡ c11_parser standard (tables_of states source.tables.now)
  pub arities : input.arities ≡ w.sets.arities
  pub end : input.end ≡ seen_place w.files source.end
  pub tokens : map (λ (item : Condition × plain.Token). item.1) input.items ≡ map (λ (item : Cond × Token). seen w.names w.files item.1) source.list.now
  pub conditions : (c : List ℕ) → IsConfig w.sets.arities c → map (λ (item : Condition × plain.Token). item.0 c) input.items ≡ map (λ (item : Cond × Token). w.sets.has item.0.0 c) source.list.now
  pub terminals : map (option_map (λ (x : Terminal). x.0)) source.terminals.items ≡ map (λ (item : Condition × plain.Token). input.parser.terminal_of item.1) input.items
  pub own : All (λ (item : Cond × Token). IsCond w.sets item.0.0) source.list.now
  pub held : All (λ (item : Cond × Token). IsHeld w.names item.1) source.list.now
  pub files : All (λ (item : Cond × Token). item.1.place.file.0 < length w.files) source.list.now
  pub names_differ : IsOneToOne w.names

-- the element comes next at the configuration, or the end does
pub data IsNext (input : Input) (c : List ℕ) : core.Phase → Type 0 where
  next_unknown : (i : ℕ) → IsNext input c (core.between i)
  next_element : (i : ℕ) (item : Condition × plain.Token) → slice_get input.items i ≡ Some item → item.0 c ≡ true → IsNext input c (core.at i)
  next_end : IsNext input c (core.at (length input.items))
  next_kind : (i : ℕ) (item : Condition × plain.Token) → slice_get input.items i ≡ Some item → item.0 c ≡ true → IsNext input c (core.named i)

-- what the subparser has at a configuration of its condition
pub record IsSeenAt (w : Tables) (input : Input) (s : Subparser) (t : core.Subparser) (c : List ℕ) : Type 0 where
  pub shows : ShowsAt w s c (t.trees c) (t.levels c)
  pub next : IsNext input c t.phase

-- the subparser is seen so
pub record IsSeen (w : Tables) (input : Input) (s : Subparser) (t : core.Subparser) : Type 0 where
  pub owns : OwnsSubparser w.sets (length w.lines) s
  pub has : Has input t.condition (w.sets.has s.cond.0)
  pub possible : IsPossible input t.condition
  pub phase : t.phase ≡ phase_of s.phase
  pub states : t.states ≡ states_of s.stack
  pub each : (c : List ℕ) → IsConfig input.arities c → t.condition c ≡ true → IsSeenAt w input s t c

-- an answer at a configuration
pub data IsAnswer (w : Tables) (c : List ℕ) : Answer → Result Tree Fault → Type 0 where
  is_tree : (id : TreeId) (tree : Tree) → Reads w c id.0 tree → IsAnswer w c (Root id) (Ok tree)
  is_fault : (cause : Cause) (place : declared.Place) → IsAnswer w c (Refused cause place) (Err (fault_at cause (seen_place w.files place)))

-- what has ended is seen so
pub record IsOver (w : Tables) (input : Input) (e : Ended) (f : core.Ended) : Type 0 where
  pub own : IsCond w.sets e.cond.0
  pub has : Has input f.condition (w.sets.has e.cond.0)
  pub possible : IsPossible input f.condition
  pub each : (c : List ℕ) → IsConfig input.arities c → f.condition c ≡ true → IsAnswer w c e.answer (f.answer c)

pub data IsSeenPiece (w : Tables) (input : Input) : kept.Piece → Piece → Type 0 where
  going_seen : (s : Subparser) (t : core.Subparser) → IsSeen w input s t → IsSeenPiece w input (Going s) (going t)
  over_seen : (e : Ended) (f : core.Ended) → IsOver w input e f → IsSeenPiece w input (Over e) (over f)

pub data AreSeen (w : Tables) (input : Input) : List kept.Piece → List Piece → Type 0 where
  none_seen : AreSeen w input [] []
  more_seen : (p : kept.Piece) (q : Piece) (ps : List kept.Piece) (qs : List Piece) → IsSeenPiece w input p q → AreSeen w input ps qs → AreSeen w input (p ∷ ps) (q ∷ qs)

-- the pieces are those of an event of the subparser, whatever it is seen as
abbrev pub Events : Sets → Sets → List Line → List Line → Source → Subparser → (ℕ → core.Event) → List kept.Piece → Type 0
Events old new lines added source s event pieces =
    (names files : List (List ℕ)) (input : Input) (t : core.Subparser) → IsInput (tables_with old lines names files) source input → IsSeen (tables_with old lines names files) input s t
    → (qs : List Piece) × (Makes input t event qs × AreSeen (tables_with new added names files) input pieces qs)

-- the parent, for the configurations for which the element comes next
abbrev pub part_of : Subparser → Cond × ℕ → Subparser
part_of parent part = record parent { cond = part.0; phase = At part.1 }

abbrev pub parts_of : Subparser → List (Cond × ℕ) → List kept.Piece
parts_of parent parts = map (λ (part : Cond × ℕ). Going (part_of parent part)) parts

-- ---- what the tables say

-- the first terminal of the element, or the end's
abbrev pub terminal_in : Source → ℕ → Option ℕ
terminal_in source j = if nat_lt j (length source.terminals.items) then option_map (λ (x : Terminal). x.0) (option_and_then (λ (x : Option Terminal). x) (slice_get source.terminals.items j)) else Some 95

abbrev pub action_by : code.Tables → ℕ → Option ℕ → Option Action
action_by tables state None = None
action_by tables state (Some x) = action_of tables state x

abbrev pub place_of : declared.Place → Option (Cond × Token) → declared.Place
place_of end None = end
place_of end (Some item) = item.1.place

-- where the element stands, or the end
abbrev pub place_in : Source → ℕ → declared.Place
place_in source j = place_of source.end (slice_get source.list.now j)

-- the action of the subparser at the element
abbrev pub action_in : Source → Subparser → ℕ → Option Action
action_in source s j = action_by source.tables.now (state_of s.stack) (terminal_in source j)

-- the state to which an action shifts
abbrev pub shift_in : Option Action → Option ℕ
shift_in None = None
shift_in (Some (Shift state)) = Some state
shift_in (Some (Reduce p)) = None

-- the state behind the terminal, where the subparser shifts it
abbrev pub state_after : Source → Subparser → ℕ → Option ℕ
state_after source s x = shift_in (action_of source.tables.now (state_of s.stack) x)
