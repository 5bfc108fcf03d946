-- The parts for the kinds of a name are the steps of LR parsing at each configuration.
use Rattle.std.proofs.Common.{◌≡◌, ℕ, ◌<◌, ◌≤◌, ◌+◌, ◌==◌, ◌&&◌, not, Bool, true, false, List, [], ◌∷◌, ◌++◌, length, map, slice_get, is_some, Option, Some, None, All, refl, sym, ap, ◌∙◌, subst, arith, if◌then◌else◌}
use Rattle.std.specs.Prelude.{Result, Ok, Err, IfOk, IfSome}
use Rattle.std.proofs.lemmas.Bool.{true≢false, not-true}
use Rattle.std.proofs.lemmas.List.Elements.{All-nil, All-cons, All-append}
use Rattle.std.proofs.lemmas.Option.{same_Some}
use Rattle.lr_tables.proofs.Members.{slice_some}
use Rattle.lr_tables.specs.Paths as path
use Rattle.lr_tables.specs.Paths.{Path, above}
use Rattle.lr_tables.specs.Tables as lr_tables
use Rattle.lr_tables.specs.Tables.{IsAction, IsGoto, shifts}
use Rattle.lr_tables.specs.declared.grammar.Action.{Action}
use Rattle.lr_tables.specs.declared.grammar.Action.TheVariants.{Shift, Reduce}
use Rattle.lr_tables.specs.declared.grammar.Grammar.{Grammar}
use Rattle.c11_parsing.specs.Bindings as plain
use Rattle.c11_parsing.specs.Bindings.{variable, typedef, innermost}
use Rattle.c11_parsing.specs.Classes.{Input, left_from}
use Rattle.c11_parsing.specs.Core as core
use Rattle.c11_parsing.specs.Core.{between, named, Has, IsPossible, Piece, going, over, point_of, IsStepped, is_typedef, is_variable, Classified, none, one, Makes, classifies, frames, top_of, run_of}
use Rattle.c11_parsing.specs.LR.{Run, on, answered, refused, classified, kind_in, kind_of, kind_shifted, next_place, reading, step}
use Rattle.c11_parsing.specs.Parser.{Parser}
use Rattle.c11_parsing.specs.Trees.{Condition}
use Rattle.sc_base.specs.declared.id.Cond.{Cond}
use Rattle.sc_base.specs.declared.id.TreeId.{TreeId}
use Rattle.sc_base.specs.declared.token.Token as base
use Rattle.sc_base.specs.Seen.{seen_place, text_at}
use Rattle.sc_base.proofs.Growth.{Extends-refl}
use Rattle.sc_fork.proofs.Possible.{possible}
use Rattle.sc_fork.proofs.StepLemmas.{left-next, step-named, named_run, token-seen, token-at, top-frames, top-states, action-is, same-length, refused-seen}
use Rattle.sc_fork.specs.declared.piece.Answer.TheVariants.{Refused}
use Rattle.sc_fork.specs.declared.piece.Ended.{Ended}
use Rattle.sc_fork.specs.declared.piece.Piece as kept
use Rattle.sc_fork.specs.declared.piece.Piece.TheVariants.{Going, Over}
use Rattle.sc_fork.specs.declared.source.Source.{Source}
use Rattle.sc_fork.specs.Kinds.{name_of, is_type_at, IsBehind, IsKind, no_part, refused_part, shifted_part, AddsKind}
use Rattle.sc_fork.specs.Owns.{IsOnPath, IsWithin, OwnsPiece, OwnsRow, has_tree}
use Rattle.sc_fork.specs.Parsers.{c11_parser}
use Rattle.sc_fork.specs.Seen.{place_of, IsInput, IsNext, next_unknown, next_kind, IsSeen, IsSeenAt, IsOver, going_seen, over_seen, AreSeen, none_seen, more_seen, Events, shift_in, state_after}
use Rattle.sc_lalr.specs.Tables.{action_of, tables_of}
use Rattle.sc_merge.proofs.ShowLemmas.{ShowsAt-Grows}
use Rattle.sc_merge.specs.declared.subparser.Phase.TheVariants.{Named}
use Rattle.sc_merge.specs.declared.subparser.Subparser.{Subparser}
use Rattle.sc_merge.specs.Merges.{OwnsValues, tables_with}
use Rattle.sc_merge.specs.Phases.{phase_of}
use Rattle.sc_merge.specs.Shows.{ValuesRead, silent_reads, more_values}
use Rattle.sc_model.specs.declared.cause.Cause.TheVariants.{Syntax}
use Rattle.sc_model.specs.Fault.{fault_at}
use Rattle.sc_model.specs.Sets.{Sets, IsConfig, IsCond, Denotes, Keeps, IsNever}
use Rattle.sc_model.specs.Token.{Place, Token}
use Rattle.sc_model.proofs.SetLemmas.{Denotes-self}
use Rattle.sc_scope.proofs.OwnLemmas.{own-Keeps}
use Rattle.sc_scope.proofs.ShowLemmas.{typedef-shown}
use Rattle.sc_scope.specs.Levels.{Level}
use Rattle.sc_scope.specs.Search.{is_typedef_at, OwnsLevels}
use Rattle.sc_scope.specs.Seen.{levels_in}
use Rattle.sc_scope.specs.Shows.{is_type, Shows}
use Rattle.sc_stack.specs.Entries.{Entry, state_of, states_of, values_of}
use Rattle.sc_tree.specs.Lines.{Line}
use Rattle.sc_tree.specs.Reads.{Tables}
use Rattle.sc_model.specs.declared.standard.Standard.{Standard}

-- ---- tests

and-left : (a b : Bool) → (a && b) ≡ true → a ≡ true
and-left true b h = refl
and-left false b h = h

and-right : (a b : Bool) → (a && b) ≡ true → b ≡ true
and-right true b h = h
and-right false b h = absurd (true≢false (sym h))

guarded : (a b x y : Bool) → a ≡ b → (b ≡ true → x ≡ y) → (a && x) ≡ (b && y)
guarded a true x y same inside = ap (λ z. z && x) same ∙ inside refl
guarded a false x y same inside = ap (λ z. z && x) same

all-types : (s : Sets) (r : ℕ) (f g : List ℕ → Bool) (b : Bool) → b ≡ true → Denotes s r (λ c. f c && g c) → Denotes s r (λ c. f c && (b && g c))
all-types s r f g b yes_all told = record { own = told.own; at = λ c config. told.at c config ∙ ap (λ z. f c && (z && g c)) (sym yes_all) }

map_ok : {A E : Type 0} {P Q : A → Type 0} (r : Result A E) → ((a : A) → P a → Q a) → IfOk r P → IfOk r Q
map_ok (Ok a) more ok = more a ok
map_ok (Err e) more ok = tt

-- what is found of a name that the state accepts as that of a type
pub types-found : {E : Type 0} (old new : Sets) (source : Source) (parent : Subparser) (j : ℕ) (item : Cond × base.Token) (r : Result Cond E) → slice_get source.list.now j ≡ Some item
    → is_some (action_of source.tables.now (state_of parent.stack) 1) ≡ true → IsCond old parent.cond.0
    → IfOk r (λ k. (f : List ℕ → Bool) → Denotes old parent.cond.0 f → Denotes new k.0 (λ c. f c && is_typedef_at old (levels_in parent.scopes) item.1.spelling.0 c))
    → IfOk r (λ k. Denotes new k.0 (λ c. old.has parent.cond.0 c && is_type_at old source parent j c))
types-found old new source parent j item r got accepted own found = map_ok r one_found found
  where
    levels : List Level
    levels = levels_in parent.scopes

    one_found : (k : Cond) → ((f : List ℕ → Bool) → Denotes old parent.cond.0 f → Denotes new k.0 (λ c. f c && is_typedef_at old levels item.1.spelling.0 c))
        → Denotes new k.0 (λ c. old.has parent.cond.0 c && is_type_at old source parent j c)
    one_found k told =
        all-types new k.0 (old.has parent.cond.0) (is_typedef_at old levels (name_of (slice_get source.list.now j))) (is_some (action_of source.tables.now (state_of parent.stack) 1)) accepted
        (subst (λ name. Denotes new k.0 (λ c. old.has parent.cond.0 c && is_typedef_at old levels name c)) (sym (ap name_of got)) (told (old.has parent.cond.0) (Denotes-self old parent.cond.0 own)))

pub adds-shifted : (sets : Sets) (source : Source) (parent : Subparser) (j : ℕ) (cond : Cond) (kind : ℕ) (before after : List kept.Piece) (state : ℕ) (next : Subparser)
    → after ≡ before ++ Going next ∷ [] → (IsNever sets cond.0 → ⊥) → state_after source parent kind ≡ Some state → IsBehind parent j cond state next
    → AddsKind sets source parent j cond kind before after
adds-shifted sets source parent j cond kind before after state next is some shifted steps =
    record { added = Going next ∷ []; is = is; part = shifted_part state next some shifted steps }

-- ---- kinds

kind-is : (standard : Standard) (tables : lr_tables.Tables) (state : ℕ) (found : Option plain.NameKind)
    → kind_in (c11_parser standard tables) state found ≡ (if is_some (tables.action state 1) && is_type found then 1 else 2)
kind-is standard tables state None = by (is_some (tables.action state 1))
  where
    by : (b : Bool) → ◌≡◌ {A = ℕ} 2 (if b && false then 1 else 2)
    by true = refl
    by false = refl
kind-is standard tables state (Some variable) = by (is_some (tables.action state 1))
  where
    by : (b : Bool) → ◌≡◌ {A = ℕ} 2 (if b && false then 1 else 2)
    by true = refl
    by false = refl
kind-is standard tables state (Some typedef) = by (is_some (tables.action state 1))
  where
    by : (b : Bool) → ◌≡◌ {A = ℕ} (if b then 1 else 2) (if b && true then 1 else 2)
    by true = refl
    by false = refl

tests-one : (b : Bool) → ((if b then 1 else 2) == 1) ≡ b
tests-one true = refl
tests-one false = refl

-- ---- what comes next

named-next : (input : Input) (c : List ℕ) (j : ℕ) (item : Condition × Token) → slice_get input.items j ≡ Some item → IsNext input c (named j) → item.0 c ≡ true
named-next input c _ item got (next_kind j other at has) = subst (λ (i : Condition × Token). i.0 c ≡ true) (same_Some other item (sym at ∙ got)) has

not-shifted : (end : Place) (r : Run) (action : Option Action) (ts : List Token) → shift_in action ≡ None → kind_shifted end r action ts ≡ refused end r.left Syntax
not-shifted end r None ts is = refl
not-shifted end r (Some (Reduce p)) ts is = refl
not-shifted end r (Some (Shift state)) ts is = absurd (cc)

is-shifted : (end : Place) (r : Run) (action : Option Action) (ts : List Token) (state : ℕ) → shift_in action ≡ Some state
    → kind_shifted end r action ts ≡ on (record { stack = record { state = state; tree = None } ∷ r.stack; levels = r.levels; left = ts; phase = reading })
is-shifted end r None ts state is = absurd (cc)
is-shifted end r (Some (Reduce p)) ts state is = absurd (cc)
is-shifted end r (Some (Shift other)) ts state is =
    ap (λ n. on (record { stack = record { state = n; tree = None } ∷ r.stack; levels = r.levels; left = ts; phase = reading })) (same_Some other state is)

pub seen-append : (w : Tables) (input : Input) (ps rs : List kept.Piece) (qs ss : List Piece) → AreSeen w input ps qs → AreSeen w input rs ss → AreSeen w input (ps ++ rs) (qs ++ ss)
seen-append w input _ rs _ ss none_seen others = others
seen-append w input _ rs _ ss (more_seen p q ps qs first rest) others = more_seen p q (ps ++ rs) (qs ++ ss) first (seen-append w input ps rs qs ss rest others)

with-none : (count : ℕ) (values : List (Option TreeId)) → OwnsValues count values → OwnsValues count (None ∷ values)
with-none count values own = record { each = All-cons (λ (value : Option TreeId). IfSome value (λ id. id.0 < count)) None values tt own.each }

-- ---- one part

module _ (old new : Sets) (names files : List (List ℕ)) (lines : List Line) (source : Source) (input : Input) (parent : Subparser) (t : core.Subparser) (j : ℕ) (item : Condition × Token)
    (own : Cond × base.Token) (is : IsInput (tables_with old lines names files) source input) (seen : IsSeen (tables_with old lines names files) input parent t) (keeps : Keeps old new)
    (phase : t.phase ≡ named j) (here : slice_get input.items j ≡ Some item) (there : slice_get source.list.now j ≡ Some own) where
  abbrev before : Tables
  before = tables_with old lines names files

  abbrev after : Tables
  after = tables_with new lines names files

  to_old : (c : List ℕ) → IsConfig input.arities c → IsConfig old.arities c
  to_old c config = subst (λ ns. IsConfig ns c) is.arities config

  to_new : (c : List ℕ) → IsConfig input.arities c → IsConfig new.arities c
  to_new c config = subst (λ ns. IsConfig ns c) (is.arities ∙ sym keeps.arities) config

  state-is : top_of t.states ≡ state_of parent.stack
  state-is = ap top_of seen.states ∙ top-states parent.stack

  -- which kind it is that the name has
  kind-at : (c : List ℕ) → IsConfig input.arities c → t.condition c ≡ true
      → kind_of input.parser (top_of t.states) (t.levels c) item.1 ≡ (if is_type_at old source parent j c then 1 else 2)
  kind-at c config has =
      ap (λ (m : Parser). kind_of m (top_of t.states) (t.levels c) item.1) is.parser
      ∙ kind-is is.standard (tables_of is.states source.tables.now) (top_of t.states) (innermost item.1.spelling (t.levels c))
      ∙ ap (λ n. if is_some (action_of source.tables.now n 1) && is_type (innermost item.1.spelling (t.levels c)) then 1 else 2) state-is
      ∙ ap (λ text. if is_some (action_of source.tables.now (state_of parent.stack) 1) && is_type (innermost text (t.levels c)) then 1 else 2)
      (ap (λ (k : Token). k.spelling) (token-seen before source input is j item own here there))
      ∙ ap (λ b. if is_some (action_of source.tables.now (state_of parent.stack) 1) && b then 1 else 2)
      (sym (typedef-shown old names c own.1.spelling.0 (text_at names own.1.spelling.0) (levels_in parent.scopes) (t.levels c) (token-at before source input is j own there).spelling
      (seen.each c config has).shows.scopes))
      ∙ ap (λ found. if is_some (action_of source.tables.now (state_of parent.stack) 1) && is_typedef_at old (levels_in parent.scopes) (name_of found) c then 1 else 2) (sym there)

  typedef-kind : input.parser.typedef_kind ≡ 1
  typedef-kind = ap (λ (m : Parser). m.typedef_kind) is.parser

  typedef-at : (c : List ℕ) → IsConfig input.arities c → t.condition c ≡ true → is_typedef input t item.1 c ≡ is_type_at old source parent j c
  typedef-at c config has =
      ap (λ n. n == input.parser.typedef_kind) (kind-at c config has) ∙ ap (λ n. (if is_type_at old source parent j c then 1 else 2) == n) typedef-kind
      ∙ tests-one (is_type_at old source parent j c)

  -- the step where the name has this kind
  kind-step : (kind : ℕ) (c : List ℕ) → IsConfig input.arities c → t.condition c ≡ true → kind_of input.parser (top_of t.states) (t.levels c) item.1 ≡ kind
      → step input.parser input.end (run_of input t c)
      ≡ kind_shifted input.end (named_run input t j c) (action_of source.tables.now (state_of parent.stack) kind) (left_from input (j + 1) c)
  kind-step kind c config has is_kind =
      step-named input t j c phase
      ∙ ap (classified input.parser input.end r) (left-next input j item c here next)
      ∙ ap (λ n. kind_shifted input.end r (input.parser.tables.action n (kind_of input.parser n (t.levels c) item.1)) left) (top-frames t.states (t.trees c))
      ∙ ap (λ k. kind_shifted input.end r (input.parser.tables.action (top_of t.states) k) left) is_kind
      ∙ ap (λ n. kind_shifted input.end r (input.parser.tables.action n kind) left) state-is
      ∙ ap (λ a. kind_shifted input.end r a left) (action-is before source input is (state_of parent.stack) kind)
    where
      r : Run
      r = named_run input t j c

      left : List Token
      left = left_from input (j + 1) c

      next : item.0 c ≡ true
      next = named-next input c j item here (subst (IsNext input c) phase (seen.each c config has).next)

  module _ (cond : Cond) (kind : ℕ) (test : List ℕ → Bool) (owned : IsCond new cond.0) (has : Has input (new.has cond.0) (λ c. t.condition c && test c))
      (kinds : (c : List ℕ) → IsConfig input.arities c → t.condition c ≡ true → test c ≡ true → kind_of input.parser (top_of t.states) (t.levels c) item.1 ≡ kind) where
    some-config : (IsNever new cond.0 → ⊥) → IsPossible input (new.has cond.0)
    some-config some =
        let found = possible new cond.0 some in
        record { config = found.0; is_config = subst (λ ns. IsConfig ns found.0) (keeps.arities ∙ sym is.arities) found.1; has = found.2 }

    in-parent : (c : List ℕ) → IsConfig input.arities c → new.has cond.0 c ≡ true → t.condition c ≡ true
    in-parent c config holds = and-left (t.condition c) (test c) (sym (has c config) ∙ holds)

    part-step : (c : List ℕ) → IsConfig input.arities c → new.has cond.0 c ≡ true → step input.parser input.end (run_of input t c)
        ≡ kind_shifted input.end (named_run input t j c) (action_of source.tables.now (state_of parent.stack) kind) (left_from input (j + 1) c)
    part-step c config holds =
        let inside = in-parent c config holds in
        kind-step kind c config inside (kinds c config inside (and-right (t.condition c) (test c) (sym (has c config) ∙ holds)))

    left-place : (c : List ℕ) → IsConfig input.arities c → new.has cond.0 c ≡ true → next_place input.end (left_from input j c) ≡ seen_place files own.1.place
    left-place c config holds =
        ap (next_place input.end) (left-next input j item c here (named-next input c j item here (subst (IsNext input c) phase (seen.each c config (in-parent c config holds)).next)))
        ∙ ap (λ (k : Token). k.place) (token-seen before source input is j item own here there)

    -- the subparser behind the shift, as it is seen
    abbrev behind : ℕ → core.Subparser
    behind state = record { condition = new.has cond.0; phase = between (j + 1); states = state ∷ t.states; trees = λ c. None ∷ t.trees c; levels = t.levels }

    behind-seen : (state : ℕ) (next : Subparser) → (IsNever new cond.0 → ⊥) → IsBehind parent j cond state next → IsSeen after input next (behind state)
    behind-seen state next some steps = record {
      owns = record {
        cond = subst (λ (k : Cond). IsCond new k.0) (sym steps.cond_is) owned;
        values = subst (λ (es : List Entry). OwnsValues (length lines) (values_of es)) (sym steps.stack) (with-none (length lines) (values_of parent.stack) seen.owns.values);
        levels = subst (λ ls. OwnsLevels new ls) (sym steps.levels) (own-Keeps old new (levels_in parent.scopes) keeps seen.owns.levels);
      };
      has = λ c config. ap (λ (k : Cond). new.has k.0 c) (sym steps.cond_is);
      possible = some-config some;
      phase = ap phase_of (sym steps.phase);
      states = ap (λ ss. state ∷ ss) seen.states ∙ ap states_of (sym steps.stack);
      each = each;
    }
      where
        each : (c : List ℕ) → IsConfig input.arities c → new.has cond.0 c ≡ true → IsSeenAt after input next (behind state) c
        each c config holds =
            let was = seen.each c config (in-parent c config holds) in
            let grown = ShowsAt-Grows before after c (record { sets = keeps; names = Extends-refl names; files = Extends-refl files; lines = Extends-refl lines }) (to_old c config)
            parent (t.trees c) (t.levels c) refl seen.owns.levels was.shows in
            record {
              shows = record {
                values = subst (λ (es : List Entry). ValuesRead after c (values_of es) (None ∷ t.trees c)) (sym steps.stack)
                    (more_values None (values_of parent.stack) None (t.trees c) silent_reads grown.values);
                scopes = subst (λ ls. Shows new names c ls (t.levels c)) (sym steps.levels) grown.scopes;
              };
              next = next_unknown (j + 1);
            }

    kind-part : (pieces : List kept.Piece) → IsKind new source parent j cond kind pieces
        → (qs : List Piece) × (Classified input t j test qs × AreSeen after input pieces qs)
    kind-part _ (no_part never) = ([], (none impossible, none_seen))
      where
        impossible : IsPossible input (λ c. t.condition c && test c) → ⊥
        impossible p = true≢false (sym p.has ∙ sym (has p.config p.is_config) ∙ never.none p.config (to_new p.config p.is_config))
    kind-part _ (refused_part other some got none_shifted) =
        (over f ∷ [], (one (over f) stepped, more_seen (Over e) (over f) [] [] (over_seen e f over_is) none_seen))
      where
        e : Ended
        e = record { cond = cond; answer = Refused Syntax other.1.place }

        f : core.Ended
        f = record { condition = new.has cond.0; answer = λ c. Err (fault_at Syntax (seen_place files other.1.place)) }

        over_is : IsOver after input e f
        over_is = refused-seen after input cond (new.has cond.0) Syntax other.1.place owned (λ c config. refl) (some-config some)

        same : own.1.place ≡ other.1.place
        same = ap (λ (i : Cond × base.Token). i.1.place) (same_Some own other (sym there ∙ got))

        stepped : IsStepped input t (between (j + 1)) (λ c. t.condition c && test c) (over f)
        stepped = record {
          possible = some-config some;
          has = has;
          in_phase = tt;
          stepped = λ c config holds.
              part-step c config holds
              ∙ not-shifted input.end (named_run input t j c) (action_of source.tables.now (state_of parent.stack) kind) (left_from input (j + 1) c) none_shifted
              ∙ ap (λ place. answered (Err (fault_at Syntax place))) (left-place c config holds ∙ ap (seen_place files) same);
        }
    kind-part _ (shifted_part state next some shifted steps) =
        (going (behind state) ∷ [], (one (going (behind state)) stepped, more_seen (Going next) (going (behind state)) [] [] (going_seen next (behind state) (behind-seen state next some steps)) none_seen))
      where
        stepped : IsStepped input t (between (j + 1)) (λ c. t.condition c && test c) (going (behind state))
        stepped = record {
          possible = some-config some;
          has = has;
          in_phase = refl;
          stepped = λ c config holds.
              part-step c config holds
              ∙ is-shifted input.end (named_run input t j c) (action_of source.tables.now (state_of parent.stack) kind) (left_from input (j + 1) c) state shifted;
        }

-- ---- both parts

pub classify-events : (old new : Sets) (lines : List Line) (source : Source) (parent : Subparser) (j : ℕ) (types variables : Cond) (start first second : List kept.Piece) → parent.phase ≡ Named j
    → j < length source.list.now → Keeps old new → Denotes new types.0 (λ c. old.has parent.cond.0 c && is_type_at old source parent j c)
    → Denotes new variables.0 (λ c. old.has parent.cond.0 c && not (old.has parent.cond.0 c && is_type_at old source parent j c))
    → start ≡ [] → AddsKind new source parent j types 1 start first → AddsKind new source parent j variables 2 first second
    → Events old new lines lines source parent core.classify second
classify-events old new lines source parent j types variables start first second phase within keeps are_types are_variables fresh adds then_adds = λ names files input t is seen. by names files input t is seen
  where
    by : (names files : List (List ℕ)) (input : Input) (t : core.Subparser) → IsInput (tables_with old lines names files) source input → IsSeen (tables_with old lines names files) input parent t
        → (qs : List Piece) × (Makes input t core.classify qs × AreSeen (tables_with new lines names files) input second qs)
    by names files input t is seen =
        let both : second ≡ adds.added ++ then_adds.added = then_adds.is ∙ ap (λ ps. ps ++ then_adds.added) (adds.is ∙ ap (λ ps. ps ++ adds.added) fresh) in (
          type_part.0 ++ variable_part.0,
          (
            classifies j item.0 type_part.0 variable_part.0 at_name item.1 type_part.1.0 variable_part.1.0,
            subst (λ ps. AreSeen w input ps (type_part.0 ++ variable_part.0)) (sym both)
                (seen-append w input adds.added then_adds.added type_part.0 variable_part.0 type_part.1.1 variable_part.1.1),
          ),
        )
      where
        w : Tables
        w = tables_with new lines names files

        own : (x : Cond × base.Token) × (slice_get source.list.now j ≡ Some x)
        own = slice_some source.list.now j within

        item : (x : Condition × Token) × (slice_get input.items j ≡ Some x)
        item = slice_some input.items j (omega (arith, within, same-length (tables_with old lines names files) source input is))

        at_name : t.phase ≡ named j
        at_name = seen.phase ∙ ap phase_of phase

        listed : (c : List ℕ) → IsConfig input.arities c → IsConfig old.arities c
        listed c config = subst (λ ns. IsConfig ns c) is.arities config

        listed_after : (c : List ℕ) → IsConfig input.arities c → IsConfig new.arities c
        listed_after c config = subst (λ ns. IsConfig ns c) (is.arities ∙ sym keeps.arities) config

        typed : (c : List ℕ) → IsConfig input.arities c → t.condition c ≡ true → is_typedef input t item.0.1 c ≡ is_type_at old source parent j c
        typed c config has = typedef-at old new names files lines source input parent t j item.0 own.0 is seen keeps at_name item.1 own.1 c config has

        has_types : Has input (new.has types.0) (λ c. t.condition c && is_typedef input t item.0.1 c)
        has_types c config =
            are_types.at c (listed_after c config)
            ∙ guarded (old.has parent.cond.0 c) (t.condition c) (is_type_at old source parent j c) (is_typedef input t item.0.1 c) (sym (seen.has c config)) (λ inside. sym (typed c config inside))

        has_variables : Has input (new.has variables.0) (λ c. t.condition c && is_variable input t item.0.1 c)
        has_variables c config =
            are_variables.at c (listed_after c config)
            ∙ guarded (old.has parent.cond.0 c) (t.condition c) (not (old.has parent.cond.0 c && is_type_at old source parent j c)) (is_variable input t item.0.1 c) (sym (seen.has c config))
            (λ inside. ap (λ b. not (b && is_type_at old source parent j c)) (sym (seen.has c config) ∙ inside) ∙ ap not (sym (typed c config inside)))

        type_kind : (c : List ℕ) → IsConfig input.arities c → t.condition c ≡ true → is_typedef input t item.0.1 c ≡ true
            → kind_of input.parser (top_of t.states) (t.levels c) item.0.1 ≡ 1
        type_kind c config has holds =
            kind-at old new names files lines source input parent t j item.0 own.0 is seen keeps at_name item.1 own.1 c config has
            ∙ ap (λ b. if b then 1 else 2) (sym (typed c config has) ∙ holds)

        variable_kind : (c : List ℕ) → IsConfig input.arities c → t.condition c ≡ true → is_variable input t item.0.1 c ≡ true
            → kind_of input.parser (top_of t.states) (t.levels c) item.0.1 ≡ 2
        variable_kind c config has holds =
            kind-at old new names files lines source input parent t j item.0 own.0 is seen keeps at_name item.1 own.1 c config has
            ∙ ap (λ b. if b then 1 else 2) (sym (typed c config has) ∙ not-true (is_typedef input t item.0.1 c) holds)

        type_part : (qs : List Piece) × (Classified input t j (is_typedef input t item.0.1) qs × AreSeen w input adds.added qs)
        type_part =
            kind-part old new names files lines source input parent t j item.0 own.0 is seen keeps at_name item.1 own.1 types 1 (is_typedef input t item.0.1) are_types.own has_types type_kind
            adds.added adds.part

        variable_part : (qs : List Piece) × (Classified input t j (is_variable input t item.0.1) qs × AreSeen w input then_adds.added qs)
        variable_part =
            kind-part old new names files lines source input parent t j item.0 own.0 is seen keeps at_name item.1 own.1 variables 2 (is_variable input t item.0.1) are_variables.own has_variables
            variable_kind then_adds.added then_adds.part

-- ---- what the parts own

goto-of : (g : Grammar) (states : List (List ℕ)) (s x r : ℕ) (action : Option Action) → IsAction g states s x action → shift_in action ≡ Some r → IsGoto g states s x r
goto-of g states s x r _ (shifts q goto) is = subst (λ n. IsGoto g states s x n) (same_Some q r is) goto
goto-of g states s x r _ (lr_tables.reduces p not_shifted can least) is = absurd (cc)
goto-of g states s x r _ (lr_tables.none not_shifted not_reduced) is = absurd (cc)

top-of-states : (stack : List Entry) → path.top (states_of stack) ≡ state_of stack
top-of-states [] = refl
top-of-states (entry ∷ stack) = refl

kind-path : (g : Grammar) (states : List (List ℕ)) (stack : List Entry) (r kind : ℕ) → IsOnPath g states stack → IsGoto g states (state_of stack) kind r → has_tree kind ≡ false
    → IsOnPath g states (record { state = r; value = None } ∷ stack)
kind-path g states stack r kind on_path goto silent = record {
  symbols = kind ∷ on_path.symbols;
  path = above r kind (states_of stack) on_path.symbols (subst (λ s. IsGoto g states s kind r) (sym (top-of-states stack)) goto) on_path.path;
  trees = ap (λ bs. false ∷ bs) on_path.trees ∙ ap (λ b. b ∷ map has_tree on_path.symbols) (sym silent);
}

kind-owns : (old new : Sets) (count : ℕ) (source : Source) (parent : Subparser) (j : ℕ) (cond : Cond) (kind : ℕ) (pieces : List kept.Piece) → Keeps old new → j < length source.list.now
    → OwnsRow old count source parent → IsCond new cond.0 → has_tree kind ≡ false → kind < 96 → IsKind new source parent j cond kind pieces → All (OwnsPiece new count source) pieces
kind-owns old new count source parent j cond kind _ keeps within owns own silent terminal (no_part never) = All-nil (OwnsPiece new count source)
kind-owns old new count source parent j cond kind _ keeps within owns own silent terminal (refused_part item some got none_shifted) =
    All-cons (OwnsPiece new count source) (Over (record { cond = cond; answer = Refused Syntax item.1.place })) [] (record { cond = own; answer = (j, sym (ap (place_of source.end) got)) }) (All-nil (OwnsPiece new count source))
kind-owns old new count source parent j cond kind _ keeps within owns own silent terminal (shifted_part state next some shifted steps) =
    All-cons (OwnsPiece new count source) (Going next) [] row (All-nil (OwnsPiece new count source))
  where
    row : OwnsRow new count source next
    row = record {
      owns = record {
        cond = subst (λ (k : Cond). IsCond new k.0) (sym steps.cond_is) own;
        values = subst (λ (es : List Entry). OwnsValues count (values_of es)) (sym steps.stack) (with-none count (values_of parent.stack) owns.owns.values);
        levels = subst (λ ls. OwnsLevels new ls) (sym steps.levels) (own-Keeps old new (levels_in parent.scopes) keeps owns.owns.levels);
      };
      within = subst (IsWithin (length source.list.now)) (sym steps.phase) (let h : j + 1 ≤ length source.list.now = omega (arith, within) in h);
      path = λ c11. subst (λ (es : List Entry). IsOnPath c11.are.grammar c11.states es) (sym steps.stack)
          (kind-path c11.are.grammar c11.states parent.stack state kind (owns.path c11)
          (goto-of c11.are.grammar c11.states (state_of parent.stack) kind state (action_of source.tables.now (state_of parent.stack) kind)
          (c11.are.exact.action (state_of parent.stack) kind (omega (arith, terminal, c11.are.terminals))) shifted) silent);
    }

pub classify-owns : (old new : Sets) (source : Source) (parent : Subparser) (j : ℕ) (types variables : Cond) (start first second : List kept.Piece) → j < length source.list.now → Keeps old new
    → IsCond new types.0 → IsCond new variables.0 → start ≡ [] → AddsKind new source parent j types 1 start first → AddsKind new source parent j variables 2 first second
    → (count : ℕ) → OwnsRow old count source parent → All (OwnsPiece new count source) second
classify-owns old new source parent j types variables start first second within keeps own_types own_variables fresh adds then_adds count owns =
    let both : second ≡ adds.added ++ then_adds.added = then_adds.is ∙ ap (λ ps. ps ++ then_adds.added) (adds.is ∙ ap (λ ps. ps ++ adds.added) fresh) in
    subst (All (OwnsPiece new count source)) (sym both)
    (All-append (OwnsPiece new count source) adds.added then_adds.added
    (kind-owns old new count source parent j types 1 adds.added keeps within owns own_types refl (omega arith) adds.part)
    (kind-owns old new count source parent j variables 2 then_adds.added keeps within owns own_variables refl (omega arith) then_adds.part))
