-- What the events of a list come to.
use Rattle.std.proofs.Common.{◌≡◌, ◌<◌, ◌≤◌, ◌+◌, ℕ, zero, suc, Bool, true, false, List, [], ◌∷◌, ◌++◌, All, length, map, Option, Some, None, Result, Ok, inl, inr, refl, sym, ap, ◌∙◌, subst, arith, if◌then◌else◌}
use Rattle.std.specs.Global.{Vec}
use Rattle.std.specs.List.{Contains}
use Rattle.std.specs.Prelude.{option_map}
use Rattle.std.proofs.lemmas.List.Elements.{All-nil, All-cons, All-tail, All-head}
use Rattle.std.proofs.lemmas.Option.{none-some}
use Rattle.std.proofs.lemmas.Simd.{map-map}
use Rattle.c11_parsing.proofs.Derivations.{derives-text}
use Rattle.c11_parsing.proofs.Events.{finished-answers}
use Rattle.c11_parsing.proofs.OneAnswer.{one_answer}
use Rattle.c11_parsing.specs.Classes.{Input, project}
use Rattle.c11_parsing.specs.Core as core
use Rattle.c11_parsing.specs.Core.{count, filled, nothing, over, Piece, Stands}
use Rattle.c11_parsing.specs.Derives.{IsParserOf}
use Rattle.c11_parsing.specs.LR.{LR}
use Rattle.c11_parsing.specs.Parser.{Parser}
use Rattle.c11_parsing.specs.Trees.{Condition, Tree}
use Rattle.lr_tables.proofs.Members.{cons_cases, cons_head, cons_tail, no_member}
use Rattle.lr_tables.specs.declared.grammar.Grammar.{Grammar}
use Rattle.lr_tables.specs.declared.grammar.Terminal.{Terminal}
use Rattle.sc_base.specs.declared.fault.Fault as declared
use Rattle.sc_base.specs.declared.id.Cond.{Cond}
use Rattle.sc_base.specs.declared.place.Place.{Place}
use Rattle.sc_base.specs.declared.token.Token.{Token}
use Rattle.sc_base.specs.Seen.{IsHeld, seen}
use Rattle.sc_fork.proofs.GrowLemmas.{IsInput-Grows}
use Rattle.sc_fork.proofs.ParserLemmas.{is-parser}
use Rattle.sc_fork.specs.declared.event.Event.{Event}
use Rattle.sc_fork.specs.declared.outcome.Outcome.{Outcome}
use Rattle.sc_fork.specs.declared.source.Source.{Source}
use Rattle.sc_fork.specs.Cores.{AreRows, empty_row, event_of, full_row, IsFinished, no_rows, Starts}
use Rattle.sc_fork.specs.Enabled.{Has}
use Rattle.sc_fork.specs.Outcomes.{answers_at, faults_in, HasTree, IsOutcome, OwnsOutcome}
use Rattle.sc_fork.specs.Owns.{HasC11Tables, AreTerminals, IsPlaceOf}
use Rattle.sc_fork.specs.Parsers.{c11_parser}
use Rattle.sc_fork.specs.Seen.{IsInput}
use Rattle.sc_fork.specs.Starts.{AreFirst, no_first, one_first}
use Rattle.sc_lalr.specs.declared.tables.Tables as code
use Rattle.sc_lalr.specs.Tables.{tables_of}
use Rattle.sc_merge.specs.declared.subparser.Subparser.{Subparser}
use Rattle.sc_merge.specs.declared.subparser.Phase.TheVariants.{Between}
use Rattle.sc_merge.specs.Merges.{tables_with}
use Rattle.sc_model.specs.Fault.{Fault}
use Rattle.sc_model.specs.Growth.{IsOneToOne}
use Rattle.sc_model.specs.Sets.{IsCond, IsConfig, Keeps, Sets}
use Rattle.sc_model.specs.Token as plain
use Rattle.sc_parse.specs.declared.steps.Steps.{Steps}
use Rattle.sc_parse.proofs.EventLemmas.{run-stands-seen}
use Rattle.sc_parse.specs.MostClasses.{HasMostClasses}
use Rattle.sc_parse.specs.Parses.{IsAccepted, IsInputOf, IsParse, OwnsParsed}
use Rattle.sc_parse.specs.Places.{HasPlace, IsSchedule}
use Rattle.sc_parse.specs.Runs.{IsRun}
use Rattle.sc_parse.specs.Turns.{HasBegun}
use Rattle.sc_tree.specs.Lines.{Line}
use Rattle.sc_tree.specs.Reads.{Tables}
use Rattle.sc_model.specs.declared.standard.Standard.{Standard}

-- ---- the start

begun-rows : (sets : Sets) (live : Cond) (rows : List (Option Subparser)) → AreFirst sets live rows → (n : ℕ) (s : Subparser) → Has rows n s → (n ≡ 0) × (s.phase ≡ Between 0)
begun-rows sets live _ (no_first never) n s has = absurd (none-some (Some s) has)
begun-rows sets live _ (one_first t some first) zero s has = let same : t ≡ s = cc in (refl, subst (λ (r : Subparser). r.phase ≡ Between 0) same first.phase)
begun-rows sets live _ (one_first t some first) (suc n) s has = absurd (none-some (Some s) has)

-- the core is started for the list, and nothing was done
pub record IsStarted (given sets : Sets) (names : List (List ℕ)) (list : List (Cond × Token)) (tables : code.Tables) (standard : Standard) (end : Place) (live : Cond) (s : Steps) : Type 0 where
  pub list_is : s.core.source.list.now ≡ list
  pub tables_is : s.core.source.tables.now ≡ tables
  pub end_is : s.core.source.end ≡ end
  pub terminals : AreTerminals standard names list s.core.source.terminals.items
  pub start : (lines : List Line) (files : List (List ℕ)) → Starts (tables_with sets lines names files) s.core live
  pub first : AreFirst sets live s.core.subparsers
  pub ended : s.core.ended ≡ []
  pub events : s.events.items ≡ []
  pub keeps : Keeps given sets
  pub own_live : IsCond given live.0
  pub own : All (λ (item : Cond × Token). IsCond given item.0.0) list
  pub held : All (λ (item : Cond × Token). IsHeld names item.1) list
  pub apart : IsOneToOne names

module _ (given sets : Sets) (names : List (List ℕ)) (list : List (Cond × Token)) (tables : code.Tables) (standard : Standard) (end : Place) (live : Cond) (s : Steps) (is : IsStarted given sets names list tables standard end live s) where
  pub has-begun : HasBegun s.core
  has-begun = record { rows = begun-rows sets live s.core.subparsers is.first; none = is.ended }

  module _ (lines : List Line) (files : List (List ℕ)) (input : Input) (of : IsInputOf (tables_with given lines names files) list tables standard end live input) where
    abbrev of_list : (List (Cond × Token) → Type 0) → Type 0
    of_list P = P list → P s.core.source.list.now

    terminals-are : map (option_map (λ (x : Terminal). x.0)) s.core.source.terminals.items ≡ map (λ (item : Condition × plain.Token). input.parser.terminal_of item.1) input.items
    terminals-are =
        let test : plain.Token → Option ℕ = (c11_parser standard (tables_of of.states tables)).terminal_of in
        is.terminals
        ∙ sym (map-map test (λ (item : Cond × Token). seen names files item.1) list)
        ∙ ap (map test) (sym of.tokens)
        ∙ map-map test (λ (item : Condition × plain.Token). item.1) input.items
        ∙ ap (λ p. map (λ (item : Condition × plain.Token). p.terminal_of item.1) input.items) (sym of.parser)

    is-input : IsInput (tables_with given lines names files) s.core.source input
    is-input = record {
      standard = standard;
      states = of.states;
      parser = rw is.tables_is of.parser;
      arities = of.arities;
      end = rw is.end_is of.ends;
      tokens = rw is.list_is of.tokens;
      conditions = λ c config. rw is.list_is (of.conditions c config);
      terminals = terminals-are;
      own = subst (λ (xs : List (Cond × Token)). All (λ (item : Cond × Token). IsCond given item.0.0) xs) (sym is.list_is) is.own;
      held = subst (λ (xs : List (Cond × Token)). All (λ (item : Cond × Token). IsHeld names item.1) xs) (sym is.list_is) is.held;
      files = subst (λ (xs : List (Cond × Token)). All (λ (item : Cond × Token). item.1.place.file.0 < length files) xs) (sym is.list_is) of.files;
      names_differ = is.apart;
    }

    pub begins : (first : core.Core) × IsRun (tables_with sets lines names files) input first s
    begins =
        let has_live : core.Has input input.live (sets.has live.0) =
        λ c config. of.has_live c config ∙ sym (is.keeps.at live.0 c is.own_live (subst (λ ns. IsConfig ns c) of.arities config))
        in
        let seen = (is.start lines files).seen input (IsInput-Grows names files s.core.source input is.keeps is-input) has_live in (
          seen.0,
          record {
            start = seen.1.0;
            last = seen.0;
            run = subst (λ (events : List Event). core.CoreRun input seen.0 (map event_of events) seen.0) (sym is.events) nothing;
            is = seen.1.1;
          },
        )

-- ---- the end

rows-gone : (w : Tables) (input : Input) (rows : List (Option Subparser)) (others : List (Option core.Subparser)) → AreRows w input rows others
    → All (λ (row : Option Subparser). row ≡ None) rows → All (λ (row : Option core.Subparser). row ≡ None) others
rows-gone w input _ _ no_rows gone = All-nil (λ (row : Option core.Subparser). row ≡ None)
rows-gone w input _ _ (empty_row rows others are) gone =
    All-cons (λ (row : Option core.Subparser). row ≡ None) None others refl (rows-gone w input rows others are (All-tail (λ (row : Option Subparser). row ≡ None) None rows gone))
rows-gone w input _ _ (full_row s t rows others is are) gone = absurd (none-some s (sym (All-head (λ (row : Option Subparser). row ≡ None) (Some s) rows gone)))

-- the core as it is seen is finished where the core is
pub run-over : (w : Tables) (input : Input) (first : core.Core) (s : Steps) (run : IsRun w input first s) → IsFinished s.core → core.IsFinished run.last
run-over w input first s run done = rows-gone w input s.core.subparsers run.last.rows run.is.rows done.rows

-- ---- the answers of a configuration

answers-few : (c : List ℕ) (ps : List Piece) (es : List core.Ended) → length (answers_at es c) ≤ count c (ps ++ map over es)
answers-few c [] [] = omega arith
answers-few c [] (e ∷ es) = by (e.condition c) (answers-few c [] es)
  where
    by : (b : Bool) → length (answers_at es c) ≤ count c (map over es)
        → length (if b then e.answer c ∷ answers_at es c else answers_at es c) ≤ (if b then 1 else 0) + count c (map over es)
    by true few = omega (arith, few)
    by false few = omega (arith, few)
answers-few c (p ∷ ps) es = omega (arith, answers-few c ps es)

answer-member : (c : List ℕ) (es : List core.Ended) (e : core.Ended) → Contains es e → e.condition c ≡ true → Contains (answers_at es c) (e.answer c)
answer-member c [] e within has = absurd (no_member e within)
answer-member c (x ∷ es) e within has = elim (cons_cases x e es within) [
  | inl same ↦ subst (λ (y : core.Ended). Contains (if y.condition c then y.answer c ∷ answers_at es c else answers_at es c) (e.answer c)) (sym same)
      (subst (λ b. Contains (if b then e.answer c ∷ answers_at es c else answers_at es c) (e.answer c)) (sym has) (cons_head (e.answer c) (answers_at es c)))
  | inr rest ↦ by (x.condition c) (answer-member c es e rest has)
]
  where
    by : (b : Bool) → Contains (answers_at es c) (e.answer c) → Contains (if b then x.answer c ∷ answers_at es c else answers_at es c) (e.answer c)
    by true member = cons_tail (x.answer c) (e.answer c) (answers_at es c) member
    by false member = member

only : {A : Type 0} (xs : List A) (x : A) → length xs ≤ 1 → Contains xs x → xs ≡ x ∷ []
only [] x few within = absurd (no_member x within)
only (y ∷ []) x few within = elim (cons_cases y x [] within) [
  | inl same ↦ ap (λ z. z ∷ []) same
  | inr rest ↦ absurd (no_member x rest)
]
only (y ∷ (z ∷ zs)) x few within = absurd (omega (arith, few))

none : {A : Type 0} (xs : List A) → length xs ≤ 0 → xs ≡ []
none [] few = refl
none (x ∷ xs) few = absurd (omega (arith, few))

map-none : {A B : Type 0} (f : A → B) (xs : List A) → map f xs ≡ [] → xs ≡ []
map-none f [] e = refl
map-none f (x ∷ xs) e = absurd (cc)

-- the parser does what the tables of C11 say
pub record IsC11 (parser : Parser) : Type 0 where
  pub grammar : Grammar
  pub is : IsParserOf grammar parser

pub is-c11 : (w : Tables) (list : List (Cond × Token)) (tables : code.Tables) (standard : Standard) (end : Place) (live : Cond) (input : Input) → HasC11Tables tables → IsInputOf w list tables standard end live input → IsC11 input.parser
is-c11 w list tables standard end live input c11 of = record {
  grammar = c11.are.grammar;
  is = subst (IsParserOf c11.are.grammar) (sym of.parser) (is-parser c11.are.grammar c11.are.entries c11.are.terminals c11.are.nonterminals standard (tables_of c11.states tables) (tables_of of.states tables) c11.are.exact refl refl);
}

module _ (input : Input) (last : core.Core) (done : core.IsFinished last) (stands : Stands input last) where
  -- a configuration that is live has the one answer of LR parsing
  pub live-answer : (c : List ℕ) (answer : Result Tree Fault) → IsConfig input.arities c → input.live c ≡ true → LR input.parser input.end (project c input.items) answer
      → answers_at last.ended c ≡ answer ∷ []
  live-answer c answer config live lr =
      let is = finished-answers input last done stands c config live in
      let few : length (answers_at last.ended c) ≤ 1 =
      omega (arith, answers-few c (filled last.rows) last.ended, stands.counted c config, ap {B = ℕ} (λ b. if b then 1 else 0) live)
      in
      only (answers_at last.ended c) (is.ended.answer c) few (answer-member c last.ended is.ended is.member is.has)
      ∙ ap (λ a. a ∷ []) (one_answer input.parser input.end (project c input.items) (is.ended.answer c) answer is.answer lr)

  -- any other has none
  pub other-answers : (c : List ℕ) → IsConfig input.arities c → input.live c ≡ false → answers_at last.ended c ≡ []
  other-answers c config dead =
      none (answers_at last.ended c) (omega (arith, answers-few c (filled last.rows) last.ended, stands.counted c config, ap {B = ℕ} (λ b. if b then 1 else 0) dead))

  accepted : (c : List ℕ) (tree : Tree) → IsConfig input.arities c → HasTree last c tree → IsAccepted input c tree
  accepted c tree config has = by (input.live c) refl
    where
      by : (b : Bool) → input.live c ≡ b → IsAccepted input c tree
      by false dead = absurd (no_member (Ok tree) (subst (λ answers. Contains answers (Ok tree)) (other-answers c config dead) has.answer))
      by true live =
          let is = finished-answers input last done stands c config live in
          let one = live-answer c (is.ended.answer c) config live is.answer in
          elim (cons_cases (is.ended.answer c) (Ok tree) [] (subst (λ answers. Contains answers (Ok tree)) one has.answer)) [
            | inl same ↦ record { is_config = config; live = live; answer = subst (LR input.parser input.end (project c input.items)) same is.answer }
            | inr rest ↦ absurd (no_member (Ok tree) rest)
          ]

  pub parsed : (w : Tables) (o : Outcome) (classes : ℕ) (events : Vec Event) → input.arities ≡ w.sets.arities → IsC11 input.parser → IsOutcome w last o → HasMostClasses input classes
      → IsParse w input (record { root = o.root; faults = o.faults; classes = classes; events = events })
  parsed w o classes events arities c11 outcome most = record {
    classes = most;
    derivations = λ c tree is. derives-text c11.grammar input.parser c11.is input.end (project c input.items) tree is.answer;
    trees = λ c tree is.
        let one = live-answer c (Ok tree) is.is_config is.live is.answer in
        outcome.trees c tree (listed c is.is_config) (record { answer = subst (λ answers. Contains answers (Ok tree)) (sym one) (cons_head (Ok tree) []) });
    faults = λ c answer config live lr. outcome.faults c (listed c config) ∙ ap faults_in (live-answer c answer config live lr);
    others = λ c config dead. map-none _ _ (outcome.faults c (listed c config) ∙ ap faults_in (other-answers c config dead));
    some = λ id root.
        let found = outcome.some id root in
        (found.0, (found.1.0, accepted found.0 found.1.0 (subst (λ ns. IsConfig ns found.0) (sym arities) found.1.1.0) found.1.1.1));
  }
    where
      listed : (c : List ℕ) → IsConfig input.arities c → IsConfig w.sets.arities c
      listed c config = subst (λ ns. IsConfig ns c) arities config

pub own-parsed : (sets : Sets) (count : ℕ) (source : Source) (list : List (Cond × Token)) (end : Place) (o : Outcome) (classes : ℕ) (events : Vec Event) → source.list.now ≡ list
    → source.end ≡ end → OwnsOutcome sets count source o → OwnsParsed sets count list end (record { root = o.root; faults = o.faults; classes = classes; events = events })
own-parsed sets count source list end o classes events same_list same_end own = record {
  root = own.root;
  faults = own.faults;
  places = subst (λ (p : Place). All (λ (fault : declared.Fault). IsPlaceOf list p fault.place) o.faults.items) same_end
      (subst (λ (xs : List (Cond × Token)). All (λ (fault : declared.Fault). IsPlaceOf xs source.end fault.place) o.faults.items) same_list own.places);
}

-- ---- what is told of the events

pub schedule : (w : Tables) (input : Input) (first : core.Core) (s : Steps) → IsRun w input first s → IsFinished s.core
    → ((k : ℕ) → k < length input.items + 1 → HasPlace input first (map event_of s.events.items) k) → IsSchedule input s.events.items
schedule w input first s run done places = record {
  first = first;
  last = run.last;
  start = run.start;
  run = run.run;
  finished = run-over w input first s run done;
  answers = finished-answers input run.last (run-over w input first s run done) (run-stands-seen w input first s run);
  places = places;
}
