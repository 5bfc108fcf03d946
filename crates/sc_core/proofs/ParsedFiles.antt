-- What the parsing of a preprocessed file comes to.
use Rattle.std.proofs.Common.{◌≡◌, ◌∙◌, ◌+◌, ◌++◌, ℕ, suc, ◌<◌, ◌≤◌, Bool, true, false, List, [], ◌∷◌, All, length, map, get_or, slice_get, Option, Some, None, Result, Ok, Err, append-nil, arith, inl, inr, ◌⊎◌, refl, sym, ap, subst}
use Rattle.std.proofs.lemmas.Bool.{and_parts, false≢true}
use Rattle.std.proofs.lemmas.List.{length-map}
use Rattle.std.proofs.lemmas.List.Elements.{All-append, All-contains, All-weaker}
use Rattle.std.proofs.lemmas.Option.{slice_get_within, slice_get-get_or}
use Rattle.std.proofs.lemmas.Simd.{map-map}
use Rattle.std.specs.Prelude.{◌&&◌, if◌then◌else◌}
use Rattle.std.specs.Result.{is_ok}
use Rattle.c11_directives.specs.PutOut.{FilesPutOut}
use Rattle.c11_directives.specs.Pre.{Pre}
use Rattle.c11_directives.specs.Listed.{IsListed}
use Rattle.c11_parsing.specs.Classes.{Input, project}
use Rattle.c11_parsing.specs.LR.{LR}
use Rattle.c11_parsing.specs.Parser.{Parser}
use Rattle.c11_parsing.specs.Trees.{Condition, Tree}
use Rattle.sc_base.specs.declared.fault.Fault as base
use Rattle.sc_base.specs.declared.id.Cond.{Cond}
use Rattle.sc_base.specs.declared.id.Name.{Name}
use Rattle.sc_base.specs.declared.id.TreeId.{TreeId}
use Rattle.sc_base.specs.declared.place.Place as declared
use Rattle.sc_base.specs.declared.stop.Stop.{Stop}
use Rattle.sc_base.specs.declared.stop.Stop.TheVariants.{BranchesFull, ReadFault, OutOfMemory}
use Rattle.sc_base.specs.declared.token.Token.{Token}
use Rattle.sc_base.specs.Seen.{seen, seen_place}
use Rattle.sc_core.proofs.Filling.{class-configs, config-is, is-config, is_config}
use Rattle.sc_core.proofs.Translating.{held-main}
use Rattle.sc_core.proofs.OneItems.{more-configs, nth-item}
use Rattle.sc_core.specs.Ordinary.{HasManyBranches, IsFileInput, IsPreparedAt, Setting, Translates, not_prepared, parsed}
use Rattle.sc_core.specs.Texts.{HasAnswers, IsTranslated, Stands, StopsIn, setting_of}
use Rattle.sc_expand.specs.Stops.{HasConfigs}
use Rattle.sc_fork.specs.Choices.{AddsLeaves}
use Rattle.sc_fork.specs.Owns.{HasC11Tables, IsPlaceOf}
use Rattle.sc_fork.specs.Parsers.{c11_parser, IsC11Parser}
use Rattle.sc_fork.specs.Seen.{place_of}
use Rattle.sc_guarded.proofs.ItemLemmas.{faults_at-append, faults_at-Keeps}
use Rattle.sc_guarded.specs.Items.{faults_at, items_at, seen_fault}
use Rattle.sc_guarded.specs.Printable.{AreApart, IsShowable, IsShowableFault}
use Rattle.sc_lalr.specs.declared.tables.Tables as code
use Rattle.sc_lalr.specs.Tables.{conflicts_of, tables_of}
use Rattle.sc_merge.specs.Merges.{tables_with}
use Rattle.sc_model.specs.Fault.{Fault}
use Rattle.sc_model.specs.Outside.{Files}
use Rattle.sc_model.specs.Sets.{Sets, IsConfig, Keeps}
use Rattle.sc_model.specs.Space.{Space, arities_of}
use Rattle.sc_model.specs.Token as plain
use Rattle.sc_parse.specs.declared.parsed.Parsed.{Parsed}
use Rattle.sc_parse.specs.Parses.{IsInputOf, IsParse, OwnsParsed, StopsFor}
use Rattle.sc_parse.specs.Places.{IsSchedule}
use Rattle.sc_fork.specs.declared.event.Event.{Event}
use Rattle.sc_prep.specs.Closes.{has_none, is_empty}
use Rattle.sc_prep.specs.Contents.{end_of_file}
use Rattle.sc_prep.specs.declared.prepared.Prepared.{Prepared}
use Rattle.sc_prep.specs.OneElement.{IsThin}
use Rattle.sc_prep.specs.Preprocesses as prep
use Rattle.sc_prep.specs.Preprocesses.{IsOrdinary, OwnsList, is_accepted}
use Rattle.sc_prep.specs.Printable.{CanBeShown}
use Rattle.sc_show.specs.TreeShows.{AreShowableLeaves, IsShowableLeaf}
use Rattle.sc_tree.specs.Lines.{Line}
use Rattle.sc_tree.specs.Reads.{Tables}
use Rattle.sc_model.specs.declared.standard.Standard.{Standard}

-- ---- the list as it is parsed

pub c11-parser : Standard → {tables : code.Tables} → HasC11Tables tables → Parser
c11-parser standard {tables} are = c11_parser standard (tables_of are.states tables)

pub c11-is : (standard : Standard) {tables : code.Tables} (are : HasC11Tables tables) → IsC11Parser standard (c11-parser standard are)
unfolding c11-parser
c11-is standard {tables} are = record { tables = tables_of are.states tables; are_tables = are.are; is = refl }

pub c11-conflicts : (standard : Standard) {tables : code.Tables} (are : HasC11Tables tables) → (c11-parser standard are).tables.conflicts ≡ conflicts_of tables
unfolding c11-parser
c11-conflicts standard are = refl

abbrev pub item_seen : Sets → (names files : List (List ℕ)) → Cond × Token → Condition × plain.Token
item_seen s names files item = (s.has item.0.0, seen names files item.1)

abbrev pub file_input : Sets → (names files : List (List ℕ)) → Parser → Prepared → Condition → Input
file_input s names files parser p live = record { parser = parser; arities = s.arities; items = map (item_seen s names files) p.list; end = seen_place files p.end; live = live }

project-items : (s : Sets) (names files : List (List ℕ)) (c : List ℕ) (list : List (Cond × Token)) → project c (map (item_seen s names files) list) ≡ map (seen names files) (items_at s list c)
project-items s names files c [] = refl
project-items s names files c (item ∷ items) = by (s.has item.0.0 c) (project-items s names files c items)
  where
    by : (b : Bool) → project c (map (item_seen s names files) items) ≡ map (seen names files) (items_at s items c)
        → (if b then seen names files item.1 ∷ project c (map (item_seen s names files) items) else project c (map (item_seen s names files) items))
        ≡ map (seen names files) (if b then item.1 ∷ items_at s items c else items_at s items c)
    by true e = ap (λ ts. seen names files item.1 ∷ ts) e
    by false e = e

-- ---- faults

short-stands : (w : Tables) (root : Option TreeId) (faults : List base.Fault) (c : List ℕ) (answer : Result Tree Fault) → Stands w root faults c answer → length (faults_at w.sets faults c) ≤ 1
short-stands w root faults c (Ok tree) stands = let none = ap length stands.0 in omega arith
short-stands w root faults c (Err fault) stands = let one = sym (length-map (faults_at w.sets faults c) (seen_fault w.files)) ∙ ap length stands in omega arith

no-faults : (files : List (List ℕ)) (faults : List base.Fault) → map (seen_fault files) faults ≡ [] → faults ≡ []
no-faults files [] is = refl
no-faults files (fault ∷ faults) is = let long : suc (length (map (seen_fault files) faults)) ≡ 0 = ap length is in absurd (omega arith)

one-fault : (faults : List base.Fault) → is_empty faults ≡ false → length faults ≤ 1 → (fault : base.Fault) × (faults ≡ fault ∷ [])
one-fault [] is few = absurd (false≢true (sym is))
one-fault (fault ∷ []) is few = (fault, refl)
one-fault (fault ∷ other ∷ faults) is few = absurd (omega (arith, few))

empty-is : (faults : List base.Fault) → is_empty faults ≡ true → faults ≡ []
empty-is [] is = refl
empty-is (fault ∷ faults) is = absurd (false≢true is)

-- ---- after preprocessing

module _ (s : Sets) (names files : List (List ℕ)) (p : Prepared) (tables : code.Tables) (standard : Standard) (are : HasC11Tables tables) (shown : CanBeShown s names files p) where
  abbrev pub input : Input
  input = file_input s names files (c11-parser standard are) p (s.has p.live.0)

  -- live under listed configurations alone
  abbrev pub listed_input : Input
  listed_input = file_input s names files (c11-parser standard are) p (λ c. is_config s.arities c && s.has p.live.0 c)

  input-under : (live : Condition) → ((c : List ℕ) → IsConfig s.arities c → live c ≡ s.has p.live.0 c) → (lines : List Line)
      → IsInputOf (tables_with s lines names files) p.list tables standard p.end p.live (file_input s names files (c11-parser standard are) p live)
  unfolding c11-parser
  input-under live has lines = record {
    states = are.states;
    parser = refl;
    arities = refl;
    ends = refl;
    has_live = has;
    tokens = map-map (λ (item : Condition × plain.Token). item.1) (item_seen s names files) p.list;
    conditions = λ c listed. map-map (λ (item : Condition × plain.Token). item.0 c) (item_seen s names files) p.list;
    files = All-weaker (IsShowable s names files) (λ (item : Cond × Token). item.1.place.file.0 < length files) (λ item is. is.file) p.list shown.list;
  }

  pub is-input : (lines : List Line) → IsInputOf (tables_with s lines names files) p.list tables standard p.end p.live input
  is-input = input-under (s.has p.live.0) (λ c listed. refl)

  listed-live : (c : List ℕ) → IsConfig s.arities c → listed_input.live c ≡ s.has p.live.0 c
  listed-live c listed = ap (λ b. b && s.has p.live.0 c) (config-is s.arities c listed)

  live-formed : (space : Space) → s.arities ≡ arities_of space → (c : List ℕ) → listed_input.live c ≡ true → IsConfig (arities_of space) c
  live-formed space arities c live = subst (λ ns. IsConfig ns c) arities (is-config s.arities c (and_parts (is_config s.arities c) (s.has p.live.0 c) live).0)

  pub is-listed-input : (lines : List Line) → IsInputOf (tables_with s lines names files) p.list tables standard p.end p.live listed_input
  is-listed-input = input-under listed_input.live listed-live

  -- what is parsed where preprocessing accepts the file, by what it gives there
  module _ (space : Space) (main : List ℕ) (outside : Files) (arities : s.arities ≡ arities_of space)
      (ordinary : (config : List ℕ) → IsListed space config → IsOrdinary s names files p (Pre space outside main config) config)
      (listed_of : (config : List ℕ) → IsConfig s.arities config → s.has p.live.0 config ≡ true → IsListed space config)
      (ends : (bytes : List ℕ) → outside main ≡ Some bytes → (config : List ℕ) → IsConfig s.arities config → s.has p.live.0 config ≡ true → seen_place files p.end ≡ end_of_file main bytes)
      (thin : (HasConfigs s.arities (space.branches + 1) → ⊥) → IsThin s p.list p.live.0 (FilesPutOut space outside main)) where
    abbrev setting : Setting
    setting = setting_of space main (c11-parser standard are) outside

    prepared-tokens : (config : List ℕ) (o : Result (List plain.Token) Fault) (ts : List plain.Token) → o ≡ Ok ts
        → prep.Stands o (map (seen names files) (items_at s p.list config)) (map (seen_fault files) (faults_at s p.faults.items config)) → project config listed_input.items ≡ ts
    prepared-tokens config (Ok us) ts is stands = project-items s names files config p.list ∙ (stands.0 ∙ cc)
    prepared-tokens config (Err fault) ts is stands = cc

    accepted-ok : (o : Result (List plain.Token) Fault) → is_accepted o ≡ is_ok o
    accepted-ok (Ok ts) = refl
    accepted-ok (Err fault) = refl

    prepared-at : (config : List ℕ) → IsListed space config → IsPreparedAt setting listed_input config
    prepared-at config listed =
        let here = subst (λ ns. IsConfig ns config) (sym arities) listed.formed in
        let o = ordinary config listed in
        record {
          answer = o.answer;
          preprocessed = o.preprocessed;
          live = listed-live config here ∙ (o.live ∙ accepted-ok o.answer);
          tokens = λ ts is. prepared-tokens config o.answer ts is o.stands;
          ends = λ ts bytes is held. ends bytes held config here (o.live ∙ ap is_accepted is);
        }

    live-listed : (c : List ℕ) → listed_input.live c ≡ true → IsListed space c
    live-listed c live =
        let parts = and_parts (is_config s.arities c) (s.has p.live.0 c) live in
        listed_of c (is-config s.arities c parts.0) parts.1

    live-formed-here : (c : List ℕ) → listed_input.live c ≡ true → IsConfig s.arities c × (s.has p.live.0 c ≡ true)
    live-formed-here c live = let parts = and_parts (is_config s.arities c) (s.has p.live.0 c) live in (is-config s.arities c parts.0, parts.1)

    pub file-input : IsFileInput setting listed_input
    file-input = record {
      parser = refl;
      arities = arities;
      each = prepared-at;
      listed = live-listed;
      thin = λ few c d live live_d f index n m one two.
          let here = live-formed-here c live in
          let there = live-formed-here d live_d in
          let have = (thin (λ many. few (more-configs arities many))).one c d here.0 there.0 here.1 there.1 f index n m one two in (
            have.0,
            nth-item s (seen names files) c p.list n have.0 have.1,
            nth-item s (seen names files) d p.list m have.0 have.2,
          );
    }

  -- why there is no tree of a file that was preprocessed
  pub stops-in : (space : Space) → standard ≡ space.standard → (main : List ℕ) (holds : Option Files) (before after : ℕ) → s.arities ≡ arities_of space
      → ((outside : Files) → holds ≡ Some outside → IsFileInput (setting_of space main (c11-parser standard are) outside) listed_input) → (stop : Stop) → StopsFor listed_input space.branches stop
      → StopsIn (λ s. HasManyBranches s) holds before after space main stop
  stops-in space same main holds before after arities is (BranchesFull count) stops = (
    stops.0,
    record {
      configs = class-configs space listed_input (live-formed space arities) stops.1;
      parser = c11-parser standard are;
      why = λ files told. inr (record { c11 = subst (λ other. IsC11Parser other (c11-parser standard are)) same (c11-is standard are); input = listed_input; is_input = is files told; more = stops.1 });
    },
  )
  stops-in space same main holds before after arities is ReadFault stops = absurd stops
  stops-in space same main holds before after arities is OutOfMemory stops = tt

-- ---- after parsing

module _ (s new : Sets) (keeps : Keeps s new) (names files : List (List ℕ)) (p : Prepared) (tables : code.Tables) (standard : Standard) (are : HasC11Tables tables) (shown : CanBeShown s names files p) (owns : OwnsList s p)
    (lines : List Line) (result : Parsed) (events : List Event)
    (parse : IsParse (tables_with new lines names files) (input s names files p tables standard are shown) result) (schedule : IsSchedule (input s names files p tables standard are shown) events) where
  abbrev all_faults : List base.Fault
  all_faults = p.faults.items ++ result.faults.items

  -- a live configuration has an answer
  answer-at : (c : List ℕ) → IsConfig s.arities c → s.has p.live.0 c ≡ true
      → (answer : Result Tree Fault) × LR (c11-parser standard are) (seen_place files p.end) (project c (map (item_seen s names files) p.list)) answer
  answer-at c listed live = let is = schedule.answers c listed live in (is.ended.answer c, is.answer)

  faults-after : (c : List ℕ) → IsConfig s.arities c → faults_at new all_faults c ≡ faults_at s p.faults.items c ++ faults_at new result.faults.items c
  faults-after c listed =
      faults_at-append new p.faults.items result.faults.items c ∙ ap (λ faults. faults ++ faults_at new result.faults.items c) (faults_at-Keeps p.faults.items c keeps owns.faults listed)

  here : (c : List ℕ) → IsConfig new.arities c → IsConfig s.arities c
  here c listed = subst (λ ns. IsConfig ns c) keeps.arities listed

  -- a live configuration has what parsing answers, each other one the faults of preprocessing
  stands-live : (c : List ℕ) → IsConfig s.arities c → s.has p.live.0 c ≡ true → faults_at s p.faults.items c ≡ [] → (answer : Result Tree Fault)
      → LR (c11-parser standard are) (seen_place files p.end) (project c (map (item_seen s names files) p.list)) answer → Stands (tables_with new lines names files) result.root all_faults c answer
  stands-live c listed live none (Ok tree) lr = (
    faults-after c listed ∙ ap (λ faults. faults ++ faults_at new result.faults.items c) none ∙ no-faults files (faults_at new result.faults.items c) (parse.faults c (Ok tree) listed live lr),
    parse.trees c tree (record { is_config = listed; live = live; answer = lr }),
  )
  stands-live c listed live none (Err fault) lr =
      ap (map (seen_fault files)) (faults-after c listed ∙ ap (λ faults. faults ++ faults_at new result.faults.items c) none) ∙ parse.faults c (Err fault) listed live lr

  faults-before : (c : List ℕ) → IsConfig s.arities c → s.has p.live.0 c ≡ false → faults_at new all_faults c ≡ faults_at s p.faults.items c
  faults-before c listed live = faults-after c listed ∙ (ap (λ faults. faults_at s p.faults.items c ++ faults) (parse.others c listed live) ∙ append-nil (faults_at s p.faults.items c))

  module _ (is_listed : List ℕ → Type 0) (formed : (c : List ℕ) → is_listed c → IsConfig s.arities c)
      (live : (c : List ℕ) → is_listed c → s.has p.live.0 c ≡ has_none s p.faults.items c)
      (listed_of : (c : List ℕ) → IsConfig s.arities c → s.has p.live.0 c ≡ true → is_listed c) where
    none-before : (c : List ℕ) → is_listed c → s.has p.live.0 c ≡ true → faults_at s p.faults.items c ≡ []
    none-before c listed is = empty-is (faults_at s p.faults.items c) (sym (live c listed) ∙ is)

    answered-by : (c : List ℕ) → is_listed c → (b : Bool) → s.has p.live.0 c ≡ b
        → (answer : Result Tree Fault) × Stands (tables_with new lines names files) result.root all_faults c answer
    answered-by c listed true is = let answer = answer-at c (formed c listed) is in (answer.0, stands-live c (formed c listed) is (none-before c listed is) answer.0 answer.1)
    answered-by c listed false is =
        let one = one-fault (faults_at s p.faults.items c) (sym (live c listed) ∙ is) (shown.apart.few c (formed c listed)) in
        (Err (seen_fault files one.0), ap (map (seen_fault files)) (faults-before c (formed c listed) is ∙ one.1))

    -- the root stands for the tree of a configuration
    accepted-by : (id : TreeId) → result.root ≡ Some id
        → (c : List ℕ) × (is_listed c × ((tree : Tree) × Stands (tables_with new lines names files) result.root all_faults c (Ok tree)))
    accepted-by id is =
        let some = parse.some id is in
        let it = some.1.1 in
        let listed = listed_of some.0 it.is_config it.live in
        (some.0, (listed, (some.1.0, stands-live some.0 it.is_config it.live (none-before some.0 listed it.live) (Ok some.1.0) it.answer)))

    pub parsed-answers : HasAnswers is_listed (tables_with new lines names files) result.root all_faults
    parsed-answers = record { each = λ c listed. answered-by c listed (s.has p.live.0 c) refl; some = accepted-by }

    pub parsed-apart : AreApart new all_faults
    parsed-apart = record { few = λ c formed_now. few c (here c formed_now) (s.has p.live.0 c) refl }
      where
        few : (c : List ℕ) → IsConfig s.arities c → (b : Bool) → s.has p.live.0 c ≡ b → length (faults_at new all_faults c) ≤ 1
        few c config true is =
            let answer = parsed-answers.each c (listed_of c config is) in
            short-stands (tables_with new lines names files) result.root all_faults c answer.0 answer.1
        few c config false is = subst (λ faults. length faults ≤ 1) (sym (faults-before c config is)) (shown.apart.few c config)

  module _ (space : Space) (main : List ℕ) (outside : Files) (arities : s.arities ≡ arities_of space)
      (ordinary : (config : List ℕ) → IsListed space config → IsOrdinary s names files p (Pre space outside main config) config)
      (ends : (bytes : List ℕ) → outside main ≡ Some bytes → (config : List ℕ) → IsConfig s.arities config → s.has p.live.0 config ≡ true → seen_place files p.end ≡ end_of_file main bytes) where
    abbrev parsed_setting : Setting
    parsed_setting = setting_of space main (c11-parser standard are) outside

    abbrev There : List ℕ → Type 0
    There config = IsTranslated parsed_setting (tables_with new lines names files) result.root all_faults config

    parsed-as : (config : List ℕ) → IsConfig s.arities config → s.has p.live.0 config ≡ true → faults_at s p.faults.items config ≡ [] → (answer : Result Tree Fault)
        → Translates parsed_setting config answer
        → LR (c11-parser standard are) (seen_place files p.end) (project config (map (item_seen s names files) p.list)) answer → There config
    parsed-as config listed live none answer translated lr = record { ordinary = answer; translated = translated; stands = stands-live config listed live none answer lr }

    translated-by : (config : List ℕ) → IsConfig s.arities config → (o : Result (List plain.Token) Fault) → Pre space outside main config o
        → prep.Stands o (map (seen names files) (items_at s p.list config)) (map (seen_fault files) (faults_at s p.faults.items config)) → s.has p.live.0 config ≡ is_accepted o → There config
    translated-by config listed (Ok ts) pre stands live =
        let answer = answer-at config listed live in
        let held = held-main pre in
        let tokens = project-items s names files config p.list ∙ stands.0 in
        let lr = subst (λ (place : plain.Place). LR (c11-parser standard are) place ts answer.0) (ends held.0 held.1 config listed live)
        (subst (λ (us : List plain.Token). LR (c11-parser standard are) (seen_place files p.end) us answer.0) tokens answer.1) in
        parsed-as config listed live (no-faults files (faults_at s p.faults.items config) stands.1) answer.0 (parsed ts held.0 answer.0 pre held.1 lr) answer.1
    translated-by config listed (Err fault) pre stands live =
        record { ordinary = Err fault; translated = not_prepared fault pre; stands = ap (map (seen_fault files)) (faults-before config listed live) ∙ stands }

    pub translated-at : (config : List ℕ) → IsListed space config → There config
    translated-at config listed =
        let now = subst (λ ns. IsConfig ns config) (sym arities) listed.formed in
        let o = ordinary config listed in
        translated-by config now o.answer o.preprocessed o.stands o.live

    -- each other one has no fault, as before
    pub others-after : ((config : List ℕ) → IsConfig s.arities config → IsListed space config ⊎ ((faults_at s p.faults.items config ≡ []) × (s.has p.live.0 config ≡ false)))
        → (config : List ℕ) → IsConfig new.arities config → IsListed space config ⊎ (faults_at new all_faults config ≡ [])
    others-after others config formed = elim (others config (here config formed)) [
      | inl listed ↦ inl listed
      | inr out ↦ inr (faults-before config (here config formed) out.1 ∙ out.0)
    ]

-- ---- what can be shown

module _ {s : Sets} {names files : List (List ℕ)} {p : Prepared} (shown : CanBeShown s names files p) where
  pub parsed-leaves : {lines : List Line} → AddsLeaves p.list [] lines → AreShowableLeaves names files lines
  parsed-leaves {lines} adds = record {
    each = λ i place spelling at.
        let found = adds.leaves i place spelling (ap (λ ls. slice_get ls i) (sym (adds.is ∙ refl)) ∙ at) in
        let item = All-contains (IsShowable s names files) p.list found.0 shown.list found.1.0 in
        leaf-shown found.0 place spelling item found.1.1.0 found.1.1.1;
  }
    where
      leaf-shown : (item : Cond × Token) (place : declared.Place) (spelling : Name) → IsShowable s names files item → item.1.place ≡ place → item.1.spelling ≡ spelling → IsShowableLeaf names files place spelling
      leaf-shown item place spelling is at so =
          subst (λ (q : declared.Place). IsShowableLeaf names files q spelling) at
          (subst (λ (n : Name). IsShowableLeaf names files item.1.place n) so (record { file = is.file; name = is.held.spelling; plain = is.plain }))

  place-held : (place : declared.Place) → p.end.file.0 < length files → IsPlaceOf p.list p.end place → place.file.0 < length files
  place-held place end is = by (slice_get p.list is.0) refl (is.1)
    where
      item-is : (item : Cond × Token) → is.0 < length p.list → slice_get p.list is.0 ≡ Some item → get_or p.list is.0 item ≡ item
      item-is item within at = let same = sym (slice_get-get_or p.list is.0 item within) ∙ at in cc

      by : (o : Option (Cond × Token)) → slice_get p.list is.0 ≡ o → place ≡ place_of p.end (slice_get p.list is.0) → place.file.0 < length files
      by None at so = subst (λ (q : declared.Place). q.file.0 < length files) (sym (so ∙ ap (place_of p.end) at)) end
      by (Some item) at so =
          let within = slice_get_within p.list is.0 item at in
          let there = shown.list is.0 item within in
          subst (λ (q : declared.Place). q.file.0 < length files) (sym (so ∙ ap (place_of p.end) at)) (subst (λ (x : Cond × Token). x.1.place.file.0 < length files) (item-is item within at) there.file)

  pub parsed-faults : {new : Sets} {count : ℕ} {result : Parsed} → Keeps s new → OwnsParsed new count p.list p.end result → p.end.file.0 < length files
      → All (IsShowableFault new files) (p.faults.items ++ result.faults.items)
  parsed-faults {new} {count} {result} keeps owned end =
      All-append (IsShowableFault new files) p.faults.items result.faults.items
      (All-weaker (IsShowableFault s files) (IsShowableFault new files) (λ fault is. record { own = keeps.own fault.cond.0 is.own; file = is.file }) p.faults.items shown.faults)
      (λ k d h. record { own = owned.faults k d h; file = place-held (get_or result.faults.items k d).place end (owned.places k d h) })
