-- What a walk that enters a file leads to at each configuration.
use Rattle.std.proofs.Common.{◌≡◌, ℕ, ◌<◌, ◌&&◌, not, Bool, true, false, List, [], ◌∷◌, All, map, reverse, length, Option, None, Some, Result, Ok, Err, refl, sym, ap, ◌∙◌, subst, slice_get}
use Rattle.sc_base.specs.declared.fault.Fault as base
use Rattle.sc_base.specs.declared.place.Place.{Place}
use Rattle.sc_model.specs.Token.{Token, in_file}
use Rattle.sc_prep.proofs.BetweenRuns.{enters-run}
use Rattle.sc_prep.proofs.EnterMoves.{acts-unfaulty, arrived-at, begins-idle, begins-start, entering, idle, not-entered, put-before, put-inside, refused-at, refused-here, refused-not, refuses-inside, resumed, resumes}
use Rattle.sc_prep.proofs.Facts.{IsConfig-Keeps, IsConfig-kept, IsTable-Keeps, Keeps-trans, and_parts, items_at-Keeps}
use Rattle.sc_prep.proofs.FileWalk.{LeftBy, covers-entered, covers-idle}
use Rattle.sc_prep.proofs.Grown.{items-later, simulates-later}
use Rattle.sc_prep.proofs.Terms.{AllPass, Around, Begins, Cause, Cond, Content, Contents, Context, Denotes, Enters, EntersAt, Entry, Extends, Fault, File, FileId, FileLines, Files, IsCond, IsConfig, IsHeldWalk, IsNever, IsPlainState, IsTable, Keeps, Leaves, Machine, RefusesEach, RunAt, Sets, Standard, State, Walk, acts, any_token, arriving, back, enters, file_lines, file_with, has_no_newline, is_once_file, is_plain, items_at, lines_of, once_at, result_map, seen, seen_fault, seen_lines, start, text_at}
use Rattle.sc_prep.proofs.Texts.{run-anew, run-listed}
use Rattle.sc_prep.proofs.WalkMoves.{owns-kept, sections-kept, simulates-kept}
use Rattle.sc_prep.specs.Contents.{Agrees, AreContents, AreHeldLines, AreLinesOf, IsContent, IsHeldContent, RefusesAll, content_at, nested, refused}
use Rattle.sc_prep.specs.Simulates as simulates
use Rattle.sc_prep.specs.Simulates.{Arrives, Covers, IsAtTop, IsBetweenRuns, Leads, Owns, OwnsSection, PlainEach, Simulates, section_at}
use Rattle.sc_prep.specs.declared.content.Content.TheVariants as content

-- ---- what was kept of a file

-- the bytes of a file whose lines were kept
pub record HasLines (standard : Standard) (names files : List (List ℕ)) (name : List ℕ) (held : Option (List ℕ)) (found : FileLines) : Type 0 where
  pub bytes : List ℕ
  pub is : held ≡ Some bytes
  pub are : AreLinesOf standard names files name bytes found

pub has-lines : {names files : List (List ℕ)} {name : List ℕ} {held : Option (List ℕ)} {found : FileLines} {standard : Standard} → IsContent standard names files name held (Some (content.Lines found))
    → HasLines standard names files name held found
has-lines (nested bytes found are) = record { bytes = bytes; is = refl; are = are }

-- those of a file that refuses whoever enters it
pub record HasRefusal (standard : Standard) (files : List (List ℕ)) (name : List ℕ) (held : Option (List ℕ)) (cause : Cause) (place : Place) : Type 0 where
  pub bytes : List ℕ
  pub is : held ≡ Some bytes
  pub refuses : RefusesAll standard files name bytes cause place

pub has-refusal : {names files : List (List ℕ)} {name : List ℕ} {held : Option (List ℕ)} {cause : Cause} {place : Place} {standard : Standard} → IsContent standard names files name held (Some (content.Refused cause place))
    → HasRefusal standard files name held cause place
has-refusal (refused bytes cause place all) = record { bytes = bytes; is = refl; refuses = all }

-- ---- the configurations that enter the file

module _ {old mid : Sets} {names : List (List ℕ)} {w : Walk} {within : Cond} (files : List (List ℕ)) (cond : Cond) (entry : Entry) (keeps : Keeps old mid)
    (inside_is : Denotes mid within.0 (λ c. (old.has cond.0 c && old.has w.acting.0 c) && not (once_at old files w.once.items c (text_at files entry.file.0)))) (owns : Owns old w) (is : IsTable old names w.table) where
  abbrev EntersFile : Context → List ℕ → Machine → Machine → Type 0
  EntersFile x config m n = EntersAt x (text_at files entry.file.0) entry.depth m (old.has cond.0 config) n

  module _ (config : List ℕ) (m : Machine) (listed : IsConfig old.arities config) (at : Simulates old names files w config m) where
    pub stays : Simulates mid names files w config m
    stays = simulates-kept keeps w owns names files config m listed is at

    abbrev is-once : Bool
    is-once = once_at old files w.once.items config (text_at files entry.file.0)

    within-is : mid.has within.0 config ≡ ((old.has cond.0 config && acts m) && not is-once)
    within-is = inside_is.at config (IsConfig-Keeps keeps listed) ∙ ap (λ b. (old.has cond.0 config && b) && not is-once) at.acting

    parts-enter : mid.has within.0 config ≡ true → ((old.has cond.0 config && acts m) ≡ true) × (not is-once ≡ true)
    parts-enter here = and_parts (old.has cond.0 config && acts m) (not is-once) (sym within-is ∙ here)

    pub both-enter : mid.has within.0 config ≡ true → (old.has cond.0 config ≡ true) × (acts m ≡ true)
    both-enter here = and_parts (old.has cond.0 config) (acts m) (parts-enter here).0

    not-true : (b : Bool) → not b ≡ true → b ≡ false
    not-true true e = sym e
    not-true false e = refl

    -- the file may be entered
    pub enters-again : mid.has within.0 config ≡ true → is_once_file m.state (text_at files entry.file.0) ≡ false
    enters-again here = sym (at.once (acts-unfaulty m (both-enter here).1) (text_at files entry.file.0)) ∙ not-true is-once (parts-enter here).1

    enters-not : (x : Context) → mid.has within.0 config ≡ false → EntersFile x config m m
    enters-not x out = not-entered x (text_at files entry.file.0) entry.depth m (old.has cond.0 config) (acts m) is-once refl
        (λ acting. sym (at.once (acts-unfaulty m acting) (text_at files entry.file.0))) (sym within-is ∙ out)

    enters-file : (x : Context) (name bytes : List ℕ) → text_at files entry.file.0 ≡ name → x.files name ≡ Some bytes → (e : Result State Fault)
        → Enters x (file_with name bytes) (record m.state { depth = entry.depth }) e → mid.has within.0 config ≡ true → EntersFile x config m (arriving m (result_map (back m.state) e))
    enters-file x name bytes named there e walks here =
        let both = both-enter here in
        subst (λ b. EntersAt x (text_at files entry.file.0) entry.depth m b (arriving m (result_map (back m.state) e))) (sym both.0)
        (enters (file_with name bytes) e both.1 (sym named) (ap x.files named ∙ there) (enters-again here) walks)

  -- no configuration enters it
  pub leads-nowhere : (x : Context) → IsNever mid within.0 → Leads files names old w files names mid w IsBetweenRuns (EntersFile x)
  leads-nowhere x never = record {
    at = λ config m listed at here.
        record { machine = m; done = enters-not config m listed at x (never.none config (IsConfig-Keeps keeps listed)); simulates = stays config m listed at };
  }

  -- whoever enters it is refused
  module _ {standard : Standard} {new : Sets} {next : Walk} (cause : Cause) (place : Place) (later : Keeps mid new)
      (refuses : RefusesEach mid w (record { cond = within; cause = cause; place = place } ∷ []) new next) (x : Context) (by_standard : x.standard ≡ standard)
      (has : HasRefusal standard files (text_at files entry.file.0) (x.files (text_at files entry.file.0)) cause place) where
    abbrev fault : base.Fault
    fault = record { cond = within; cause = cause; place = place }

    refused-by : (config : List ℕ) (m : Machine) (listed : IsConfig old.arities config) (at : Simulates old names files w config m) (b : Bool) → mid.has within.0 config ≡ b
        → Arrives new names files next config (EntersFile x config m)
    refused-by config m listed at true here =
        let both = both-enter config m listed at here in
        record {
          machine = arriving m (Err (seen_fault files fault));
          done = enters-file config m listed at x (text_at files entry.file.0) has.bytes refl has.is (Err (seen_fault files fault)) (has.refuses x _ by_standard) here;
          simulates = subst (Simulates new names files next config) (refused-at x (text_at files entry.file.0) entry.depth m (seen_fault files fault) both.1)
              (refused-here later names files w next fault refuses (owns-kept keeps w owns) (IsTable-Keeps keeps is) config (IsConfig-Keeps keeps listed) m (stays config m listed at)
              inside_is.own here (acts-unfaulty m both.1));
        }
    refused-by config m listed at false out = record {
      machine = m;
      done = enters-not config m listed at x out;
      simulates = refused-not later names files w next fault refuses (owns-kept keeps w owns) (IsTable-Keeps keeps is) config (IsConfig-Keeps keeps listed) m (stays config m listed at) inside_is.own out;
    }

    pub leads-refused : Leads files names old w files names new next IsBetweenRuns (EntersFile x)
    leads-refused = record { at = λ config m listed at here. refused-by config m listed at (mid.has within.0 config) refl }

  -- its lines are walked
  module _ {last new : Sets} {begun walked next : Walk} {around : Around} (more more_files : List (List ℕ)) (later : Keeps mid last) (latest : Keeps last new)
      (begins : Begins mid w within begun around) (leaves : Leaves last walked around new next) where
    whole : Keeps old last
    whole = Keeps-trans keeps later

    kept : Owns last w
    kept = owns-kept whole w owns

    pub around-group : IsCond last around.group.0
    around-group = subst (λ (a : Around). IsCond last a.group.0) (sym begins.around_is) kept.group

    pub around-sections : All (OwnsSection last) around.sections.items
    around-sections = subst (λ (a : Around). All (OwnsSection last) a.sections.items) (sym begins.around_is) kept.sections

    -- ---- at one configuration
    module _ {standard : Standard} (grows : Extends names more) (files_grow : Extends files more_files) (held : IsHeldWalk names (length files) any_token w) (walked_owns : Owns last walked) (walked_is : IsTable last more walked.table) (x : Context) (by_standard : x.standard ≡ standard) (lines : FileLines)
        (named : slice_get files entry.file.0 ≡ Some (text_at files entry.file.0)) (has : HasLines standard names files (text_at files entry.file.0) (x.files (text_at files entry.file.0)) lines)
        (walks : Leads files names mid begun more_files more last walked (IsAtTop files entry) (λ config m n. Covers x (seen_lines standard names files lines.tokens.items) m n)) where
      abbrev file : File
      file = file_with (text_at files entry.file.0) has.bytes

      lines-are : seen_lines standard names files lines.tokens.items ≡ file_lines x file has.are.lexemes
      lines-are =
          ap (lines_of standard) has.are.tokens
          ∙ ap (λ st. lines_of st (map (in_file (text_at files entry.file.0)) has.are.lexemes)) (sym by_standard)

      module _ (config : List ℕ) (m : Machine) (listed : IsConfig old.arities config) (at : Simulates old names files w config m) where
        group-then : last.has around.group.0 config ≡ m.active
        group-then = ap (λ (a : Around). last.has a.group.0 config) begins.around_is ∙ (whole.at w.group.0 config owns.group listed ∙ at.active)

        sections-then : map (section_at last config) (reverse around.sections.items) ≡ m.sections
        sections-then =
            ap (λ (a : Around). map (section_at last config) (reverse a.sections.items)) begins.around_is
            ∙ (sections-kept whole config listed w.sections.items owns.sections ∙ at.sections)

        abbrev first : State
        first = entering entry.depth (text_at files entry.file.0) m.state

        -- the runs around the file
        waiting : m.fault ≡ None → RunAt new more more_files around.runs w.prepared.list config m.state
        waiting none =
            let all = Keeps-trans whole latest in
            subst (λ (a : Around). RunAt new more more_files a.runs w.prepared.list config m.state) (sym begins.around_is)
            ((simulates-later grows files_grow new w config m (IsTable-Keeps all is) held (simulates-kept all w owns names files config m listed is at)).text none)

        -- what was put out before the file
        put-then : map (seen more more_files) (items_at new w.prepared.list config) ≡ map (seen names files) (items_at mid w.prepared.list config)
        put-then =
            items-later grows files_grow new w.prepared.list config held.list
            ∙ ap (map (seen names files)) (items_at-Keeps w.prepared.list config (Keeps-trans later latest) (owns-kept keeps w owns).prepared.list (IsConfig-Keeps keeps listed))

        -- the machine behind the file, where its run was closed there
        module _ (n : Machine) (there : Simulates last more more_files walked config n) (unrun : n.state.run ≡ []) where
          put-last : n.fault ≡ None → map (seen more more_files) (items_at new walked.prepared.list config) ≡ n.state.output
          put-last none =
              put-inside latest more more_files walked next around leaves walked_owns walked_is around-group around-sections config (IsConfig-Keeps whole listed) m n there
              group-then sections-then none unrun

          goes-on : (run output : List Token) → (n.fault ≡ None → RunAt new more more_files around.runs walked.prepared.list config (resumed m n run output).state) → Simulates new more more_files next config (resumed m n run output)
          goes-on run output text =
              resumes latest more more_files walked next around leaves walked_owns walked_is around-group around-sections config (IsConfig-Keeps whole listed) m n there group-then sections-then run output text

        left-by : IsBetweenRuns m → (n : Machine) → Simulates last more more_files walked config n → mid.has within.0 config ≡ true → (e : Result State Fault)
            → Enters x file (record m.state { depth = entry.depth }) e → LeftBy e n → Arrives new more more_files next config (EntersFile x config m)
        left-by between n there here (Ok t) entered left =
            let both = both-enter config m listed at here in
            let unrun : n.state.run ≡ [] = ap (λ (k : Machine). k.state.run) left ∙ enters-run entered in
            record {
              machine = arriving m (Ok (back m.state t));
              done = enters-file config m listed at x (text_at files entry.file.0) has.bytes refl has.is (Ok t) entered here;
              simulates = subst (Simulates new more more_files next config) (arrived-at x (text_at files entry.file.0) entry.depth m n t both.1 left)
                  (goes-on n there unrun n.state.run n.state.output
                  (λ none. run-anew m.state (resumed m n n.state.run n.state.output).state (between both.1) unrun (put-last n there unrun none) (waiting (acts-unfaulty m both.1))));
            }
        left-by between n there here (Err fault) entered left =
            let both = both-enter config m listed at here in
            record {
              machine = arriving m (Err fault);
              done = enters-file config m listed at x (text_at files entry.file.0) has.bytes refl has.is (Err fault) entered here;
              simulates = subst (Simulates new more more_files next config) (refused-at x (text_at files entry.file.0) entry.depth m fault both.1)
                  (refuses-inside latest more more_files walked next around leaves walked_owns walked_is around-group around-sections config (IsConfig-Keeps whole listed) m n there
                  group-then sections-then fault left.fault_is);
            }

        abbrev was_put : List Token
        was_put = put-before mid names files w begun within around config m begins (stays config m listed at) (IsConfig-Keeps keeps listed)

        -- who does not enter the file stays as it is
        still-idle : mid.has within.0 config ≡ false → Simulates last more more_files walked config (idle m was_put)
        still-idle out =
            let begun_at = begins-idle mid names files w begun within around config m begins (stays config m listed at) (IsConfig-Keeps keeps listed) out in
            let after = walks.at config (idle m was_put) (IsConfig-Keeps keeps listed) begun_at (simulates.idles refl refl) in
            subst (Simulates last more more_files walked config) (covers-idle (idle m was_put) has.are.tree refl after.done) after.simulates

        -- and nothing of it is put out there
        pub outside-list : m.fault ≡ None → mid.has within.0 config ≡ false → map (seen more more_files) (items_at new walked.prepared.list config) ≡ map (seen names files) (items_at mid w.prepared.list config)
        outside-list none out = put-last (idle m was_put) (still-idle out) refl none

        entered-by : IsBetweenRuns m → (b : Bool) → mid.has within.0 config ≡ b → Arrives new more more_files next config (EntersFile x config m)
        entered-by between true here =
            let both = both-enter config m listed at here in
            let begun_at = begins-start mid names files w begun within around config m begins (stays config m listed at) (IsConfig-Keeps keeps listed) here both.1 between entry.depth (text_at files entry.file.0) in
            let after = walks.at config (start first) (IsConfig-Keeps keeps listed) begun_at (simulates.begins first refl (record { name = named; deep = refl })) in
            let entered = covers-entered x file (record m.state { depth = entry.depth }) has.are.lexemes has.are.group has.are.few has.are.lexed lines-are has.are.tree after.done in
            left-by between after.machine after.simulates here entered.end entered.enters entered.leaves
        entered-by between false out = record {
          machine = m;
          done = enters-not config m listed at x out;
          simulates = goes-on (idle m was_put) (still-idle out) refl m.state.run m.state.output (λ none. run-listed (outside-list none out ∙ sym put-then) (waiting none));
        }

      pub leads-inside : Leads files names old w more_files more new next IsBetweenRuns (EntersFile x)
      leads-inside = record { at = λ config m listed at here. entered-by config m listed at here (mid.has within.0 config) refl }

    -- ---- what is put out in the file

    pub begun-list : begun.prepared.list ≡ w.prepared.list
    begun-list = ap (λ (v : Walk). v.prepared.list) begins.is

    pub left-list : next.prepared.list ≡ walked.prepared.list
    left-list = ap (λ (v : Walk). v.prepared.list) leaves.is

    pub begun-plain : slice_get files entry.file.0 ≡ Some (text_at files entry.file.0) → has_no_newline (text_at files entry.file.0) ≡ true
        → PlainEach old names files w IsBetweenRuns → PlainEach mid names files begun (IsAtTop files entry)
    begun-plain named path plain = record {
      each = λ config listed.
          let was = IsConfig-kept keeps listed in
          let at = plain.each config was in
          by config was at.0 at.1 at.2 at.3 (mid.has within.0 config) refl;
    }
      where
        by : (config : List ℕ) → IsConfig old.arities config → (m : Machine) → Simulates old names files w config m → IsBetweenRuns m → IsPlainState m.state → (b : Bool) → mid.has within.0 config ≡ b
            → (n : Machine) × Simulates mid names files begun config n × IsAtTop files entry n × IsPlainState n.state
        by config was m at between state true here =
            let both = both-enter config m was at here in
            let first = entering entry.depth (text_at files entry.file.0) m.state in (
              start first,
              begins-start mid names files w begun within around config m begins (stays config m was at) (IsConfig-Keeps keeps was) here both.1 between entry.depth (text_at files entry.file.0),
              simulates.begins first refl (record { name = named; deep = refl }),
              record { macros = state.macros; run = state.run; file = path },
            )
        by config was m at between state false out = (
          idle m (put-before mid names files w begun within around config m begins (stays config m was at) (IsConfig-Keeps keeps was)),
          begins-idle mid names files w begun within around config m begins (stays config m was at) (IsConfig-Keeps keeps was) out,
          simulates.idles refl refl,
          record { macros = state.macros; run = tt; file = state.file },
        )

    pub left-plain : (more_names : List (List ℕ)) → (AllPass (is_plain names) begun.prepared.list → AllPass (is_plain more_names) walked.prepared.list)
        → AllPass (is_plain names) w.prepared.list → AllPass (is_plain more_names) next.prepared.list
    left-plain more_names walks list = subst (AllPass (is_plain more_names)) (sym left-list) (walks (subst (AllPass (is_plain names)) (sym begun-list) list))

-- refusing puts nothing out
pub refused-list : {old new : Sets} {w next : Walk} {fault : base.Fault} → RefusesEach old w (fault ∷ []) new next → next.prepared.list ≡ w.prepared.list
refused-list refuses = ap (λ (v : Walk). v.prepared.list) refuses.same

-- ---- what was kept, seen from later

-- the lines that were kept are those of the file
pub kept-lines : {names files : List (List ℕ)} {held : Files} {contents : Contents} {c : Content} {standard : Standard} (file : ℕ) (found : FileLines) → Agrees standard names files held contents
    → slice_get files file ≡ Some (text_at files file) → content_at contents file ≡ Some (Some c) → c ≡ content.Lines found → HasLines standard names files (text_at files file) (held (text_at files file)) found
kept-lines {names} {files} {held} {c = c} {standard} file found agrees named at is =
    let name = text_at files file in
    has-lines (subst (λ k. IsContent standard names files name (held name) (Some k)) is (agrees.each file name (Some c) named at))

pub kept-refusal : {names files : List (List ℕ)} {held : Files} {contents : Contents} {c : Content} {standard : Standard} (file : ℕ) (cause : Cause) (place : Place) → Agrees standard names files held contents
    → slice_get files file ≡ Some (text_at files file) → content_at contents file ≡ Some (Some c) → c ≡ content.Refused cause place
    → HasRefusal standard files (text_at files file) (held (text_at files file)) cause place
kept-refusal {names} {files} {held} {c = c} {standard} file cause place agrees named at is =
    let name = text_at files file in
    has-refusal {names = names} (subst (λ k. IsContent standard names files name (held name) (Some k)) is (agrees.each file name (Some c) named at))

-- the tables hold what was kept of a file
pub held-lines : {names files : List (List ℕ)} {holds : Option Files} {contents : Contents} {c : Content} {standard : Standard} (file : FileId) (found : FileLines) → AreContents standard names files holds contents
    → content_at contents file.0 ≡ Some (Some c) → c ≡ content.Lines found → AreHeldLines standard names (length files) file found
held-lines {names} {files} {c = c} {standard} file found are at is = subst (IsHeldContent standard names (length files) file) is (are.held file c at)

pub held-refusal : {names files : List (List ℕ)} {holds : Option Files} {contents : Contents} {c : Content} {standard : Standard} (file : FileId) (cause : Cause) (place : Place) → AreContents standard names files holds contents
    → content_at contents file.0 ≡ Some (Some c) → c ≡ content.Refused cause place → place.file.0 < length files
held-refusal {names} {files} {c = c} {standard} file cause place are at is =
    let same : place.file ≡ file = subst (IsHeldContent standard names (length files) file) is (are.held file c at) in
    subst (λ (f : FileId). f.0 < length files) (sym same) (are.named file.0 (Some c) at)
