-- A walk of the main file, from before its first line.
use Rattle.std.proofs.Common.{append-nil, ◌≡◌, ℕ, ◌+◌, ◌<◌, ◌≤◌, ◌++◌, ◌&&◌, Bool, true, false, List, [], ◌∷◌, All, length, map, Option, Some, None, Result, Err, refl, sym, ap, ◌∙◌, inl, inr, subst, arith}
use Rattle.std.specs.Prelude.{is_none, slice_get}
use Rattle.c11_directives.proofs.PreLaws.{pre-unique}
use Rattle.c11_directives.specs.Footprints.{FilesHave}
use Rattle.c11_directives.specs.PutOut.{FilesPutOut}
use Rattle.c11_directives.specs.Reaches.{Moment, Reaches}
use Rattle.sc_base.specs.declared.fault.Fault as base
use Rattle.sc_base.specs.declared.place.Place as declared
use Rattle.sc_base.specs.Interns as interns
use Rattle.sc_base.specs.Interns.{Interns}
use Rattle.sc_expand.specs.Stops.{HasConfigs}
use Rattle.sc_guarded.specs.Printable.{IsShowable, IsShowableFault}
use Rattle.sc_model.specs.Token as plain
use Rattle.sc_prep.proofs.EnterLeads.{HasRefusal, has-lines, has-refusal}
use Rattle.sc_prep.proofs.EnterMoves.{refused-here, refused-not}
use Rattle.sc_prep.proofs.Facts.{Keeps-trans, same_Some, All-append, All-cons, All-nil, All-weaker, Extends-refl, Extends-trans, IsConfig-Keeps, IsConfig-kept, IsTable-Extends, and_parts, both_ways, cases_Bool, faults_at-Keeps, items_at-Keeps}
use Rattle.sc_prep.proofs.FileTokens.{all-shown, faults-few}
use Rattle.sc_prep.proofs.MainWalk.{begins-as, entered-ordinary, finds-main}
use Rattle.sc_prep.proofs.Plain.{initial-plain}
use Rattle.sc_prep.proofs.Going.{searched}
use Rattle.sc_prep.proofs.SharesKept.{nth-later}
use Rattle.sc_prep.proofs.Stopping.{moments-as, stops-among, stops-as}
use Rattle.sc_prep.proofs.Terms.{AllPass, AreApart, AreContents, AreOnceHeld, ArePlaced, ArePlainPaths, CanBeShown, Cause, Comes, ComesInside, Cond, Content, Contents, Context, Denotes, EntersAt, Extends, Fault, File, FileId, Files, Includes, IsBegun, IsBetweenRuns, IsCond, IsConfig, IsContent, IsContext, IsHeldContent, IsHeldWalk, IsOrdinary, IsOutcomeOf, IsReady, IsRefused, IsSound, IsStored, IsTable, Keeps, Leads, Machine, MacroTable, MomentsHave, Owns, OwnsList, PlainEach, Pre, Prepared, RefusesEach, Sets, Simulates, Space, Standard, State, Stop, StopsAmong, StopsAtPlace, Token, Walk, any_token, arities_of, content_at, context_of, end_of_file, end_place, entered, fault_at, faults_at, file_with, first_place, found_or, has_no_newline, has_none, initial_macros, initial_state, is_accepted, is_empty, is_plain, items_at, macros_at, option_to_list, search, seen, seen_fault, seen_place, start, text_at, unwrap_or}
use Rattle.sc_prep.specs.MainFile.{PreparesMain}
use Rattle.sc_prep.specs.New.{IsNew}
use Rattle.sc_prep.specs.Pragmas.{HasNoPragma}
use Rattle.sc_prep.proofs.Texts.{holds-none}
use Rattle.sc_prep.specs.declared.content.Content.TheVariants as content
use Rattle.sc_prep.specs.Includes.{elsewhere, inert}
use Rattle.sc_prep.specs.Preprocesses.{IsLeftOut, Stands}
use Rattle.sc_prep.specs.OneElement.{HaveOne, IsThin}
use Rattle.sc_prep.specs.Thin.{WherePutOut}
use Rattle.sc_prep.specs.Valid.{IsOf}

-- ---- nothing was read yet

pub contents-new : (standard : Standard) (names files : List (List ℕ)) (holds : Option Files) (contents : Contents) → ((file : ℕ) → content_at contents file ≡ None) → AreContents standard names files holds contents
contents-new standard names files holds contents none = record {
  some = (λ name. None, record { each = λ file name c named at. let no = sym (none file) ∙ at in cc });
  told = λ held is. record { each = λ file name c named at. let no = sym (none file) ∙ at in cc };
  held = λ file c at. let no = sym (none file.0) ∙ at in cc;
  named = λ file c at. let no = sym (none file) ∙ at in cc;
}

-- the names of files are on one line, and that of the main file is
pub paths-interned : {old new : List (List ℕ)} {main : List ℕ} → Interns old new main → ArePlainPaths old → has_no_newline main ≡ true → ArePlainPaths new
paths-interned (interns.known there same) paths plain = subst ArePlainPaths (sym same) paths
paths-interned {old} {new} {main} (interns.fresh never grown) paths plain =
    subst ArePlainPaths (sym grown) (All-append (λ (path : List ℕ). has_no_newline path ≡ true) old (main ∷ []) paths
    (All-cons (λ (path : List ℕ). has_no_newline path ≡ true) main [] plain (All-nil (λ (path : List ℕ). has_no_newline path ≡ true))))

pub space-context : (space : Space) (files : Files) → IsContext space (context_of space files)
space-context space files = record { include = refl; depth = refl; standard = refl }

-- ---- where the main file ends

-- the end may be another
module _ {s : Sets} {names files : List (List ℕ)} (p : Prepared) (end : declared.Place) where
  pub IsOrdinary-end : {preprocesses : Result (List plain.Token) Fault → Type 0} {config : List ℕ} → IsOrdinary s names files p preprocesses config
      → IsOrdinary s names files (record p { end = end }) preprocesses config
  IsOrdinary-end is = record { answer = is.answer; preprocessed = is.preprocessed; stands = is.stands; live = is.live }

  pub CanBeShown-end : CanBeShown s names files p → CanBeShown s names files (record p { end = end })
  CanBeShown-end shown = record { list = shown.list; faults = shown.faults; apart = shown.apart; paths = shown.paths }

and-true : (b : Bool) → (b && true) ≡ b
and-true true = refl
and-true false = refl

and-false : (b : Bool) → (b && false) ≡ false
and-false true = refl
and-false false = refl

and-turned : (a b : Bool) → (a && b) ≡ (b && a)
and-turned true b = sym (and-true b)
and-turned false b = sym (and-false b)

-- ---- the configurations of a condition alone are live

module _ {s t : Sets} (keeps : Keeps s t) (names files : List (List ℕ)) (p : Prepared) (owns : OwnsList s p) (live : ℕ) (met : Cond)
    (is : Denotes t met.0 (λ c. s.has p.live.0 c && s.has live c)) where
  abbrev limited : Prepared
  limited = record p { live = met }

  module _ (config : List ℕ) (listed : IsConfig s.arities config) where
    same-items : items_at t p.list config ≡ items_at s p.list config
    same-items = items_at-Keeps p.list config keeps owns.list listed

    same-faults : faults_at t p.faults.items config ≡ faults_at s p.faults.items config
    same-faults = faults_at-Keeps p.faults.items config keeps owns.faults listed

    met-at : t.has met.0 config ≡ (s.has p.live.0 config && s.has live config)
    met-at = is.at config (IsConfig-Keeps keeps listed)

    pub limited-ordinary : {preprocesses : Result (List plain.Token) Fault → Type 0} → s.has live config ≡ true → IsOrdinary s names files p preprocesses config
        → IsOrdinary t names files limited preprocesses config
    limited-ordinary {preprocesses} there ordinary = record {
      answer = ordinary.answer;
      preprocessed = ordinary.preprocessed;
      stands = subst (λ items. Stands ordinary.answer (map (seen names files) items) (map (seen_fault files) (faults_at t p.faults.items config))) (sym same-items)
          (subst (λ faults. Stands ordinary.answer (map (seen names files) (items_at s p.list config)) (map (seen_fault files) faults)) (sym same-faults) ordinary.stands);
      live = met-at ∙ (ap (λ b. s.has p.live.0 config && b) there ∙ (and-true (s.has p.live.0 config) ∙ ordinary.live));
    }

    pub limited-out : s.has live config ≡ false → faults_at s p.faults.items config ≡ [] → IsLeftOut t limited config
    limited-out out none = record {
      faults = same-faults ∙ none;
      live = met-at ∙ (ap (λ b. s.has p.live.0 config && b) out ∙ and-false (s.has p.live.0 config));
    }

    pub limited-live : s.has p.live.0 config ≡ has_none s p.faults.items config → t.has met.0 config ≡ (s.has live config && has_none t p.faults.items config)
    limited-live same =
        met-at ∙ (ap (λ b. b && s.has live config) (same ∙ ap is_empty (sym same-faults)) ∙ and-turned (has_none t p.faults.items config) (s.has live config))

    -- where it is live now it was so before, and is one of these
    pub limited-was : t.has met.0 config ≡ true → (s.has p.live.0 config ≡ true) × (s.has live config ≡ true)
    limited-was now = and_parts (s.has p.live.0 config) (s.has live config) (sym met-at ∙ now)

  pub limited-owns : OwnsList t limited
  limited-owns = record {
    list = All-weaker (λ (item : Cond × Token). IsCond s item.0.0) (λ (item : Cond × Token). IsCond t item.0.0) (λ (item : Cond × Token) own. keeps.own item.0.0 own) p.list owns.list;
    faults = All-weaker (λ (f : base.Fault). IsCond s f.cond.0) (λ (f : base.Fault). IsCond t f.cond.0) (λ (f : base.Fault) own. keeps.own f.cond.0 own) p.faults.items owns.faults;
    live = is.own;
  }

  pub limited-shown : CanBeShown s names files p → CanBeShown t names files limited
  limited-shown shown = record {
    list = All-weaker (IsShowable s names files) (IsShowable t names files)
        (λ (item : Cond × Token) (h : IsShowable s names files item). record { own = keeps.own item.0.0 h.own; held = h.held; file = h.file; plain = h.plain }) p.list shown.list;
    faults = All-weaker (IsShowableFault s files) (IsShowableFault t files)
        (λ (f : base.Fault) (h : IsShowableFault s files f). record { own = keeps.own f.cond.0 h.own; file = h.file }) p.faults.items shown.faults;
    apart = record {
      few = λ config listed.
          let before = IsConfig-kept keeps listed in
          subst (λ faults. length faults ≤ 1) (sym (same-faults config before)) (shown.apart.few config before);
    };
    paths = shown.paths;
  }

no_fault-empty : (files : List (List ℕ)) (o : Option Fault) (faults : List base.Fault) → map (seen_fault files) faults ≡ option_to_list o → is_none o ≡ is_empty faults
no_fault-empty files None [] is = refl
no_fault-empty files None (f ∷ fs) is = cc
no_fault-empty files (Some fault) [] is = cc
no_fault-empty files (Some fault) (f ∷ fs) is = refl

none-empty : (files : List (List ℕ)) (faults : List base.Fault) → map (seen_fault files) faults ≡ [] → faults ≡ []
none-empty files [] is = refl
none-empty files (f ∷ fs) is = cc

-- a configuration is live where it has no fault
pub live-outcome : {s : Sets} {files : List (List ℕ)} {p : Prepared} {config : List ℕ} {m : Machine} → IsOutcomeOf s files p config m → s.has p.live.0 config ≡ has_none s p.faults.items config
live-outcome {s} {files} {p} {config} {m} is = is.live ∙ no_fault-empty files m.fault (faults_at s p.faults.items config) is.fault

module _ (space : Space) (outside : Files) (main config : List ℕ) where
  -- a file that refuses whoever enters it is accepted at no configuration
  refuses-main : {files : List (List ℕ)} {cause : Cause} {place : declared.Place} {answer : Result (List plain.Token) Fault} → HasRefusal space.standard files main (outside main) cause place
      → Pre space outside main config answer → is_accepted answer ≡ false
  refuses-main {files} {cause} {place} {answer} refusal is =
      let fault = fault_at cause (seen_place files place) in
      let includes : Includes (context_of space outside) (main ∷ []) (first_place main) (initial_state space main config) (Err fault) =
      entered (file_with main refusal.bytes) (ap (found_or None main) refusal.is) refl (refusal.refuses (context_of space outside) (initial_state space main config) refl) in
      ap is_accepted (pre-unique is (record { end = Err fault; walked = includes; is = refl }))

  -- the end that was kept is the main file's, where it is accepted
  pub main-end : {s : Sets} {names files new_names new_files : List (List ℕ)} {p : Prepared} {bytes : List ℕ} {c : Content} → outside main ≡ Some bytes
      → IsContent space.standard names files main (outside main) (Some c) → IsOrdinary s new_names new_files p (Pre space outside main config) config → s.has p.live.0 config ≡ true
      → seen_place files (end_place c) ≡ end_of_file main bytes
  main-end {files = files} {c = content.Lines found} held is ordinary live =
      let lines = has-lines is in
      lines.are.ends ∙ ap (λ o. end_of_file main (unwrap_or o [])) (sym lines.is ∙ held)
  main-end {files = files} {c = content.Refused cause place} held is ordinary live =
      absurd (both_ways true (sym live ∙ (ordinary.live ∙ refuses-main (has-refusal is) ordinary.preprocessed)) refl)

-- it is in the file
pub end-inside : (standard : Standard) (names : List (List ℕ)) (files : ℕ) {file : FileId} (c : Content) → IsHeldContent standard names files file c → (end_place c).file ≡ file
end-inside standard names files (content.Lines found) held = held.end_inside
end-inside standard names files (content.Refused cause place) held = held

-- ---- the walk before the first line

-- the walk that was made with the first macros of a space
pub begins-new : {s : Sets} {names : List (List ℕ)} {walk : Walk} {table : MacroTable} (space : Space) → s.arities ≡ arities_of space → Owns s walk
    → (walk.runs.gathered ≡ []) × (walk.runs.held.items ≡ []) × HasNoPragma s walk.runs.pragmas × (walk.runs.read ≡ []) × (walk.once.items ≡ []) × (walk.prepared.list ≡ []) × (walk.prepared.faults.items ≡ [])
    → walk.table ≡ table → ((s : Sets) → s.arities ≡ arities_of space → IsTable s names table)
    → ((s : Sets) (config name : List ℕ) → s.arities ≡ arities_of space → IsConfig s.arities config → macros_at s names table config name ≡ initial_macros space config name)
    → ((names files : List (List ℕ)) (config : List ℕ) (first : State) → IsConfig s.arities config → IsBegun s names table config first → Simulates s names files walk config (start first))
    → IsNew s space names walk
begins-new {s} {names} {walk} {table} space arities owns empty same is initial starts = record {
  arities = arities;
  owns = owns;
  table = subst (IsTable s names) (sym same) (is s arities);
  gathered = empty.0;
  held = empty.1;
  pragmas = empty.2;
  read = empty.3;
  once = empty.4;
  list = empty.5;
  faults = empty.6;
  starts = λ {more} grows files main config listed.
      starts more files config (initial_state space main config) listed (begins-as space main config grows (is s arities) (λ name. initial s config name arities listed));
}

-- the tables hold more
pub new-later : {s : Sets} {space : Space} {names more : List (List ℕ)} {walk : Walk} → Extends names more → IsNew s space names walk → IsNew s space more walk
new-later grows fresh = record {
  arities = fresh.arities;
  owns = fresh.owns;
  table = IsTable-Extends grows fresh.table;
  gathered = fresh.gathered;
  held = fresh.held;
  pragmas = fresh.pragmas;
  read = fresh.read;
  once = fresh.once;
  list = fresh.list;
  faults = fresh.faults;
  starts = λ later files main config listed. fresh.starts (Extends-trans grows later) files main config listed;
}

module _ {s : Sets} {space : Space} {names : List (List ℕ)} {walk : Walk} (files : List (List ℕ)) (fresh : IsNew s space names walk) where
  starts-here : (main config : List ℕ) → IsConfig s.arities config → Simulates s names files walk config (start (initial_state space main config))
  starts-here main config listed = fresh.starts (Extends-refl names) files main config listed

  held-new : IsHeldWalk names (length files) any_token walk
  held-new = record {
    runs = holds-none fresh.gathered fresh.held fresh.read names (length files) fresh.pragmas;
    list = subst (ArePlaced names (length files)) (sym fresh.list) (λ k d h. absurd (omega (arith, h)));
    passed = subst (AllPass any_token) (sym fresh.list) (λ k d h. absurd (omega (arith, h)));
    faults = subst (All (λ (f : base.Fault). f.place.file.0 < length files)) (sym fresh.faults) (λ k d h. absurd (omega (arith, h)));
    once = subst (AreOnceHeld (length files)) (sym fresh.once) (λ k d h. absurd (omega (arith, h)));
  }

  pub stored-new : IsStored s names (length files) walk
  stored-new = record { owns = fresh.owns; table = fresh.table; held = held-new }

  pub ready-new : {standard : Standard} {holds : Option Files} {contents : Contents} → AreContents standard names files holds contents → IsReady standard s names files holds walk contents
  ready-new read = record { owns = fresh.owns; table = fresh.table; held = held-new; read = read }

  -- each configuration starts with macros that are spelled on one line
  pub plain-new : (main : List ℕ) → IsSound space → has_no_newline main ≡ true → PlainEach s names files walk IsBetweenRuns
  plain-new main sound plain = record {
    each = λ config listed. (
      start (initial_state space main config),
      starts-here main config listed,
      λ acting. refl,
      record { macros = initial-plain space config sound; run = tt; file = plain },
    );
  }

  pub none-passed : (test : Token → Bool) → AllPass test walk.prepared.list
  none-passed test = subst (AllPass test) (sym fresh.list) (λ k d h. absurd (omega (arith, h)))

  -- the configurations of a condition are refused
  module _ {next_sets : Sets} {next : Walk} (keeps : Keeps s next_sets) (main : List ℕ) (fault : base.Fault) (own : IsCond s fault.cond.0) (refuses : RefusesEach s walk (fault ∷ []) next_sets next) where
    list-empty : next.prepared.list ≡ []
    list-empty = ap (λ (w : Walk). w.prepared.list) refuses.same ∙ fresh.list

    faults-one : next.prepared.faults.items ≡ fault ∷ []
    faults-one = refuses.faults ∙ ap (λ fs. fs ++ fault ∷ []) fresh.faults

    ends-refused : (config : List ℕ) → IsConfig s.arities config → s.has fault.cond.0 config ≡ true
        → IsOutcomeOf next_sets files next.prepared config (record (start (initial_state space main config)) { fault = Some (seen_fault files fault) })
    ends-refused config listed there =
        (refused-here keeps names files walk next fault refuses fresh.owns fresh.table config listed (start (initial_state space main config)) (starts-here main config listed) own there refl).prepared

    ends-out : (config : List ℕ) → IsConfig s.arities config → s.has fault.cond.0 config ≡ false → IsOutcomeOf next_sets files next.prepared config (start (initial_state space main config))
    ends-out config listed out =
        (refused-not keeps names files walk next fault refuses fresh.owns fresh.table config listed (start (initial_state space main config)) (starts-here main config listed) own out).prepared

    -- what an end has at a configuration: the fault or none
    refused-few : (config : List ℕ) → IsConfig s.arities config → length (faults_at next_sets next.prepared.faults.items config) ≤ 1
    refused-few config listed = elim (cases_Bool (s.has fault.cond.0 config)) [
      | inl there ↦ faults-few next_sets files next.prepared.faults.items config (Some (seen_fault files fault)) (ends-refused config listed there).fault
      | inr out ↦ faults-few next_sets files next.prepared.faults.items config None (ends-out config listed out).fault
    ]

    -- where nothing is live any more
    module _ (never : Cond) (is : Denotes next_sets never.0 (λ c. false)) where
      abbrev ended : Prepared
      ended = record next.prepared { live = never }

      dead : (config : List ℕ) → IsConfig s.arities config → next_sets.has never.0 config ≡ false
      dead config listed = is.at config (IsConfig-Keeps keeps listed)

      pub refused-is : (config : List ℕ) → IsConfig s.arities config → s.has fault.cond.0 config ≡ true → IsRefused next_sets names files ended (seen_fault files fault) config
      refused-is config listed there = record {
        items = ap (λ list. map (seen names files) (items_at next_sets list config)) list-empty;
        faults = (ends-refused config listed there).fault;
        live = dead config listed;
      }

      pub refused-out : (config : List ℕ) → IsConfig s.arities config → s.has fault.cond.0 config ≡ false → IsLeftOut next_sets ended config
      refused-out config listed out = record { faults = none-empty files (faults_at next_sets next.prepared.faults.items config) (ends-out config listed out).fault; live = dead config listed }

      pub refused-live : (config : List ℕ) → IsConfig s.arities config → next_sets.has never.0 config ≡ (s.has fault.cond.0 config && has_none next_sets next.prepared.faults.items config)
      refused-live config listed = dead config listed ∙ sym (elim (cases_Bool (s.has fault.cond.0 config)) [
        | inl there ↦ ap (λ b. b && has_none next_sets next.prepared.faults.items config) there ∙ sym (no_fault-empty files (Some (seen_fault files fault)) (faults_at next_sets next.prepared.faults.items config) (ends-refused config listed there).fault)
        | inr out ↦ ap (λ b. b && has_none next_sets next.prepared.faults.items config) out
      ])

      pub refused-owns : OwnsList next_sets ended
      refused-owns = record {
        list = subst (All (λ (item : Cond × Token). IsCond next_sets item.0.0)) (sym list-empty) (λ k d h. absurd (omega (arith, h)));
        faults = subst (All (λ (f : base.Fault). IsCond next_sets f.cond.0)) (sym faults-one) (All-cons (λ (f : base.Fault). IsCond next_sets f.cond.0) fault [] (keeps.own fault.cond.0 own)
            (All-nil (λ (f : base.Fault). IsCond next_sets f.cond.0)));
        live = is.own;
      }

      pub refused-shown : fault.place.file.0 < length files → ArePlainPaths files → CanBeShown next_sets names files ended
      refused-shown there paths =
          let plain : AllPass (is_plain names) next.prepared.list = subst (AllPass (is_plain names)) (sym list-empty) (λ k d h. absurd (omega (arith, h))) in
          all-shown next_sets names files ended refused-owns (subst (ArePlaced names (length files)) (sym list-empty) (λ k d h. absurd (omega (arith, h))))
          (subst (All (λ (f : base.Fault). f.place.file.0 < length files)) (sym faults-one) (All-cons (λ (f : base.Fault). f.place.file.0 < length files) fault [] there
          (All-nil (λ (f : base.Fault). f.place.file.0 < length files)))) plain (record { few = λ config listed. refused-few config (IsConfig-kept keeps listed) }) paths

  -- the main file is entered in the configurations of a condition
  module _ {x : Context} {next_sets : Sets} {more more_files : List (List ℕ)} {next : Walk} (keeps : Keeps s next_sets) (main : List ℕ) (file : FileId) (cond : Cond)
      (named : slice_get files file.0 ≡ Some main)
      (leads : Leads files names s walk more_files more next_sets next IsBetweenRuns (λ config m n. EntersAt x (text_at files file.0) 0 m (s.has cond.0 config) n)) where
    ends-entered : (config : List ℕ) → IsConfig s.arities config
        → (n : Machine) × EntersAt x main 0 (start (initial_state space main config)) (s.has cond.0 config) n × Simulates next_sets more more_files next config n
    ends-entered config listed =
        let first = start (initial_state space main config) in
        let end = leads.at config first listed (starts-here main config listed) (λ acting. refl) in (
          end.machine,
          subst (λ name. EntersAt x name 0 first (s.has cond.0 config) end.machine) (ap (λ (o : Option (List ℕ)). unwrap_or o []) named) end.done,
          end.simulates,
        )

    pub entered-live : (config : List ℕ) → IsConfig s.arities config → next_sets.has next.prepared.live.0 config ≡ has_none next_sets next.prepared.faults.items config
    entered-live config listed = live-outcome (ends-entered config listed).2.prepared

    -- a configuration that doesn't enter it has no fault
    pub entered-out : (config : List ℕ) → IsConfig s.arities config → s.has cond.0 config ≡ false → faults_at next_sets next.prepared.faults.items config ≡ []
    entered-out config listed out =
        let end = ends-entered config listed in
        none-empty more_files (faults_at next_sets next.prepared.faults.items config)
        (end.2.prepared.fault ∙ ap option_to_list (unfaulty (subst (λ has. EntersAt x main 0 (start (initial_state space main config)) has end.0) out end.1)))
      where
        unfaulty : {n : Machine} → EntersAt x main 0 (start (initial_state space main config)) false n → n.fault ≡ None
        unfaulty elsewhere = refl
        unfaulty (inert idle) = refl

    entered-apart : AreApart next_sets next.prepared.faults.items
    entered-apart = record {
      few = λ config listed. faults-few next_sets more_files next.prepared.faults.items config _ (ends-entered config (IsConfig-kept keeps listed)).2.prepared.fault;
    }

    pub entered-shown : {standard : Standard} {holds : Option Files} {contents : Contents} → IsReady standard next_sets more more_files holds next contents → AllPass (is_plain more) next.prepared.list
        → ArePlainPaths more_files → CanBeShown next_sets more more_files next.prepared
    entered-shown ready plain paths =
        all-shown next_sets more more_files next.prepared ready.owns.prepared ready.held.list ready.held.faults plain entered-apart paths

  pub entered-is : {next_sets : Sets} {more more_files : List (List ℕ)} {next : Walk} (keeps : Keeps s next_sets) (main : List ℕ) (outside : Files) (file : FileId) (cond : Cond)
      (named : slice_get files file.0 ≡ Some main)
      → Leads files names s walk more_files more next_sets next IsBetweenRuns (λ config m n. EntersAt (context_of space outside) (text_at files file.0) 0 m (s.has cond.0 config) n)
      → (config : List ℕ) → IsConfig s.arities config → s.has cond.0 config ≡ true → IsOrdinary next_sets more more_files next.prepared (Pre space outside main config) config
  entered-is {next_sets} {more} {more_files} {next} keeps main outside file cond named leads config listed there =
      let end = ends-entered keeps main file cond named leads config listed in
      entered-ordinary next_sets more more_files next.prepared space outside main config
      (subst (λ has. EntersAt (context_of space outside) main 0 (start (initial_state space main config)) has end.0) there end.1) end.2.prepared _ end.2.text

  -- each footprint to which the main file comes is one of the configuration
  pub entered-stops : (main : List ℕ) (outside : Files) (file : FileId) (cond : Cond) → slice_get files file.0 ≡ Some main → (limit : ℕ) (stop : Stop)
      → StopsAtPlace s.arities (Comes s names files walk IsBetweenRuns (λ config m f. (s.has cond.0 config ≡ true) × MomentsHave (ComesInside (context_of space outside) (text_at files file.0) 0 m) f)) limit stop
      → StopsAmong (IsOf s cond.0) (FilesHave space outside main) limit stop
  entered-stops main outside file cond named limit stop stops = stops-as (λ at. at) _ limit stop (λ config f one comes.
      let first = start (initial_state space main config) in
      moments-as
      (λ k comes.
      let inside = subst (λ name. ComesInside (context_of space outside) name 0 first f.0.chain k) (ap (λ (o : Option (List ℕ)). unwrap_or o []) named) comes in
      record { file = inside.file; found = finds-main outside main inside.file inside.named inside.there; reaches = inside.reaches })
      (comes first (starts-here main config one.formed) (λ acting. refl)).1)
      (stops-among limit stop (λ config f listed comes. record { formed = listed; has = (comes (start (initial_state space main config)) (starts-here main config listed) (λ acting. refl)).0 }) stops)

  -- what it puts out of a token
  pub entered-thin : {next_sets t : Sets} (next : Walk) (keeps : Keeps s next_sets) (later : Keeps next_sets t) (main : List ℕ) (outside : Files) (file : FileId) (cond : Cond) → slice_get files file.0 ≡ Some main → OwnsList next_sets next.prepared
      → WherePutOut files names s walk IsBetweenRuns (λ config m chain k. (s.has cond.0 config ≡ true) × ComesInside (context_of space outside) (text_at files file.0) 0 m chain k) next_sets next (λ c d index. HaveOne next_sets next.prepared.list c d)
      → (met : Cond) → ((config : List ℕ) → IsConfig s.arities config → t.has met.0 config ≡ true → (next_sets.has next.prepared.live.0 config ≡ true) × (s.has cond.0 config ≡ true)) → IsThin t next.prepared.list met.0 (FilesPutOut space outside main)
  entered-thin {next_sets} {t} next keeps later main outside file cond named owns puts met was = record {
    one = λ c d now now_d live live_d f index n m one two.
        let p = IsConfig-kept (Keeps-trans keeps later) now in
        let q = IsConfig-kept (Keeps-trans keeps later) now_d in
        let mine = was c p live in
        let theirs = was d q live_d in
        let have = puts c d p q mine.0 theirs.0 (start (initial_state space main c)) (start (initial_state space main d)) (starts-here main c p) (starts-here main d q) (λ acting. refl) (λ acting. refl)
        f.0.chain one.line two.line one.state two.state (f.0.spot, f.1) index n m (mine.1, inside one.reaches) (theirs.1, inside two.reaches) one.puts two.puts in
        subst (λ list. HaveOne t list c d n m) (append-nil next.prepared.list)
        (have.0, nth-later later c (IsConfig-Keeps keeps p) next.prepared.list [] owns.list n have.0 have.1, nth-later later d (IsConfig-Keeps keeps q) next.prepared.list [] owns.list m have.0 have.2);
  }
    where
      main-name : {f : File} → search outside (main ∷ []) ≡ Some f → f.name ≡ main
      main-name {f} found = by (outside main) found
        where
          by : (o : Option (List ℕ)) → found_or None main o ≡ Some f → f.name ≡ main
          by None e = absurd (cc)
          by (Some bytes) e = sym (ap (λ (g : File). g.name) (same_Some (file_with main bytes) f e))

      inside : {c : List ℕ} {chain : List plain.Place} {k : Moment} → Reaches space outside main c chain k → ComesInside (context_of space outside) (text_at files file.0) 0 (start (initial_state space main c)) chain k
      inside reaches = record {
        acting = refl;
        file = reaches.file;
        named = main-name reaches.found ∙ sym (ap (λ (o : Option (List ℕ)). unwrap_or o []) named);
        there = ap outside (sym (main-name reaches.found ∙ sym (ap (λ (o : Option (List ℕ)). unwrap_or o []) named))) ∙ searched outside (main ∷ []) reaches.file reaches.found;
        again = refl;
        reaches = reaches.reaches;
      }

-- ---- what the walk leaves, whose live configurations are those of a condition, with its end

module _ {s next_sets t : Sets} {space : Space} {names more files more_files : List (List ℕ)} {walk next : Walk} {standard : Standard} {told : Option Files} {contents : Contents}
    (fresh : IsNew s space names walk) (keeps : Keeps s next_sets) (later : Keeps next_sets t) (main : List ℕ) (file : FileId) (named : slice_get files file.0 ≡ Some main)
    (live : Cond) (own : IsCond s live.0) (outside : Files)
    (leads : Leads files names s walk more_files more next_sets next IsBetweenRuns (λ config m n. EntersAt (context_of space outside) (text_at files file.0) 0 m (s.has live.0 config) n))
    (ready : IsReady standard next_sets more more_files told next contents)
    (met : Cond) (is : Denotes t met.0 (λ c. next_sets.has next.prepared.live.0 c && next_sets.has live.0 c)) (end : declared.Place) where
  abbrev limited_main : Prepared
  limited_main = record next.prepared { live = met; end = end }

  now-live : (config : List ℕ) → IsConfig s.arities config → s.has live.0 config ≡ next_sets.has live.0 config
  now-live config listed = sym (keeps.at live.0 config own listed)

  was-live : (config : List ℕ) → IsConfig s.arities config → t.has met.0 config ≡ true → (next_sets.has next.prepared.live.0 config ≡ true) × (s.has live.0 config ≡ true)
  was-live config listed now =
      let was = limited-was later more more_files next.prepared ready.owns.prepared live.0 met is config (IsConfig-Keeps keeps listed) now in
      (was.0, now-live config listed ∙ was.1)

  ordinary-main : (config : List ℕ) → IsConfig s.arities config → s.has live.0 config ≡ true → IsOrdinary t more more_files limited_main (Pre space outside main config) config
  ordinary-main config listed there =
      IsOrdinary-end (record next.prepared { live = met }) end
      (limited-ordinary later more more_files next.prepared ready.owns.prepared live.0 met is config (IsConfig-Keeps keeps listed) (sym (now-live config listed) ∙ there)
      (entered-is files fresh keeps main outside file live named leads config listed there))

  out-main : (config : List ℕ) → IsConfig s.arities config → s.has live.0 config ≡ false → IsLeftOut t limited_main config
  out-main config listed out =
      let left = limited-out later more more_files next.prepared ready.owns.prepared live.0 met is config (IsConfig-Keeps keeps listed) (sym (now-live config listed) ∙ out)
      (entered-out files fresh keeps main file live named leads config listed out) in
      record { faults = left.faults; live = left.live }

  live-main : (config : List ℕ) → IsConfig s.arities config → t.has met.0 config ≡ (s.has live.0 config && has_none t next.prepared.faults.items config)
  live-main config listed =
      limited-live later more more_files next.prepared ready.owns.prepared live.0 met is config (IsConfig-Keeps keeps listed) (entered-live files fresh keeps main file live named leads config listed)
      ∙ ap (λ b. b && has_none t next.prepared.faults.items config) (sym (now-live config listed))

  shown-main : AllPass (is_plain more) next.prepared.list → ArePlainPaths more_files → CanBeShown t more more_files limited_main
  shown-main plain paths =
      CanBeShown-end (record next.prepared { live = met }) end
      (limited-shown later more more_files next.prepared ready.owns.prepared live.0 met is (entered-shown files fresh keeps main file live named leads ready plain paths))

  owns-main : OwnsList t limited_main
  owns-main =
      let limited = limited-owns later more more_files next.prepared ready.owns.prepared live.0 met is in
      record { list = limited.list; faults = limited.faults; live = limited.live }

  pub prepares-main : {holds : Option Files} → ((files : Files) → holds ≡ Some files → outside ≡ files)
      → ((HasConfigs s.arities (space.branches + 1) → ⊥) → WherePutOut files names s walk IsBetweenRuns
      (λ config m chain k. (s.has live.0 config ≡ true) × ComesInside (context_of space outside) (text_at files file.0) 0 m chain k) next_sets next (λ c d index. HaveOne next_sets next.prepared.list c d))
      → ((bytes config : List ℕ) → outside main ≡ Some bytes → IsOrdinary next_sets more more_files next.prepared (Pre space outside main config) config → next_sets.has next.prepared.live.0 config ≡ true
      → seen_place more_files end ≡ end_of_file main bytes)
      → end.file.0 < length more_files
      → (ArePlainPaths files → has_no_newline main ≡ true → AllPass (is_plain more) next.prepared.list × ArePlainPaths more_files)
      → PreparesMain s live.0 files t more more_files limited_main space holds main
  prepares-main tells puts ends inside plain = record {
    ordinary = record {
      outside = outside;
      held = tells;
      ordinary = ordinary-main;
      others = out-main;
      thin = λ few. entered-thin files fresh next keeps later main outside file live named ready.owns.prepared (puts few) met was-live;
      ends = λ bytes config there listed now.
          let was = was-live config listed now in
          ends bytes config there (entered-is files fresh keeps main outside file live named leads config listed was.1) was.0;
    };
    end_held = inside;
    live_is = live-main;
    owns = owns-main;
    shown = λ paths one_line. let both = plain paths one_line in shown-main both.0 both.1;
  }
