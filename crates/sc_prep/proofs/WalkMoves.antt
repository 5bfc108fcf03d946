-- What one move of the walk of all configurations does at each of them.
use Rattle.std.proofs.Common.{◌≡◌, ℕ, ◌&&◌, not, Bool, true, false, List, [], ◌∷◌, ◌++◌, map, reverse, Option, Some, None, Vec, Global, append-nil, refl, sym, ap, ◌∙◌, subst, All, is_none, if◌then◌else◌, ◌↔◌, cond, Ok, Err}
use Rattle.c11_directives.specs.declared.directive.Directive.TheVariants as directive
use Rattle.sc_base.specs.declared.fault.Fault as base
use Rattle.sc_hoist.proofs.StateLemmas.{and_comm}
use Rattle.sc_prep.proofs.Facts.{All-append, All-head, All-map, All-pop, All-push, All-tail, All-weaker, Denotes-Keeps, Denotes-self, IsConfig-Keeps, IsConfig-kept, IsTable-Keeps, and_parts, faults_at-Keeps, faults_at-append, macros_at-Keeps, map-append, map-one, reverse-append, same_definition-false, same_definition-true, under}
use Rattle.sc_prep.proofs.Machine.{inert_acting, inert_changing, right-none}
use Rattle.sc_prep.proofs.OnceLemmas.{once-kept, once-stays}
use Rattle.sc_prep.proofs.RunLemmas.{denotes-as, is_empty-one}
use Rattle.sc_prep.proofs.Terms.{BadDirective, Cause, Cond, Defined, Definition, Denotes, Directive, ErrorDirective, IsCond, IsConfig, IsNever, IsStill, IsTable, Keeps, Line, Machine, MacroTable, Macros, Owns, OwnsSection, ProtectedName, Redefined, RefusesEach, Section, Sets, Simulates, SimulatesStep, Standard, State, StepsBetweenRuns, Token, Walk, acting, acting_unless, acts, changed_by, changing, defined_as, defined_over, ended, ends_run, faults_at, has_none, is_once_file, is_protected, macros_at, next_branch, opened, option_to_list, plain_by, refusal, refusal_of, refusing, refusing_if, same_bytes, same_definition, section_at, seen_fault, seen_line, set_at, turned, undefined, update, with_macro, with_text, without_macro}
use Rattle.sc_prep.proofs.Texts.{bare, owns-runs, run-changed, run-kept, run-more}
use Rattle.sc_subst.specs.declared.hidden.Hidden.{Hidden}
use Rattle.sc_subst.specs.declared.hidden.Hide.{Hide}
use Rattle.sc_table.specs.Change.{IsOther}

pub map-reverse : {A B : Type 0} (f : A → B) (xs : List A) → map f (reverse xs) ≡ reverse (map f xs)
map-reverse f [] = refl
map-reverse f (x ∷ xs) =
    ap (map f) (reverse-append (x ∷ []) xs) ∙ (map-append f (reverse xs) (x ∷ []) ∙ (ap (λ ys. ys ++ f x ∷ []) (map-reverse f xs) ∙ sym (reverse-append (f x ∷ []) (map f xs))))

-- the sections with one more
sections-push : (s : Sets) (config : List ℕ) (xs : List Section) (x : Section) → map (section_at s config) (reverse (xs ++ x ∷ [])) ≡ section_at s config x ∷ map (section_at s config) (reverse xs)
sections-push s config xs x = ap (map (section_at s config)) (reverse-append xs (x ∷ []))

-- ---- a walk stays where it is as the store grows

module _ {old new : Sets} (keeps : Keeps old new) where
  section-kept : (s : Section) → OwnsSection old s → OwnsSection new s
  section-kept s o = record { around = keeps.own s.around.0 o.around; untaken = keeps.own s.untaken.0 o.untaken }

  pub owns-kept : (w : Walk) → Owns old w → Owns new w
  owns-kept w o = record {
    group = keeps.own w.group.0 o.group;
    acting = keeps.own w.acting.0 o.acting;
    sections = All-weaker (OwnsSection old) (OwnsSection new) section-kept w.sections.items o.sections;
    runs = owns-runs keeps o.runs;
    once = once-kept keeps w.once.items o.once;
    prepared = record {
      list = All-weaker (λ (item : Cond × Token). IsCond old item.0.0) (λ (item : Cond × Token). IsCond new item.0.0) (λ item own. keeps.own item.0.0 own) w.prepared.list o.prepared.list;
      faults = All-weaker (λ (f : base.Fault). IsCond old f.cond.0) (λ (f : base.Fault). IsCond new f.cond.0) (λ f own. keeps.own f.cond.0 own) w.prepared.faults.items o.prepared.faults;
      live = keeps.own w.prepared.live.0 o.prepared.live;
    };
  }

  module _ (config : List ℕ) (listed : IsConfig old.arities config) where
    sections-by : (xs : List Section) → All (OwnsSection old) xs → map (section_at new config) xs ≡ map (section_at old config) xs
    sections-by [] all = refl
    sections-by (x ∷ xs) all =
        let o = All-head (OwnsSection old) x xs all in
        let around : new.has x.around.0 config ≡ old.has x.around.0 config = keeps.at x.around.0 config o.around listed in
        let untaken : new.has x.untaken.0 config ≡ old.has x.untaken.0 config = keeps.at x.untaken.0 config o.untaken listed in
        let rest : map (section_at new config) xs ≡ map (section_at old config) xs = sections-by xs (All-tail (OwnsSection old) x xs all) in
        cc

    pub sections-kept : (xs : List Section) → All (OwnsSection old) xs → map (section_at new config) (reverse xs) ≡ map (section_at old config) (reverse xs)
    sections-kept xs all = map-reverse (section_at new config) xs ∙ (ap reverse (sections-by xs all) ∙ sym (map-reverse (section_at old config) xs))

  pub simulates-kept : (w : Walk) → Owns old w → (names files : List (List ℕ)) (config : List ℕ) (m : Machine) → IsConfig old.arities config → IsTable old names w.table
      → Simulates old names files w config m → Simulates new names files w config m
  simulates-kept w owns names files config m listed is simulates = record {
    active = keeps.at w.group.0 config owns.group listed ∙ simulates.active;
    acting = keeps.at w.acting.0 config owns.acting listed ∙ simulates.acting;
    sections = sections-kept config listed w.sections.items owns.sections ∙ simulates.sections;
    prepared = record {
      live = keeps.at w.prepared.live.0 config owns.prepared.live listed ∙ simulates.prepared.live;
      fault = ap (map (seen_fault files)) (faults_at-Keeps w.prepared.faults.items config keeps owns.prepared.faults listed) ∙ simulates.prepared.fault;
    };
    text = λ none. run-kept keeps owns.runs owns.prepared.list listed (simulates.text none);
    macros = λ none name. macros_at-Keeps keeps is config name listed ∙ simulates.macros none name;
    once = λ none name. once-stays keeps files w.once.items config name listed owns.once ∙ simulates.once none name;
  }

-- ---- a section begins

pub begins : (names : List (List ℕ)) {old new : Sets} (keeps : Keeps old new) (w : Walk) (owns : Owns old w) (t : List ℕ → Bool) (group untaken acting : Cond) (sections : Vec Section Global)
    → sections.items ≡ w.sections.items ++ record { around = w.group; untaken = untaken } ∷ []
    → Denotes new group.0 (λ c. old.has w.group.0 c && t c)
    → Denotes new untaken.0 (λ c. old.has w.group.0 c && not (t c))
    → Denotes new acting.0 (λ c. (old.has w.group.0 c && t c) && old.has w.prepared.live.0 c)
    → SimulatesStep names old w new (record w { group = group; acting = acting; sections = sections }) (λ files config m. opened m (t config))
begins names {old} {new} keeps w owns t group untaken acting sections items dg du dl =
    let kept = owns-kept keeps w owns in
    record {
      owns = record {
        group = dg.own;
        acting = dl.own;
        sections = subst (All (OwnsSection new)) (sym items) (All-push (OwnsSection new) w.sections.items (record { around = w.group; untaken = untaken }) kept.sections (record { around = kept.group; untaken = du.own }));
        runs = kept.runs;
        once = kept.once;
        prepared = kept.prepared;
      };
      table = IsTable-Keeps keeps;
      at = λ files config m listed is simulates.
          let now : IsConfig new.arities config = IsConfig-Keeps keeps listed in
          let same = simulates-kept keeps w owns names files config m listed is simulates in
          record {
            active = dg.at config now ∙ ap (λ b. b && t config) simulates.active;
            acting = dl.at config now ∙ (ap (λ b. (b && t config) && old.has w.prepared.live.0 config) simulates.active ∙ ap (λ b. (m.active && t config) && b) simulates.prepared.live);
            sections =
                ap (λ xs. map (section_at new config) (reverse xs)) items
                ∙ (sections-push new config w.sections.items (record { around = w.group; untaken = untaken })
                ∙ (ap (λ ss. (new.has w.group.0 config, new.has untaken.0 config) ∷ ss) same.sections
                ∙ (ap (λ b. (b, new.has untaken.0 config) ∷ m.sections) same.active
                ∙ ap (λ b. (m.active, b) ∷ m.sections) (du.at config now ∙ ap (λ b. b && not (t config)) simulates.active))));
            prepared = record { live = same.prepared.live; fault = same.prepared.fault };
            text = same.text;
            macros = same.macros;
            once = same.once;
          };
    }

-- ---- the innermost section goes on, or ends

module _ {old new : Sets} (keeps : Keeps old new) (w : Walk) (owns : Owns old w) (rest : List Section) (section : Section) (popped : w.sections.items ≡ rest ++ section ∷ []) where
  owns-rest : All (OwnsSection old) rest
  owns-rest = (All-pop (OwnsSection old) w.sections.items rest (Some section) popped owns.sections).0

  pub owns-innermost : OwnsSection old section
  owns-innermost = (All-pop (OwnsSection old) w.sections.items rest (Some section) popped owns.sections).1

  innermost : (names files : List (List ℕ)) (config : List ℕ) (m : Machine) → Simulates old names files w config m
      → section_at old config section ∷ map (section_at old config) (reverse rest) ≡ m.sections
  innermost names files config m simulates =
      sym (sections-push old config rest section) ∙ (ap (λ xs. map (section_at old config) (reverse xs)) (sym popped) ∙ simulates.sections)

  -- The walk goes on in one of the section's groups.
  turns : (names : List (List ℕ)) (g : List ℕ → Bool) (group acting : Cond) (sections : Vec Section Global) → Denotes new group.0 g
      → Denotes new acting.0 (λ c. g c && old.has w.prepared.live.0 c) → All (OwnsSection new) sections.items → (next : List ℕ → Machine → Machine)
      → ((files : List (List ℕ)) (config : List ℕ) (m : Machine) → IsConfig old.arities config → IsTable old names w.table → Simulates old names files w config m
      → turned m (g config) (map (section_at new config) (reverse sections.items)) ≡ next config m)
      → SimulatesStep names old w new (record w { group = group; acting = acting; sections = sections }) (λ files config m. next config m)
  turns names g group acting sections dg dl owned next becomes =
      let kept = owns-kept keeps w owns in
      record {
        owns = record { group = dg.own; acting = dl.own; sections = owned; runs = kept.runs; once = kept.once; prepared = kept.prepared };
        table = IsTable-Keeps keeps;
        at = λ files config m listed is simulates.
            let same = simulates-kept keeps w owns names files config m listed is simulates in
            subst (Simulates new names files (record w { group = group; acting = acting; sections = sections }) config) (becomes files config m listed is simulates)
            (record {
              active = dg.at config (IsConfig-Keeps keeps listed);
              acting = dl.at config (IsConfig-Keeps keeps listed) ∙ ap (λ b. g config && b) simulates.prepared.live;
              sections = refl;
              prepared = record { live = same.prepared.live; fault = same.prepared.fault };
              text = same.text;
              macros = same.macros;
              once = same.once;
            });
      }

  branch_as : (m : Machine) (t : Bool) (s : Bool × Bool) (ss : List (Bool × Bool)) → turned m (s.1 && t) ((s.0, s.1 && not t) ∷ ss) ≡ next_branch m t (s ∷ ss)
  branch_as m true (around, true) ss = refl
  branch_as m true (around, false) ss = refl
  branch_as m false (around, true) ss = refl
  branch_as m false (around, false) ss = refl

  -- The next branch begins.
  pub branches : (names : List (List ℕ)) (t : List ℕ → Bool) (group untaken acting : Cond) (sections : Vec Section Global)
      → sections.items ≡ rest ++ record { around = section.around; untaken = untaken } ∷ []
      → Denotes new group.0 (λ c. old.has section.untaken.0 c && t c)
      → Denotes new untaken.0 (λ c. old.has section.untaken.0 c && not (t c))
      → Denotes new acting.0 (λ c. (old.has section.untaken.0 c && t c) && old.has w.prepared.live.0 c)
      → SimulatesStep names old w new (record w { group = group; acting = acting; sections = sections }) (λ files config m. next_branch m (t config) m.sections)
  branches names t group untaken acting sections items dg du dl =
      let taken : Section = record { around = section.around; untaken = untaken } in
      turns names (λ c. old.has section.untaken.0 c && t c) group acting sections dg dl
      (subst (All (OwnsSection new)) (sym items) (All-push (OwnsSection new) rest taken
      (All-weaker (OwnsSection old) (OwnsSection new) (section-kept keeps) rest owns-rest) (record { around = keeps.own section.around.0 owns-innermost.around; untaken = du.own })))
      (λ config m. next_branch m (t config) m.sections)
      (λ files config m listed is simulates.
      ap (λ ss. turned m (old.has section.untaken.0 config && t config) ss)
      (ap (λ xs. map (section_at new config) (reverse xs)) items
      ∙ (sections-push new config rest taken
      ∙ (ap (λ ss. (new.has section.around.0 config, new.has untaken.0 config) ∷ ss) (sections-kept keeps config listed rest owns-rest)
      ∙ (ap (λ b. (b, new.has untaken.0 config) ∷ map (section_at old config) (reverse rest)) (keeps.at section.around.0 config owns-innermost.around listed)
      ∙ ap (λ b. (old.has section.around.0 config, b) ∷ map (section_at old config) (reverse rest)) (du.at config (IsConfig-Keeps keeps listed))))))
      ∙ (branch_as m (t config) (section_at old config section) (map (section_at old config) (reverse rest))
      ∙ ap (next_branch m (t config)) (innermost names files config m simulates)))

  -- The section ends.
  pub ends : (names : List (List ℕ)) (acting : Cond) (sections : Vec Section Global) → sections.items ≡ rest
      → Denotes new acting.0 (λ c. old.has section.around.0 c && old.has w.prepared.live.0 c)
      → SimulatesStep names old w new (record w { group = section.around; acting = acting; sections = sections }) (λ files config m. ended m m.sections)
  ends names acting sections items dl =
      turns names (old.has section.around.0) section.around acting sections (Denotes-Keeps keeps (Denotes-self old section.around.0 owns-innermost.around)) dl
      (subst (All (OwnsSection new)) (sym items) (All-weaker (OwnsSection old) (OwnsSection new) (section-kept keeps) rest owns-rest))
      (λ config m. ended m m.sections)
      (λ files config m listed is simulates.
      ap (λ ss. turned m (old.has section.around.0 config) ss) (ap (λ xs. map (section_at new config) (reverse xs)) items ∙ sections-kept keeps config listed rest owns-rest)
      ∙ ap (ended m) (innermost names files config m simulates))

-- ---- a line that has no effect

-- so that each machine is as it was
pub stays-as : {names : List (List ℕ)} {s : Sets} {w : Walk} (f : List (List ℕ) → List ℕ → Machine → Machine)
    → ((files : List (List ℕ)) (config : List ℕ) (m : Machine) → IsConfig s.arities config → Simulates s names files w config m → m ≡ f files config m)
    → Owns s w → SimulatesStep names s w s w f
stays-as {names} {s} {w} f same owns = record {
  owns = owns;
  table = λ is. is;
  at = λ files config m listed is simulates. subst (Simulates s names files w config) (same files config m listed simulates) simulates;
}

pub stays : (names : List (List ℕ)) (s : Sets) (w : Walk) → Owns s w → SimulatesStep names s w s w (λ files config m. m)
stays names s w owns = stays-as (λ files config m. m) (λ files config m listed simulates. refl) owns

-- ---- a refusal

live_after : {F : Type 0} (t a : Bool) (f : Option F) (x : F) → (is_none f && not (t && (a && is_none f))) ≡ is_none (if t && (a && is_none f) then Some x else f)
live_after true true None x = refl
live_after true true (Some y) x = refl
live_after true false None x = refl
live_after true false (Some y) x = refl
live_after false a None x = refl
live_after false a (Some y) x = refl

acting_after : {F : Type 0} (t a : Bool) (f : Option F) (x : F) → ((a && is_none f) && not (t && (a && is_none f))) ≡ (a && is_none (if t && (a && is_none f) then Some x else f))
acting_after true true None x = refl
acting_after true true (Some y) x = refl
acting_after true false f x = refl
acting_after false true None x = refl
acting_after false true (Some y) x = refl
acting_after false false f x = refl

fault_after : {F : Type 0} (b : Bool) (f : Option F) (x : F) → (b ≡ true → f ≡ None) → option_to_list f ++ (if b then x ∷ [] else []) ≡ option_to_list (if b then Some x else f)
fault_after true f x none = ap (λ g. option_to_list g ++ x ∷ []) (none refl)
fault_after false f x none = append-nil (option_to_list f)

acts_none : {F : Type 0} (t a : Bool) (f : Option F) → (t && (a && is_none f)) ≡ true → f ≡ None
acts_none t a f e = right-none a f (and_parts t (a && is_none f) e).1

none_before : {F : Type 0} (b : Bool) (f : Option F) (x : F) → (if b then Some x else f) ≡ None → f ≡ None
none_before true f x none = absurd (cc)
none_before false f x none = none

-- a part of the configurations that take the line is refused at its #
pub refuses : (standard : Standard) (names : List (List ℕ)) {old new : Sets} (keeps : Keeps old new) (w : Walk) (owns : Owns old w) (part : Cond) (t : List ℕ → Bool) (cause : Cause) (token : Token) (tokens : List Token)
    (next : Walk) → Denotes old part.0 (λ c. t c && old.has w.acting.0 c)
    → RefusesEach old w (record { cond = part; cause = cause; place = token.place } ∷ []) new next
    → SimulatesStep names old w new next (λ files config m. refusing_if (t config) m (seen_line standard names files (token ∷ tokens)) cause)
refuses standard names {old} {new} keeps w owns part t cause token tokens next dp refused =
    let IsOwn : base.Fault → Type 0 = λ f. IsCond new f.cond.0 in
    let own : base.Fault = record { cond = part; cause = cause; place = token.place } in
    let none : (c : List ℕ) → IsConfig new.arities c → has_none old (own ∷ []) c ≡ not (t c && old.has w.acting.0 c) =
    λ c listed. sym (is_empty-one (old.has part.0 c) own) ∙ ap not (dp.at c (IsConfig-kept keeps listed)) in
    let dl = denotes-as (λ c. old.has w.prepared.live.0 c && has_none old (own ∷ []) c) (λ c. old.has w.prepared.live.0 c && not (t c && old.has w.acting.0 c))
    (λ c listed. ap (λ b. old.has w.prepared.live.0 c && b) (none c listed)) refused.live in
    let da = denotes-as (λ c. old.has w.acting.0 c && has_none old (own ∷ []) c) (λ c. old.has w.acting.0 c && not (t c && old.has w.acting.0 c))
    (λ c listed. ap (λ b. old.has w.acting.0 c && b) (none c listed)) refused.acting in
    let kept = owns-kept keeps w owns in
    subst (λ (v : Walk). SimulatesStep names old w new v (λ files config m. refusing_if (t config) m (seen_line standard names files (token ∷ tokens)) cause)) (sym refused.same)
    (record {
      owns = record {
        group = kept.group;
        acting = da.own;
        sections = kept.sections;
        runs = kept.runs;
        once = kept.once;
        prepared = record {
          list = kept.prepared.list;
          faults = subst (All IsOwn) (sym refused.faults) (All-push IsOwn w.prepared.faults.items own kept.prepared.faults (keeps.own part.0 dp.own));
          live = dl.own;
        };
      };
      table = IsTable-Keeps keeps;
      at = λ files config m listed is simulates.
          let now : IsConfig new.arities config = IsConfig-Keeps keeps listed in
          let same = simulates-kept keeps w owns names files config m listed is simulates in
          let x = refusal m.state (seen_line standard names files (token ∷ tokens)) cause in
          let at_part : new.has part.0 config ≡ (t config && acts m) = keeps.at part.0 config dp.own listed ∙ (dp.at config listed ∙ ap (λ b. t config && b) simulates.acting) in
          record {
            active = same.active;
            acting = da.at config now ∙ (ap (λ b. b && not (t config && b)) simulates.acting ∙ acting_after (t config) m.active m.fault x);
            sections = same.sections;
            prepared = record {
              live = dl.at config now ∙ (ap (λ b. b && not (t config && old.has w.acting.0 config)) simulates.prepared.live
                  ∙ (ap (λ b. is_none m.fault && not (t config && b)) simulates.acting ∙ live_after (t config) m.active m.fault x));
              fault =
                  ap (λ fs. map (seen_fault files) (faults_at new fs config)) refused.faults
                  ∙ (ap (map (seen_fault files)) (faults_at-append new w.prepared.faults.items (own ∷ []) config)
                  ∙ (map-append (seen_fault files) (faults_at new w.prepared.faults.items config) (faults_at new (own ∷ []) config)
                  ∙ (ap (λ fs. fs ++ map (seen_fault files) (faults_at new (own ∷ []) config)) same.prepared.fault
                  ∙ (ap (λ fs. option_to_list m.fault ++ fs) (map-one (seen_fault files) (new.has part.0 config) own ∙ ap (λ b. if b then seen_fault files own ∷ [] else []) at_part)
                  ∙ fault_after (t config && acts m) m.fault x (acts_none (t config) m.active m.fault)))));
            };
            text = λ fault_none. same.text (none_before (t config && acts m) m.fault x fault_none);
            macros = λ fault_none. same.macros (none_before (t config && acts m) m.fault x fault_none);
            once = λ fault_none. same.once (none_before (t config && acts m) m.fault x fault_none);
          };
    })

refusing_none : (b : Bool) (m : Machine) (l : Line) (cause : Cause) → (b && acts m) ≡ false → refusing_if b m l cause ≡ m
refusing_none b m l cause e = ap (λ c. record m { fault = if c then Some (refusal m.state l cause) else m.fault }) e

-- where the part has no configuration, none is refused
pub refuses-none : (standard : Standard) (names : List (List ℕ)) (s : Sets) (w : Walk) → Owns s w → (part : Cond) (t : List ℕ → Bool) (cause : Cause) → Denotes s part.0 (λ c. t c && s.has w.acting.0 c) → IsNever s part.0
    → (line : List Token) → SimulatesStep names s w s w (λ files config m. refusing_if (t config) m (seen_line standard names files line) cause)
refuses-none standard names s w owns part t cause dp never line =
    stays-as (λ files config m. refusing_if (t config) m (seen_line standard names files line) cause)
    (λ files config m listed simulates.
    let inactive : (t config && acts m) ≡ false = ap (λ b. t config && b) (sym simulates.acting) ∙ (sym (dp.at config listed) ∙ never.none config listed) in
    sym (refusing_none (t config) m (seen_line standard names files line) cause inactive)) owns

-- ---- a line is read

text_macros : (b : Bool) (s : State) (l : Line) → (if b then with_text s l else s).macros ≡ s.macros
text_macros true s l = refl
text_macros false s l = refl

text_once : (b : Bool) (s : State) (l : Line) (name : List ℕ) → is_once_file s name ≡ is_once_file (if b then with_text s l else s) name
text_once true s l name = refl
text_once false s l name = refl

-- the walk behind a line that the configurations read that act
abbrev pub read-walk : Walk → Hide → List Token → Walk
read-walk w hide tokens = record w {
  runs = record w.runs { gathered = w.runs.gathered ++ under w.acting (map (bare hide) tokens); read = w.runs.read ++ under w.acting (map Some tokens) };
}

pub puts : (standard : Standard) (names : List (List ℕ)) (s : Sets) (w : Walk) (owns : Owns s w) (hide : Hide) → set_at w.runs.sets hide.0 ≡ [] → (tokens : List Token)
    → SimulatesStep names s w s (read-walk w hide tokens) (λ files config m. acting m (λ state. with_text state (seen_line standard names files tokens)))
puts standard names s w owns hide unhidden tokens =
    let H : Cond × Hidden → Type 0 = λ item. IsCond s item.0.0 in
    let R : Cond × Option Token → Type 0 = λ item. IsCond s item.0.0 in
    record {
      owns = record {
        group = owns.group;
        acting = owns.acting;
        sections = owns.sections;
        runs = record {
          gathered = All-append H w.runs.gathered (under w.acting (map (bare hide) tokens)) owns.runs.gathered (All-map H (λ t. (w.acting, t)) (map (bare hide) tokens) (λ k d h. owns.acting));
          held = owns.runs.held;
          pragmas = owns.runs.pragmas;
          read = All-append R w.runs.read (under w.acting (map Some tokens)) owns.runs.read (All-map R (λ t. (w.acting, t)) (map Some tokens) (λ k d h. owns.acting));
        };
        once = owns.once;
        prepared = owns.prepared;
      };
      table = λ is. is;
      at = λ files config m listed is simulates. record {
        active = simulates.active;
        acting = simulates.acting;
        sections = simulates.sections;
        prepared = record { live = simulates.prepared.live; fault = simulates.prepared.fault };
        text = λ none. run-more s names files w.runs hide unhidden w.prepared.list config m.state (seen_line standard names files tokens) w.acting tokens refl (acts m) simulates.acting (simulates.text none);
        macros = λ none name. simulates.macros none name ∙ sym (ap (λ f. f name) (text_macros (acts m) m.state (seen_line standard names files tokens)));
        once = λ none name. simulates.once none name ∙ text_once (acts m) m.state (seen_line standard names files tokens) name;
      };
    }

-- where no configuration takes the line, nothing is read
pub puts-none : (standard : Standard) (names : List (List ℕ)) (s : Sets) (w : Walk) → Owns s w → IsNever s w.acting.0 → (line : List Token)
    → SimulatesStep names s w s w (λ files config m. acting m (λ state. with_text state (seen_line standard names files line)))
puts-none standard names s w owns never line =
    stays-as (λ files config m. acting m (λ state. with_text state (seen_line standard names files line)))
    (λ files config m listed simulates.
    sym (inert_acting m (λ state. with_text state (seen_line standard names files line)) (sym simulates.acting ∙ never.none config listed))) owns

-- the state with these macros
abbrev pub with_macros : State → Macros → State
with_macros s macros = record s { macros = macros }

-- ---- a directive that has no effect

pub same_state : (b : Bool) (m : Machine) → m ≡ record m { state = if b then m.state else m.state }
same_state true m = refl
same_state false m = refl

-- a line behind which the macros are as they were
pub ignores : (names : List (List ℕ)) (s : Sets) (w : Walk) → Owns s w → SimulatesStep names s w s w (λ files config m. acting m (λ state. with_macros state m.state.macros))
ignores names s w owns = stays-as (λ files config m. acting m (λ state. with_macros state m.state.macros)) (λ files config m listed simulates. same_state (acts m) m) owns

-- ---- the macros change

changed_macros : (b : Bool) (s : State) (macros : Macros) (name : List ℕ) → (if b then macros name else s.macros name) ≡ (if b then with_macros s macros else s).macros name
changed_macros true s macros name = refl
changed_macros false s macros name = refl

changed_once : (b : Bool) (s : State) (macros : Macros) (name : List ℕ) → is_once_file s name ≡ is_once_file (if b then with_macros s macros else s) name
changed_once true s macros name = refl
changed_once false s macros name = refl

-- the walk with another table
pub same-owns : {old new : Sets} (keeps : Keeps old new) (w : Walk) (owns : Owns old w) (table : MacroTable) → Owns new (record w { table = table })
same-owns keeps w owns table = let kept = owns-kept keeps w owns in record { group = kept.group; acting = kept.acting; sections = kept.sections; runs = kept.runs; once = kept.once; prepared = kept.prepared }

-- Where the line does something, but for a part, the table has other macros behind it, elsewhere
-- those from before.
pub changes-macros : (names : List (List ℕ)) {old new : Sets} (keeps : Keeps old new) (w : Walk) (owns : Owns old w) (table : MacroTable) (t : List ℕ → Bool) (becomes : Macros → Macros)
    → IsTable new names table
    → ((config : List ℕ) → IsConfig old.arities config → (macros : Macros) → ((name : List ℕ) → macros_at old names w.table config name ≡ macros name)
    → (name : List ℕ) → macros_at new names table config name ≡ (if not (t config) && old.has w.acting.0 config then becomes macros name else macros name))
    → StepsBetweenRuns names old w new (record w { table = table }) (λ files config m. acting_unless (t config) m (λ s. with_macros s (becomes s.macros)))
changes-macros names {old} {new} keeps w owns table t becomes is_table changed =
    record {
      owns = same-owns keeps w owns table;
      table = λ _. is_table;
      at = λ files config m listed is simulates between.
          let same = simulates-kept keeps w owns names files config m listed is simulates in
          let next = becomes m.state.macros in
          record {
            active = same.active;
            acting = same.acting;
            sections = same.sections;
            prepared = record { live = same.prepared.live; fault = same.prepared.fault };
            text = λ none. run-changed (not (t config) && acts m) m.state next (λ on. between (and_parts (not (t config)) (acts m) on).1) (same.text none);
            macros = λ none name. changed config listed m.state.macros (simulates.macros none) name
                ∙ (ap (λ b. if not (t config) && b then next name else m.state.macros name) simulates.acting ∙ changed_macros (not (t config) && acts m) m.state next name);
            once = λ none name. same.once none name ∙ changed_once (not (t config) && acts m) m.state next name;
          };
    }

-- the table says what it said
pub same-macros : (names : List (List ℕ)) {old new : Sets} (keeps : Keeps old new) (w : Walk) (owns : Owns old w) (table : MacroTable) → IsTable new names table → IsStill old new names w.table table
    → SimulatesStep names old w new (record w { table = table }) (λ files config m. m)
same-macros names {old} {new} keeps w owns table is_table still =
    record {
      owns = same-owns keeps w owns table;
      table = λ _. is_table;
      at = λ files config m listed is simulates.
          let same = simulates-kept keeps w owns names files config m listed is simulates in
          record { active = same.active; acting = same.acting; sections = same.sections; prepared = same.prepared; text = same.text; macros = λ none name. still config name listed ∙ simulates.macros none name; once = same.once };
    }

-- what a table says stays as the store grows further
pub still-after : {old mid new : Sets} {names : List (List ℕ)} (was table : MacroTable) → Keeps old mid → Keeps mid new → IsTable mid names table
    → IsStill old mid names was table → IsStill old new names was table
still-after was table first later is still = λ config text listed. macros_at-Keeps later is config text (IsConfig-Keeps first listed) ∙ still config text listed

-- ---- a macro is defined, or taken back

refused-over : (macros : Macros) (d : Defined) (found : Option Definition) → IsOther d.definition found → defined_over macros d found ≡ Err Redefined
refused-over macros d None other = absurd other
refused-over macros d (Some was) other = by (same_definition was d.definition) refl
  where
    by : (b : Bool) → same_definition was d.definition ≡ b → (if b then Ok (with_macro macros d) else Err Redefined) ≡ Err Redefined
    by true e = absurd (other (same_definition-true was d.definition e))
    by false e = refl

accepted-over : (macros : Macros) (d : Defined) (found : Option Definition) → (IsOther d.definition found → ⊥) → defined_over macros d found ≡ Ok (with_macro macros d)
accepted-over macros d None same = refl
accepted-over macros d (Some was) same = by (same_definition was d.definition) refl
  where
    by : (b : Bool) → same_definition was d.definition ≡ b → (if b then Ok (with_macro macros d) else Err Redefined) ≡ Ok (with_macro macros d)
    by true e = refl
    by false e = absurd (same (same_definition-false was d.definition e))

-- where a definition is refused, and else where the line does something, the machine goes as its
-- line says
pub defines-as : (m : Machine) (l : Line) (macros : Macros) (d : Defined) (t : Bool) → (m.fault ≡ None → macros d.name ≡ m.state.macros d.name)
    → ((t ≡ true) ↔ ((acts m ≡ true) × IsOther d.definition (macros d.name)))
    → refusing_if t (acting_unless t m (λ s. with_macros s (with_macro s.macros d))) l Redefined ≡ changing m l directive.Define (defined_as m.state.macros (Ok d))
defines-as m l macros d true same is =
    let found = is.0 refl in
    let other = subst (IsOther d.definition) (same (acts_none true m.active m.fault found.0)) found.1 in
    ap (changing m l directive.Define) (sym (refused-over m.state.macros d (m.state.macros d.name) other))
defines-as m l macros d false same is = by (acts m) refl
  where
    next : State → State
    next = λ s. with_macros s (with_macro s.macros d)

    by : (b : Bool) → acts m ≡ b → acting m (λ s. with_macros s (with_macro s.macros d)) ≡ changing m l directive.Define (defined_as m.state.macros (Ok d))
    by true e =
        ap (changing m l directive.Define) (sym (accepted-over m.state.macros d (m.state.macros d.name)
        (λ other. let wrong = is.1 (e, subst (IsOther d.definition) (sym (same (acts_none true m.active m.fault e))) other) in cc)))
    by false e = inert_acting m (λ s. with_macros s (with_macro s.macros d)) e ∙ sym (inert_changing m l directive.Define (defined_as m.state.macros (Ok d)) e)

pub undefines-as : (m : Machine) (l : Line) (name : List ℕ) (t : Bool)
    → refusing_if t (acting_unless t m (λ s. with_macros s (without_macro s.macros name))) l ProtectedName
    ≡ changing m l directive.Undef (if t then Err ProtectedName else Ok (without_macro m.state.macros name))
undefines-as m l name true = refl
undefines-as m l name false = refl

-- the choice of one of two, with the test as the walk has it
pub chosen-as : {A : Type 0} (a t : Bool) {x y z w : A} → x ≡ z → y ≡ w → (if a && not t then x else y) ≡ (if not t && a then z else w)
chosen-as true true p q = q
chosen-as true false p q = p
chosen-as false true p q = q
chosen-as false false p q = q

pub updated-as : (f g : Macros) (key : List ℕ) (d : Option Definition) (name : List ℕ) → f name ≡ g name → update same_bytes f key d name ≡ update same_bytes g key d name
updated-as f g key d name same = ap (cond (same_bytes key name) d) same

pub and-within : (a b : Bool) → (a ≡ true → b ≡ true) → a ≡ (a && b)
and-within true b h = sym (h refl)
and-within false b h = refl

-- ---- a directive that has no effect, or is not carried out

-- a directive that is refused for this cause, or that has no effect
pub refused-as : (m : Machine) (l : Line) (d : Directive) (cause : Cause) → refusal_of d ≡ Some cause → refusing m l cause ≡ plain_by m l (Some d)
refused-as m l (directive.Conditional c) cause e = cc
refused-as m l directive.Include cause e = let same : BadDirective ≡ cause = cc in ap (refusing m l) (sym same)
refused-as m l directive.Define cause e = cc
refused-as m l directive.Undef cause e = cc
refused-as m l directive.Line cause e = let same : BadDirective ≡ cause = cc in ap (refusing m l) (sym same)
refused-as m l directive.Error cause e = let same : ErrorDirective ≡ cause = cc in ap (refusing m l) (sym same)
refused-as m l directive.Pragma cause e = cc
refused-as m l directive.Warning cause e = cc
refused-as m l directive.Null cause e = cc
refused-as m l directive.Unknown cause e = let same : BadDirective ≡ cause = cc in ap (refusing m l) (sym same)

pub unchanged-by : (standard : Standard) (names : List (List ℕ)) (s : Sets) (w : Walk) → Owns s w → (line : List Token) (d : Directive) → refusal_of d ≡ None → (d ≡ directive.Define → ⊥) → (d ≡ directive.Undef → ⊥)
    → (d ≡ directive.Pragma → ⊥)
    → SimulatesStep names s w s w (λ files config m. plain_by m (seen_line standard names files line) (Some d))
unchanged-by standard names s w owns line (directive.Conditional c) e n u p = stays names s w owns
unchanged-by standard names s w owns line directive.Include e n u p = cc
unchanged-by standard names s w owns line directive.Define e n u p = absurd (n refl)
unchanged-by standard names s w owns line directive.Undef e n u p = absurd (u refl)
unchanged-by standard names s w owns line directive.Line e n u p = cc
unchanged-by standard names s w owns line directive.Error e n u p = cc
unchanged-by standard names s w owns line directive.Pragma e n u p = absurd (p refl)
unchanged-by standard names s w owns line directive.Warning e n u p = ignores names s w owns
unchanged-by standard names s w owns line directive.Null e n u p = stays names s w owns
unchanged-by standard names s w owns line directive.Unknown e n u p = cc

-- ---- moves joined

-- a move of machines whose runs were closed, and then another
pub between-then : {names : List (List ℕ)} {r s t : Sets} {u v w : Walk} (f g : List (List ℕ) → List ℕ → Machine → Machine) → Keeps r s
    → StepsBetweenRuns names r u s v f → SimulatesStep names s v t w g → StepsBetweenRuns names r u t w (λ files config m. g files config (f files config m))
between-then f g keeps a b = record {
  owns = b.owns;
  table = λ is. b.table (a.table is);
  at = λ files config m listed is simulates between.
      b.at files config (f files config m) (IsConfig-Keeps keeps listed) (a.table is) (a.at files config m listed is simulates between);
}

-- a move of each machine is one of those whose runs were closed
pub between-runs : {names : List (List ℕ)} {r s : Sets} {u v : Walk} {f : List (List ℕ) → List ℕ → Machine → Machine} → SimulatesStep names r u s v f → StepsBetweenRuns names r u s v f
between-runs a = record { owns = a.owns; table = a.table; at = λ files config m listed is simulates between. a.at files config m listed is simulates }

-- one such move as another
pub between-as : {names : List (List ℕ)} {r s : Sets} {u v : Walk} (f g : List (List ℕ) → List ℕ → Machine → Machine)
    → ((files : List (List ℕ)) (config : List ℕ) (m : Machine) → IsConfig r.arities config → Simulates r names files u config m → f files config m ≡ g files config m)
    → StepsBetweenRuns names r u s v f → StepsBetweenRuns names r u s v g
between-as {names} {s = s} {v = v} f g same a = record {
  owns = a.owns;
  table = a.table;
  at = λ files config m listed is simulates between.
      subst (Simulates s names files v config) (same files config m listed simulates) (a.at files config m listed is simulates between);
}

-- one move as another
pub step-as : {names : List (List ℕ)} {r s : Sets} {u v : Walk} (f g : List (List ℕ) → List ℕ → Machine → Machine)
    → ((files : List (List ℕ)) (config : List ℕ) (m : Machine) → IsConfig r.arities config → Simulates r names files u config m → f files config m ≡ g files config m)
    → SimulatesStep names r u s v f → SimulatesStep names r u s v g
step-as {names} {s = s} {v = v} f g same a = record {
  owns = a.owns;
  table = a.table;
  at = λ files config m listed is simulates. subst (Simulates s names files v config) (same files config m listed simulates) (a.at files config m listed is simulates);
}

-- a directive that ends no runs has no effect
pub mild-stays : (standard : Standard) (names : List (List ℕ)) (s : Sets) (w : Walk) → Owns s w → (line : List Token) (o : Option Directive) (d : Directive) → o ≡ Some d → ends_run o ≡ false
    → SimulatesStep names s w s w (λ files config m. plain_by m (seen_line standard names files line) o)
mild-stays standard names s w owns line o d is mild =
    stays-as (λ files config m. plain_by m (seen_line standard names files line) o)
    (λ files config m _ _.
    ap (λ b. if b then changing m (seen_line standard names files line) d (changed_by m.state.macros (seen_line standard names files line) d) else m) (sym (sym (ap ends_run is) ∙ mild))
    ∙ ap (plain_by m (seen_line standard names files line)) (sym is)) owns

-- a move that follows other changes of the store
pub step-kept : {names : List (List ℕ)} {r s t : Sets} {w v : Walk} {f : List (List ℕ) → List ℕ → Machine → Machine} → Keeps r s → Owns r w
    → SimulatesStep names s w t v f → SimulatesStep names r w t v f
step-kept {names} {w = w} keeps owns a = record {
  owns = a.owns;
  table = λ is. a.table (IsTable-Keeps keeps is);
  at = λ files config m listed is simulates.
      a.at files config m (IsConfig-Keeps keeps listed) (IsTable-Keeps keeps is) (simulates-kept keeps w owns names files config m listed is simulates);
}

-- ---- directives that change the macros

-- a configuration of a store that has grown
config-back : {old new : Sets} {config : List ℕ} → Keeps old new → IsConfig new.arities config → IsConfig old.arities config
config-back {config = config} keeps listed = subst (λ (arities : List ℕ). IsConfig arities config) keeps.arities listed

-- a part of the configurations is refused after the table has changed
abbrev pub Refuses : Standard → Sets → Sets → Walk → MacroTable → Cond → Walk → List Token → Cause → Type 0
Refuses standard mid new w table refused next line cause = (names : List (List ℕ)) (t : List ℕ → Bool) → Denotes mid refused.0 (λ c. t c && mid.has w.acting.0 c)
    → SimulatesStep names mid (record w { table = table }) new next (λ files config m. refusing_if (t config) m (seen_line standard names files line) cause)

module _ (standard : Standard) (names : List (List ℕ)) {old mid new : Sets} (keeps : Keeps old mid) (w : Walk) (owns : Owns old w) (table : MacroTable) (is_table : IsTable mid names table) (refused : Cond) (next : Walk) (line : List Token) where
  pub defines : (d : Defined) → IsCond mid refused.0
      → ((c : List ℕ) → IsConfig old.arities c → ((mid.has refused.0 c ≡ true) ↔ ((old.has w.acting.0 c ≡ true) × IsOther d.definition (macros_at old names w.table c d.name))))
      → ((c text : List ℕ) → IsConfig old.arities c → macros_at mid names table c text
      ≡ (if old.has w.acting.0 c && not (mid.has refused.0 c) then update same_bytes (macros_at old names w.table c) d.name (Some d.definition) text else macros_at old names w.table c text))
      → Refuses standard mid new w table refused next line Redefined
      → StepsBetweenRuns names old w new next (λ files config m. changing m (seen_line standard names files line) directive.Define (defined_as m.state.macros (Ok d)))
  defines d own is changed refuse =
      let t : List ℕ → Bool = mid.has refused.0 in
      let step : State → State = λ s. with_macros s (with_macro s.macros d) in
      between-as (λ files config m. refusing_if (t config) (acting_unless (t config) m step) (seen_line standard names files line) Redefined)
      (λ files config m. changing m (seen_line standard names files line) directive.Define (defined_as m.state.macros (Ok d)))
      (λ files config m listed simulates.
      defines-as m (seen_line standard names files line) (macros_at old names w.table config) d (t config) (λ clean. simulates.macros clean d.name)
      (subst (λ b. (t config ≡ true) ↔ ((b ≡ true) × IsOther d.definition (macros_at old names w.table config d.name))) simulates.acting (is config listed)))
      (between-then (λ files config m. acting_unless (t config) m step) (λ files config m. refusing_if (t config) m (seen_line standard names files line) Redefined) keeps
      (changes-macros names keeps w owns table t (λ macros. with_macro macros d) is_table
      (λ config listed macros same name. changed config name listed
      ∙ chosen-as (old.has w.acting.0 config) (t config) (updated-as (macros_at old names w.table config) macros d.name (Some d.definition) name (same name)) (same name)))
      (refuse names t (record {
        own = own;
        at = λ config now.
            let listed = config-back keeps now in
            and-within (t config) (mid.has w.acting.0 config) (λ e. keeps.at w.acting.0 config owns.acting listed ∙ ((is config listed).0 e).0);
      })))

  pub undefines : (name : List ℕ) → Denotes mid refused.0 (λ c. old.has w.acting.0 c && is_protected name)
      → ((c text : List ℕ) → IsConfig old.arities c → macros_at mid names table c text
      ≡ (if old.has w.acting.0 c && not (is_protected name) then update same_bytes (macros_at old names w.table c) name None text else macros_at old names w.table c text))
      → Refuses standard mid new w table refused next line ProtectedName
      → StepsBetweenRuns names old w new next (λ files config m. changing m (seen_line standard names files line) directive.Undef (undefined m.state.macros (Some name)))
  undefines name denotes changed refuse =
      let t : Bool = is_protected name in
      let step : State → State = λ s. with_macros s (without_macro s.macros name) in
      between-as (λ files config m. refusing_if t (acting_unless t m step) (seen_line standard names files line) ProtectedName)
      (λ files config m. changing m (seen_line standard names files line) directive.Undef (undefined m.state.macros (Some name)))
      (λ files config m listed simulates. undefines-as m (seen_line standard names files line) name t)
      (between-then (λ files config m. acting_unless t m step) (λ files config m. refusing_if t m (seen_line standard names files line) ProtectedName) keeps
      (changes-macros names keeps w owns table (λ _. t) (λ macros. without_macro macros name) is_table
      (λ config listed macros same text. changed config text listed
      ∙ chosen-as (old.has w.acting.0 config) t (updated-as (macros_at old names w.table config) macros name None text (same text)) (same text)))
      (refuse names (λ _. t) (record {
        own = denotes.own;
        at = λ config now.
            denotes.at config now ∙ (and_comm (old.has w.acting.0 config) t ∙ ap (λ b. t && b) (sym (keeps.at w.acting.0 config owns.acting (config-back keeps now))));
      })))
