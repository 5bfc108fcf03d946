-- A walk stays where it is as the tables of names, of files and of hide sets grow.
use Rattle.std.proofs.Common.{◌≡◌, ℕ, ◌<◌, Bool, true, false, List, [], ◌∷◌, All, length, map, refl, ap, ◌∙◌, if◌then◌else◌}
use Rattle.sc_base.specs.declared.fault.Fault as base_fault
use Rattle.sc_base.specs.declared.token.Token as base
use Rattle.sc_if.proofs.Replacements.{held-grown as token-held, text_at-grown}
use Rattle.sc_prep.proofs.Contents.{IsPlaced-later, place-later, tokens-later}
use Rattle.sc_prep.proofs.Facts.{Extends-refl, Extends-within, items_at-Keeps, macros_at-Extends, recursion_from_All}
use Rattle.sc_prep.proofs.OnceLemmas.{held-more, once-later}
use Rattle.sc_prep.proofs.Terms.{AllByRecursion as Every, AllPass, ArePlaced, Cond, Extends, IsCond, IsConfig, IsHeldWalk, IsPlaced, IsTable, Keeps, Machine, Name, Sets, Simulates, Walk, any_token, faults_at, has_no_newline, is_plain, items_at, seen, seen_fault}
use Rattle.sc_prep.proofs.Texts.{holds-later, items_at-All, run-later}

-- ---- the table of texts

module _ {names more : List (List ℕ)} (grows : Extends names more) where
  pub placed-grown : (files : ℕ) (t : base.Token) → IsPlaced names files t → IsPlaced more files t
  placed-grown files t placed = record {
    held = token-held grows t placed.held;
    file = placed.file;
  }

  pub plain-grown : (files : ℕ) (list : List (Cond × base.Token)) → ArePlaced names files list → AllPass (is_plain names) list → AllPass (is_plain more) list
  plain-grown files list placed plain = λ k d h. ap has_no_newline (text_at-grown grows _ (placed k d h).held.spelling) ∙ plain k d h

-- ---- all tables

pub faults-later : (s : Sets) {files more : List (List ℕ)} → Extends files more → (fs : List base_fault.Fault) (c : List ℕ)
    → Every (λ (f : base_fault.Fault). f.place.file.0 < length files) fs
    → map (seen_fault more) (faults_at s fs c) ≡ map (seen_fault files) (faults_at s fs c)
faults-later s files_grow [] c there = refl
faults-later s {files} {more} files_grow (f ∷ fs) c there = by (faults-later s files_grow fs c there.1) (s.has f.cond.0 c)
  where
    first : seen_fault more f ≡ seen_fault files f
    first = ap (λ p. record { cause = f.cause; place = p }) (place-later (Extends-refl files) files_grow f.place there.0)

    by : map (seen_fault more) (faults_at s fs c) ≡ map (seen_fault files) (faults_at s fs c) → (b : Bool) → map (seen_fault more) (if b then f ∷ faults_at s fs c else faults_at s fs c) ≡ map (seen_fault files) (if b then f ∷ faults_at s fs c else faults_at s fs c)
    by rest true = ap (λ g. g ∷ map (seen_fault more) (faults_at s fs c)) first ∙ ap (λ gs. seen_fault files f ∷ gs) rest
    by rest false = rest

module _ {before now files more : List (List ℕ)} (grows : Extends before now) (files_grow : Extends files more) where
  pub items-later : (s : Sets) (list : List (Cond × base.Token)) (c : List ℕ) → ArePlaced before (length files) list → map (seen now more) (items_at s list c) ≡ map (seen before files) (items_at s list c)
  items-later s list c placed = tokens-later grows files_grow (items_at s list c) (items_at-All (IsPlaced before (length files)) s list c placed)

  module _ (w : Walk) {hides : List (List Name)} (hides_grow : Extends w.runs.sets hides) where
    pub held-grown : IsHeldWalk before (length files) any_token w → IsHeldWalk now (length more) any_token (record w { runs = record w.runs { sets = hides } })
    held-grown held = record {
      runs = holds-later grows files_grow w.runs hides_grow held.runs;
      list = λ k d h. IsPlaced-later grows files_grow _ (held.list k d h);
      passed = held.passed;
      faults = λ k d h. Extends-within _ (held.faults k d h) files_grow;
      once = held-more files_grow w.once.items held.once;
    }

    pub simulates-grown : (s : Sets) (c : List ℕ) (m : Machine) → IsTable s before w.table → IsHeldWalk before (length files) any_token w → Simulates s before files w c m
        → Simulates s now more (record w { runs = record w.runs { sets = hides } }) c m
    simulates-grown s c m table held at = record {
      active = at.active;
      acting = at.acting;
      sections = at.sections;
      prepared = record {
        live = at.prepared.live;
        fault = faults-later s files_grow w.prepared.faults.items c (recursion_from_All (λ (f : base_fault.Fault). f.place.file.0 < length files) w.prepared.faults.items held.faults) ∙ at.prepared.fault;
      };
      text = λ none. run-later grows files_grow w.runs hides_grow held.runs held.list (at.text none);
      macros = λ none name. macros_at-Extends grows table c name ∙ at.macros none name;
      once = λ none name. once-later files_grow s w.once.items c name held.once ∙ at.once none name;
    }

  pub held-later : (w : Walk) → IsHeldWalk before (length files) any_token w → IsHeldWalk now (length more) any_token w
  held-later w held = held-grown w (Extends-refl w.runs.sets) held

  pub simulates-later : (s : Sets) (w : Walk) (c : List ℕ) (m : Machine) → IsTable s before w.table → IsHeldWalk before (length files) any_token w → Simulates s before files w c m → Simulates s now more w c m
  simulates-later s w c m table held at = simulates-grown w (Extends-refl w.runs.sets) s c m table held at

-- the items of a list, seen from before
pub shown-before : (files : List (List ℕ)) {names more : List (List ℕ)} (grows : Extends names more) {old s : Sets} → Keeps old s → (list : List (Cond × base.Token)) (c : List ℕ) → All (λ (item : Cond × base.Token). IsCond old item.0.0) list
    → ArePlaced names (length files) list → IsConfig old.arities c → map (seen more files) (items_at s list c) ≡ map (seen names files) (items_at old list c)
shown-before files {names} grows {s = s} since list c own placed listed = items-later grows (Extends-refl files) s list c placed ∙ ap (map (seen names files)) (items_at-Keeps list c since own listed)
