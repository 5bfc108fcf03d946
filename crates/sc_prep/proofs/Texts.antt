-- What a configuration has of a run, as the walk goes on.
use Rattle.std.proofs.Common.{◌≡◌, ℕ, ◌<◌, Bool, true, false, List, [], ◌∷◌, ◌++◌, All, length, map, Option, Some, None, append-nil, append_assoc, refl, sym, ap, subst, ◌∙◌, if◌then◌else◌}
use Rattle.std.proofs.lemmas.Grind.{flat_map-append}
use Rattle.sc_base.specs.declared.fault.Fault as base
use Rattle.sc_expand.proofs.TextLemmas.{seen_hidden-begun}
use Rattle.sc_expand.specs.Moved.{moved, moved_failure}
use Rattle.sc_expand.specs.Seen.{seen_failure}
use Rattle.sc_model.specs.Token.{Place}
use Rattle.sc_prep.proofs.Contents.{IsPlaced-later, place-later, tokens-later}
use Rattle.sc_prep.proofs.Facts.{All-cons, All-head, All-nil, All-push, All-tail, Extends-within, faults_at-Keeps, faults_at-append, items_at-Keeps, items_at-append, items_at-under, map-append, under}
use Rattle.sc_prep.proofs.LeftRuns.{left-all, left-as, left-more, left-none}
use Rattle.sc_prep.proofs.PragmaMoves.{awaits-kept, awaits-none, owns-pragmas}
use Rattle.sc_prep.proofs.SettledText.{text-as, text-begins, text-empty, text-more}
use Rattle.sc_prep.proofs.Terms.{ArePlaced, Cond, Extends, Hidden, HoldsRuns, IsCond, IsConfig, IsHeldHidden, IsPlaced, Keeps, Line, Macros, Name, OpenRuns, OwnsRuns, RunAt, Sets, State, Token, faults_at, held_at, hidden_at, items_at, last_run, option_to_list, run_at, seen, seen_fault, seen_hidden, seen_place, set_at, tokens_read, unhidden, with_text}
use Rattle.sc_prep.specs.Pragmas.{AwaitsAt, HasNoPragma, no_operator}
use Rattle.sc_subst.proofs.Later.{IsHeldHidden-Extends, hidden_later}
use Rattle.sc_subst.specs.declared.hidden.Hide.{Hide}
use Rattle.sc_subst.specs.declared.hidden.Hidden as base_hidden

-- ---- what the items of a list have, those of a configuration have

pub items_at-All : {T : Type 0} (P : T → Type 0) (s : Sets) (list : List (Cond × T)) (c : List ℕ) → All (λ (item : Cond × T). P item.1) list → All P (items_at s list c)
items_at-All P s [] c all = All-nil P
items_at-All {T} P s (x ∷ xs) c all =
    let Q : Cond × T → Type 0 = λ item. P item.1 in
    by (s.has x.0.0 c) (All-head Q x xs all) (items_at-All P s xs c (All-tail Q x xs all))
  where
    by : (b : Bool) → P x.1 → All P (items_at s xs c) → All P (if b then x.1 ∷ items_at s xs c else items_at s xs c)
    by true first rest = All-cons P x.1 (items_at s xs c) first rest
    by false first rest = rest

faults_at-All : (P : base.Fault → Type 0) (s : Sets) (faults : List base.Fault) (c : List ℕ) → All P faults → All P (faults_at s faults c)
faults_at-All P s [] c all = All-nil P
faults_at-All P s (x ∷ xs) c all = by (s.has x.cond.0 c) (All-head P x xs all) (faults_at-All P s xs c (All-tail P x xs all))
  where
    by : (b : Bool) → P x → All P (faults_at s xs c) → All P (if b then x ∷ faults_at s xs c else faults_at s xs c)
    by true first rest = All-cons P x (faults_at s xs c) first rest
    by false first rest = rest

run-All : (P : Token → Type 0) (s : Sets) (c : List ℕ) (run : List Token) (read : List (Cond × Option Token)) → All P run → All P (tokens_read read) → All P (last_run run (items_at s read c))
run-All P s c run [] first all = first
run-All P s c run (x ∷ xs) first all = by (λ before each rest. run-All P s c before xs each rest) (s.has x.0.0 c) x.1 all
  where
    by : ((before : List Token) → All P before → All P (tokens_read xs) → All P (last_run before (items_at s xs c))) → (b : Bool) (o : Option Token) → All P (option_to_list o ++ tokens_read xs)
        → All P (last_run run (if b then o ∷ items_at s xs c else items_at s xs c))
    by goes true (Some t) all = goes (run ++ t ∷ []) (All-push P run t first (All-head P t (tokens_read xs) all)) (All-tail P t (tokens_read xs) all)
    by goes false (Some t) all = goes run first (All-tail P t (tokens_read xs) all)
    by goes true None all = goes [] (All-nil P) all
    by goes false None all = goes run first all

pub run_at-All : (P : Token → Type 0) (s : Sets) (read : List (Cond × Option Token)) (c : List ℕ) → All P (tokens_read read) → All P (run_at s read c)
run_at-All P s read c all = run-All P s c [] read (All-nil P) all

-- ---- what was read

pub last-append : {A : Type 0} (run : List A) (xs ys : List (Option A)) → last_run run (xs ++ ys) ≡ last_run (last_run run xs) ys
last-append run [] ys = refl
last-append run (Some t ∷ xs) ys = last-append (run ++ t ∷ []) xs ys
last-append run (None ∷ xs) ys = last-append [] xs ys

last-some : {A : Type 0} (run ts : List A) → last_run run (map Some ts) ≡ run ++ ts
last-some run [] = sym (append-nil run)
last-some run (t ∷ ts) = last-some (run ++ t ∷ []) ts ∙ append_assoc run (t ∷ []) ts

-- tokens more of some configurations
run_at-more : (s : Sets) (read : List (Cond × Option Token)) (cond : Cond) (ts : List Token) (c : List ℕ) → run_at s (read ++ under cond (map Some ts)) c ≡ run_at s read c ++ (if s.has cond.0 c then ts else [])
run_at-more s read cond ts c =
    ap (last_run []) (items_at-append s read (under cond (map Some ts)) c ∙ ap (λ xs. items_at s read c ++ xs) (items_at-under s cond (map Some ts) c))
    ∙ (last-append [] (items_at s read c) (if s.has cond.0 c then map Some ts else []) ∙ by (s.has cond.0 c))
  where
    by : (b : Bool) → last_run (run_at s read c) (if b then map Some ts else []) ≡ run_at s read c ++ (if b then ts else [])
    by true = last-some (run_at s read c) ts
    by false = sym (append-nil (run_at s read c))

read-under : (cond : Cond) (ts : List Token) → tokens_read (under cond (map Some ts)) ≡ ts
read-under cond [] = refl
read-under cond (t ∷ ts) = ap (λ xs. t ∷ xs) (read-under cond ts)

pub read-more : (read : List (Cond × Option Token)) (cond : Cond) (ts : List Token) → tokens_read (read ++ under cond (map Some ts)) ≡ tokens_read read ++ ts
read-more read cond ts = flat_map-append (λ (item : Cond × Option Token). option_to_list item.1) read (under cond (map Some ts)) ∙ ap (λ xs. tokens_read read ++ xs) (read-under cond ts)

-- ---- lists, one behind the other

pub hidden_at-append : (s : Sets) (names files : List (List ℕ)) (hides : List (List Name)) (xs ys : List (Cond × base_hidden.Hidden)) (c : List ℕ)
    → hidden_at s names files hides (xs ++ ys) c ≡ hidden_at s names files hides xs c ++ hidden_at s names files hides ys c
hidden_at-append s names files hides xs ys c =
    ap (λ hs. map (moved (seen_place files)) (map (seen_hidden names hides) hs)) (items_at-append s xs ys c)
    ∙ (ap (map (moved (seen_place files))) (map-append (seen_hidden names hides) (items_at s xs c) (items_at s ys c)) ∙ map-append (moved (seen_place files)) (map (seen_hidden names hides) (items_at s xs c)) (map (seen_hidden names hides) (items_at s ys c)))

pub held_at-append : (s : Sets) (files : List (List ℕ)) (xs ys : List base.Fault) (c : List ℕ) → held_at s files (xs ++ ys) c ≡ held_at s files xs c ++ held_at s files ys c
held_at-append s files xs ys c =
    ap (λ fs. map (moved_failure (seen_place files)) (map seen_failure fs)) (faults_at-append s xs ys c)
    ∙ (ap (map (moved_failure (seen_place files))) (map-append seen_failure (faults_at s xs c) (faults_at s ys c)) ∙ map-append (moved_failure (seen_place files)) (map seen_failure (faults_at s xs c)) (map seen_failure (faults_at s ys c)))

pub items_seen-append : (s : Sets) (names files : List (List ℕ)) (xs ys : List (Cond × Token)) (c : List ℕ) → map (seen names files) (items_at s (xs ++ ys) c) ≡ map (seen names files) (items_at s xs c) ++ map (seen names files) (items_at s ys c)
items_seen-append s names files xs ys c = ap (map (seen names files)) (items_at-append s xs ys c) ∙ map-append (seen names files) (items_at s xs c) (items_at s ys c)

-- ---- the stores grow

pub owns-runs : {old new : Sets} {runs : OpenRuns} → Keeps old new → OwnsRuns old runs → OwnsRuns new runs
owns-runs keeps o = record { gathered = λ k d h. keeps.own _ (o.gathered k d h); held = λ k d h. keeps.own _ (o.held k d h); pragmas = owns-pragmas keeps o.pragmas; read = λ k d h. keeps.own _ (o.read k d h) }

pub run-kept : {old new : Sets} {names files : List (List ℕ)} {runs : OpenRuns} {list : List (Cond × Token)} {c : List ℕ} {state : State} → Keeps old new → OwnsRuns old runs → All (λ (item : Cond × Token). IsCond old item.0.0) list
    → IsConfig old.arities c → RunAt old names files runs list c state → RunAt new names files runs list c state
run-kept {names = names} {files} {runs} {list} {c} keeps owns own listed at = record {
  run = left-as (ap (λ xs. map (seen names files) (last_run [] xs)) (items_at-Keeps runs.read c keeps owns.read listed)) at.run;
  awaited = at.awaited;
  awaits = awaits-kept keeps owns.pragmas listed at.awaits;
  text = text-as (ap (λ hs. map (moved (seen_place files)) (map (seen_hidden names runs.sets) hs)) (items_at-Keeps runs.gathered c keeps owns.gathered listed)) (ap (map (seen names files)) (items_at-Keeps list c keeps own listed))
      (ap (λ fs. map (moved_failure (seen_place files)) (map seen_failure fs)) (faults_at-Keeps runs.held.items c keeps owns.held listed)) at.text;
}

module _ {names more files more_files : List (List ℕ)} (grows : Extends names more) (files_grow : Extends files more_files) (runs : OpenRuns) {hides : List (List Name)} (hides_grow : Extends runs.sets hides) where
  abbrev IsKnown : base_hidden.Hidden → Type 0
  IsKnown h = IsHeldHidden names runs.sets h × (h.token.place.file.0 < length files)

  pub hidden-grown : (hs : List base_hidden.Hidden) → All IsKnown hs → map (moved (seen_place more_files)) (map (seen_hidden more hides) hs) ≡ map (moved (seen_place files)) (map (seen_hidden names runs.sets) hs)
  hidden-grown [] all = refl
  hidden-grown (h ∷ hs) all =
      let known = All-head IsKnown h hs all in
      let was = moved (seen_place files) (seen_hidden names runs.sets h) in
      let first : moved (seen_place more_files) (seen_hidden more hides h) ≡ was =
      ap (moved (seen_place more_files)) (hidden_later h known.0 grows hides_grow) ∙ ap (λ p. record was { place = p }) (place-later grows files_grow h.token.place known.1) in
      ap (λ x. x ∷ map (moved (seen_place more_files)) (map (seen_hidden more hides) hs)) first ∙ ap (λ xs. was ∷ xs) (hidden-grown hs (All-tail IsKnown h hs all))

  abbrev IsThere : base.Fault → Type 0
  IsThere f = f.place.file.0 < length files

  failures-grown : (fs : List base.Fault) → All IsThere fs → map (moved_failure (seen_place more_files)) (map seen_failure fs) ≡ map (moved_failure (seen_place files)) (map seen_failure fs)
  failures-grown [] all = refl
  failures-grown (f ∷ fs) all =
      let was = moved_failure (seen_place files) (seen_failure f) in
      ap (λ p. record was { place = p } ∷ map (moved_failure (seen_place more_files)) (map seen_failure fs)) (place-later grows files_grow f.place (All-head IsThere f fs all))
      ∙ ap (λ xs. was ∷ xs) (failures-grown fs (All-tail IsThere f fs all))

  seen-grown : (fs : List base.Fault) → All IsThere fs → map (seen_fault more_files) fs ≡ map (seen_fault files) fs
  seen-grown [] all = refl
  seen-grown (f ∷ fs) all =
      ap (λ (p : Place). record { cause = f.cause; place = p } ∷ map (seen_fault more_files) fs) (place-later grows files_grow f.place (All-head IsThere f fs all)) ∙ ap (λ xs. seen_fault files f ∷ xs) (seen-grown fs (All-tail IsThere f fs all))

  pub run-later : {s : Sets} {list : List (Cond × Token)} {c : List ℕ} {state : State} → HoldsRuns names (length files) runs → ArePlaced names (length files) list
      → RunAt s names files runs list c state → RunAt s more more_files (record runs { sets = hides }) list c state
  run-later {s} {list} {c} holds placed at = record {
    run = left-as (tokens-later grows files_grow (run_at s runs.read c) (run_at-All (IsPlaced names (length files)) s runs.read c holds.read)) at.run;
    awaited = at.awaited;
    awaits = record {
      inside = at.awaits.inside;
      opening = at.awaits.opening;
      text = at.awaits.text;
      closing = at.awaits.closing;
      faults = seen-grown (faults_at s runs.pragmas.faults.items c) (faults_at-All IsThere s runs.pragmas.faults.items c holds.pragmas) ∙ at.awaits.faults;
    };
    text = text-as (hidden-grown (items_at s runs.gathered c) (items_at-All IsKnown s runs.gathered c holds.gathered))
        (tokens-later grows files_grow (items_at s list c) (items_at-All (IsPlaced names (length files)) s list c placed))
        (failures-grown (faults_at s runs.held.items c) (faults_at-All IsThere s runs.held.items c holds.held)) at.text;
  }

  pub holds-later : HoldsRuns names (length files) runs → HoldsRuns more (length more_files) (record runs { sets = hides })
  holds-later holds = record {
    gathered = λ k d h. let known = holds.gathered k d h in (IsHeldHidden-Extends _ known.0 grows hides_grow, Extends-within _ known.1 files_grow);
    held = λ k d h. Extends-within _ (holds.held k d h) files_grow;
    pragmas = λ k d h. Extends-within _ (holds.pragmas k d h) files_grow;
    read = λ k d h. IsPlaced-later grows files_grow _ (holds.read k d h);
  }

-- ---- nothing was read

module _ {runs : OpenRuns} (gathered : runs.gathered ≡ []) (held : runs.held.items ≡ []) (read : runs.read ≡ []) where
  pub owns-none : (s : Sets) → HasNoPragma s runs.pragmas → OwnsRuns s runs
  owns-none s none = record {
    gathered = subst (All (λ (item : Cond × base_hidden.Hidden). IsCond s item.0.0)) (sym gathered) (All-nil (λ (item : Cond × base_hidden.Hidden). IsCond s item.0.0));
    held = subst (All (λ (f : base.Fault). IsCond s f.cond.0)) (sym held) (All-nil (λ (f : base.Fault). IsCond s f.cond.0));
    pragmas = none.owns;
    read = subst (All (λ (item : Cond × Option Token). IsCond s item.0.0)) (sym read) (All-nil (λ (item : Cond × Option Token). IsCond s item.0.0));
  }

  pub holds-none : {s : Sets} (names : List (List ℕ)) (files : ℕ) → HasNoPragma s runs.pragmas → HoldsRuns names files runs
  holds-none names files none =
      let H : Cond × base_hidden.Hidden → Type 0 = λ item. IsHeldHidden names runs.sets item.1 × (item.1.token.place.file.0 < files) in
      record {
        gathered = subst (All H) (sym gathered) (All-nil H);
        held = subst (All (λ (f : base.Fault). f.place.file.0 < files)) (sym held) (All-nil (λ (f : base.Fault). f.place.file.0 < files));
        pragmas = subst (All (λ (f : base.Fault). f.place.file.0 < files)) (sym none.faults) (All-nil (λ (f : base.Fault). f.place.file.0 < files));
        read = subst (λ (r : List (Cond × Option Token)). All (IsPlaced names files) (tokens_read r)) (sym read) (All-nil (IsPlaced names files));
      }

-- ---- text is read

-- a token that hides no name
abbrev pub bare : Hide → Token → base_hidden.Hidden
bare hide t = record { token = t; hide = hide }

module _ (hides : List (List Name)) (hide : Hide) (none : set_at hides hide.0 ≡ []) where
  bare-seen : (names files : List (List ℕ)) (ts : List Token) → map (moved (seen_place files)) (map (seen_hidden names hides) (map (bare hide) ts)) ≡ map unhidden (map (seen names files) ts)
  bare-seen names files [] = refl
  bare-seen names files (t ∷ ts) =
      ap (λ h. moved (seen_place files) h ∷ map (moved (seen_place files)) (map (seen_hidden names hides) (map (bare hide) ts))) (seen_hidden-begun names hides (bare hide t) none)
      ∙ ap (λ hs. unhidden (seen names files t) ∷ hs) (bare-seen names files ts)

  hidden-more : (s : Sets) (names files : List (List ℕ)) (gathered : List (Cond × base_hidden.Hidden)) (cond : Cond) (ts : List Token) (c : List ℕ) (b : Bool) → s.has cond.0 c ≡ b
      → hidden_at s names files hides (gathered ++ under cond (map (bare hide) ts)) c ≡ hidden_at s names files hides gathered c ++ map unhidden (map (seen names files) (if b then ts else []))
  hidden-more s names files gathered cond ts c b here =
      hidden_at-append s names files hides gathered (under cond (map (bare hide) ts)) c
      ∙ ap (λ hs. hidden_at s names files hides gathered c ++ hs)
      (ap (λ hs. map (moved (seen_place files)) (map (seen_hidden names hides) hs)) (items_at-under s cond (map (bare hide) ts) c ∙ ap (λ d. if d then map (bare hide) ts else []) here) ∙ by b)
    where
      by : (d : Bool) → map (moved (seen_place files)) (map (seen_hidden names hides) (if d then map (bare hide) ts else [])) ≡ map unhidden (map (seen names files) (if d then ts else []))
      by true = bare-seen names files ts
      by false = refl

-- the configurations that act have a line more
module _ (s : Sets) (names files : List (List ℕ)) (runs : OpenRuns) (hide : Hide) (none : set_at runs.sets hide.0 ≡ []) (list : List (Cond × Token)) (c : List ℕ) (state : State) (line : Line) (cond : Cond) (ts : List Token)
    (is : line.tokens ≡ map (seen names files) ts) where
  abbrev more : OpenRuns
  more = record runs { gathered = runs.gathered ++ under cond (map (bare hide) ts); read = runs.read ++ under cond (map Some ts) }

  abbrev gathered : List (Hidden Place)
  gathered = hidden_at s names files runs.sets runs.gathered c

  shown : (b : Bool) → s.has cond.0 c ≡ b → map (seen names files) (run_at s more.read c) ≡ map (seen names files) (run_at s runs.read c) ++ map (seen names files) (if b then ts else [])
  shown b here =
      ap (map (seen names files)) (run_at-more s runs.read cond ts c ∙ ap (λ d. run_at s runs.read c ++ (if d then ts else [])) here)
      ∙ map-append (seen names files) (run_at s runs.read c) (if b then ts else [])

  pub run-more : (b : Bool) → s.has cond.0 c ≡ b → RunAt s names files runs list c state → RunAt s names files more list c (if b then with_text state line else state)
  run-more true here at = record {
    run = left-as (shown true here ∙ ap (λ run. map (seen names files) (run_at s runs.read c) ++ run) (sym is)) (left-more line.tokens at.run);
    awaited = at.awaited;
    awaits = at.awaits;
    text = text-as (hidden-more runs.sets hide none s names files runs.gathered cond ts c true here ∙ ap (λ run. gathered ++ map unhidden run) (sym is)) refl refl (text-more state line gathered _ _ _ at.text);
  }
  run-more false here at = record {
    run = left-as (shown false here ∙ append-nil (map (seen names files) (run_at s runs.read c))) at.run;
    awaited = at.awaited;
    awaits = at.awaits;
    text = text-as (hidden-more runs.sets hide none s names files runs.gathered cond ts c false here ∙ append-nil gathered) refl refl at.text;
  }

-- ---- where the run is empty

module _ {s : Sets} {names files : List (List ℕ)} {runs : OpenRuns} {list : List (Cond × Token)} {c : List ℕ} where
  -- nothing was read
  pub run-empty : IsConfig s.arities c → (state : State) → HasNoPragma s runs.pragmas → runs.gathered ≡ [] → runs.held.items ≡ [] → runs.read ≡ [] → state.run ≡ [] → map (seen names files) (items_at s list c) ≡ state.output → RunAt s names files runs list c state
  run-empty listed state none gathered held read empty same = record {
    run = left-all (ap (λ r. map (seen names files) (run_at s r c)) read ∙ sym empty);
    awaited = no_operator;
    awaits = awaits-none files listed none;
    text = text-as (ap (λ g. hidden_at s names files runs.sets g c) gathered) refl (ap (λ fs. map (moved_failure (seen_place files)) (map seen_failure (faults_at s fs c))) held)
        (text-begins state [] (map (seen names files) (items_at s list c)) (ap (map unhidden) (sym empty)) same);
  }

  -- another state goes on there, with another list
  pub run-anew : {other : List (Cond × Token)} (state next : State) → state.run ≡ [] → next.run ≡ [] → map (seen names files) (items_at s other c) ≡ next.output → RunAt s names files runs list c state → RunAt s names files runs other c next
  run-anew {other} state next none empty same at =
      let nothing = text-empty state _ _ _ _ none at.text in
      record {
        run = left-all (left-none at.run none ∙ sym empty);
        awaited = no_operator;
        awaits = subst (AwaitsAt s files runs.pragmas c) nothing.3 at.awaits;
        text = text-as refl refl nothing.2 (text-begins next _ (map (seen names files) (items_at s other c)) (nothing.0 ∙ ap (map unhidden) (sym empty)) same);
      }

  -- the same items were put out
  pub run-listed : {other : List (Cond × Token)} {state : State} → map (seen names files) (items_at s other c) ≡ map (seen names files) (items_at s list c) → RunAt s names files runs list c state → RunAt s names files runs other c state
  run-listed same at = record { run = at.run; awaited = at.awaited; awaits = at.awaits; text = text-as refl same refl at.text }

  -- the macros may change then
  pub run-changed : (b : Bool) (state : State) (macros : Macros) → (b ≡ true → state.run ≡ []) → RunAt s names files runs list c state → RunAt s names files runs list c (if b then record state { macros = macros } else state)
  run-changed true state macros none at = run-anew state (record state { macros = macros }) (none refl) (none refl) (text-empty state _ _ _ _ (none refl) at.text).1 at
  run-changed false state macros none at = at
