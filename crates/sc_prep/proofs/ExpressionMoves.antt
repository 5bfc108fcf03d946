-- The stages of an expression under all configurations at once, seen at each.
use Rattle.std.proofs.Common.{◌≡◌, ℕ, ◌&&◌, Bool, true, false, List, [], All, map, length, Some, None, Result, Ok, Err, refl, sym, ap, subst, ◌∙◌, is_none}
use Rattle.c11_expressions.specs.Lines.{Comes, failure, without_defined}
use Rattle.sc_base.specs.declared.place.Place as base_place
use Rattle.sc_base.specs.declared.token.Token as base_token
use Rattle.sc_if.specs.Decided as decided
use Rattle.sc_if.specs.Replaced as replaced
use Rattle.sc_if.specs.declared.deciding.Decided.{Decided}
use Rattle.sc_model.specs.Token.{Token}
use Rattle.sc_prep.proofs.ExpressionSteps.{at_place, decided-alternative, decided-by, decided-opening, faults-seen, moved-seen, without-moved}
use Rattle.sc_prep.proofs.Facts.{IsConfig-Keeps, IsTable-Keeps, items_at-Keeps, macros_at-Keeps}
use Rattle.sc_prep.proofs.Machine.{right-none}
use Rattle.sc_prep.proofs.StageRefusals.{FaultsAt, no-fault, one-fault}
use Rattle.sc_prep.proofs.Terms.{Alternative, C11, Cause, Cond, Context, DecidesAt, Denotes, EvaluatesAt, Expanded, ExpandsAt, Expression, Failure, Fault, Hidden, IsCond, IsConfig, IsEmpty, IsExpanded, IsHeldAnswer, IsTable, Keeps, Line, Machine, Opening, Owns, ReplacesAt, Sets, Simulates, SimulatesOneOf, SimulatesStep, Standard, Stands, Test, TextExpands, Walk, acts, behind_name, conditional_of, deciding_idle, evaluating_done, evaluating_fails, evaluating_idle, expanding_done, expanding_fails, expanding_idle, fault_of, faults_at, hash_of, items_at, macros_at, next_branch, opened, replacing_done, replacing_fails, replacing_idle, result_map, seen, seen_fault, seen_place, test_of, unhidden}
use Rattle.sc_prep.proofs.WalkMoves.{owns-kept, simulates-kept}
use Rattle.sc_prep.specs.Machine as machine

pub and-twice : (a b : Bool) → ((a && b) && b) ≡ (a && b)
and-twice true true = refl
and-twice true false = refl
and-twice false b = refl

-- ---- of the configurations among which a stage asks, those that were not refused

module _ {old s : Sets} (keeps : Keeps old s) (w : Walk) (among live : Cond) (live_is : Denotes s live.0 (λ c. old.has among.0 c && old.has w.prepared.live.0 c)) where
  pub asked-at : {names files : List (List ℕ)} (c : List ℕ) (m : Machine) → IsConfig old.arities c → Simulates old names files w c m → s.has live.0 c ≡ (old.has among.0 c && is_none m.fault)
  asked-at c m listed simulates = live_is.at c (IsConfig-Keeps keeps listed) ∙ ap (λ b. old.has among.0 c && b) simulates.prepared.live

  module _ {names : List (List ℕ)} (is : IsTable old names w.table) where
    macros-now : {files : List (List ℕ)} (c : List ℕ) (m : Machine) → IsConfig old.arities c → Simulates old names files w c m → m.fault ≡ None → macros_at s names w.table c ≡ m.state.macros
    macros-now c m listed simulates clean = λ i. λ name. (macros_at-Keeps keeps is c name listed ∙ simulates.macros clean name) i

    -- ---- a text is expanded

    module _ {files more : List (List ℕ)} {mid new : Sets} (k2 : Keeps s mid) (k3 : Keeps mid new) (list : List (Cond × base_token.Token)) (own_list : All (λ (item : Cond × base_token.Token). IsCond old item.0.0) list)
        (e : Expanded) (answer : IsHeldAnswer mid more (length files) e)
        (expands : (c : List ℕ) → IsConfig s.arities c → s.has live.0 c ≡ true → IsExpanded mid more files e (macros_at s names w.table c) (map (seen names files) (items_at s list c)) c)
        (others : (c : List ℕ) → IsConfig s.arities c → s.has live.0 c ≡ false → IsEmpty mid e c) where
      pub expands-at : (c : List ℕ) (m : Machine) → IsConfig old.arities c → Simulates old names files w c m
          → FaultsAt mid files e.faults.items c m (ExpandsAt (map (seen names files) (items_at old list c)) (old.has among.0 c && is_none m.fault) m (map (seen more files) (items_at new e.list c)))
      expands-at c m listed simulates = by (old.has among.0 c && is_none m.fault) refl
        where
          now : IsConfig s.arities c
          now = IsConfig-Keeps keeps listed

          text : List Token
          text = map (seen names files) (items_at old list c)

          kept_items : map (seen more files) (items_at new e.list c) ≡ map (seen more files) (items_at mid e.list c)
          kept_items = ap (map (seen more files)) (items_at-Keeps e.list c k3 answer.own (IsConfig-Keeps k2 now))

          turned : {r : Result (List Token) Fault} → m.fault ≡ None → TextExpands (macros_at s names w.table c) (map (seen names files) (items_at s list c)) r → TextExpands m.state.macros (map (seen names files) (items_at old list c)) r
          turned {r} clean x =
              subst (λ macros. TextExpands macros (map (seen names files) (items_at old list c)) r) (macros-now c m listed simulates clean)
              (subst (λ items. TextExpands (macros_at s names w.table c) (map (seen names files) items) r) (items_at-Keeps list c keeps own_list listed) x)

          told : (b : Bool) → (old.has among.0 c && is_none m.fault) ≡ b → b ≡ true → (r : Result (List Token) Fault)
              → TextExpands (macros_at s names w.table c) (map (seen names files) (items_at s list c)) r → Stands r (map (seen more files) (items_at mid e.list c)) (map (seen_fault files) (faults_at mid e.faults.items c))
              → FaultsAt mid files e.faults.items c m (ExpandsAt (map (seen names files) (items_at old list c)) b m (map (seen more files) (items_at new e.list c)))
          told b same asked (Ok tokens) x stands = no-fault stands.1
              (expanding_done asked (subst (λ ts. TextExpands m.state.macros (map (seen names files) (items_at old list c)) (Ok ts)) (sym (kept_items ∙ stands.0)) (turned (right-none (old.has among.0 c) m.fault (same ∙ asked)) x)))
          told b same asked (Err fault) x stands = one-fault fault stands (right-none (old.has among.0 c) m.fault (same ∙ asked))
              (expanding_fails fault asked (turned (right-none (old.has among.0 c) m.fault (same ∙ asked)) x))

          by : (b : Bool) → (old.has among.0 c && is_none m.fault) ≡ b
              → FaultsAt mid files e.faults.items c m (ExpandsAt (map (seen names files) (items_at old list c)) (old.has among.0 c && is_none m.fault) m (map (seen more files) (items_at new e.list c)))
          by true same =
              let x = expands c now (asked-at c m listed simulates ∙ same) in
              told (old.has among.0 c && is_none m.fault) refl same x.answer x.expands x.stands
          by false same =
              let nothing = others c now (asked-at c m listed simulates ∙ same) in
              no-fault (ap (map (seen_fault files)) nothing.faults)
              (expanding_idle same (kept_items ∙ ap (map (seen more files)) nothing.list))

    -- ---- each `defined` is replaced

    module _ (files more : List (List ℕ)) {mid new : Sets} (k2 : Keeps s mid) (k3 : Keeps mid new) (text : List base_token.Token) (hash : base_place.Place)
        (e : Expanded) (own_items : All (λ (item : Cond × base_token.Token). IsCond mid item.0.0) e.list)
        (replaces : (c : List ℕ) → IsConfig s.arities c → s.has live.0 c ≡ true → replaced.Stands hash (without_defined (macros_at s names w.table c) (map (replaced.unhidden names) text))
        (map (replaced.unhidden more) (items_at mid e.list c)) (map replaced.seen_failure (faults_at mid e.faults.items c)))
        (others : (c : List ℕ) → IsConfig s.arities c → s.has live.0 c ≡ false → (items_at mid e.list c ≡ []) × (faults_at mid e.faults.items c ≡ [])) where
      pub replaces-at : (c : List ℕ) (m : Machine) → IsConfig old.arities c → Simulates old names files w c m
          → FaultsAt mid files e.faults.items c m (ReplacesAt (map (seen names files) text) (seen_place files hash) (old.has among.0 c && is_none m.fault) m (map (seen more files) (items_at new e.list c)))
      replaces-at c m listed simulates = by (old.has among.0 c && is_none m.fault) refl
        where
          now : IsConfig s.arities c
          now = IsConfig-Keeps keeps listed

          kept_items : map (seen more files) (items_at new e.list c) ≡ map (seen more files) (items_at mid e.list c)
          kept_items = ap (map (seen more files)) (items_at-Keeps e.list c k3 own_items (IsConfig-Keeps k2 now))

          turned : m.fault ≡ None → (r : Result (List (Hidden base_place.Place)) Cause) → without_defined (macros_at s names w.table c) (map (replaced.unhidden names) text) ≡ r
              → without_defined m.state.macros (map unhidden (map (seen names files) text)) ≡ result_map (map (at_place (seen_place files))) r
          turned clean r is =
              ap (λ macros. without_defined macros (map unhidden (map (seen names files) text))) (sym (macros-now c m listed simulates clean))
              ∙ (ap (without_defined (macros_at s names w.table c)) (sym (moved-seen names files text))
              ∙ (without-moved (seen_place files) (macros_at s names w.table c) (map (replaced.unhidden names) text) ∙ ap (result_map (map (at_place (seen_place files)))) is))

          told : (old.has among.0 c && is_none m.fault) ≡ true → (r : Result (List (Hidden base_place.Place)) Cause) → without_defined (macros_at s names w.table c) (map (replaced.unhidden names) text) ≡ r
              → replaced.Stands hash r (map (replaced.unhidden more) (items_at mid e.list c)) (map replaced.seen_failure (faults_at mid e.faults.items c))
              → FaultsAt mid files e.faults.items c m (ReplacesAt (map (seen names files) text) (seen_place files hash) (old.has among.0 c && is_none m.fault) m (map (seen more files) (items_at new e.list c)))
          told asked (Ok tokens) is stands = no-fault (faults-seen files (faults_at mid e.faults.items c) ∙ ap (map _) stands.1)
              (replacing_done asked (turned (right-none (old.has among.0 c) m.fault asked) (Ok tokens) is
              ∙ ap Ok (ap (map (at_place (seen_place files))) (sym stands.0) ∙ (moved-seen more files (items_at mid e.list c) ∙ ap (map unhidden) (sym kept_items)))))
          told asked (Err cause) is stands = one-fault (fault_of (failure cause (seen_place files hash))) (faults-seen files (faults_at mid e.faults.items c) ∙ ap (map _) stands.1) (right-none (old.has among.0 c) m.fault asked)
              (replacing_fails cause asked (turned (right-none (old.has among.0 c) m.fault asked) (Err cause) is))

          by : (b : Bool) → (old.has among.0 c && is_none m.fault) ≡ b
              → FaultsAt mid files e.faults.items c m (ReplacesAt (map (seen names files) text) (seen_place files hash) (old.has among.0 c && is_none m.fault) m (map (seen more files) (items_at new e.list c)))
          by true same =
              told same (without_defined (macros_at s names w.table c) (map (replaced.unhidden names) text)) refl (replaces c now (asked-at c m listed simulates ∙ same))
          by false same =
              let nothing = others c now (asked-at c m listed simulates ∙ same) in
              no-fault (ap (map (seen_fault files)) nothing.1)
              (replacing_idle same (kept_items ∙ ap (map (seen more files)) nothing.0))

  -- ---- what is left is evaluated

  module _ {standard : Standard} {names files : List (List ℕ)} {mid new : Sets} (k2 : Keeps s mid) (k3 : Keeps mid new) (list : List (Cond × base_token.Token)) (own_list : All (λ (item : Cond × base_token.Token). IsCond old item.0.0) list)
      (hash : base_place.Place) (d : Decided) (own_taken : IsCond mid d.taken.0)
      (decides : (c : List ℕ) → IsConfig s.arities c → s.has live.0 c ≡ true → decided.IsDecided standard s mid names files list hash d c)
      (others : (c : List ℕ) → IsConfig s.arities c → s.has live.0 c ≡ false → (mid.has d.taken.0 c ≡ false) × (faults_at mid d.faults.items c ≡ [])) where
    pub evaluates-at : (c : List ℕ) (m : Machine) → IsConfig old.arities c → Simulates old names files w c m
        → FaultsAt mid files d.faults.items c m (EvaluatesAt standard (seen_place files hash) (map (seen names files) (items_at old list c)) (old.has among.0 c && is_none m.fault) m (new.has d.taken.0 c))
    evaluates-at c m listed simulates = by (old.has among.0 c && is_none m.fault) refl
      where
        now : IsConfig s.arities c
        now = IsConfig-Keeps keeps listed

        kept_taken : new.has d.taken.0 c ≡ mid.has d.taken.0 c
        kept_taken = k3.at d.taken.0 c own_taken (IsConfig-Keeps k2 now)

        told : (old.has among.0 c && is_none m.fault) ≡ true → (r : Result Bool (Failure _)) → Comes standard (seen_place files hash) (Ok (decided.line_of names files (items_at s list c))) r
            → decided.Stands r (mid.has d.taken.0 c) (map (seen_fault files) (faults_at mid d.faults.items c))
            → FaultsAt mid files d.faults.items c m (EvaluatesAt standard (seen_place files hash) (map (seen names files) (items_at old list c)) (old.has among.0 c && is_none m.fault) m (new.has d.taken.0 c))
        told asked (Ok is_taken) comes stands = no-fault stands.1
            (evaluating_done asked
            (subst (λ b. Comes standard (seen_place files hash) (Ok (map unhidden (map (seen names files) (items_at old list c)))) (Ok b)) (sym (kept_taken ∙ stands.0))
            (subst (λ items. Comes standard (seen_place files hash) (Ok (map unhidden (map (seen names files) items))) (Ok is_taken)) (items_at-Keeps list c keeps own_list listed) comes)))
        told asked (Err why) comes stands = one-fault (fault_of why) stands.1 (right-none (old.has among.0 c) m.fault asked)
            (evaluating_fails why asked (kept_taken ∙ stands.0)
            (subst (λ items. Comes standard (seen_place files hash) (Ok (map unhidden (map (seen names files) items))) (Err why)) (items_at-Keeps list c keeps own_list listed) comes))

        by : (b : Bool) → (old.has among.0 c && is_none m.fault) ≡ b
            → FaultsAt mid files d.faults.items c m (EvaluatesAt standard (seen_place files hash) (map (seen names files) (items_at old list c)) (old.has among.0 c && is_none m.fault) m (new.has d.taken.0 c))
        by true same =
            let x = decides c now (asked-at c m listed simulates ∙ same) in
            told same x.answer x.comes x.stands
        by false same =
            let nothing = others c now (asked-at c m listed simulates ∙ same) in
            no-fault (ap (map (seen_fault files)) nothing.1)
            (evaluating_idle same (kept_taken ∙ nothing.0))

-- ---- the stages, one after another

module _ (files names : List (List ℕ)) {old s : Sets} (keeps : Keeps old s) (w : Walk) (owns : Owns old w) (is : IsTable old names w.table) (among live : Cond)
    (live_is : Denotes s live.0 (λ c. old.has among.0 c && old.has w.prepared.live.0 c)) (x : Context) (l : Line) where
  -- where no configuration is asked
  pub decides-none : (never : Cond) → ((c : List ℕ) → IsConfig old.arities c → s.has live.0 c ≡ false) → ((c : List ℕ) → IsConfig old.arities c → s.has never.0 c ≡ false)
      → SimulatesOneOf files names old w names s w (λ c m n. DecidesAt x l (old.has among.0 c && is_none m.fault) m (s.has never.0 c) n)
  decides-none never none nothing = record {
    owns = owns-kept keeps w owns;
    table = IsTable-Keeps keeps is;
    at = λ c m listed simulates. record {
      machine = m;
      done = deciding_idle (sym (asked-at keeps w among live live_is c m listed simulates) ∙ none c listed) (nothing c listed);
      simulates = simulates-kept keeps w owns names files c m listed is simulates;
    };
  }

  module _ {names1 names2 : List (List ℕ)} {s1 s2 s3 : Sets} {w1 w2 w3 : Walk} (k1 : Keeps s s1) (k2 : Keeps s1 s2) (k3 : Keeps s2 s3) (own : IsCond s live.0)
      (hash : Token) (asks : test_of l ≡ Some Expression) (hashed : hash_of l ≡ Some hash)
      (ts us : List ℕ → List Token) (is_taken : List ℕ → Bool)
      (replaces : SimulatesOneOf files names s w names1 s1 w1 (λ c m n. ReplacesAt (behind_name l) hash.place (s.has live.0 c && is_none m.fault) m (ts c) n))
      (expands : SimulatesOneOf files names1 s1 w1 names2 s2 w2 (λ c m n. ExpandsAt (ts c) (s1.has live.0 c && is_none m.fault) m (us c) n))
      (evaluates : SimulatesOneOf files names2 s2 w2 names2 s3 w3 (λ c m n. EvaluatesAt l.standard hash.place (us c) (s2.has live.0 c && is_none m.fault) m (is_taken c) n)) where
    pub decides-by : SimulatesOneOf files names old w names2 s3 w3 (λ c m n. DecidesAt x l (old.has among.0 c && is_none m.fault) m (is_taken c) n)
    decides-by = record {
      owns = evaluates.owns;
      table = evaluates.table;
      at = λ c m listed simulates.
          let now = IsConfig-Keeps keeps listed in
          let now1 = IsConfig-Keeps k1 now in
          let now2 = IsConfig-Keeps k2 now1 in
          let same1 : s1.has live.0 c ≡ s.has live.0 c = k1.at live.0 c own now in
          let same2 : s2.has live.0 c ≡ s.has live.0 c = k2.at live.0 c (k1.own live.0 own) now1 ∙ same1 in
          let asked = asked-at keeps w among live live_is c m listed simulates in
          let a = replaces.at c m now (simulates-kept keeps w owns names files c m listed is simulates) in
          let b = expands.at c a.machine now1 a.simulates in
          let d = evaluates.at c b.machine now2 b.simulates in
          record {
            machine = d.machine;
            done = subst (λ L. DecidesAt x l L m (is_taken c) d.machine) asked
                (decided-by x l hash asks hashed (s.has live.0 c) (ts c) (us c) (λ e. right-none (old.has among.0 c) m.fault (sym asked ∙ e)) a.done
                (subst (λ L. ExpandsAt (ts c) (L && is_none a.machine.fault) a.machine (us c) b.machine) same1 b.done)
                (subst (λ L. EvaluatesAt l.standard hash.place (us c) (L && is_none b.machine.fault) b.machine (is_taken c) d.machine) same2 d.done));
            simulates = d.simulates;
          };
    }

-- ---- a section begins by what was decided, or goes on

-- a context, where what is to be shown names none
abbrev pub empty_context : Context
empty_context = record { files = λ _. None; include = []; include_depth = 0; standard = C11 }

pub section-opened : {names more : List (List ℕ)} {old mid new : Sets} {w v next : Walk} (files : List (List ℕ)) (x : Context) (l : Line) {test : Test} → conditional_of l ≡ Some (Opening test) → Keeps old mid → (taken : Cond)
    → SimulatesOneOf files names old w more mid v (λ c m n. DecidesAt x l (old.has w.acting.0 c && is_none m.fault) m (mid.has taken.0 c) n)
    → SimulatesStep more mid v new next (λ _ c m. opened m (mid.has taken.0 c))
    → SimulatesOneOf files names old w more new next (λ c m n. machine.Decided x m l n)
section-opened {mid = mid} files x l named keeps taken decides opens = record {
  owns = opens.owns;
  table = opens.table decides.table;
  at = λ c m listed simulates.
      let a = decides.at c m listed simulates in
      record {
        machine = opened a.machine (mid.has taken.0 c);
        done = decided-opening x l named (ap (λ b. b && is_none m.fault) simulates.acting ∙ and-twice m.active (is_none m.fault)) a.done;
        simulates = opens.at files c a.machine (IsConfig-Keeps keeps listed) decides.table a.simulates;
      };
}

pub section-goes_on : {names more : List (List ℕ)} {old mid new : Sets} {w v next : Walk} (files : List (List ℕ)) (x : Context) (l : Line) {test : Test} → conditional_of l ≡ Some (Alternative test) → Keeps old mid → (among taken : Cond)
    → ((c : List ℕ) (m : Machine) → Simulates old names files w c m → (old.has among.0 c && is_none m.fault) ≡ acts (next_branch m true m.sections))
    → SimulatesOneOf files names old w more mid v (λ c m n. DecidesAt x l (old.has among.0 c && is_none m.fault) m (mid.has taken.0 c) n)
    → SimulatesStep more mid v new next (λ _ c m. next_branch m (mid.has taken.0 c) m.sections)
    → SimulatesOneOf files names old w more new next (λ c m n. machine.Decided x m l n)
section-goes_on {mid = mid} files x l named keeps among taken asked decides goes_on = record {
  owns = goes_on.owns;
  table = goes_on.table decides.table;
  at = λ c m listed simulates.
      let a = decides.at c m listed simulates in
      record {
        machine = next_branch a.machine (mid.has taken.0 c) a.machine.sections;
        done = decided-alternative x l named (asked c m simulates) a.done;
        simulates = goes_on.at files c a.machine (IsConfig-Keeps keeps listed) decides.table a.simulates;
      };
}
