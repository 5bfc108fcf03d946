-- Configurations in which a call is not closed, or a name stands alone.
use Rattle.std.proofs.Common.{◌≡◌, ◌<◌, ℕ, ◌&&◌, ◌||◌, not, Bool, true, false, List, [], ◌∷◌, ◌++◌, All, append-nil, drop, map, refl, sym, ap, subst, ◌∙◌, if◌then◌else◌, Vec, Global}
use Rattle.sc_expand.proofs.AlikeLemmas.{AreAlikeFaults-Keeps, IsAlike-Keeps, alike-of, IsAlikeIn-Keeps}
use Rattle.sc_expand.proofs.Facts.{All-drop, Denotes-Keeps, IsConfig-Keeps, IsConfig-kept, Keeps-trans, faults_at-Keeps, or-false, or_right, All-append, All-cons, All-nil}
use Rattle.sc_expand.proofs.MachineCalls.{calls_at-append}
use Rattle.sc_expand.proofs.SeenLemmas.{IsHeldExpansion-Grows, at-Grows, view_at-Grows}
use Rattle.sc_expand.proofs.TakingLemmas.{gone, stays-there}
use Rattle.sc_expand.proofs.Terms.{AreAlikeFaults, BeginsToWait, Cond, Denotes, Failure, Fault, IsCond, IsConfig, IsHeldRefusals, Keeps, LeavesOpen, Place, Refusals, Refuses, Sets, ends_at, failures_at, seen_failure, At, Call, Expansion, Grows, IsAlikeIn, IsHeldCall, IsHeldExpansion, IsHeldFrame, Name, Span, Stores, Waiting, at, calls_at, is_whole, waiting_at, with_call}
use Rattle.sc_expand.specs.Turn.{fails, waits, with_end}

-- those of the whole list wait
module _ {s0 s1 s2 : Sets} (first : Keeps s0 s1) (second : Keeps s1 s2) (still bare alone left : ℕ) (failure : Failure Place) (was now : Refusals) (live_own : IsCond s0 was.live.0) (bare_own : IsCond s0 bare)
    (meets : Denotes s1 left (λ c. s0.has still c || s0.has alone c)) (begins : BeginsToWait s1 s2 left was now) where
  keeps : Keeps s0 s2
  keeps = Keeps-trans first second

  left-is : (c : List ℕ) → IsConfig s0.arities c → s1.has left c ≡ (s0.has still c || s0.has alone c)
  left-is c listed = meets.at c (IsConfig-Keeps first listed)

  pub left-waits : LeavesOpen s0 s2 true still bare alone bare failure was now
  left-waits = record {
    live = record {
      own = begins.live.own;
      at = λ c listed.
          let was_listed = IsConfig-kept keeps listed in
          let there = first.at was.live.0 c live_own was_listed in
          let those = left-is c was_listed in
          begins.live.at c listed ∙ (λ i. there i && not (those i));
    };
    ends = λ c listed own waiting_own.
        let failures : failures_at s2 now.faults.items c ≡ failures_at s0 was.faults.items c =
        ap (λ v. failures_at s2 v.items c) begins.faults ∙ ap (map seen_failure) (faults_at-Keeps was.faults.items c keeps own listed) in
        let there = first.at was.waiting.0 c waiting_own listed in
        let those = left-is c listed in
        let waiting : s2.has now.waiting.0 c ≡ (s0.has was.waiting.0 c || (s0.has still c || s0.has alone c)) = begins.waiting.at c (IsConfig-Keeps keeps listed) ∙ (λ i. there i || those i) in
        (λ i. record { failures = failures i; waiting = waiting i }) ∙ by c (s0.has still c || s0.has alone c);
    uncalled_is = record { own = keeps.own _ bare_own; at = λ c listed. (let was_listed = IsConfig-kept keeps listed in keeps.at bare c bare_own was_listed ∙ sym (or-false (s0.has bare c))) };
    held = λ files within held. record {
      live = begins.live.own;
      waiting = begins.waiting.own;
      own = subst (λ v. All (λ (f : Fault). IsCond s2 f.cond.0) v.items) (sym begins.faults) (λ k d h. keeps.own _ (held.own k d h));
      placed = subst (λ v. All (λ (f : Fault). f.place.file.0 < files) v.items) (sym begins.faults) held.placed;
    };
    alike = λ c d others p q own waiting_own stills alones alike.
        let p1 = IsConfig-Keeps first p in
        let q1 = IsConfig-Keeps first q in
        let lives = IsAlike-Keeps first p q live_own alike.live in
        let waited = IsAlike-Keeps first p q waiting_own alike.waiting in
        let lefts : s1.has left c ≡ s1.has left d = left-is c p ∙ ((λ i. stills i || alones i) ∙ sym (left-is d q)) in
        record {
          live = alike-of begins.live (IsConfig-Keeps second p1) (IsConfig-Keeps second q1) (λ i. lives i && not (lefts i));
          waiting = alike-of begins.waiting (IsConfig-Keeps second p1) (IsConfig-Keeps second q1) (λ i. waited i || lefts i);
          faults = subst (λ v. AreAlikeFaults s2 c d (drop others v.items)) (sym begins.faults) (AreAlikeFaults-Keeps keeps p q (drop others was.faults.items) (All-drop (λ (f : Fault). IsCond s0 f.cond.0) others was.faults.items own) alike.faults);
        };
  }
    where
      by : (c : List ℕ) (b : Bool) → record { failures = failures_at s0 was.faults.items c; waiting = s0.has was.waiting.0 c || b } ≡ (if b then with_end (ends_at s0 was c) waits else ends_at s0 was c)
      by c true = λ i. record { failures = failures_at s0 was.faults.items c; waiting = or_right (s0.has was.waiting.0 c) true refl i }
      by c false = λ i. record { failures = failures_at s0 was.faults.items c; waiting = or-false (s0.has was.waiting.0 c) i }

-- those of an argument are refused, where a parenthesis opened the call
module _ {s0 s1 s2 : Sets} (first : Keeps s0 s1) (second : Keeps s1 s2) (still bare alone uncalled : ℕ) (failure : Failure Place) (was now : Refusals) (live_own : IsCond s0 was.live.0) (still_own : IsCond s0 still)
    (meets : Denotes s1 uncalled (λ c. s0.has bare c || s0.has alone c)) (refuses : Refuses s1 s2 still failure was now) where
  all : Keeps s0 s2
  all = Keeps-trans first second

  pub left-refused : LeavesOpen s0 s2 false still bare alone uncalled failure was now
  left-refused = record {
    live = record {
      own = refuses.live.own;
      at = λ c listed.
          let was_listed = IsConfig-kept all listed in
          let there = first.at was.live.0 c live_own was_listed in
          let those = first.at still c still_own was_listed ∙ sym (or-false (s0.has still c)) in
          refuses.live.at c listed ∙ (λ i. there i && not (those i));
    };
    ends = λ c listed own waiting_own.
        let listed1 = IsConfig-Keeps first listed in
        let before = ap (map seen_failure) (faults_at-Keeps was.faults.items c first own listed) in
        let has = first.at still c still_own listed in
        let failures : failures_at s2 now.faults.items c ≡ failures_at s0 was.faults.items c ++ (if s0.has still c then failure ∷ [] else []) =
        refuses.failures c listed1 (λ k d h. first.own _ (own k d h)) ∙ (λ i. before i ++ (if has i then failure ∷ [] else [])) in
        let waiting : s2.has now.waiting.0 c ≡ s0.has was.waiting.0 c = ap (λ (k : Cond). s2.has k.0 c) refuses.waiting ∙ all.at was.waiting.0 c waiting_own listed in
        (λ i. record { failures = failures i; waiting = waiting i }) ∙ (by c (s0.has still c) ∙ ap (λ b. if b then with_end (ends_at s0 was c) (fails failure) else ends_at s0 was c) (sym (or-false (s0.has still c))));
    uncalled_is = Denotes-Keeps second meets;
    held = λ files within held. refuses.held files within (IsHeldRefusals-Keeps first held);
    alike = λ c d others p q own waiting_own stills alones alike.
        let p1 = IsConfig-Keeps first p in
        let q1 = IsConfig-Keeps first q in
        refuses.alike c d others p1 q1 (λ k d h. first.own _ (own k d h)) (first.own _ waiting_own) (IsAlike-Keeps first p q still_own stills) (record {
          live = IsAlike-Keeps first p q live_own alike.live;
          waiting = IsAlike-Keeps first p q waiting_own alike.waiting;
          faults = AreAlikeFaults-Keeps first p q (drop others was.faults.items) (All-drop (λ (f : Fault). IsCond s0 f.cond.0) others was.faults.items own) alike.faults;
        });
  }
    where
      by : (c : List ℕ) (b : Bool) → record { failures = failures_at s0 was.faults.items c ++ (if b then failure ∷ [] else []); waiting = s0.has was.waiting.0 c } ≡ (if b then with_end (ends_at s0 was c) (fails failure) else ends_at s0 was c)
      by c true = refl
      by c false = λ i. record { failures = append-nil (failures_at s0 was.faults.items c) i; waiting = s0.has was.waiting.0 c }

      IsHeldRefusals-Keeps : {files : ℕ} → Keeps s0 s1 → IsHeldRefusals s0 files was → IsHeldRefusals s1 files was
      IsHeldRefusals-Keeps keeps held = record { live = keeps.own _ held.live; waiting = keeps.own _ held.waiting; own = λ k d h. keeps.own _ (held.own k d h); placed = held.placed }

-- ---- what a call that begins to wait, or is refused, changes at a configuration

module _ {old new : Stores} (grows : Grows old new) {files : ℕ} (e : Expansion) (held : IsHeldExpansion old files e) where
  -- ---- one call more

  module _ (call : Call) (calls : Vec Call Global) (is : calls.items ≡ e.top.calls.items ++ call ∷ []) where
    abbrev pub pushed : Expansion
    pushed = record e { top = record e.top { calls = calls } }

    abbrev more : Bool → List ℕ → List (Waiting Place)
    more b c = if b then waiting_at new call c ∷ [] else []

    pushed-calls : (c : List ℕ) (b : Bool) → new.sets.has call.cond.0 c ≡ b → calls_at new calls.items c ≡ calls_at new e.top.calls.items c ++ more b c
    pushed-calls c b has = ap (λ l. calls_at new l c) is ∙ (calls_at-append new c e.top.calls.items (call ∷ []) ∙ ap (λ b. calls_at new e.top.calls.items c ++ more b c) has)

    pub pushed-at : (c : List ℕ) (w : Waiting Place) → IsConfig old.sets.arities c → new.sets.has call.cond.0 c ≡ true → waiting_at new call c ≡ w
        → at new pushed c ≡ record (at old e c) { view = with_call (at old e c).view w }
    pushed-at c w listed has same =
        let put : At → At = λ a. record a { view = with_call a.view w } in
        let calls_are = pushed-calls c true has ∙ ap (λ w. calls_at new e.top.calls.items c ++ w ∷ []) same in
        (λ i. record (at new e c) { view = record (at new e c).view { calls = calls_are i } }) ∙ ap put (at-Grows grows c listed e held)

    pub pushed-other : (c : List ℕ) → IsConfig old.sets.arities c → new.sets.has call.cond.0 c ≡ false → at new pushed c ≡ at old e c
    pushed-other c listed lacks =
        let calls_are = pushed-calls c false lacks ∙ append-nil (calls_at new e.top.calls.items c) in
        (λ i. record (at new e c) { view = record (at new e c).view { calls = calls_are i } }) ∙ at-Grows grows c listed e held

    pub pushed-held : IsHeldCall new files call → IsHeldFrame new files (record e.top { calls = calls })
    pushed-held own =
        let later = (IsHeldExpansion-Grows grows e held).top in
        record {
          work = later.work;
          out = later.out;
          calls = subst (All (IsHeldCall new files)) (sym is) (All-append (IsHeldCall new files) e.top.calls.items (call ∷ []) later.calls (All-cons (IsHeldCall new files) call [] own (All-nil (IsHeldCall new files))));
        }

  -- ---- configurations that are refused

  module _ {r : Refusals} {cond : ℕ} {failure : Failure Place} (refuses : Refuses old.sets new.sets cond failure e.refusals r) where
    pub refused-live : (c : List ℕ) → IsConfig old.sets.arities c → old.sets.has cond c ≡ true → new.sets.has r.live.0 c ≡ false
    refused-live c listed has = refuses.live.at c (IsConfig-Keeps grows.sets listed) ∙ gone (old.sets.has e.refusals.live.0 c) (old.sets.has cond c) has

    pub refused-ends-if : (b : Bool) (c : List ℕ) → IsConfig old.sets.arities c → old.sets.has cond c ≡ b → ends_at new.sets r c ≡ (if b then with_end (at old e c).ends (fails failure) else (at old e c).ends)
    refused-ends-if b c listed has = by b (refuses.failures c listed held.refusals.own ∙ ap (λ b. failures_at old.sets e.refusals.faults.items c ++ (if b then failure ∷ [] else [])) has)
      where
        waiting : new.sets.has r.waiting.0 c ≡ old.sets.has e.refusals.waiting.0 c
        waiting = ap (λ (k : Cond). new.sets.has k.0 c) refuses.waiting ∙ grows.sets.at e.refusals.waiting.0 c held.refusals.waiting listed

        by : (b : Bool) → failures_at new.sets r.faults.items c ≡ failures_at old.sets e.refusals.faults.items c ++ (if b then failure ∷ [] else [])
            → ends_at new.sets r c ≡ (if b then with_end (at old e c).ends (fails failure) else (at old e c).ends)
        by true more = λ i. record { failures = more i; waiting = waiting i }
        by false none = let all = none ∙ append-nil (failures_at old.sets e.refusals.faults.items c) in λ i. record { failures = all i; waiting = waiting i }

    pub refused-ends : (c : List ℕ) → IsConfig old.sets.arities c → old.sets.has cond c ≡ true → ends_at new.sets r c ≡ with_end (at old e c).ends (fails failure)
    refused-ends c listed has = refused-ends-if true c listed has

    pub refused-other : (c : List ℕ) → IsConfig old.sets.arities c → old.sets.has cond c ≡ false → at new (record e { refusals = r }) c ≡ at old e c
    refused-other c listed lacks =
        let lives = refuses.live.at c (IsConfig-Keeps grows.sets listed) ∙ stays-there (old.sets.has e.refusals.live.0 c) (old.sets.has cond c) lacks in
        let view = view_at-Grows grows c listed e.top held.top in
        let none = refused-ends-if false c listed lacks in
        λ i. record { live = lives i; whole = is_whole e.below.items; view = view i; ends = none i }

    pub refused-held : {hides : List (List Name)} → failure.place.file.0 < files → IsHeldExpansion new files (record e { sets = hides; refusals = r })
    refused-held within =
        let later = IsHeldExpansion-Grows grows e held in
        record { refusals = refuses.held files within held.refusals; rest = later.rest; top = later.top; below = later.below }

    pub refused-alike : {hides : List (List Name)} (c d : List ℕ) (span : Span) → IsConfig old.sets.arities c → IsConfig old.sets.arities d → old.sets.has cond c ≡ old.sets.has cond d
        → IsAlikeIn old.sets c d span e → IsAlikeIn new.sets c d span (record e { sets = hides; refusals = r })
    refused-alike c d span p q same alike =
        let kept = IsAlikeIn-Keeps grows.sets p q span e held alike in
        record { refusals = refuses.alike c d span.faults p q held.refusals.own held.refusals.waiting same alike.refusals; work = kept.work; out = kept.out; calls = kept.calls }
