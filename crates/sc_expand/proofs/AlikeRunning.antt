-- Configurations that are alike stay so through the turns of an expansion, where what one of them
-- looks up is defined alike for both.
use Rattle.std.proofs.Common.{◌≡◌, ◌&&◌, ℕ, Bool, true, List, [], ◌∷◌, Some, drop, length, map, slice_get, inl, inr, refl, sym, ap, subst, ◌∙◌, if◌then◌else◌, false, ◌++◌, Result, Ok, Err}
use Rattle.c11_macros.specs.Expansion as expansion
use Rattle.sc_expand.proofs.AlikeTaking.{same-call}
use Rattle.sc_expand.proofs.AlikeLemmas.{All-at, AreAlike-Keeps, all-of, others-none}
use Rattle.sc_expand.proofs.Facts.{All-nil, IsConfig-Keeps, cons-some}
use Rattle.sc_expand.proofs.KeptLemmas.{rested-alike}
use Rattle.sc_expand.proofs.MachineLemmas.{pending_at, progress-step, stands-cases, state-top}
use Rattle.sc_expand.proofs.PlainCompletes.{Completes, ends, looked, refuses, resumes, scanned, Covers, covers-front, covers-same, covers-then}
use Rattle.sc_expand.proofs.PlainMoves.{move-back}
use Rattle.sc_expand.proofs.PlainTurns.{under, Pending}
use Rattle.sc_expand.proofs.Rests.{first-is}
use Rattle.sc_expand.proofs.RunLemmas.{IsRunning, rests-at, running-apart, running-stands, start-state, turned-at}
use Rattle.sc_expand.proofs.Terms.{AreAlike, At, CallNextAlike, Cond, DefineAlike, DefineNextAlike, Enclosing, Expansion, Grows, Hidden, IsAlike, IsAlikeExpansion, IsAlikeFrame, IsApart, IsConfig, IsHeldExpansion, IsRested, IsSameCall, IsTurned, IsUntouched, IsWithin, KeepsNext, Macros, Place, Progress, Provenance, Sets, Stands, State, Stores, bottom, bottom_by, calls_at, items_at, no_others, provenance_of, scanning, seen_at, seen_hidden, state_by, state_in, view_at, Agree, Expands, Failure, HiddenToken, Leads, Moves, Waiting, case_of, defined_case, expanding, is_looked_up, looked_up_at, looked_up_case, no_step, step, trace, trace_each, trace_rescan, waiting, with_expanded}
use Rattle.sc_expand.proofs.WaitingLemmas.{pushed-alike}
use Rattle.sc_expand.proofs.TakingTurns.{first-of-all}
use Rattle.sc_expand.specs.Plain as plain
use Rattle.sc_expand.specs.Running as running

-- the name of the first token is looked up, where it is one that is not hidden
pub head-taken : {P : Type 0} {provenance : Provenance P} {macros : Macros} {t : HiddenToken P} {rest : List (HiddenToken P)} {r : Result (List (HiddenToken P)) (Failure P)} (d : Expands provenance macros (t ∷ rest) r) → Covers (trace d).looked_up (looked_up_at t)
head-taken {t = t} (expansion.stay is d) = covers-front (looked_up_at t) (trace d).looked_up
head-taken {t = t} (expansion.object e is g) = covers-front (looked_up_at t) (trace_rescan g).looked_up
head-taken {t = t} (expansion.unterminated is) = covers-front (looked_up_at t) []
head-taken {t = t} (expansion.miscounted after is) = covers-front (looked_up_at t) []
head-taken {t = t} (expansion.call e arguments close after results is each g) =
    covers-then (covers-front (looked_up_at t ++ []) ((trace_each each).looked_up ++ (trace_rescan g).looked_up)) (covers-front (looked_up_at t) [])

module _ {P : Type 0} (provenance : Provenance P) (macros other : Macros) where
  -- the tables agree on all names that the state still looks up
  pub record AgreesFrom (s : State P) : Type 0 where
    pub agree : (r : Result (List (HiddenToken P)) (Failure P)) (c : Completes provenance macros s r) → Agree macros other (looked c)

  pub agrees-start : (source : List (HiddenToken P)) → ((r : Result (List (HiddenToken P)) (Failure P)) (d : Expands provenance macros source r) → Agree macros other (trace d).looked_up) → AgreesFrom (scanning [] source)
  agrees-start source agree = record { agree = λ q c. let s = scanned c in subst (Agree macros other) (sym s.named) (agree s.answer s.expands) }

  pub agrees-move : (s t : State P) → AgreesFrom s → Moves provenance macros s t → AgreesFrom t
  agrees-move s t agrees m = record { agree = λ r c. let e = move-back provenance macros s t m r c in e.covers.agree macros other (agrees.agree r e.completes) }

  module _ (names : List (List ℕ)) (within : IsWithin names macros) where
    pub agrees-inside : (out work : List (HiddenToken P)) (w : Waiting P) (n : ℕ) (s : State P) → AgreesFrom (expanding out work w n s) → AgreesFrom s
    agrees-inside out work w n s agrees = record { agree = by }
      where
        by : (r : Result (List (HiddenToken P)) (Failure P)) (c : Completes provenance macros s r) → Agree macros other (looked c)
        by (Ok list) c =
            let rest = ends provenance macros names within (waiting out work (with_expanded w n list)) in
            (covers-front (looked c) (looked rest.1)).agree macros other (agrees.agree rest.0 (resumes out work w n s list rest.0 c rest.1))
        by (Err failure) c = agrees.agree (Err failure) (refuses out work w n s failure c)

    pub agrees-under : (ps : List (Pending P)) (s : State P) → AgreesFrom (under ps s) → AgreesFrom s
    agrees-under [] s agrees = agrees
    agrees-under (p ∷ ps) s agrees = agrees-under ps s (agrees-inside p.out p.work p.call p.parameter (under ps s) agrees)

    agrees-head : (out rest : List (HiddenToken P)) (t : HiddenToken P) → AgreesFrom (scanning out (t ∷ rest)) → Agree macros other (looked_up_at t)
    agrees-head out rest t agrees =
        let e = ends provenance macros names within (scanning out (t ∷ rest)) in
        let s = scanned e.1 in
        (covers-then (covers-same s.named) (head-taken s.expands)).agree macros other (agrees.agree e.0 e.1)

    -- both define the name at the head alike
    pub agrees-name : (out rest : List (HiddenToken P)) (t : HiddenToken P) → AgreesFrom (scanning out (t ∷ rest)) → is_looked_up t ≡ true → macros t.spelling ≡ other t.spelling
    agrees-name out rest t agrees looks = (subst (λ b. Agree macros other (if b then t.spelling ∷ [] else [])) looks (agrees-head out rest t agrees)).0

    pub agrees-case : (out rest : List (HiddenToken P)) (t : HiddenToken P) → AgreesFrom (scanning out (t ∷ rest)) → case_of other t rest ≡ case_of macros t rest
    agrees-case out rest t agrees = by (is_looked_up t) (agrees-head out rest t agrees)
      where
        by : (b : Bool) → Agree macros other (if b then t.spelling ∷ [] else []) → looked_up_case other b t.spelling rest ≡ looked_up_case macros b t.spelling rest
        by true agree = ap (λ o. defined_case o rest) (sym agree.0)
        by false agree = refl

    -- ---- the same steps and failures

    pub move-agrees : (s t : State P) → Moves provenance macros s t → AgreesFrom s → Moves provenance other s t
    move-agrees _ _ (plain.stay out rest t is) agrees = plain.stay out rest t (agrees-case out rest t agrees ∙ is)
    move-agrees _ _ (plain.object out rest body t d is made) agrees = plain.object out rest body t d (agrees-case out rest t agrees ∙ is) made
    move-agrees _ _ (plain.gather out rest after t close d arguments template is stands) agrees = plain.gather out rest after t close d arguments template (agrees-case out rest t agrees ∙ is) stands
    move-agrees _ _ (plain.enter out work list w n others is) agrees = plain.enter out work list w n others is
    move-agrees _ _ (plain.leave out work list w n) agrees = plain.leave out work list w n
    move-agrees _ _ (plain.replace out work body w all made) agrees = plain.replace out work body w all made
    move-agrees _ _ (plain.inside out work w n {s} {t} m) agrees = plain.inside out work w n (move-agrees s t m (agrees-inside out work w n s agrees))

    pub leads-agrees : (s t : State P) → Leads provenance macros s t → AgreesFrom s → Leads provenance other s t
    leads-agrees s _ no_step agrees = no_step
    leads-agrees s t (step {t = next} m more) agrees = step (move-agrees s next m agrees) (leads-agrees next t more (agrees-move s next agrees m))

-- a configuration that has the first token has it before the others
pub seen-first : (st : Stores) (c : List ℕ) (work : List (Cond × Hidden)) (item : Cond × Hidden) → slice_get work 0 ≡ Some item → st.sets.has item.0.0 c ≡ true
    → seen_at st work c ≡ seen_hidden st.names st.hides item.1 ∷ seen_at st (drop 1 work) c
seen-first st c work item first has =
    ap (λ l. seen_at st l c) (first-is work item first)
    ∙ ap (λ b. map (seen_hidden st.names st.hides) (if b then item.1 ∷ items_at st.sets (drop 1 work) c else items_at st.sets (drop 1 work) c)) has

-- ---- where all is alike

whole-top : {s : Sets} {c d : List ℕ} (e : Expansion) → IsAlikeExpansion s c d no_others e → AreAlike s c d e.top.work
whole-top {s} {c} {d} e alike = all-of s c d e.top.work (subst (λ o. IsAlikeFrame s c d o e.top) (others-none (length e.below.items)) alike.top).work

-- all of the list below all others
bottom-alike : {s : Sets} {c d : List ℕ} (e : Expansion) → IsAlikeExpansion s c d no_others e → AreAlike s c d (bottom e).work
bottom-alike {s} {c} {d} e alike = by e.below.items refl
  where
    by : (bs : List Enclosing) → e.below.items ≡ bs → AreAlike s c d (bottom_by bs e.top).work
    by [] is = whole-top e alike
    by (b ∷ bs) is = all-of s c d b.frame.work (alike.below 0 b (ap (λ l. slice_get l 0) is)).frame.work

-- what a turn keeps of it
alike-kept : {old new : Stores} {files : ℕ} {e after : Expansion} {went : Bool} {c d : List ℕ} → Grows old new → KeepsNext old.sets new.sets e after went → IsHeldExpansion old files e
    → IsConfig old.sets.arities c → IsConfig old.sets.arities d → IsApart old.sets e c → IsApart old.sets e d → AreAlike old.sets c d e.top.work → IsAlike new.sets c d after.refusals.waiting → AreAlike old.sets c d e.rest
    → AreAlike new.sets c d after.rest
alike-kept {new = new} {e = e} {c = c} {d = d} grows (running.nothing_kept empty is) held p q apart other list both all =
    subst (AreAlike new.sets c d) (sym is) (AreAlike-Keeps grows.sets p q e.rest held.rest.own all)
alike-kept {old} {new} {e = e} {c = c} {d = d} grows (running.first_kept item cond whole none first put has) held p q apart other list both all =
    let same : IsAlike old.sets c d item.0 = All-at (λ (x : Cond × Hidden). IsAlike old.sets c d x.0) e.top.work 0 item first list in
    pushed-alike new.sets c d put (has c p apart ∙ ((λ i. same i && both i) ∙ sym (has d q other))) (AreAlike-Keeps grows.sets p q e.rest held.rest.own all)

-- the first tokens are called alike, or neither is
whole-call : {s : Sets} {names : List (List ℕ)} {c d : List ℕ} (e : Expansion) → IsAlikeExpansion s c d no_others e → IsSameCall s names c d e.top.work
whole-call e alike = same-call e.top.work (whole-top e alike)

-- ---- what is looked up next

module _ (provenance : Provenance Place) (macros other : Macros) where
  abbrev Agrees : State Place → Type 0
  Agrees = AgreesFrom provenance macros other

  -- what the next turn looks up
  agrees-next : (names : List (List ℕ)) → IsWithin names macros → (st : Stores) (c : List ℕ) (e : Expansion) → (st.sets.has e.refusals.live.0 c ≡ true → Stands st c e.below.items (view_at st e.top c))
      → (st.sets.has e.refusals.live.0 c ≡ true → Agrees (state_in st e.below.items (view_at st e.top c) c)) → DefineNextAlike st macros other c e
  agrees-next names within st c e stands agrees = record {
    same = λ item first none has live looks.
        let t = seen_hidden st.names st.hides item.1 in
        let out = seen_at st e.top.out c in
        let rest = seen_at st (drop 1 e.top.work) c in
        let work : seen_at st e.top.work c ≡ t ∷ rest = seen-first st c e.top.work item first has in
        let calls : calls_at st e.top.calls.items c ≡ [] = ap (λ l. calls_at st l c) none in
        elim (stands-cases st c (stands live)) [
          | inl top ↦
              let below = map (pending_at st c) e.below.items in
              let state : state_in st e.below.items (view_at st e.top c) c ≡ under below (scanning out (t ∷ rest)) = state-top st c (view_at st e.top c) top.0 ∙ ap (under below) (λ i. state_by out (work i) (calls i)) in
              agrees-name provenance macros other names within out rest t (agrees-under provenance macros other names within below (scanning out (t ∷ rest)) (subst Agrees state (agrees live))) looks
          | inr below ↦ absurd (cons-some t rest (sym work ∙ ap (λ v. v.work) below.1))
        ];
  }

  -- whatever a turn does
  agrees-progress : (old new : Stores) (c : List ℕ) (below later : List Enclosing) {a b : At} {takes : Bool} → Progress provenance macros old new c below later a b takes
      → (a.live ≡ true → Stands old c below a.view) → (a.live ≡ true → Agrees (state_in old below a.view c)) → b.live ≡ true → Agrees (state_in new later b.view c)
  agrees-progress old new c below later {a} {b} progress stands agrees live =
      let s = progress-step provenance macros old new c below later progress live stands in
      elim s.1.step [
        | inl m ↦ agrees-move provenance macros other (state_in old below a.view c) (state_in new later b.view c) (agrees s.0) m
        | inr same ↦ subst Agrees same (agrees s.0)
      ]

module _ (files : List (List ℕ)) (macros : List ℕ → Macros) where
  -- both have the same, and what the one still looks up is defined alike for both
  pub record AreAlikeNow (now : Stores) (e : Expansion) (c d : List ℕ) : Type 0 where
    pub alike : IsAlikeExpansion now.sets c d no_others e
    pub rest : AreAlike now.sets c d e.rest
    pub agrees : now.sets.has e.refusals.live.0 c ≡ true → AgreesFrom (provenance_of files) (macros c) (macros d) (state_in now e.below.items (view_at now e.top c) c)

  -- so it is where they began alike
  pub record StayAlike (old now : Stores) (was e : Expansion) : Type 0 where
    pub at : (c d : List ℕ) → IsConfig old.sets.arities c → IsConfig old.sets.arities d → DefineAlike (provenance_of files) (macros c) (macros d) (seen_at old was.top.work c) → IsAlikeExpansion old.sets c d no_others was
        → AreAlikeNow now e c d

  pub alike-start : (old : Stores) (was : Expansion) → IsHeldExpansion old (length files) was → IsUntouched old.sets was → StayAlike old old was was
  alike-start old was held fresh = record {
    at = λ c d p q defines alike. record {
      alike = alike;
      rest = subst (AreAlike old.sets c d) (sym fresh.rest) (All-nil (λ (x : Cond × Hidden). IsAlike old.sets c d x.0));
      agrees = λ live.
          subst (AgreesFrom (provenance_of files) (macros c) (macros d)) (sym (start-state files macros old was held fresh c))
          (agrees-start (provenance_of files) (macros c) (macros d) (seen_at old was.top.work c) defines.agree);
    };
  }

  module _ {old now : Stores} {was e : Expansion} (grows : Grows old now) (r : IsRunning files macros old now was e) (began : IsHeldExpansion old (length files) was) (stay : StayAlike old now was e) (new : Stores) (after : Expansion) where
    pub alike-rested : IsRested now new e after → StayAlike old new was after
    alike-rested rested = record {
      at = λ c d p q defines alike.
          let a = stay.at c d p q defines alike in
          record {
            alike = rested.alike (length files) c d no_others r.held (IsConfig-Keeps grows.sets p) (IsConfig-Keeps grows.sets q) a.alike;
            rest = rested-alike r.held rested (IsConfig-Keeps grows.sets p) (IsConfig-Keeps grows.sets q) (bottom-alike e a.alike) a.alike.refusals.waiting a.rest;
            agrees = agrees-progress (provenance_of files) (macros c) (macros d) now new c e.below.items after.below.items (rests-at grows r began new after rested c p) (running-stands grows r c p) a.agrees;
          };
    }

    pub alike-turned : (names : List (List ℕ)) → ((c : List ℕ) → IsWithin names (macros c)) → (other : List ℕ → Macros) (same : (c : List ℕ) → IsConfig old.sets.arities c → other c ≡ macros c) {went : Bool} → IsTurned files other now new e after went → StayAlike old new was after
    alike-turned names within other same turned = record {
      at = λ c d p q defines alike.
          let a = stay.at c d p q defines alike in
          let next = agrees-next (provenance_of files) (macros c) (macros d) names (within c) now c e (running-stands grows r c p) a.agrees in
          let defined = subst (λ m. DefineNextAlike now m (other d) c e) (sym (same c p)) (subst (λ m. DefineNextAlike now (macros c) m c e) (sym (same d q)) next) in
          let called : CallNextAlike now (other c) c d e = record { same = λ takes. whole-call e a.alike } in
          let p1 = IsConfig-Keeps grows.sets p in
          let q1 = IsConfig-Keeps grows.sets q in
          let later = turned.alike c d no_others p1 q1 defined called (first-of-all e) a.alike in
          record {
            alike = later;
            rest = alike-kept turned.grows turned.keeps r.held p1 q1 (running-apart grows r c p) (running-apart grows r d q) (whole-top e a.alike) later.refusals.waiting a.rest;
            agrees = agrees-progress (provenance_of files) (macros c) (macros d) now new c e.below.items after.below.items (turned-at grows r began new after other same turned c p) (running-stands grows r c p) a.agrees;
          };
    }
