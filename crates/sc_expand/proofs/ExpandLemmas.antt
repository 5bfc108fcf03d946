-- A list as it is given, and what the loop leaves of it, as what it expands to at each
-- configuration.
use Rattle.std.proofs.Common.{◌≡◌, ℕ, ◌<◌, ◌++◌, ◌&&◌, not, Bool, true, false, true≢false, List, [], ◌∷◌, All, length, map, take, Ok, Err, refl, sym, ap, subst, ◌∙◌, if◌then◌else◌, drop, slice_get, Some}
use Rattle.sc_expand.proofs.AlikeLemmas.{AreAlike-Keeps, AreAlikeFaults-Keeps, all-back, of-all, others-none}
use Rattle.sc_expand.proofs.Ending.{bared, items-bared}
use Rattle.sc_expand.proofs.Facts.{All-append, All-head, All-tail, IsConfig-Keeps, faults_at-Keeps, faults_at-append, items_at-Keeps, items_at-append, map-append, All-nil, All-map}
use Rattle.sc_expand.proofs.WaitingLemmas.{some-Keeps}
use Rattle.sc_expand.proofs.SeenLemmas.{AreHeld-nil}
use Rattle.sc_expand.proofs.SettledEnds.{held-closed, settles-closed}
use Rattle.sc_expand.proofs.TakingParts.{none-found}
use Rattle.sc_expand.proofs.Terms.{AreAlike, AreAlikeFaults, AreHeld, Cond, DefineAlike, DefineTextAlike, Expanded, Expands, Fault, Hidden, IsAlike, IsClosed, IsCond, IsConfig, IsDone, IsEmpty, IsExpanded, IsHeld, IsHeldAnswer, IsHeldHidden, IsHeldSettled, IsHeldToken, IsNever, IsSettled, Keeps, Macros, Name, Sets, Settled, Token, after_these, failures_at, faults_at, is_several, items_at, provenance_of, seen, seen_at, seen_failure, seen_hidden, set_at, stores, unclosed_at, Expansion, Becomes, Enclosing, IsAlikeCall, IsAlikeExpansion, IsAlikeFrame, IsHeldCall, IsHeldEnclosing, IsHeldExpansion, IsUntouched, PutsOut, Stores, no_others, others_at}
use Rattle.sc_expand.proofs.TextLemmas.{begun, expanded-fault, expanded-list, seen_hidden-begun, text-defines}
use Rattle.sc_expand.specs.Open.{closed}
use Rattle.sc_expand.specs.Running as running

-- ---- before the first turn

held-both : (names : List (List ℕ)) (s : Sets) (hides : List (List Name)) (files : ℕ) (xs : List (Cond × Hidden)) → All (λ (x : Cond × Hidden). IsHeldHidden names hides x.1) xs
    → All (λ (x : Cond × Hidden). x.1.token.place.file.0 < files) xs → All (λ (x : Cond × Hidden). IsHeldToken (stores s names hides) files x.1) xs
held-both names s hides files xs held placed = λ k d h. record { held = held k d h; file = placed k d h }

-- a list of such tokens, as it is given to be settled
pub hidden-held : (s : Sets) (names : List (List ℕ)) (hides : List (List Name)) (files : ℕ) (work : List (Cond × Hidden)) (list : List (Cond × Token)) → map bared work ≡ list → All (λ (x : Cond × Hidden). IsHeldHidden names hides x.1) work
    → All (λ (x : Cond × Token). IsCond s x.0.0) list → All (λ (x : Cond × Token). x.1.place.file.0 < files) list → AreHeld (stores s names hides) files work
hidden-held s names hides files work list tokens held own placed = record {
  own = all-back (λ (x : Cond × Token). IsCond s x.0.0) bared work (subst (All (λ (x : Cond × Token). IsCond s x.0.0)) (sym tokens) own);
  held = held-both names s hides files work held (all-back (λ (x : Cond × Token). x.1.place.file.0 < files) bared work (subst (All (λ (x : Cond × Token). x.1.place.file.0 < files)) (sym tokens) placed));
}

source-is : (s : Sets) (names : List (List ℕ)) (hides : List (List Name)) (c : List ℕ) (xs : List (Cond × Hidden)) → All (λ (x : Cond × Hidden). set_at hides x.1.hide.0 ≡ []) xs
    → seen_at (stores s names hides) xs c ≡ map (begun names) (items_at s (map bared xs) c)
source-is s names hides c [] none = refl
source-is s names hides c (x ∷ xs) none =
    by (s.has x.0.0 c) (source-is s names hides c xs (All-tail (λ (x : Cond × Hidden). set_at hides x.1.hide.0 ≡ []) x xs none)) (seen_hidden-begun names hides x.1 (All-head (λ (x : Cond × Hidden). set_at hides x.1.hide.0 ≡ []) x xs none))
  where
    by : (b : Bool) → map (seen_hidden names hides) (items_at s xs c) ≡ map (begun names) (items_at s (map bared xs) c) → seen_hidden names hides x.1 ≡ begun names x.1.token
        → map (seen_hidden names hides) (if b then x.1 ∷ items_at s xs c else items_at s xs c) ≡ map (begun names) (if b then x.1.token ∷ items_at s (map bared xs) c else items_at s (map bared xs) c)
    by true same first = ap (λ t. t ∷ map (seen_hidden names hides) (items_at s xs c)) first ∙ ap (λ l. begun names x.1.token ∷ l) same
    by false same first = same

-- ---- after the last turn

-- a list with nothing or a name alone stays, and a longer one is a call that is not closed
closed-few : (names : List (List ℕ)) (hides : List (List Name)) (r : List Hidden) → is_several r ≡ false → closed (map (seen_hidden names hides) r) ≡ Ok (map (seen_hidden names hides) r)
closed-few names hides [] is = refl
closed-few names hides (x ∷ []) is = refl
closed-few names hides (x ∷ (y ∷ ys)) is = absurd (cc)

module _ (old new last : Sets) (names later : List (List ℕ)) (hides now : List (List Name)) (files : List (List ℕ)) (macros : List ℕ → Macros) (c : List ℕ) (work : List (Cond × Hidden)) (s : Settled) (list : List (Cond × Token)) (live : Cond)
    (more answer : Expanded) (tokens : map bared work ≡ list) (unhidden : All (λ (x : Cond × Hidden). set_at hides x.1.hide.0 ≡ []) work)
    (list_is : answer.list ≡ s.done ++ more.list) (faults_are : answer.faults.items ≡ s.held.items ++ more.faults.items)
    (first : Keeps old new) (second : Keeps new last) (held : IsHeldSettled (stores new later now) (length files) s) (live_own : IsCond old live.0) (listed : IsConfig old.arities c)
    (is_closed : IsClosed new last s.rest live.0 more) (is : IsSettled (stores old names hides) (stores new later now) files macros work live.0 s) where
  listed1 : IsConfig new.arities c
  listed1 = IsConfig-Keeps first listed

  source : seen_at (stores old names hides) work c ≡ map (begun names) (items_at old list c)
  source = source-is old names hides c work unhidden ∙ ap (λ l. map (begun names) (items_at old l c)) tokens

  abbrev out : List Hidden
  out = items_at new is.out c

  abbrev rest : List Hidden
  rest = items_at new s.rest c

  faults : failures_at last answer.faults.items c ≡ failures_at new s.held.items c ++ failures_at last more.faults.items c
  faults =
      ap (λ l. failures_at last l c) faults_are
      ∙ (ap (map seen_failure) (faults_at-append last s.held.items more.faults.items c)
      ∙ (map-append seen_failure (faults_at last s.held.items c) (faults_at last more.faults.items c)
      ∙ ap (λ l. map seen_failure l ++ failures_at last more.faults.items c) (faults_at-Keeps s.held.items c second held.faults_own listed1)))

  items : items_at last answer.list c ≡ map (λ (h : Hidden). h.token) out ++ items_at last more.list c
  items =
      ap (λ l. items_at last l c) list_is
      ∙ (items_at-append last s.done more.list c ∙ ap (λ l. l ++ items_at last more.list c) (items_at-Keeps s.done c second held.own listed1 ∙ (ap (λ l. items_at new l c) is.tokens ∙ items-bared new is.out c)))

  under : (b : Bool) → old.has live.0 c ≡ b → new.has live.0 c ≡ b
  under b here = first.at live.0 c live_own listed ∙ here

  more-items : (b several : Bool) → old.has live.0 c ≡ b → is_several rest ≡ several → items_at last more.list c ≡ (if b && not several then map (λ (h : Hidden). h.token) rest else [])
  more-items b several here is = is_closed.list c listed1 ∙ (λ i. if under b here i && not (is i) then map (λ (h : Hidden). h.token) rest else [])

  more-faults : (b several : Bool) → old.has live.0 c ≡ b → is_several rest ≡ several → failures_at last more.faults.items c ≡ (if b && several then map unclosed_at (take 1 rest) else [])
  more-faults b several here is = is_closed.faults c listed1 ∙ (λ i. if under b here i && is i then map unclosed_at (take 1 rest) else [])

  no-faults : failures_at last answer.faults.items c ≡ [] → faults_at last answer.faults.items c ≡ []
  no-faults none = none-found seen_failure (faults_at last answer.faults.items c) none

  settled-expanded : (several : Bool) → is_several rest ≡ several → old.has live.0 c ≡ true → failures_at new s.held.items c ≡ []
      → Expands (provenance_of files) (macros c) (map (begun names) (items_at old list c)) (after_these (map (seen_hidden later now) out) (closed (map (seen_hidden later now) rest))) → IsExpanded last later files answer (macros c) (map (seen names files) (items_at old list c)) c
  settled-expanded false few here none d =
      let both = sym (map-append (seen_hidden later now) out rest) in
      expanded-list last names later files answer (macros c) c (items_at old list c) now (out ++ rest)
      (subst (Expands (provenance_of files) (macros c) (map (begun names) (items_at old list c))) (ap (after_these (map (seen_hidden later now) out)) (closed-few later now rest few) ∙ ap (λ l. Ok l) both) d)
      (items ∙ (ap (λ l. map (λ (h : Hidden). h.token) out ++ l) (more-items true false here few) ∙ sym (map-append (λ (h : Hidden). h.token) out rest)))
      (no-faults (faults ∙ (λ i. none i ++ more-faults true false here few i)))
  settled-expanded true many here none d = by rest refl many d
    where
      by : (r : List Hidden) → rest ≡ r → is_several r ≡ true
          → Expands (provenance_of files) (macros c) (map (begun names) (items_at old list c)) (after_these (map (seen_hidden later now) out) (closed (map (seen_hidden later now) rest))) → IsExpanded last later files answer (macros c) (map (seen names files) (items_at old list c)) c
      by [] is many d = absurd (cc)
      by (x ∷ []) is many d = absurd (cc)
      by (x ∷ (y ∷ ys)) is many_too d = expanded-fault last names later files answer (macros c) c (items_at old list c) (unclosed_at x)
          (subst (Expands (provenance_of files) (macros c) (map (begun names) (items_at old list c))) (ap (λ r. after_these (map (seen_hidden later now) out) (closed (map (seen_hidden later now) r))) is) d)
          (faults ∙ (λ i. none i ++ (more-faults true true here many ∙ ap (λ r. map unclosed_at (take 1 r)) is) i))

  pub done-expanded : old.has live.0 c ≡ true → IsExpanded last later files answer (macros c) (map (seen names files) (items_at old list c)) c
  done-expanded here = by (old.has live.0 c) here (is.is c listed)
    where
      by : (b : Bool) → b ≡ true → IsDone (provenance_of files) (macros c) (seen_at (stores old names hides) work c) (map (seen_hidden later now) out) (seen_at (stores new later now) s.rest c) (failures_at new s.held.items c) b
          → IsExpanded last later files answer (macros c) (map (seen names files) (items_at old list c)) c
      by b is (running.unasked none left) = absurd (true≢false (sym is))
      by b is (running.settled none d) = settled-expanded (is_several rest) refl here none
          (subst (λ l. Expands (provenance_of files) (macros c) l (after_these (map (seen_hidden later now) out) (closed (map (seen_hidden later now) rest)))) source (settles-closed (provenance_of files) (macros c) d))
      by b is (running.refused failure one left d) =
          let nothing : rest ≡ [] = none-found (seen_hidden later now) rest left in
          expanded-fault last names later files answer (macros c) c (items_at old list c) failure
          (subst (λ l. Expands (provenance_of files) (macros c) l (Err failure)) source (held-closed (provenance_of files) (macros c) d))
          (faults ∙ (λ i. one i ++ more-faults true false here (ap is_several nothing) i))

  pub done-empty : old.has live.0 c ≡ false → IsEmpty last answer c
  done-empty other = record {
    list = items ∙ (λ i. map (λ (h : Hidden). h.token) (is.none c listed other i) ++ more-items false (is_several rest) other refl i);
    faults = no-faults (faults ∙ (λ i. by (old.has live.0 c) other (is.is c listed) i ++ more-faults false (is_several rest) other refl i));
  }
    where
      by : (b : Bool) → b ≡ false → IsDone (provenance_of files) (macros c) (seen_at (stores old names hides) work c) (map (seen_hidden later now) out) (seen_at (stores new later now) s.rest c) (failures_at new s.held.items c) b
          → failures_at new s.held.items c ≡ []
      by b is (running.unasked none left) = none
      by b is (running.settled none d) = none
      by b is (running.refused failure one left d) = absurd (true≢false is)

module _ (new last : Sets) (later : List (List ℕ)) (now : List (List Name)) (files : ℕ) (s : Settled) (live : ℕ) (more answer : Expanded) (second : Keeps new last) (held : IsHeldSettled (stores new later now) files s)
    (list_is : answer.list ≡ s.done ++ more.list) (faults_are : answer.faults.items ≡ s.held.items ++ more.faults.items) (is_closed : IsClosed new last s.rest live more) where
  both : (P : Cond × Token → Type 0) → All P s.done → All P more.list → All P answer.list
  both P front back = subst (All P) (sym list_is) (All-append P s.done more.list front back)

  pub answer-held : IsHeldAnswer last later files answer
  answer-held = record {
    own = both (λ (x : Cond × Token). IsCond last x.0.0) (λ k d h. second.own _ (held.own k d h)) is_closed.own;
    held = both (λ (x : Cond × Token). IsHeld later x.1) held.held (is_closed.held later (λ k d h. (held.rest.held k d h).held.token));
    placed = both (λ (x : Cond × Token). x.1.place.file.0 < files) held.placed (is_closed.placed files (λ k d h. (held.rest.held k d h).file));
    faults_own = subst (All (λ (f : Fault). IsCond last f.cond.0)) (sym faults_are)
        (All-append (λ (f : Fault). IsCond last f.cond.0) s.held.items more.faults.items (λ k d h. second.own _ (held.faults_own k d h)) is_closed.faults_own);
    faults_placed = subst (All (λ (f : Fault). f.place.file.0 < files)) (sym faults_are)
        (All-append (λ (f : Fault). f.place.file.0 < files) s.held.items more.faults.items held.faults_placed (is_closed.faults_placed files (λ k d h. (held.rest.held k d h).file)));
  }

  pub answer-some : All (λ (x : Cond × Token). IsNever last x.0.0 → ⊥) answer.list
  answer-some = both (λ (x : Cond × Token). IsNever last x.0.0 → ⊥) (some-Keeps second s.done held.own held.some) is_closed.some

  pub answer-alike : (c d : List ℕ) → IsConfig new.arities c → IsConfig new.arities d → new.has live c ≡ new.has live d → AreAlike new c d s.done × AreAlike new c d s.rest × AreAlikeFaults new c d s.held.items
      → AreAlike last c d answer.list × AreAlikeFaults last c d answer.faults.items
  answer-alike c d p q here alike =
      let closed_alike = is_closed.alike c d p q here alike.1 in (
        both (λ (x : Cond × Token). IsAlike last c d x.0) (AreAlike-Keeps second p q s.done held.own alike.0) closed_alike.0,
        subst (AreAlikeFaults last c d) (sym faults_are)
            (All-append (λ (f : Fault). IsAlike last c d f.cond) s.held.items more.faults.items (AreAlikeFaults-Keeps second p q s.held.items held.faults_own alike.2) closed_alike.1),
      )

-- ---- alike configurations

-- tables that define the names alike that the tokens of the text look up
pub source-defines : (s : Sets) (names files : List (List ℕ)) (hides : List (List Name)) (c : List ℕ) (one other : Macros) (work : List (Cond × Hidden)) (list : List (Cond × Token)) → map bared work ≡ list
    → All (λ (x : Cond × Hidden). set_at hides x.1.hide.0 ≡ []) work → DefineTextAlike one other (map (seen names files) (items_at s list c)) → DefineAlike (provenance_of files) one other (seen_at (stores s names hides) work c)
source-defines s names files hides c one other work list tokens unhidden defines =
    let source = source-is s names hides c work unhidden ∙ ap (λ l. map (begun names) (items_at s l c)) tokens in
    subst (DefineAlike (provenance_of files) one other) (sym source) (text-defines names files one other (items_at s list c) defines)

-- ---- a list before it is settled, and what the loop leaves of it

module _ (old : Stores) (e : Expansion) (list : List (Cond × Hidden)) (live : Cond) (fresh : IsUntouched old.sets e) (live_is : e.refusals.live ≡ live) (work : e.top.work ≡ list) where
  pub begun-held : (files : ℕ) → AreHeld old files list → IsCond old.sets live.0 → IsCond old.sets e.refusals.waiting.0 → IsHeldExpansion old files e
  begun-held files held live_own waiting = record {
    refusals = record {
      live = subst (λ (k : Cond). IsCond old.sets k.0) (sym live_is) live_own;
      waiting = waiting;
      own = subst (All (λ (f : Fault). IsCond old.sets f.cond.0)) (sym fresh.faults) (All-nil (λ (f : Fault). IsCond old.sets f.cond.0));
      placed = subst (All (λ (f : Fault). f.place.file.0 < files)) (sym fresh.faults) (All-nil (λ (f : Fault). f.place.file.0 < files));
    };
    rest = subst (AreHeld old files) (sym fresh.rest) (AreHeld-nil old files);
    top = record {
      work = subst (AreHeld old files) (sym work) held;
      out = subst (AreHeld old files) (sym fresh.out) (AreHeld-nil old files);
      calls = subst (All (IsHeldCall old files)) (sym fresh.calls) (All-nil (IsHeldCall old files));
    };
    below = subst (All (IsHeldEnclosing old files)) (sym fresh.below) (All-nil (IsHeldEnclosing old files));
  }

  pub begun-alike : (c d : List ℕ) → IsConfig old.sets.arities c → IsConfig old.sets.arities d → IsAlike old.sets c d live → AreAlike old.sets c d list → IsAlikeExpansion old.sets c d no_others e
  begun-alike c d p q both same = record {
    refusals = record {
      live = subst (IsAlike old.sets c d) (sym live_is) both;
      waiting = fresh.waiting.none c p ∙ sym (fresh.waiting.none d q);
      faults = subst (λ fs. AreAlikeFaults old.sets c d (drop 0 fs)) (sym fresh.faults) (All-nil (λ (f : Fault). IsAlike old.sets c d f.cond));
    };
    top = subst (λ (bs : List Enclosing). IsAlikeFrame old.sets c d (others_at no_others (length bs)) e.top) (sym fresh.below) (record {
      work = of-all old.sets c d e.top.work (subst (AreAlike old.sets c d) (sym work) same);
      out = subst (AreAlike old.sets c d) (sym fresh.out) (All-nil (λ (x : Cond × Hidden). IsAlike old.sets c d x.0));
      calls = subst (All (IsAlikeCall old.sets c d)) (sym fresh.calls) (All-nil (IsAlikeCall old.sets c d));
    });
    below = λ n o is. let none : slice_get [] n ≡ Some o = sym (ap (λ l. slice_get l n) fresh.below) ∙ is in absurd (cc);
  }

  module _ (new : Stores) (after : Expansion) (s : Settled) (done_is : s.done ≡ map bared after.top.out) (rest_is : s.rest ≡ after.rest) (held_is : s.held ≡ after.refusals.faults) where
    pub settled-is : (files : List (List ℕ)) (macros : List ℕ → Macros) → PutsOut old new e.refusals.live.0 e.top.out after.top.out
        → ((c : List ℕ) → IsConfig old.sets.arities c → IsDone (provenance_of files) (macros c) (seen_at old e.top.work c) (seen_at new after.top.out c) (seen_at new after.rest c) (failures_at new.sets after.refusals.faults.items c) (old.sets.has e.refusals.live.0 c))
        → Becomes (seen_hidden old.names old.hides) (provenance_of files) macros old.sets e.top.work e.refusals.live.0 new.sets (seen_hidden new.names new.hides) after.top.out after.rest
        → IsSettled old new files macros list live.0 s
    settled-is files macros puts is segments = record {
      out = after.top.out;
      tokens = done_is;
      is = λ c listed.
          subst (λ (z : List (Cond × Hidden) × Cond × List (Cond × Hidden) × List Fault). IsDone (provenance_of files) (macros c) (seen_at old z.0 c) (seen_at new after.top.out c) (seen_at new z.2 c) (failures_at new.sets z.3 c) (old.sets.has z.1.0 c))
          (λ i. (work i, live_is i, sym rest_is i, (sym held_is i).items)) (is c listed);
      none = λ c listed lacks.
          none-found (seen_hidden new.names new.hides) (items_at new.sets after.top.out c)
          (puts.apart c listed (ap (λ (k : Cond). old.sets.has k.0 c) live_is ∙ lacks) ∙ ap (λ l. seen_at old l c) fresh.out);
      segments =
          subst (λ (z : List (Cond × Hidden) × Cond × List (Cond × Hidden)). Becomes (seen_hidden old.names old.hides) (provenance_of files) macros old.sets z.0 z.1.0 new.sets (seen_hidden new.names new.hides) after.top.out z.2)
          (λ i. (work i, live_is i, sym rest_is i)) segments;
    }

    pub settled-held : (files : ℕ) → IsHeldExpansion new files after → PutsOut old new e.refusals.live.0 e.top.out after.top.out → IsHeldSettled new files s
    settled-held files held puts = record {
      own = bare (λ (x : Cond × Token). IsCond new.sets x.0.0) (All-map (λ (x : Cond × Token). IsCond new.sets x.0.0) bared after.top.out held.top.out.own);
      held = bare (λ (x : Cond × Token). IsHeld new.names x.1) (All-map (λ (x : Cond × Token). IsHeld new.names x.1) bared after.top.out (λ k d h. (held.top.out.held k d h).held.token));
      placed = bare (λ (x : Cond × Token). x.1.place.file.0 < files) (All-map (λ (x : Cond × Token). x.1.place.file.0 < files) bared after.top.out (λ k d h. (held.top.out.held k d h).file));
      some =
          let none : All (λ (x : Cond × Hidden). IsNever old.sets x.0.0 → ⊥) e.top.out = subst (All (λ (x : Cond × Hidden). IsNever old.sets x.0.0 → ⊥)) (sym fresh.out) (All-nil (λ (x : Cond × Hidden). IsNever old.sets x.0.0 → ⊥)) in
          bare (λ (x : Cond × Token). IsNever new.sets x.0.0 → ⊥) (All-map (λ (x : Cond × Token). IsNever new.sets x.0.0 → ⊥) bared after.top.out (puts.some none));
      rest = subst (AreHeld new files) (sym rest_is) held.rest;
      faults_own = subst (λ v. All (λ (f : Fault). IsCond new.sets f.cond.0) v.items) (sym held_is) held.refusals.own;
      faults_placed = subst (λ v. All (λ (f : Fault). f.place.file.0 < files) v.items) (sym held_is) held.refusals.placed;
    }
      where
        bare : (P : Cond × Token → Type 0) → All P (map bared after.top.out) → All P s.done
        bare P all = subst (All P) (sym done_is) all

    pub settled-alike : (c d : List ℕ) → IsAlikeExpansion new.sets c d no_others after → AreAlike new.sets c d after.rest → AreAlike new.sets c d s.done × AreAlike new.sets c d s.rest × AreAlikeFaults new.sets c d s.held.items
    settled-alike c d alike rest =
        let out : AreAlike new.sets c d after.top.out = (subst (λ o. IsAlikeFrame new.sets c d o after.top) (others-none (length after.below.items)) alike.top).out in
        let done : AreAlike new.sets c d s.done =
        subst (AreAlike new.sets c d) (sym done_is) (All-map (λ (x : Cond × Token). IsAlike new.sets c d x.0) bared after.top.out out) in
        (done, subst (AreAlike new.sets c d) (sym rest_is) rest, subst (λ v. AreAlikeFaults new.sets c d v.items) (sym held_is) alike.refusals.faults)
