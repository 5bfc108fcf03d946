-- A phase stays one through a turn: where the configurations stand, and which of its own items each
-- has left.
use Rattle.std.proofs.Common.{◌≡◌, ◌⊎◌, inl, inr, ℕ, ◌+◌, ◌<◌, ◌≤◌, Bool, true, false, true≢false, List, [], ◌∷◌, ◌++◌, drop, length, map, Some, None, slice_get, take, refl, sym, ap, subst, ◌∙◌, arith, if◌then◌else◌}
use Rattle.sc_expand.proofs.Behind.{below, below-not, last-below, last-fewer, last-suffix, more-same, lower-all, lower-is, lower-min, length-seen}
use Rattle.sc_expand.proofs.Facts.{All-pop, IsConfig-Keeps, drop-drop, take-append-le}
use Rattle.sc_expand.proofs.MachineCalls.{calls_at-append}
use Rattle.sc_expand.proofs.MachineLemmas.{IsBelow, IsOnTop, alone, called_in, goes, no-move, progress-step, stands-cases, stops}
use Rattle.sc_expand.proofs.PhaseKeeps.{below-most}
use Rattle.sc_expand.proofs.PhaseSegments.{held-take}
use Rattle.sc_expand.proofs.Phases.{IsReady, Phase, last_at, state_now, tokens_from}
use Rattle.sc_expand.proofs.PassesLaws.{Placed, placed-move}
use Rattle.sc_expand.proofs.Rests.{next-argument, next-call, next-token}
use Rattle.sc_expand.proofs.RunLemmas.{IsRunning, running-stands, turned-at}
use Rattle.sc_expand.proofs.SeenLemmas.{seen_at-Grows}
use Rattle.sc_expand.proofs.Terms.{AreHeld, Call, Cond, Enclosing, Expansion, Grows, Hidden, HiddenToken, IsAbsent, IsConfig, IsHeldExpansion, IsPending, Macros, Moves, Place, Sets, Stands, State, Stores, View, Waiting, at, behind_at, calls_at, expanding, items_at, lower_of, no_view, provenance_of, scanning, seen_at, seen_hidden, state_by, state_in, state_of, view_at, waiting, waiting_at}
use Rattle.sc_expand.proofs.Turning.{put_by-held}
use Rattle.sc_expand.proofs.KeptLemmas.{never-empty}
use Rattle.sc_expand.specs.FootprintSteps as steps
use Rattle.sc_expand.specs.Open as open_end
use Rattle.sc_expand.specs.Running as running
use Rattle.sc_expand.specs.Running.{HasEnded, IsAsLong, IsTurned, Pushes, Rest, all, bottom, bottom_by, but_first, next_of, put, put_out, took}
use Rattle.sc_expand.specs.Restricted as restricted

-- ---- what a configuration has of lists

-- the first item is not among the last n
pub first-more : (s : Sets) (list : List (Cond × Hidden)) (item : Cond × Hidden) (c : List ℕ) (n : ℕ) → slice_get list 0 ≡ Some item → s.has item.0.0 c ≡ true → n < length list
    → length (below n (behind_at s list c)) < length (behind_at s list c)
first-more s [] item c n first has far = absurd (omega arith)
first-more s (x ∷ xs) item c n first has far = by (s.has x.0.0 c) (ap (λ (y : Cond × Hidden). s.has y.0.0 c) same ∙ has)
  where
    same : x ≡ item
    same = cc

    by : (b : Bool) → b ≡ true → length (below n (if b then length xs ∷ behind_at s xs c else behind_at s xs c)) < length (if b then length xs ∷ behind_at s xs c else behind_at s xs c)
    by true is = let count = ap length (below-not n (length xs) (behind_at s xs c) (omega (arith, far))) in omega (arith, count, below-most n (behind_at s xs c))
    by false is = absurd (true≢false (sym is))

-- what is still to be scanned of the whole list
pub state-bottom : (st : Stores) (e : Expansion) (c : List ℕ) → steps.bottom (state_now st e c) ≡ seen_at st (bottom e).work c
state-bottom st e c = by e.below.items
  where
    of : (out work : List (HiddenToken Place)) (ws : List (Waiting Place)) → steps.bottom (state_by out work ws) ≡ work
    of out work [] = refl
    of out work (w ∷ ws) = refl

    by : (bs : List Enclosing) → steps.bottom (state_in st bs (view_at st e.top c) c) ≡ seen_at st (bottom_by bs e.top).work c
    by [] = of (seen_at st e.top.out c) (seen_at st e.top.work c) (calls_at st e.top.calls.items c)
    by (o ∷ os) = under (st.sets.has o.call.cond.0 c)
      where
        under : (b : Bool) → steps.bottom (if b then expanding (seen_at st o.frame.out c) (seen_at st o.frame.work c) (waiting_at st o.call c) o.parameter (state_in st os (view_at st e.top c) c) else state_of (view_at st o.frame c)) ≡ seen_at st o.frame.work c
        under true = refl
        under false = of (seen_at st o.frame.out c) (seen_at st o.frame.work c) (calls_at st o.frame.calls.items c)

-- it has its own items among what is still to be scanned
last-fits : (st : Stores) (e : Expansion) (n : ℕ) (c : List ℕ) → last_at st e n c ≤ length (steps.bottom (state_now st e c))
last-fits st e n c = let count = ap length (state-bottom st e c) in omega (arith, count, length-seen st (bottom e).work c, below-most n (behind_at st.sets (bottom e).work c))

-- ---- who takes part in a turn

-- a call waits at the configuration
abbrev pub Waits : State Place → Type 0
Waits (scanning out work) = ⊥
Waits (waiting out work w) = Unit {0}
Waits (expanding out work w n s) = Unit {0}

pub waits-pending : (s : State Place) (left : ℕ) → Waits s → IsPending s left
waits-pending (scanning out work) left none = absurd none
waits-pending (waiting out work w) left w' = tt
waits-pending (expanding out work w n s) left w' = tt

-- the next turn takes the first token of the whole list, and the configuration has it
pub record HasFirst (st : Stores) (e : Expansion) (c : List ℕ) : Type 0 where
  pub item : Cond × Hidden
  pub below : e.below.items ≡ []
  pub calls : e.top.calls.items ≡ []
  pub first : slice_get e.top.work 0 ≡ Some item
  pub has : st.sets.has item.0.0 c ≡ true

ends-with : {A : Type 0} (xs : List A) → (xs ≡ []) ⊎ ((front : List A) × (last : A) × (xs ≡ front ++ last ∷ []))
ends-with [] = inl refl
ends-with {A} (x ∷ xs) = by (ends-with xs)
  where
    by : (xs ≡ []) ⊎ ((front : List A) × (last : A) × (xs ≡ front ++ last ∷ [])) → (x ∷ xs ≡ []) ⊎ ((front : List A) × (last : A) × (x ∷ xs ≡ front ++ last ∷ []))
    by (inl none) = inr ([], x, ap (λ ys. x ∷ ys) none)
    by (inr some) = inr (x ∷ some.0, some.1, ap (λ ys. x ∷ ys) some.2)

pub ended-state : (st : Stores) (c : List ℕ) (e : Expansion) → HasEnded e → state_now st e c ≡ scanning (seen_at st e.top.out c) []
ended-state st c e ended =
    let calls : calls_at st e.top.calls.items c ≡ [] = ap (λ l. calls_at st l c) ended.calls in
    let work : seen_at st e.top.work c ≡ [] = ap (λ l. seen_at st l c) ended.work in
    let out = seen_at st e.top.out c in
    ap (λ bs. state_in st bs (view_at st e.top c) c) ended.below ∙ (λ i. state_by out (work i) (calls i))

module _ (st : Stores) (c : List ℕ) where
  -- the configuration has the last call
  call-had : (calls front : List Call) (k : Call) → calls ≡ front ++ k ∷ [] → st.sets.has k.cond.0 c ≡ true → calls_at st calls c ≡ [] → ⊥
  call-had calls front k is has none = by (st.sets.has k.cond.0 c) has (sym (ap (λ ks. calls_at st ks c) is ∙ calls_at-append st c front (k ∷ [])) ∙ none)
    where
      by : (b : Bool) → b ≡ true → calls_at st front c ++ (if b then waiting_at st k c ∷ [] else []) ≡ [] → ⊥
      by true is none = never-empty (calls_at st front c) (waiting_at st k c) none
      by false is none = absurd (true≢false (sym is))

  item-had : (list : List (Cond × Hidden)) (item : Cond × Hidden) (rest : List (Cond × Hidden)) → list ≡ item ∷ rest → st.sets.has item.0.0 c ≡ true → seen_at st list c ≡ [] → ⊥
  item-had list item rest is has none = by (st.sets.has item.0.0 c) has (sym (ap (λ l. seen_at st l c) is) ∙ none)
    where
      by : (b : Bool) → b ≡ true → map (seen_hidden st.names st.hides) (if b then item.1 ∷ items_at st.sets rest c else items_at st.sets rest c) ≡ [] → ⊥
      by true is none = absurd (cc)
      by false is none = absurd (true≢false (sym is))

  -- it stands in a list below, so not in the call of the last
  below-none : {es : List Enclosing} → IsBelow st c es → es ≡ [] → ⊥
  below-none (stops not few absent) none = absurd (cc)
  below-none (goes has none b) is = absurd (cc)

  below-last : {es : List Enclosing} → IsBelow st c es → (front : List Enclosing) (o : Enclosing) → es ≡ front ++ o ∷ [] → st.sets.has o.call.cond.0 c ≡ true → ⊥
  below-last (stops {e} {es} not few absent) [] o is has = let same : e ≡ o = cc in true≢false (sym (ap (λ (x : Enclosing). st.sets.has x.call.cond.0 c) same ∙ has) ∙ not)
  below-last (stops {e} {es} not few absent) (x ∷ front) o is has = let rest : es ≡ front ++ o ∷ [] = cc in true≢false (sym has ∙ (All-pop (IsAbsent st c) es front (Some o) rest absent).1.call)
  below-last (goes {e} {es} has none b) [] o is has' = let rest : es ≡ [] = cc in below-none b rest
  below-last (goes {e} {es} has none b) (x ∷ front) o is has' = let rest : es ≡ front ++ o ∷ [] = cc in below-last b front o rest has'

  pub on-top : {es : List Enclosing} (v : View) → IsOnTop st c es → (es ≡ []) ⊎ Waits (state_in st es v c)
  on-top v alone = inl refl
  on-top v (called_in {e} {es} has none top) = inr (by (st.sets.has e.call.cond.0 c) has)
    where
      by : (b : Bool) → b ≡ true → Waits (if b then expanding (seen_at st e.frame.out c) (seen_at st e.frame.work c) (waiting_at st e.call c) e.parameter (state_in st es v c) else state_of (view_at st e.frame c))
      by true is = tt
      by false is = absurd (true≢false (sym is))

  call-waits : (v : View) → (v.calls ≡ [] → ⊥) → Waits (state_of v)
  call-waits v some = by v.calls some
    where
      by : (ws : List (Waiting Place)) → (ws ≡ [] → ⊥) → Waits (state_by v.out v.work ws)
      by [] some = absurd (some refl)
      by (w ∷ ws) some = tt

  module _ (e : Expansion) (takes : Bool) (which : (cond : Cond) → next_of e ≡ Some cond → takes ≡ st.sets.has cond.0 c) (part : takes ≡ true) where
    had : (cond : Cond) → next_of e ≡ Some cond → st.sets.has cond.0 c ≡ true
    had cond next = sym (which cond next) ∙ part

    -- who takes part has the first token of the whole list, or a call waits there
    takes-cases : Stands st c e.below.items (view_at st e.top c) → (HasEnded e → ⊥) → HasFirst st e c ⊎ Waits (state_now st e c)
    takes-cases stands goes_on = by (stands-cases st c stands)
      where
        first : e.below.items ≡ [] → e.top.calls.items ≡ [] → (work : List (Cond × Hidden)) → e.top.work ≡ work → HasFirst st e c ⊎ Waits (state_now st e c)
        first one none [] empty = absurd (goes_on (record { below = one; work = empty; calls = none }))
        first one none (item ∷ rest) is = inl (record {
          item = item;
          below = one;
          calls = none;
          first = ap (λ (l : List (Cond × Hidden)). slice_get l 0) is;
          has = had item.0 (next-token e item rest none is);
        })

        top : e.below.items ≡ [] → (e.top.calls.items ≡ []) ⊎ ((front : List Call) × (k : Call) × (e.top.calls.items ≡ front ++ k ∷ [])) → HasFirst st e c ⊎ Waits (state_now st e c)
        top one (inl none) = first one none e.top.work refl
        top one (inr last) =
            let some = call-had e.top.calls.items last.0 last.1 last.2 (had last.1.cond (next-call e last.0 last.1 last.2)) in
            inr (subst (λ bs. Waits (state_in st bs (view_at st e.top c) c)) (sym one) (call-waits (view_at st e.top c) some))

        last : IsBelow st c e.below.items → seen_at st e.top.work c ≡ [] → e.top.calls.items ≡ [] → (work : List (Cond × Hidden)) → e.top.work ≡ work
            → (e.below.items ≡ []) ⊎ ((front : List Enclosing) × (o : Enclosing) × (e.below.items ≡ front ++ o ∷ [])) → ⊥
        last b empty none (item ∷ rest) is x = item-had e.top.work item rest is (had item.0 (next-token e item rest none is)) empty
        last b empty none [] is (inl x) = below-none b x
        last b empty none [] is (inr x) = below-last b x.0 x.1 x.2 (had x.1.call.cond (next-argument e x.0 x.1 none is x.2))

        inner : IsBelow st c e.below.items → calls_at st e.top.calls.items c ≡ [] → seen_at st e.top.work c ≡ []
            → (e.top.calls.items ≡ []) ⊎ ((front : List Call) × (k : Call) × (e.top.calls.items ≡ front ++ k ∷ [])) → ⊥
        inner b calls work (inr x) = call-had e.top.calls.items x.0 x.1 x.2 (had x.1.cond (next-call e x.0 x.1 x.2)) calls
        inner b calls work (inl none) = last b work none e.top.work refl (ends-with e.below.items)

        by : (IsOnTop st c e.below.items × (length (calls_at st e.top.calls.items c) ≤ 1)) ⊎ (IsBelow st c e.below.items × (view_at st e.top c ≡ no_view)) → HasFirst st e c ⊎ Waits (state_now st e c)
        by (inl t) = elim (on-top (view_at st e.top c) t.0) [ inl one ↦ top one (ends-with e.top.calls.items) | inr waits ↦ inr waits ]
        by (inr b) = absurd (inner b.0 (ap (λ v. v.calls) b.1) (ap (λ v. v.work) b.1) (ends-with e.top.calls.items))

-- ---- its own items

module _ {now new : Stores} {e after : Expansion} {c : List ℕ} (n : ℕ) (fits : n ≤ length (bottom e).work)
    (far : (item : Cond × Hidden) → e.below.items ≡ [] → e.top.calls.items ≡ [] → slice_get e.top.work 0 ≡ Some item → n < length (bottom e).work) where
  -- The configuration has the last of those that it had among the last m ..
  rest-suffix : Rest now new e after c → (m : ℕ) → m ≤ n → (g : ℕ) × (below m (behind_at new.sets (bottom after).work c) ≡ drop g (below m (behind_at now.sets (bottom e).work c)))
  rest-suffix (put more) m le = (0, more-same more m (omega arith))
  rest-suffix (took item one none first last) m le = last-suffix last m (let less = far item one none first in omega (arith, less))

  rest-fewer : Rest now new e after c → (m : ℕ) → m ≤ n → length (below m (behind_at new.sets (bottom after).work c)) ≤ length (below m (behind_at now.sets (bottom e).work c))
  rest-fewer (put more) m le = let same = ap length (more-same more m (omega arith)) in omega (arith, same)
  rest-fewer (took item one none first last) m le = last-fewer last m (let less = far item one none first in omega (arith, less))

  -- .. and of the last n all, or all that it has left
  pub rest-own : Rest now new e after c → last_at new after n c ≡ lower_of (length (seen_at new (bottom after).work c)) (last_at now e n c)
  rest-own rest = lower-is (length (seen_at new (bottom after).work c)) (last_at now e n c) (last_at new after n c)
      (subst (λ k. lower_of k (last_at now e n c) ≤ last_at new after n c) (sym (length-seen new (bottom after).work c)) (low rest))
      (omega (arith, length-seen new (bottom after).work c, below-most n (behind_at new.sets (bottom after).work c)))
      (rest-fewer rest n (omega arith))
    where
      low : Rest now new e after c → lower_of (length (behind_at new.sets (bottom after).work c)) (last_at now e n c) ≤ last_at new after n c
      low (put more) = let same = ap length (more-same more n fits) in omega (arith, same, lower-min (length (behind_at new.sets (bottom after).work c)) (last_at now e n c))
      low (took item one none first last) = last-below last n (last_at now e n c) (far item one none first) (omega arith)

-- ---- through a turn

module _ (files : List (List ℕ)) (macros : List ℕ → Macros)
    {old now : Stores} {was e : Expansion} (grows : Grows old now) (r : IsRunning files macros old now was e) (began : IsHeldExpansion old (length files) was)
    (phase : Phase files macros old now was e) (ready : IsReady files macros phase) where
  never : (item : Cond × Hidden) → Some item ≡ None → ⊥
  never item is = absurd (cc)

  -- the first token is not one of the last n
  pub first-far : (item : Cond × Hidden) → e.below.items ≡ [] → e.top.calls.items ≡ [] → slice_get e.top.work 0 ≡ Some item → phase.n < length (bottom e).work
  first-far item one none first =
      let far = ready.below one none (λ empty. never item (sym first ∙ ap (λ (l : List (Cond × Hidden)). slice_get l 0) empty)) in
      subst (λ bs. phase.n < length (bottom_by bs e.top).work) (sym one) (omega (arith, far))

  -- who takes part in a turn has more left than its own items
  pub takes-pending : (c : List ℕ) (takes : Bool) → ((cond : Cond) → next_of e ≡ Some cond → takes ≡ now.sets.has cond.0 c) → takes ≡ true → Stands now c e.below.items (view_at now e.top c)
      → (HasEnded e → ⊥) → IsPending (state_now now e c) (last_at now e phase.n c)
  takes-pending c takes which part stands goes_on = by (takes-cases now c e takes which part stands goes_on)
    where
      by : HasFirst now e c ⊎ Waits (state_now now e c) → IsPending (state_now now e c) (last_at now e phase.n c)
      by (inr waits) = waits-pending (state_now now e c) (last_at now e phase.n c) waits
      by (inl h) =
          let none : calls_at now e.top.calls.items c ≡ [] = ap (λ l. calls_at now l c) h.calls in
          let out = seen_at now e.top.out c in
          let work = seen_at now e.top.work c in
          let state : state_now now e c ≡ scanning out work = ap (λ bs. state_in now bs (view_at now e.top c) c) h.below ∙ (λ i. state_by out work (none i)) in
          let same : (bottom e).work ≡ e.top.work = ap (λ bs. (bottom_by bs e.top).work) h.below in
          let far = subst (λ (l : List (Cond × Hidden)). phase.n < length l) same (first-far h.item h.below h.calls h.first) in
          let more = first-more now.sets e.top.work h.item c phase.n h.first h.has far in
          let count = ap (λ (l : List (Cond × Hidden)). length (below phase.n (behind_at now.sets l c))) same in
          subst (λ s. IsPending s (last_at now e phase.n c)) (sym state) (omega (arith, more, count, length-seen now e.top.work c))

  module _ (new : Stores) (after : Expansion) (other : List ℕ → Macros) (same : (c : List ℕ) → IsConfig old.sets.arities c → other c ≡ macros c) {went : Bool} (turned : IsTurned files other now new e after went) where
    pub moved-fits : phase.n ≤ length (bottom after).work
    moved-fits = by turned.long
      where
        by : IsAsLong e after → phase.n ≤ length (bottom after).work
        by (all le) = omega (arith, le, phase.fits)
        by (but_first item one none first le) = let far = first-far item one none first in omega (arith, le, far)

    -- what a configuration does that is still live: a step, or nothing
    abbrev pub Step : List ℕ → Type 0
    Step c = (Moves (provenance_of files) (macros c) (state_now now e c) (state_now new after c) × IsPending (state_now now e c) (last_at now e phase.n c) × (open_end.Waits (macros c) (state_now now e c) → ⊥))
        ⊎ ((state_now now e c ≡ state_now new after c) × (last_at now e phase.n c ≡ last_at new after phase.n c))

    pub record HasMoved (c : List ℕ) : Type 0 where
      pub live : now.sets.has e.refusals.live.0 c ≡ true
      pub own : last_at new after phase.n c ≡ lower_of (length (steps.bottom (state_now new after c))) (last_at now e phase.n c)
      pub step : Step c

    pub has-moved : (c : List ℕ) → IsConfig old.sets.arities c → new.sets.has after.refusals.live.0 c ≡ true → HasMoved c
    has-moved c listed live =
        let stands = running-stands grows r c listed in
        let s = progress-step (provenance_of files) (macros c) now new c e.below.items after.below.items (turned-at grows r began new after other same turned c listed) live stands in
        let own : last_at new after phase.n c ≡ lower_of (length (steps.bottom (state_now new after c))) (last_at now e phase.n c)
        = rest-own phase.n phase.fits first-far (turned.rest c (IsConfig-Keeps grows.sets listed)) ∙ ap (λ l. lower_of (length l) (last_at now e phase.n c)) (sym (state-bottom new after c)) in
        record { live = s.0; own = own; step = by (turned.takes c) refl s.1.moves s.1.free s.1.stays own (stands s.0) }
      where
        by : (takes : Bool) → turned.takes c ≡ takes → (turned.takes c ≡ true → Moves (provenance_of files) (macros c) (state_now now e c) (state_now new after c))
            → (turned.takes c ≡ true → open_end.Waits (macros c) (state_now now e c) → ⊥) → (turned.takes c ≡ false → state_now now e c ≡ state_now new after c)
            → last_at new after phase.n c ≡ lower_of (length (steps.bottom (state_now new after c))) (last_at now e phase.n c) → Stands now c e.below.items (view_at now e.top c) → Step c
        by true is moves free stays own stands =
            let m = moves is in
            inl (m, takes-pending c (turned.takes c) (λ cond next. turned.which cond next c) is stands (λ ended. no-move m (ended-state now c e ended)), free is)
        by false is moves free stays own stands =
            let state = stays is in
            let count = ap (λ s. length (steps.bottom s)) state in
            let fits : last_at now e phase.n c ≤ length (steps.bottom (state_now new after c)) = omega (arith, count, last-fits now e phase.n c) in
            inr (state, sym (own ∙ lower-all (length (steps.bottom (state_now new after c))) (last_at now e phase.n c) fits))

    -- who has nothing left but its own items gets nothing more
    pub moved-pending : (c : List ℕ) → IsConfig old.sets.arities c → new.sets.has after.refusals.live.0 c ≡ true → IsPending (state_now new after c) (last_at new after phase.n c)
        → (now.sets.has e.refusals.live.0 c ≡ true) × IsPending (state_now now e c) (last_at now e phase.n c)
    moved-pending c listed live pending = let m = has-moved c listed live in (m.live, by m.step)
      where
        by : Step c → IsPending (state_now now e c) (last_at now e phase.n c)
        by (inl m) = m.1
        by (inr s) = subst (λ k. IsPending (state_now now e c) k) (sym s.1) (subst (λ s. IsPending s (last_at new after phase.n c)) (sym s.0) pending)

    -- what was put out before the phase
    pub first-out : take phase.outs (put_out after) ≡ take phase.outs (put_out e)
    first-out = by turned.pushes
      where
        by : {b : Bool} → Pushes new.sets e after b → take phase.outs (put_out after) ≡ take phase.outs (put_out e)
        by (running.nothing is) = ap (take phase.outs) is
        by (running.first item cond one none at (restricted.pushed some is)) = ap (take phase.outs) is ∙ take-append-le phase.outs (put_out e) ((cond, item.1) ∷ []) phase.low
        by (running.first item cond one none at (restricted.absent never is)) = ap (take phase.outs) is

    pub held-first : AreHeld now (length files) (take phase.outs (put_out e))
    held-first = held-take phase.outs (put_out e) (put_by-held e.below.items e.top r.held.below r.held.top)

    pub start-later : (c : List ℕ) → IsConfig old.sets.arities c → seen_at new (take phase.outs (put_out after)) c ≡ seen_at now (take phase.outs (put_out e)) c
    start-later c listed = ap (λ l. seen_at new l c) first-out ∙ seen_at-Grows turned.grows c (IsConfig-Keeps grows.sets listed) (take phase.outs (put_out e)) held-first

    -- where it stands in the name's expansion
    pub moved-place : (c : List ℕ) → IsConfig old.sets.arities c → new.sets.has after.refusals.live.0 c ≡ true
        → Placed (provenance_of files) (macros c) (seen_at old was.top.work c) (phase.came c) (length (tokens_from old was phase.next c)) (seen_at new (take phase.outs (put_out after)) c) (state_now new after c) (last_at new after phase.n c)
    moved-place c listed live =
        let m = has-moved c listed live in
        subst (λ l. Placed (provenance_of files) (macros c) list (phase.came c) behind l (state_now new after c) (last_at new after phase.n c)) (sym (start-later c listed)) (by m.step m.own (phase.place c listed m.live))
      where
        list : List (HiddenToken Place)
        list = seen_at old was.top.work c

        behind : ℕ
        behind = length (tokens_from old was phase.next c)

        start : List (HiddenToken Place)
        start = seen_at now (take phase.outs (put_out e)) c

        by : Step c → last_at new after phase.n c ≡ lower_of (length (steps.bottom (state_now new after c))) (last_at now e phase.n c)
            → Placed (provenance_of files) (macros c) list (phase.came c) behind start (state_now now e c) (last_at now e phase.n c) → Placed (provenance_of files) (macros c) list (phase.came c) behind start (state_now new after c) (last_at new after phase.n c)
        by (inl m) own place = placed-move (provenance_of files) (macros c) list (phase.came c) behind start (last_at now e phase.n c) (last_at new after phase.n c) (state_now now e c) (state_now new after c) place m.0 m.2 m.1 own
        by (inr s) own place = subst (λ (z : State Place × ℕ). Placed (provenance_of files) (macros c) list (phase.came c) behind start z.0 z.1) (λ i. (s.0 i, s.1 i)) place

    -- its own items are still the last that it had
    pub moved-suffix : (c : List ℕ) → IsConfig old.sets.arities c → new.sets.has after.refusals.live.0 c ≡ true → (m : ℕ) → m ≤ phase.n
        → (g : ℕ) × (below m (behind_at new.sets (bottom after).work c) ≡ drop g (below m (behind_at old.sets was.top.work c)))
    moved-suffix c listed live m le =
        let before = phase.suffix c listed (has-moved c listed live).live m le in
        let now_is = rest-suffix phase.n phase.fits first-far (turned.rest c (IsConfig-Keeps grows.sets listed)) m le in
        (before.0 + now_is.0, now_is.1 ∙ (ap (drop now_is.0) before.1 ∙ drop-drop now_is.0 before.0 (below m (behind_at old.sets was.top.work c))))
