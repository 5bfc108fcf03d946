-- A turn of the frame on top, as a step of the whole.
use Rattle.std.proofs.Common.{◌≡◌, ◌⊎◌, inl, inr, ℕ, ◌≤◌, Bool, true, false, true≢false, List, [], ◌∷◌, All, map, length, refl, sym, ap, subst, ◌∙◌, if◌then◌else◌}
use Rattle.c11_macros.specs.Runs.{IsHeld, Settles}
use Rattle.sc_expand.proofs.Facts.{All-cons, All-head, All-nil, All-tail, cond-true}
use Rattle.sc_expand.proofs.PlainSettles.{Opens, opens-fail, opens-move, opens-wait}
use Rattle.sc_expand.proofs.PlainTurns.{Pending, fails-under, move-under, under}
use Rattle.sc_expand.proofs.SeenLemmas.{calls_at-Grows, view_at-Grows, seen_at-Grows, waiting_at-Grows}
use Rattle.sc_expand.proofs.Terms.{Enclosing, Fails, Failure, Grows, HiddenToken, IsAbsent, IsConfig, IsHeldEnclosing, Macros, Moves, Place, Progress, Provenance, Stands, State, Stores, View, Waits, calls_at, ends, expanding, gone, here, inside, is_whole, no_view, on_top, rests, scanning, seen_at, state_in, state_of, steps, view_at, waiting_at}
use Rattle.sc_expand.specs.Open as open_end
use Rattle.sc_expand.specs.Plain as plain
use Rattle.sc_expand.specs.Turn as turn
use Rattle.sc_expand.specs.Turn.{At, End, Ends, EndsBy, IsDecided, Turn, ended, held_up, moved, no_end, over, passed, refused, with_end}

-- ---- the state by the view of the frame on top

abbrev pub pending_at : Stores → List ℕ → Enclosing → Pending Place
pending_at st c e = record { out = seen_at st e.frame.out c; work = seen_at st e.frame.work c; call = waiting_at st e.call c; parameter = e.parameter }

-- ---- the frame where a configuration stands

-- each list below is in a call of the configuration
pub data IsOnTop (st : Stores) (c : List ℕ) : List Enclosing → Type 0 where
  alone : IsOnTop st c []
  called_in : {e : Enclosing} {es : List Enclosing} → st.sets.has e.call.cond.0 c ≡ true → calls_at st e.frame.calls.items c ≡ [] → IsOnTop st c es → IsOnTop st c (e ∷ es)

-- the configuration stands in a list below
pub data IsBelow (st : Stores) (c : List ℕ) : List Enclosing → Type 0 where
  stops : {e : Enclosing} {es : List Enclosing} → st.sets.has e.call.cond.0 c ≡ false → length (calls_at st e.frame.calls.items c) ≤ 1 → All (IsAbsent st c) es → IsBelow st c (e ∷ es)
  goes : {e : Enclosing} {es : List Enclosing} → st.sets.has e.call.cond.0 c ≡ true → calls_at st e.frame.calls.items c ≡ [] → IsBelow st c es → IsBelow st c (e ∷ es)

module _ (st : Stores) (c : List ℕ) where
  pub stands-cases : {below : List Enclosing} {v : View} → Stands st c below v → (IsOnTop st c below × (length v.calls ≤ 1)) ⊎ (IsBelow st c below × (v ≡ no_view))
  stands-cases (on_top few) = inl (alone, few)
  stands-cases (inside has none s) = elim (stands-cases s) [
    | inl h ↦ inl (called_in has none h.0, h.1)
    | inr h ↦ inr (goes has none h.0, h.1)
  ]
  stands-cases (here not few absent none) = inr (stops not few absent, none)

  pub top-stands : {below : List Enclosing} (v : View) → IsOnTop st c below → length v.calls ≤ 1 → Stands st c below v
  top-stands v alone few = on_top few
  top-stands v (called_in has none top) few = inside has none (top-stands v top few)

  pub below-stands : {below : List Enclosing} (v : View) → IsBelow st c below → v ≡ no_view → Stands st c below v
  below-stands v (stops not few absent) none = here not few absent none
  below-stands v (goes has none b) is = inside has none (below-stands v b is)

  pub state-top : {below : List Enclosing} (v : View) → IsOnTop st c below → state_in st below v c ≡ under (map (pending_at st c) below) (state_of v)
  state-top v alone = refl
  state-top v (called_in {e} {es} has none top) =
      cond-true (st.sets.has e.call.cond.0 c) (expanding (seen_at st e.frame.out c) (seen_at st e.frame.work c) (waiting_at st e.call c) e.parameter (state_in st es v c)) (state_of (view_at st e.frame c)) has
      ∙ ap (λ s. expanding (seen_at st e.frame.out c) (seen_at st e.frame.work c) (waiting_at st e.call c) e.parameter s) (state-top v top)

-- ---- the stores grow

module _ {old new : Stores} (grows : Grows old new) (files : ℕ) (c : List ℕ) (listed : IsConfig old.sets.arities c) where
  absent-Grows : (es : List Enclosing) → All (IsHeldEnclosing old files) es → All (IsAbsent old c) es → All (IsAbsent new c) es
  absent-Grows [] held absent = All-nil (IsAbsent new c)
  absent-Grows (e ∷ es) held absent =
      let first = All-head (IsHeldEnclosing old files) e es held in
      let was = All-head (IsAbsent old c) e es absent in
      All-cons (IsAbsent new c) e es (record { view = view_at-Grows grows c listed e.frame first.frame ∙ was.view; call = grows.sets.at e.call.cond.0 c first.call.own listed ∙ was.call })
      (absent-Grows es (All-tail (IsHeldEnclosing old files) e es held) (All-tail (IsAbsent old c) e es absent))

  pub Stands-Grows : {below : List Enclosing} {v : View} → All (IsHeldEnclosing old files) below → Stands old c below v → Stands new c below v
  Stands-Grows held (on_top few) = on_top few
  Stands-Grows held (inside {e} {es} has none s) =
      let first = All-head (IsHeldEnclosing old files) e es held in
      inside (grows.sets.at e.call.cond.0 c first.call.own listed ∙ has) (calls_at-Grows grows c listed e.frame.calls.items first.frame.calls ∙ none) (Stands-Grows (All-tail (IsHeldEnclosing old files) e es held) s)
  Stands-Grows held (here {e} {es} not few absent none) =
      let first = All-head (IsHeldEnclosing old files) e es held in
      here (grows.sets.at e.call.cond.0 c first.call.own listed ∙ not) (subst (λ l. length l ≤ 1) (sym (calls_at-Grows grows c listed e.frame.calls.items first.frame.calls)) few)
      (absent-Grows es (All-tail (IsHeldEnclosing old files) e es held) absent) none

  pub top-Grows : {below : List Enclosing} → All (IsHeldEnclosing old files) below → IsOnTop old c below → IsOnTop new c below
  top-Grows held alone = alone
  top-Grows held (called_in {e} {es} has none top) =
      let first = All-head (IsHeldEnclosing old files) e es held in
      called_in (grows.sets.at e.call.cond.0 c first.call.own listed ∙ has) (calls_at-Grows grows c listed e.frame.calls.items first.frame.calls ∙ none) (top-Grows (All-tail (IsHeldEnclosing old files) e es held) top)

  pub state_in-Grows : (below : List Enclosing) (v : View) → All (IsHeldEnclosing old files) below → state_in new below v c ≡ state_in old below v c
  state_in-Grows [] v held = refl
  state_in-Grows (e ∷ es) v held =
      let first = All-head (IsHeldEnclosing old files) e es held in
      let out = seen_at-Grows grows c listed e.frame.out first.frame.out in
      let work = seen_at-Grows grows c listed e.frame.work first.frame.work in
      let call = waiting_at-Grows grows c listed e.call first.call in
      let inner = state_in-Grows es v (All-tail (IsHeldEnclosing old files) e es held) in
      let other = ap state_of (view_at-Grows grows c listed e.frame first.frame) in
      λ i. if grows.sets.at e.call.cond.0 c first.call.own listed i then expanding (out i) (work i) (call i) e.parameter (inner i) else other i

-- ---- one configuration in the run

-- nothing moves or fails where nothing is left
pub no-move : {provenance : Provenance Place} {macros : Macros} {s t : State Place} {o : List (HiddenToken Place)} → Moves provenance macros s t → s ≡ scanning o [] → ⊥
no-move (plain.stay out rest t is) e = absurd (cc)
no-move (plain.object out rest body t d is made) e = absurd (cc)
no-move (plain.gather out rest after t close d arguments template is makes) e = absurd (cc)
no-move (plain.enter out work list w n others is) e = absurd (cc)
no-move (plain.leave out work list w n) e = absurd (cc)
no-move (plain.replace out work body w is made) e = absurd (cc)
no-move (plain.inside out work w n m) e = absurd (cc)

no-fail : {provenance : Provenance Place} {macros : Macros} {s : State Place} {failure : Failure Place} → Fails provenance macros s failure → s ≡ scanning [] [] → ⊥
no-fail (plain.bad_object out rest t d failure is made) e = absurd (cc)
no-fail (plain.open_call out rest t is) e = absurd (cc)
no-fail (plain.miscounted out rest after t is) e = absurd (cc)
no-fail (plain.bad_stringize out rest after t close d arguments failure is made) e = absurd (cc)
no-fail (plain.bad_paste out work w failure is made) e = absurd (cc)
no-fail (plain.inside_fails out work w n f) e = absurd (cc)

module _ (provenance : Provenance Place) (macros : Macros) where
  -- A configuration was never in the run, goes on, has its one failure, or waits. This was put out
  -- of the whole list, and this is left.
  pub data IsTold (source out left : List (HiddenToken Place)) (st : Stores) (c : List ℕ) (below : List Enclosing) (a : At) : Bool → Type 0 where
    unasked : a.live ≡ false → a.ends ≡ no_end → IsTold source out left st c below a false
    going : a.live ≡ true → a.ends ≡ no_end → Stands st c below a.view → Opens provenance macros source (state_in st below a.view c) → IsTold source out left st c below a true
    failed : (failure : Failure Place) → a.live ≡ false → a.ends ≡ with_end no_end (turn.fails failure) → IsHeld provenance macros source failure → IsTold source out left st c below a true
    waiting : a.live ≡ false → a.ends ≡ with_end no_end turn.waits → Settles provenance macros source out left → IsTold source out left st c below a true

  module _ {old new : Stores} (grows : Grows old new) (files : ℕ) (c : List ℕ) (listed : IsConfig old.sets.arities c) (below : List Enclosing) (held : All (IsHeldEnclosing old files) below) where
    state-same : (v w : View) → w ≡ v → state_in old below v c ≡ state_in new below w c
    state-same v w same = sym (ap (λ u. state_in new below u c) same ∙ state_in-Grows grows files c listed below v held)

    -- a step of the frame on top is one of the whole
    step-lifts : (v w : View) → Stands old c below v → Moves provenance macros (state_of v) (state_of w) → length w.calls ≤ 1
        → Stands new c below w × Moves provenance macros (state_in old below v c) (state_in new below w c)
    step-lifts v w stands m few = elim (stands-cases old c stands) [
      | inl top ↦ (
          let was = state-top old c v top.0 in
          let now = state_in-Grows grows files c listed below w held ∙ state-top old c w top.0 in
          let whole = move-under provenance macros (map (pending_at old c) below) (state_of v) (state_of w) m in (
            top-stands new c w (top-Grows grows files c listed held top.0) few,
            subst (λ s. Moves provenance macros s (state_in new below w c)) (sym was) (subst (Moves provenance macros (under (map (pending_at old c) below) (state_of v))) (sym now) whole),
          ))
      | inr below ↦ absurd (no-move m (ap state_of below.1))
    ]

  module _ (old : Stores) (c : List ℕ) where
    failure-lifts : (below : List Enclosing) (v : View) (failure : Failure Place) → Stands old c below v → Fails provenance macros (state_of v) failure → Fails provenance macros (state_in old below v c) failure
    failure-lifts below v failure stands f = elim (stands-cases old c stands) [
      | inl top ↦ subst (λ s. Fails provenance macros s failure) (sym (state-top old c v top.0)) (fails-under provenance macros (map (pending_at old c) below) (state_of v) failure f)
      | inr other ↦ absurd (no-fail f (ap state_of other.1))
    ]

    -- what waits is in no argument
    waits-under : (below : List Enclosing) (s : State Place) → IsDecided (is_whole below) macros s → Waits macros (under (map (pending_at old c) below) s) → ⊥
    waits-under [] s decided w = decided refl w
    waits-under (e ∷ es) s decided w = elim w [ ]

    decided-lifts : (below : List Enclosing) (v : View) → (v ≡ no_view → ⊥) → Stands old c below v → IsDecided (is_whole below) macros (state_of v) → Waits macros (state_in old below v c) → ⊥
    decided-lifts below v some stands decided w = elim (stands-cases old c stands) [
      | inl top ↦ waits-under below (state_of v) decided (subst (Waits macros) (state-top old c v top.0) w)
      | inr other ↦ some other.1
    ]

    -- the frame on top ends as the whole does
    ends-lifts : (below : List Enclosing) (v : View) (end : End) → Stands old c below v → EndsBy provenance macros (is_whole below) (state_of v) end → EndsBy provenance macros true (state_in old below v c) end
    ends-lifts below v _ stands (refused failure f decided) = refused failure (failure-lifts below v failure stands f) (λ all. decided-lifts below v (λ none. no-fail f (ap state_of none)) stands decided)
    ends-lifts [] v _ stands (held_up all w) = held_up refl w
    ends-lifts (e ∷ es) v _ stands (held_up all w) = absurd (true≢false (sym all))

  -- a turn of the frame on top is one of the whole
  pub turn-progress : {old new : Stores} (grows : Grows old new) (files : ℕ) (c : List ℕ) (listed : IsConfig old.sets.arities c) (below : List Enclosing) (held : All (IsHeldEnclosing old files) below) {a b : At} {takes : Bool}
      → a.whole ≡ is_whole below → Turn provenance macros a b takes → Progress provenance macros old new c below below a b takes
  turn-progress {old} {new} grows files c listed below held {a} {b} top (passed still same view) =
      rests still same (λ live stands. (subst (Stands new c below) (sym (view live)) (Stands-Grows grows files c listed held stands), state-same grows files c listed below held a.view b.view (view live)))
  turn-progress grows files c listed below held top (over was not same) = gone was not same
  turn-progress {old} grows files c listed below held {a} {b} top (moved was now same decided m few) =
      steps was now same (λ stands. decided-lifts old c below a.view (λ none. no-move m (ap state_of none)) stands (subst (λ o. IsDecided o macros (state_of a.view)) top decided))
      (λ stands. step-lifts grows files c listed below held a.view b.view stands m few)
  turn-progress {old} grows files c listed below held {a} top (ended end was not same by) =
      ends end was not same (λ stands. ends-lifts old c below a.view end stands (subst (λ o. EndsBy provenance macros o (state_of a.view) end) top by))

  module _ (old new : Stores) (c : List ℕ) (below later : List Enclosing) where
    -- what a configuration that is still in the run did
    pub record IsStep (takes : Bool) (s t : State Place) : Type 0 where
      pub step : Moves provenance macros s t ⊎ (s ≡ t)
      pub moves : takes ≡ true → Moves provenance macros s t
      pub free : takes ≡ true → Waits macros s → ⊥
      pub stays : takes ≡ false → s ≡ t

    pub progress-step : {a b : At} {takes : Bool} → Progress provenance macros old new c below later a b takes → b.live ≡ true → (a.live ≡ true → Stands old c below a.view)
        → (a.live ≡ true) × IsStep takes (state_in old below a.view c) (state_in new later b.view c)
    progress-step (rests still same stays) live stands =
        let was = sym still ∙ live in
        (was, record { step = inr (stays was (stands was)).1; moves = λ no. absurd (true≢false (sym no)); free = λ no. absurd (true≢false (sym no)); stays = λ no. (stays was (stands was)).1 })
    progress-step (gone was not same) live stands = absurd (true≢false (sym live ∙ not))
    progress-step (steps was now same free move) live stands = (was, record { step = inl (move (stands was)).1; moves = λ yes. (move (stands was)).1; free = λ yes. free (stands was); stays = λ no. absurd (true≢false no) })
    progress-step (ends end was not same by) live stands = absurd (true≢false (sym live ∙ not))

    module _ (source : List (HiddenToken Place)) where
      -- what waits has put out and left what its state says
      settles-waiting : {out left : List (HiddenToken Place)} {s : State Place} → Opens provenance macros source s → Waits macros s → ((o w : List (HiddenToken Place)) → s ≡ scanning o w → (o ≡ out) × (w ≡ left)) → Settles provenance macros source out left
      settles-waiting opens (open_end.alone o rest t is) told = let q = told o (t ∷ rest) refl in subst (λ (p : List (HiddenToken Place) × List (HiddenToken Place)). Settles provenance macros source p.0 p.1) (λ i. (q.0 i, q.1 i)) (opens-wait provenance macros source o (t ∷ rest) opens (open_end.alone o rest t is))
      settles-waiting opens (open_end.open_call o rest t is) told = let q = told o (t ∷ rest) refl in subst (λ (p : List (HiddenToken Place) × List (HiddenToken Place)). Settles provenance macros source p.0 p.1) (λ i. (q.0 i, q.1 i)) (opens-wait provenance macros source o (t ∷ rest) opens (open_end.open_call o rest t is))

      module _ {out left out2 left2 : List (HiddenToken Place)} where
        told-ends : {s : State Place} {b : At} (was : Ends) (end : End) → Opens provenance macros source s → was ≡ no_end → b.live ≡ false → b.ends ≡ with_end was end → EndsBy provenance macros true s end
            → (b.ends.waiting ≡ true → (out ≡ out2) × (left ≡ left2)) → ((o w : List (HiddenToken Place)) → s ≡ scanning o w → (o ≡ out) × (w ≡ left)) → IsTold source out2 left2 new c later b true
        told-ends {s} was _ opens none not same (refused failure f decided) kept told =
            failed failure not (same ∙ ap (λ e. with_end e (turn.fails failure)) none) (opens-fail provenance macros source s failure opens f (decided refl))
        told-ends was _ opens none not same (held_up all w) kept told =
            let q = kept (ap (λ e. e.waiting) same) in
            waiting not (same ∙ ap (λ e. with_end e turn.waits) none) (subst (λ (p : List (HiddenToken Place) × List (HiddenToken Place)). Settles provenance macros source p.0 p.1) (λ i. (q.0 i, q.1 i)) (settles-waiting opens w told))

        pub told-progress : {a b : At} {started : Bool} (takes : Bool) → Progress provenance macros old new c below later a b takes → (b.ends.waiting ≡ true → (out ≡ out2) × (left ≡ left2))
            → (a.ends ≡ no_end → (o w : List (HiddenToken Place)) → state_in old below a.view c ≡ scanning o w → (o ≡ out) × (w ≡ left)) → IsTold source out left old c below a started → IsTold source out2 left2 new c later b started
        told-progress {a} {b} takes progress kept told (unasked not none) = by takes progress
          where
            by : (t : Bool) → Progress provenance macros old new c below later a b t → IsTold source out2 left2 new c later b false
            by t (rests still same stays) = unasked (still ∙ not) (same ∙ none)
            by t (gone was over_now same) = unasked over_now (same ∙ none)
            by t (steps was now same free move) = absurd (true≢false (sym was ∙ not))
            by t (ends end was over_now same f) = absurd (true≢false (sym was ∙ not))
        told-progress {a} {b} takes progress kept told (failed failure not one holds) = by takes progress
          where
            by : (t : Bool) → Progress provenance macros old new c below later a b t → IsTold source out2 left2 new c later b true
            by t (rests still same stays) = failed failure (still ∙ not) (same ∙ one) holds
            by t (gone was over_now same) = failed failure over_now (same ∙ one) holds
            by t (steps was now same free move) = absurd (true≢false (sym was ∙ not))
            by t (ends end was over_now same f) = absurd (true≢false (sym was ∙ not))
        told-progress {a} {b} takes progress kept told (waiting not one settles) = by takes progress
          where
            still-waits : b.live ≡ false → b.ends ≡ a.ends → IsTold source out2 left2 new c later b true
            still-waits done same = let q = kept (ap (λ e. e.waiting) (same ∙ one)) in waiting done (same ∙ one) (subst (λ (p : List (HiddenToken Place) × List (HiddenToken Place)). Settles provenance macros source p.0 p.1) (λ i. (q.0 i, q.1 i)) settles)

            by : (t : Bool) → Progress provenance macros old new c below later a b t → IsTold source out2 left2 new c later b true
            by t (rests still same stays) = still-waits (still ∙ not) same
            by t (gone was over_now same) = still-waits over_now same
            by t (steps was now same free move) = absurd (true≢false (sym was ∙ not))
            by t (ends end was over_now same f) = absurd (true≢false (sym was ∙ not))
        told-progress {a} {b} takes progress kept told (going live none stands opens) = by takes progress
          where
            by : (t : Bool) → Progress provenance macros old new c below later a b t → IsTold source out2 left2 new c later b true
            by t (rests still same stays) = let l = stays live stands in going (still ∙ live) (same ∙ none) l.0 (subst (Opens provenance macros source) l.1 opens)
            by t (gone was over_now same) = absurd (true≢false (sym live ∙ was))
            by t (steps was now same free move) =
                let l = move stands in
                going now (same ∙ none) l.0 (opens-move provenance macros source (state_in old below a.view c) (state_in new later b.view c) opens l.1 (free stands))
            by t (ends end was not same f) = told-ends a.ends end opens none not same (f stands) kept (told none)
