-- An argument of a call is entered, and left, as a step of the whole.
use Rattle.std.proofs.Common.{◌≡◌, ◌⊎◌, inl, inr, ℕ, ◌≤◌, Bool, true, false, true≢false, List, [], ◌∷◌, ◌++◌, All, map, length, length-append, refl, sym, ap, subst, ◌∙◌, arith, if◌then◌else◌}
use Rattle.sc_expand.proofs.Facts.{All-cons, All-head, All-nil, All-push, All-tail, cond-false, cond-true}
use Rattle.sc_expand.proofs.MachineLemmas.{IsBelow, IsOnTop, alone, below-stands, called_in, goes, pending_at, stands-cases, state-top, stops, top-stands}
use Rattle.sc_expand.proofs.PlainSettles.{called-waits, expands-not, under-waits}
use Rattle.sc_expand.proofs.PlainTurns.{move-under, under}
use Rattle.sc_expand.proofs.Terms.{Call, Enclosing, HiddenToken, IsAbsent, Macros, Moves, Place, Provenance, Stands, Stores, View, Waiting, Waits, calls_at, expanding, no_view, scanning, seen_at, state_by, state_in, state_of, view_at, waiting, waiting_at, with_call, with_expanded, without_first}
use Rattle.sc_expand.proofs.KeptLemmas.{never-empty}
use Rattle.sc_expand.specs.Plain as plain

pub last-alone : {A : Type 0} (xs : List A) (x : A) → length (xs ++ x ∷ []) ≤ 1 → xs ≡ []
last-alone [] x few = refl
last-alone (y ∷ ys) x few = absurd (omega (arith, few, length-append ys (x ∷ [])))

-- what it has of an argument: what was put out, and what is left
abbrev pub argument_view : (out work : List (HiddenToken Place)) → View
argument_view out work = record { out = out; work = work; calls = [] }

module _ (st : Stores) (c : List ℕ) where
  pub calls_at-append : (xs ys : List Call) → calls_at st (xs ++ ys) c ≡ calls_at st xs c ++ calls_at st ys c
  calls_at-append [] ys = refl
  calls_at-append (x ∷ xs) ys = by (st.sets.has x.cond.0 c) (calls_at-append xs ys)
    where
      by : (b : Bool) → calls_at st (xs ++ ys) c ≡ calls_at st xs c ++ calls_at st ys c
          → (if b then waiting_at st x c ∷ calls_at st (xs ++ ys) c else calls_at st (xs ++ ys) c) ≡ (if b then waiting_at st x c ∷ calls_at st xs c else calls_at st xs c) ++ calls_at st ys c
      by true e = ap (λ zs. waiting_at st x c ∷ zs) e
      by false e = e

  module _ (e : Enclosing) where
    -- ---- one list more below

    below-stop : {below : List Enclosing} → IsOnTop st c below → st.sets.has e.call.cond.0 c ≡ false → length (calls_at st e.frame.calls.items c) ≤ 1 → IsBelow st c (below ++ e ∷ [])
    below-stop alone not few = stops not few (All-nil (IsAbsent st c))
    below-stop (called_in has none top) not few = goes has none (below-stop top not few)

    top-more : {below : List Enclosing} → IsOnTop st c below → st.sets.has e.call.cond.0 c ≡ true → calls_at st e.frame.calls.items c ≡ [] → IsOnTop st c (below ++ e ∷ [])
    top-more alone has none = called_in has none alone
    top-more (called_in is empty top) has none = called_in is empty (top-more top has none)

    below-more : {below : List Enclosing} → IsBelow st c below → IsAbsent st c e → IsBelow st c (below ++ e ∷ [])
    below-more (stops {es = es} not few absent) gone = stops not few (All-push (IsAbsent st c) es e absent gone)
    below-more (goes has none b) gone = goes has none (below-more b gone)

    state-more : {below : List Enclosing} (v : View) → IsOnTop st c below → state_in st (below ++ e ∷ []) v c ≡ under (map (pending_at st c) below) (state_in st (e ∷ []) v c)
    state-more v alone = refl
    state-more v (called_in {e = b} {es = bs} has none top) =
        cond-true (st.sets.has b.call.cond.0 c) (expanding (seen_at st b.frame.out c) (seen_at st b.frame.work c) (waiting_at st b.call c) b.parameter (state_in st (bs ++ e ∷ []) v c)) (state_of (view_at st b.frame c)) has
        ∙ ap (λ s. expanding (seen_at st b.frame.out c) (seen_at st b.frame.work c) (waiting_at st b.call c) b.parameter s) (state-more v top)

    state-less : {below : List Enclosing} (v w : View) → IsBelow st c below → state_in st (below ++ e ∷ []) v c ≡ state_in st below w c
    state-less v w (stops {e = b} {es = bs} not few absent) =
        cond-false (st.sets.has b.call.cond.0 c) (expanding (seen_at st b.frame.out c) (seen_at st b.frame.work c) (waiting_at st b.call c) b.parameter (state_in st (bs ++ e ∷ []) v c)) (state_of (view_at st b.frame c)) not
        ∙ sym (cond-false (st.sets.has b.call.cond.0 c) (expanding (seen_at st b.frame.out c) (seen_at st b.frame.work c) (waiting_at st b.call c) b.parameter (state_in st bs w c)) (state_of (view_at st b.frame c)) not)
    state-less v w (goes {e = b} {es = bs} has none inner) =
        ap (λ s. if st.sets.has b.call.cond.0 c then expanding (seen_at st b.frame.out c) (seen_at st b.frame.work c) (waiting_at st b.call c) b.parameter s else state_of (view_at st b.frame c))
        (state-less v w inner)

    -- ---- one list less below

    record TopOf (below : List Enclosing) : Type 0 where
      top : IsOnTop st c below
      has : st.sets.has e.call.cond.0 c ≡ true
      none : calls_at st e.frame.calls.items c ≡ []

    top-less : (below : List Enclosing) → IsOnTop st c (below ++ e ∷ []) → TopOf below
    top-less [] (called_in has none top) = record { top = alone; has = has; none = none }
    top-less (b ∷ bs) (called_in has none top) = let less = top-less bs top in record { top = called_in has none less.top; has = less.has; none = less.none }

    record StopsIn (below : List Enclosing) : Type 0 where
      top : IsOnTop st c below
      not : st.sets.has e.call.cond.0 c ≡ false
      few : length (calls_at st e.frame.calls.items c) ≤ 1

    below-less : (below : List Enclosing) → IsBelow st c (below ++ e ∷ []) → StopsIn below ⊎ (IsBelow st c below × IsAbsent st c e)
    below-less [] (stops not few absent) = inl (record { top = alone; not = not; few = few })
    below-less [] (goes has none b) = absurd (nothing b)
      where
        nothing : IsBelow st c [] → ⊥
        nothing b = elim b [ ]
    below-less (b ∷ bs) (stops not few absent) = inr (stops not few (before bs absent), last bs absent)
      where
        before : (bs : List Enclosing) → All (IsAbsent st c) (bs ++ e ∷ []) → All (IsAbsent st c) bs
        before [] absent = All-nil (IsAbsent st c)
        before (b ∷ bs) absent = All-cons (IsAbsent st c) b bs (All-head (IsAbsent st c) b (bs ++ e ∷ []) absent) (before bs (All-tail (IsAbsent st c) b (bs ++ e ∷ []) absent))

        last : (bs : List Enclosing) → All (IsAbsent st c) (bs ++ e ∷ []) → IsAbsent st c e
        last [] absent = All-head (IsAbsent st c) e [] absent
        last (b ∷ bs) absent = last bs (All-tail (IsAbsent st c) b (bs ++ e ∷ []) absent)
    below-less (b ∷ bs) (goes has none inner) = elim (below-less bs inner) [
      | inl h ↦ inl (record { top = called_in has none h.top; not = h.not; few = h.few })
      | inr h ↦ inr (goes has none h.0, h.1)
    ]

    -- ---- steps

    module _ (provenance : Provenance Place) (macros : Macros) (below : List Enclosing) where
      -- a configuration of the call enters its argument
      pub enter-called : (w : Waiting Place) (list : List (HiddenToken Place)) (others : List (ℕ × List (HiddenToken Place))) → st.sets.has e.call.cond.0 c ≡ true
          → w.wanted ≡ (e.parameter, list) ∷ others → waiting_at st e.call c ≡ without_first w others → Stands st c below (with_call (view_at st e.frame c) w)
          → Stands st c (below ++ e ∷ []) (argument_view [] list) × Moves provenance macros (state_in st below (with_call (view_at st e.frame c) w) c) (state_in st (below ++ e ∷ []) (argument_view [] list) c)
      enter-called w list others has wanted is stands = elim (stands-cases st c stands) [
        | inl top ↦ (
            let out = seen_at st e.frame.out c in
            let work = seen_at st e.frame.work c in
            let ps = map (pending_at st c) below in
            let none : calls_at st e.frame.calls.items c ≡ [] = last-alone (calls_at st e.frame.calls.items c) w top.1 in
            let was : state_in st below (with_call (view_at st e.frame c) w) c ≡ under ps (waiting out work w) =
            state-top st c (with_call (view_at st e.frame c) w) top.0 ∙ ap (λ cs. under ps (state_by out work (cs ++ w ∷ []))) none in
            let now : state_in st (below ++ e ∷ []) (argument_view [] list) c ≡ under ps (expanding out work (without_first w others) e.parameter (scanning [] list)) =
            state-more (argument_view [] list) top.0
            ∙ (ap (under ps) (cond-true (st.sets.has e.call.cond.0 c) (expanding out work (waiting_at st e.call c) e.parameter (scanning [] list)) (state_of (view_at st e.frame c)) has)
            ∙ ap (λ k. under ps (expanding out work k e.parameter (scanning [] list))) is) in
            let move = move-under provenance macros ps (waiting out work w) (expanding out work (without_first w others) e.parameter (scanning [] list)) (plain.enter out work list w e.parameter others wanted) in (
              top-stands st c (argument_view [] list) (top-more top.0 has none) (omega arith),
              subst (λ s. Moves provenance macros s (state_in st (below ++ e ∷ []) (argument_view [] list) c)) (sym was) (subst (Moves provenance macros (under ps (waiting out work w))) (sym now) move),
            ))
        | inr b ↦ absurd (never-empty (calls_at st e.frame.calls.items c) w (ap (λ v. v.calls) b.1))
      ]

      -- another configuration stays where it stands
      pub enter-other : st.sets.has e.call.cond.0 c ≡ false → Stands st c below (view_at st e.frame c)
          → Stands st c (below ++ e ∷ []) no_view × (state_in st below (view_at st e.frame c) c ≡ state_in st (below ++ e ∷ []) no_view c)
      enter-other not stands = elim (stands-cases st c stands) [
        | inl top ↦ (
            let ps = map (pending_at st c) below in
            let stop = below-stop top.0 not top.1 in
            let choice = cond-false (st.sets.has e.call.cond.0 c) (expanding (seen_at st e.frame.out c) (seen_at st e.frame.work c) (waiting_at st e.call c) e.parameter (scanning [] [])) (state_of (view_at st e.frame c)) not in
            (below-stands st c no_view stop refl, state-top st c (view_at st e.frame c) top.0 ∙ (ap (under ps) (sym choice) ∙ sym (state-more no_view top.0))))
        | inr b ↦ (below-stands st c no_view (below-more b.0 (record { view = b.1; call = not })) refl, sym (state-less no_view (view_at st e.frame c) b.0))
      ]

      -- a configuration of the call leaves its argument
      pub leave-called : (w : Waiting Place) (list : List (HiddenToken Place)) → st.sets.has e.call.cond.0 c ≡ true → w ≡ with_expanded (waiting_at st e.call c) e.parameter list
          → Stands st c (below ++ e ∷ []) (argument_view list [])
          → Stands st c below (with_call (view_at st e.frame c) w) × Moves provenance macros (state_in st (below ++ e ∷ []) (argument_view list []) c) (state_in st below (with_call (view_at st e.frame c) w) c)
      leave-called w list has is stands = elim (stands-cases st c stands) [
        | inl whole ↦ (
            let out = seen_at st e.frame.out c in
            let work = seen_at st e.frame.work c in
            let ps = map (pending_at st c) below in
            let less = top-less below whole.0 in
            let was : state_in st (below ++ e ∷ []) (argument_view list []) c ≡ under ps (expanding out work (waiting_at st e.call c) e.parameter (scanning list [])) =
            state-more (argument_view list []) less.top
            ∙ ap (under ps) (cond-true (st.sets.has e.call.cond.0 c) (expanding out work (waiting_at st e.call c) e.parameter (scanning list [])) (state_of (view_at st e.frame c)) has) in
            let now : state_in st below (with_call (view_at st e.frame c) w) c ≡ under ps (waiting out work (with_expanded (waiting_at st e.call c) e.parameter list)) =
            state-top st c (with_call (view_at st e.frame c) w) less.top ∙ (ap (λ cs. under ps (state_by out work (cs ++ w ∷ []))) less.none ∙ ap (λ k. under ps (waiting out work k)) is) in
            let move = move-under provenance macros ps (expanding out work (waiting_at st e.call c) e.parameter (scanning list [])) (waiting out work (with_expanded (waiting_at st e.call c) e.parameter list))
            (plain.leave out work list (waiting_at st e.call c) e.parameter) in (
              top-stands st c (with_call (view_at st e.frame c) w) less.top (subst (λ cs. length (cs ++ w ∷ []) ≤ 1) (sym less.none) (omega arith)),
              subst (λ s. Moves provenance macros s (state_in st below (with_call (view_at st e.frame c) w) c)) (sym was)
                  (subst (Moves provenance macros (under ps (expanding out work (waiting_at st e.call c) e.parameter (scanning list [])))) (sym now) move),
            ))
        | inr b ↦ elim (below-less below b.0) [
          | inl stop ↦ absurd (true≢false (sym has ∙ stop.not))
          | inr gone ↦ absurd (true≢false (sym has ∙ gone.1.call))
        ]
      ]

      -- another configuration stays where it stands
      pub leave-other : (v : View) → st.sets.has e.call.cond.0 c ≡ false → Stands st c (below ++ e ∷ []) v
          → Stands st c below (view_at st e.frame c) × (state_in st (below ++ e ∷ []) v c ≡ state_in st below (view_at st e.frame c) c)
      leave-other v not stands = elim (stands-cases st c stands) [
        | inl whole ↦ absurd (true≢false (sym (top-less below whole.0).has ∙ not))
        | inr b ↦ elim (below-less below b.0) [
          | inl stop ↦ (
              let ps = map (pending_at st c) below in
              let choice = cond-false (st.sets.has e.call.cond.0 c) (expanding (seen_at st e.frame.out c) (seen_at st e.frame.work c) (waiting_at st e.call c) e.parameter (state_of v)) (state_of (view_at st e.frame c)) not in
              (top-stands st c (view_at st e.frame c) stop.top stop.few, state-more v stop.top ∙ (ap (under ps) choice ∙ sym (state-top st c (view_at st e.frame c) stop.top))))
          | inr gone ↦ (below-stands st c (view_at st e.frame c) gone.0 gone.1.view, state-less v (view_at st e.frame c) gone.0)
        ]
      ]

      -- what follows the list doesn't decide how the call goes on, or its argument
      pub called-decides : (v : View) (w : Waiting Place) → Stands st c below (with_call v w) → Waits macros (state_in st below (with_call v w) c) → ⊥
      called-decides v w stands waits = elim (stands-cases st c stands) [
        | inl top ↦ under-waits (map (pending_at st c) below) (state_of (with_call v w)) (called-waits v.out v.work v.calls w) (subst (Waits macros) (state-top st c (with_call v w) top.0) waits)
        | inr b ↦ absurd (never-empty v.calls w (ap (λ v. v.calls) b.1))
      ]

      pub argument-decides : (v : View) → st.sets.has e.call.cond.0 c ≡ true → Stands st c (below ++ e ∷ []) v → Waits macros (state_in st (below ++ e ∷ []) v c) → ⊥
      argument-decides v has stands waits = elim (stands-cases st c stands) [
        | inl whole ↦ inside-waits below (subst (Waits macros) (state-top st c v whole.0) waits)
        | inr b ↦ elim (below-less below b.0) [
          | inl stop ↦ absurd (true≢false (sym has ∙ stop.not))
          | inr gone ↦ absurd (true≢false (sym has ∙ gone.1.call))
        ]
      ]
        where
          inside-waits : (bs : List Enclosing) → Waits macros (under (map (pending_at st c) (bs ++ e ∷ [])) (state_of v)) → ⊥
          inside-waits [] w = expands-not w
          inside-waits (b ∷ bs) w = expands-not w
