-- Configurations that expand one name alike take the same tokens of the list, and have the same of
-- what was made after each turn.
use Rattle.std.proofs.Common.{◌≡◌, ◌⊎◌, inl, inr, ℕ, suc, ◌+◌, ◌-◌, ◌<◌, ◌≤◌, Bool, true, false, true≢false, IsTrue, List, [], ◌∷◌, codes, drop, length, map, take, slice_get, Option, None, Some, refl, sym, ap, subst, ◌∙◌, arith, if◌then◌else◌}
use Rattle.sc_expand.proofs.AlikeTaking.{same-call, alike-first}
use Rattle.sc_expand.proofs.AlikeRunning.{seen-first}
use Rattle.sc_expand.proofs.Behind.{below, lower-min}
use Rattle.sc_expand.proofs.Facts.{IsConfig-Keeps, cons-some, length-map, take_all}
use Rattle.sc_expand.proofs.GatherCases.{spellings}
use Rattle.sc_expand.proofs.GatherPlaces.{spelled-behind}
use Rattle.sc_expand.proofs.MachineLemmas.{pending_at, stands-cases, state-top}
use Rattle.sc_expand.proofs.NameRuns.{IsInFront, StateRuns}
use Rattle.sc_expand.proofs.NameUses.{state-looks}
use Rattle.sc_expand.proofs.PhaseSpans.{Defined, closed-takes, function-of, span-count, IsInside, here, inside-span}
use Rattle.sc_expand.proofs.PhaseMoves.{takes-pending}
use Rattle.sc_expand.proofs.Phases.{IsReady, PairStands, Phase, Spans, as_one, bound_of, come_through, last_at, state_now}
use Rattle.sc_expand.proofs.PlainCompletes.{covers-then}
use Rattle.sc_expand.proofs.PlainTurns.{under}
use Rattle.sc_expand.proofs.Rests.{first-is, next-token}
use Rattle.sc_expand.proofs.RunLemmas.{IsRunning, running-stands}
use Rattle.sc_expand.proofs.SpanCalls.{behind-alike, span-bare, span-closed, span-opened}
use Rattle.sc_expand.proofs.Terms.{Agree, AreAlike, Call, CallEnd, CallNextAlike, Cond, DefineNextAlike, Definition, Enclosing, Expansion, Frame, Grows, Hidden, HiddenToken, IsAlikeExpansion, IsConfig, IsFirstIn, IsFunctionLike, IsHeldExpansion, IsPending, IsSameCall, IsTurned, IsWithin, Macros, Others, Place, Stores, TakesName, alone, bare, behind_at, bottom, bottom_by, call_end, call_end_at, call_length, calls_at, closed, is_function_like, is_looked_up, items_at, lower_of, of_item, others_at, provenance_of, same_bytes, scanning, seen_at, seen_hidden, spelled_at, state_by, state_in, still, text_at, text_of, tokens_in, view_at}
use Rattle.sc_expand.specs.FootprintSteps as footprint

-- ---- the first token

some-first : {A : Type 0} (list : List A) (x : A) → slice_get list 0 ≡ Some x → list ≡ [] → ⊥
some-first [] x first none = cc
some-first (y ∷ ys) x first none = cc

some-long : {A : Type 0} (list : List A) (x : A) → slice_get list 0 ≡ Some x → 0 < length list
some-long [] x first = absurd (cc)
some-long (y ∷ ys) x first = omega arith

-- the next turn takes a name for the configuration, or it doesn't
takes-name-or : (st : Stores) (macros : Macros) (e : Expansion) (c : List ℕ) → TakesName st macros e c ⊎ (TakesName st macros e c → ⊥)
takes-name-or st macros e c = first (slice_get e.top.work 0) refl
  where
    Named : Type 0
    Named = TakesName st macros e c ⊎ (TakesName st macros e c → ⊥)

    is-item : {item other : Cond × Hidden} → slice_get e.top.work 0 ≡ Some item → slice_get e.top.work 0 ≡ Some other → other ≡ item
    is-item {item} {other} one two = let both : Some other ≡ Some item = sym two ∙ one in cc

    like : (o : Option Definition) → IsFunctionLike o ⊎ (IsFunctionLike o → ⊥)
    like None = inr (λ no. no)
    like (Some d) = by (is_function_like d.form)
      where
        by : (b : Bool) → IsTrue b ⊎ (IsTrue b → ⊥)
        by true = inl refl
        by false = inr (λ no. true≢false (sym no))

    formed : (item : Cond × Hidden) → slice_get e.top.work 0 ≡ Some item → e.top.calls.items ≡ [] → st.sets.has item.0.0 c ≡ true → st.sets.has e.refusals.live.0 c ≡ true → is_looked_up (seen_hidden st.names st.hides item.1) ≡ true
        → IsFunctionLike (macros (text_of st.names item.1.token.spelling)) ⊎ (IsFunctionLike (macros (text_of st.names item.1.token.spelling)) → ⊥) → Named
    formed item is none has live looks (inl function) = inl (record { item = item; first = is; calls = none; has = has; live = live; looked_up = looks; function = function })
    formed item is none has live looks (inr not) = inr (λ x. not (subst (λ (y : Cond × Hidden). IsFunctionLike (macros (text_of st.names y.1.token.spelling))) (is-item is x.first) x.function))

    looked : (item : Cond × Hidden) → slice_get e.top.work 0 ≡ Some item → e.top.calls.items ≡ [] → st.sets.has item.0.0 c ≡ true → st.sets.has e.refusals.live.0 c ≡ true → (b : Bool) → is_looked_up (seen_hidden st.names st.hides item.1) ≡ b → Named
    looked item is none has live true looks = formed item is none has live looks (like (macros (text_of st.names item.1.token.spelling)))
    looked item is none has live false not = inr (λ x. true≢false (sym x.looked_up ∙ (ap (λ (y : Cond × Hidden). is_looked_up (seen_hidden st.names st.hides y.1)) (is-item is x.first) ∙ not)))

    lives : (item : Cond × Hidden) → slice_get e.top.work 0 ≡ Some item → e.top.calls.items ≡ [] → st.sets.has item.0.0 c ≡ true → (b : Bool) → st.sets.has e.refusals.live.0 c ≡ b → Named
    lives item is none has true live = looked item is none has live (is_looked_up (seen_hidden st.names st.hides item.1)) refl
    lives item is none has false not = inr (λ x. true≢false (sym x.live ∙ not))

    had : (item : Cond × Hidden) → slice_get e.top.work 0 ≡ Some item → e.top.calls.items ≡ [] → (b : Bool) → st.sets.has item.0.0 c ≡ b → Named
    had item is none true has = lives item is none has (st.sets.has e.refusals.live.0 c) refl
    had item is none false not = inr (λ x. true≢false (sym x.has ∙ (ap (λ (y : Cond × Hidden). st.sets.has y.0.0 c) (is-item is x.first) ∙ not)))

    called : (item : Cond × Hidden) → slice_get e.top.work 0 ≡ Some item → (ks : List Call) → e.top.calls.items ≡ ks → Named
    called item is [] none = had item is none (st.sets.has item.0.0 c) refl
    called item is (k ∷ ks) some = inr (λ x. (let both : k ∷ ks ≡ [] = sym some ∙ x.calls in cc))

    first : (o : Option (Cond × Hidden)) → slice_get e.top.work 0 ≡ o → Named
    first None is = inr (λ x. (let both : None ≡ Some x.item = sym is ∙ x.first in cc))
    first (Some item) is = called item is e.top.calls.items refl

-- ---- a name of the whole list is next

module _ (files : List (List ℕ)) (macros : List ℕ → Macros) (names : List (List ℕ)) (within : (c : List ℕ) → IsWithin names (macros c)) where
  -- the whole list is on top, and the configuration's name stands first
  module _ (now : Stores) (e : Expansion) (no_below : e.below.items ≡ []) (n bound : ℕ) (few : suc n ≤ length e.top.work) (c : List ℕ) (x : TakesName now (macros c) e c)
      (looks : List (List ℕ)) (inside : IsInside files macros now e n bound looks c) where
    abbrev pub t : HiddenToken Place
    t = seen_hidden now.names now.hides x.item.1

    abbrev pub out : List (HiddenToken Place)
    out = seen_at now e.top.out c

    abbrev pub rest : List (HiddenToken Place)
    rest = seen_at now (drop 1 e.top.work) c

    pub at_top : bottom e ≡ e.top
    at_top = ap (λ os. bottom_by os e.top) no_below

    pub state : state_now now e c ≡ scanning out (t ∷ rest)
    state =
        let work = seen-first now c e.top.work x.item x.first x.has in
        let calls : calls_at now e.top.calls.items c ≡ [] = ap (λ l. calls_at now l c) x.calls in
        ap (λ os. state_in now os (view_at now e.top c) c) no_below ∙ (λ i. state_by out (work i) (calls i))

    pub defined : Defined (macros c t.spelling)
    defined = function-of (macros c t.spelling) x.function

    pub spelled : spelled_at now.sets now.names (drop 1 (tokens_in e.top.work)) c ≡ spellings rest
    spelled = spelled-behind now.names now.sets c now.hides e.top.work

    lower : suc (lower_of bound n) ≤ length e.top.work
    lower = omega (arith, lower-min bound n, few)

    -- what the configuration has behind the name stands in the span or behind it
    pub parts : length (items_at now.sets (drop 1 (take (length e.top.work - lower_of bound n) e.top.work)) c) + length (below (lower_of bound n) (behind_at now.sets (bottom e).work c)) ≡ length rest
    parts =
        ap (λ (frame : Frame). length (items_at now.sets (drop 1 (take (length e.top.work - lower_of bound n) e.top.work)) c) + length (below (lower_of bound n) (behind_at now.sets frame.work c))) at_top
        ∙ (span-count now.sets c (lower_of bound n) e.top.work lower ∙ sym (length-map (items_at now.sets (drop 1 e.top.work) c) (seen_hidden now.names now.hides)))

    -- who has the same of what the name takes has the same call
    pub closed-in : (d : List ℕ) → AreAlike now.sets c d (take (length e.top.work - lower_of bound n) e.top.work) → call_end_at now.sets now.names (tokens_in e.top.work) 0 c ≡ closed
        → IsSameCall now.sets now.names c d e.top.work
    closed-in d alike is =
        let work = ap footprint.bottom state in
        let some = subst (λ s. IsInFront s inside.front) state inside.some in
        let runs = subst (λ s. StateRuns (provenance_of files) (macros c) inside.left s inside.done inside.end inside.uses) state inside.runs in
        let takes = closed-takes (provenance_of files) (macros c) out rest t defined x.looked_up inside.left inside.front (length (below (lower_of bound n) (behind_at now.sets (bottom e).work c))) (sym work ∙ inside.bottom_is) some runs inside.beyond (ap call_end (sym spelled) ∙ is) in
        let count = ap call_length spelled in
        span-closed now.sets c d now.names (length e.top.work - lower_of bound n) e.top.work alike (omega (arith, lower)) is (omega (arith, takes, count, parts))

  -- ---- two configurations of a phase

  module _ {old now : Stores} {was e : Expansion} (grows : Grows old now) (r : IsRunning files macros old now was e) (began : IsHeldExpansion old (length files) was) (phase : Phase files macros old now was e) (ready : IsReady files macros phase) where
    -- what they need not have alike
    abbrev pub others_of : ℕ → Others
    others_of size = record { behind = lower_of (bound_of was phase.at size) phase.n; out = phase.outs; faults = phase.faults }

    enough : {c : List ℕ} → e.below.items ≡ [] → TakesName now (macros c) e c → suc phase.n ≤ length e.top.work
    enough no_below x = ready.below no_below x.calls (λ none. some-first e.top.work x.item x.first none)

    -- who has the token that is taken next is in the name's expansion
    first-pending : (c : List ℕ) → IsConfig old.sets.arities c → (new : Stores) (after : Expansion) (other : List ℕ → Macros) → ((c : List ℕ) → IsConfig old.sets.arities c → other c ≡ macros c) → {went : Bool} (turned : IsTurned files other now new e after went)
        → (item : Cond × Hidden) → slice_get e.top.work 0 ≡ Some item → e.top.calls.items ≡ [] → now.sets.has item.0.0 c ≡ true → now.sets.has e.refusals.live.0 c ≡ true → IsPending (state_now now e c) (last_at now e phase.n c)
    first-pending c p new after other same turned item first none has live =
        takes-pending files macros grows r began phase ready c (turned.takes c) (λ cond next. turned.which cond next c)
        (turned.which item.0 (next-token e item (drop 1 e.top.work) none (first-is e.top.work item first)) c ∙ has) (running-stands grows r c p live) (λ ended. some-first e.top.work item first ended.work)

    module _ (size : ℕ) (c d : List ℕ) (p : IsConfig old.sets.arities c) (q : IsConfig old.sets.arities d) (span : Spans files macros old was phase.at size c d) where
      -- who have not come through it have the same of all that was made
      pub pair-alike : now.sets.has e.refusals.live.0 c ≡ true → now.sets.has e.refusals.live.0 d ≡ true → IsPending (state_now now e c) (last_at now e phase.n c) → IsPending (state_now now e d) (last_at now e phase.n d)
          → IsAlikeExpansion now.sets c d (others_of size) e
      pair-alike live live_other pending pending_other =
          by (phase.pairs size c d p q span (here names within phase c p live pending).came_is (here names within phase d q live_other pending_other).came_is)
        where
          by : PairStands now e (others_of size) phase.n phase.outs (of_item phase.at phase.kept) c d → IsAlikeExpansion now.sets c d (others_of size) e
          by (as_one all of) = all
          by (come_through x y is) = absurd (x.rests live pending)

      module _ (alike-now : IsAlikeExpansion now.sets c d (others_of size) e) where
        in-span : e.below.items ≡ [] → AreAlike now.sets c d (take (length e.top.work - (others_of size).behind) e.top.work)
        in-span no_below = subst (λ (os : List Enclosing). AreAlike now.sets c d (take (length e.top.work - (others_at (others_of size) (length os)).behind) e.top.work)) no_below alike-now.top.work

        in-whole : (o : Enclosing) (os : List Enclosing) → e.below.items ≡ o ∷ os → AreAlike now.sets c d e.top.work
        in-whole o os at =
            let some = subst (λ (os : List Enclosing). AreAlike now.sets c d (take (length e.top.work - (others_at (others_of size) (length os)).behind) e.top.work)) at alike-now.top.work in
            subst (AreAlike now.sets c d) (take_all (length e.top.work - 0) e.top.work (omega arith)) some

        -- the token that is taken next is none of their own that stands behind the span
        pub first-in : IsFirstIn (others_of size) e
        first-in = record { is = λ item first none. by e.below.items refl item first none }
          where
            by : (os : List Enclosing) → e.below.items ≡ os → (item : Cond × Hidden) → slice_get e.top.work 0 ≡ Some item → e.top.calls.items ≡ [] → (others_at (others_of size) (length e.below.items)).behind < length e.top.work
            by [] at item first none =
                let few : suc phase.n ≤ length e.top.work = ready.below at none (λ empty. some-first e.top.work item first empty) in
                let least = lower-min (bound_of was phase.at size) phase.n in
                subst (λ (os : List Enclosing). (others_at (others_of size) (length os)).behind < length e.top.work) (sym at) (omega (arith, few, least))
            by (o ∷ os) at item first none = subst (λ (os : List Enclosing). (others_at (others_of size) (length os)).behind < length e.top.work) (sym at) (some-long e.top.work item first)

        -- both have it
        pub first-both : (item : Cond × Hidden) → slice_get e.top.work 0 ≡ Some item → e.top.calls.items ≡ [] → now.sets.has item.0.0 c ≡ now.sets.has item.0.0 d
        first-both item first none = alike-first now.sets c d (others_at (others_of size) (length e.below.items)).behind e.top.work item first (first-in.is item first none) alike-now.top.work

        module _ (live : now.sets.has e.refusals.live.0 c ≡ true) (pending : IsPending (state_now now e c) (last_at now e phase.n c)) where
          inside : IsInside files macros now e phase.n (bound_of was phase.at size) span.one.uses.looked_up c
          inside = inside-span names within phase c p live pending size span.one span.one_within

          -- who has the name that stands first, and closes its call, has the call of the other
          pub same-called : TakesName now (macros c) e c → call_end_at now.sets now.names (tokens_in e.top.work) 0 c ≡ closed → IsSameCall now.sets now.names c d e.top.work
          same-called x is = by e.below.items refl
            where
              by : (os : List Enclosing) → e.below.items ≡ os → IsSameCall now.sets now.names c d e.top.work
              by [] at = closed-in now e at phase.n (bound_of was phase.at size) (enough at x) c x span.one.uses.looked_up inside d (in-span at) is
              by (o ∷ os) at = same-call e.top.work (in-whole o os at)

          -- both define the name alike that is looked up next
          defines-next : DefineNextAlike now (macros c) (macros d) c e
          defines-next = record {
            same = λ item first none has alive looks.
                let t = seen_hidden now.names now.hides item.1 in
                let out = seen_at now e.top.out c in
                let rest = seen_at now (drop 1 e.top.work) c in
                let work : seen_at now e.top.work c ≡ t ∷ rest = seen-first now c e.top.work item first has in
                let calls : calls_at now e.top.calls.items c ≡ [] = ap (λ l. calls_at now l c) none in
                elim (stands-cases now c (running-stands grows r c p live)) [
                  | inl top ↦
                      let below = map (pending_at now c) e.below.items in
                      let state : state_now now e c ≡ under below (scanning out (t ∷ rest)) = state-top now c (view_at now e.top c) top.0 ∙ ap (under below) (λ i. state_by out (work i) (calls i)) in
                      let first = state-looks (provenance_of files) (macros c) below inside.left inside.front out rest t (ap footprint.bottom (sym state) ∙ inside.bottom_is) (subst (λ s. IsInFront s inside.front) state inside.some)
                      (subst (λ s. StateRuns (provenance_of files) (macros c) inside.left s inside.done inside.end inside.uses) state inside.runs) in
                      let both = (covers-then inside.covers first).agree (macros c) (macros d) span.agree in
                      (subst (λ b. Agree (macros c) (macros d) (if b then t.spelling ∷ [] else [])) looks both).0
                  | inr below ↦ absurd (cons-some t rest (sym work ∙ ap (λ v. v.work) below.1))
                ];
          }

        -- who has the name that stands first of the whole list, and does not close its call
        other-open : (x : TakesName now (macros d) e d) → e.below.items ≡ [] → IsPending (state_now now e d) (last_at now e phase.n d) → (call_end_at now.sets now.names (tokens_in e.top.work) 0 c ≡ closed → ⊥)
            → call_end_at now.sets now.names (tokens_in e.top.work) 0 d ≡ closed → ⊥
        other-open x at pending opens is =
            let inside-other = inside-span names within phase d q x.live pending size span.other span.other_within in
            let both = closed-in now e at phase.n (bound_of was phase.at size) (enough at x) d x span.other.uses.looked_up inside-other c (λ k y h. sym (in-span at k y h)) is in
            opens (sym both.ends ∙ is)

        -- ---- the next turn

        module _ (new : Stores) (after : Expansion) (other : List ℕ → Macros) (same : (c : List ℕ) → IsConfig old.sets.arities c → other c ≡ macros c) {went : Bool} (turned : IsTurned files other now new e after went) where
          defines-all : DefineNextAlike now (macros c) (macros d) c e
          defines-all = record { same = λ item first none has live looks. (defines-next live (first-pending c p new after other same turned item first none has live)).same item first none has live looks }

          -- Nothing of the span is left behind the name, which is all that was made, and no token
          -- of it closes a call.
          pub record IsLast : Type 0 where
            pub one : TakesName now (macros c) e c
            pub two : TakesName now (macros d) e d
            pub whole : e.below.items ≡ []
            pub opens : call_end_at now.sets now.names (tokens_in e.top.work) 0 c ≡ closed → ⊥
            pub opens_other : call_end_at now.sets now.names (tokens_in e.top.work) 0 d ≡ closed → ⊥
            pub none : items_at now.sets (drop 1 (take (length e.top.work - (others_of size).behind) e.top.work)) c ≡ []
            pub none_other : items_at now.sets (drop 1 (take (length e.top.work - (others_of size).behind) e.top.work)) d ≡ []

          takes-other : TakesName now (macros c) e c → TakesName now (macros d) e d
          takes-other x = record {
            item = x.item;
            first = x.first;
            calls = x.calls;
            has = sym (first-both x.item x.first x.calls) ∙ x.has;
            live = sym alike-now.refusals.live ∙ x.live;
            looked_up = x.looked_up;
            function = subst IsFunctionLike (defines-all.same x.item x.first x.calls x.has x.live x.looked_up) x.function;
          }

          name-pending : TakesName now (macros c) e c → IsPending (state_now now e c) (last_at now e phase.n c)
          name-pending x = first-pending c p new after other same turned x.item x.first x.calls x.has x.live

          -- the name that is taken next is called alike, or it is the last
          pub calls-or-last : CallNextAlike now (macros c) c d e ⊎ IsLast
          calls-or-last = by (takes-name-or now (macros c) e c)
            where
              span-long : ℕ
              span-long = length e.top.work - (others_of size).behind

              End : CallEnd → Type 0
              End end = call_end_at now.sets now.names (tokens_in e.top.work) 0 c ≡ end

              opened : (End closed → ⊥) → (call_end_at now.sets now.names (tokens_in e.top.work) 0 d ≡ closed → ⊥) → End closed ⊎ End still
                  → (call_end_at now.sets now.names (tokens_in e.top.work) 0 d ≡ closed) ⊎ (call_end_at now.sets now.names (tokens_in e.top.work) 0 d ≡ still) → IsSameCall now.sets now.names c d e.top.work
              opened opens opens_other (inl is) b = absurd (opens is)
              opened opens opens_other (inr is) (inl b) = absurd (opens_other b)
              opened opens opens_other (inr is) (inr b) = record { ends = is ∙ sym b; places = λ closes. absurd (opens closes) }

              followed : (at : e.below.items ≡ []) → (End closed → ⊥) → (call_end_at now.sets now.names (tokens_in e.top.work) 0 d ≡ closed → ⊥) → (h : Hidden) (hs : List Hidden) → items_at now.sets (drop 1 (take span-long e.top.work)) c ≡ h ∷ hs
                  → (b : Bool) → same_bytes (text_at now.names h.token.spelling.0) (codes "(") ≡ b → IsSameCall now.sets now.names c d e.top.work
              followed at opens opens_other h hs is true paren = let both = span-opened now.sets c d now.names span-long e.top.work h hs (in-span at) is paren in opened opens opens_other both.0 both.1
              followed at opens opens_other h hs is false differs = (span-bare now.sets c d now.names span-long e.top.work h hs (in-span at) is differs).0

              behind : (x : TakesName now (macros c) e c) (at : e.below.items ≡ []) → (End closed → ⊥) → (l : List Hidden) → items_at now.sets (drop 1 (take span-long e.top.work)) c ≡ l → CallNextAlike now (macros c) c d e ⊎ IsLast
              behind x at opens [] is =
                  let y = takes-other x in
                  inr (record {
                    one = x;
                    two = y;
                    whole = at;
                    opens = opens;
                    opens_other = other-open y at (first-pending d q new after other same turned y.item y.first y.calls y.has y.live) opens;
                    none = is;
                    none_other = sym (behind-alike now.sets c d now.names span-long e.top.work (in-span at)) ∙ is;
                  })
              behind x at opens (h ∷ hs) is =
                  let y = takes-other x in
                  inl (record {
                    same = λ z. followed at opens (other-open y at (first-pending d q new after other same turned y.item y.first y.calls y.has y.live) opens) h hs is
                        (same_bytes (text_at now.names h.token.spelling.0) (codes "(")) refl;
                  })

              ends : (x : TakesName now (macros c) e c) (at : e.below.items ≡ []) (end : CallEnd) → End end → CallNextAlike now (macros c) c d e ⊎ IsLast
              ends x at closed is = inl (record { same = λ y. same-called x.live (name-pending x) x is })
              ends x at still is = behind x at (λ closes. (let both : closed ≡ still = sym closes ∙ is in cc)) (items_at now.sets (drop 1 (take span-long e.top.work)) c) refl
              ends x at bare is = behind x at (λ closes. (let both : closed ≡ bare = sym closes ∙ is in cc)) (items_at now.sets (drop 1 (take span-long e.top.work)) c) refl
              ends x at alone is = behind x at (λ closes. (let both : closed ≡ alone = sym closes ∙ is in cc)) (items_at now.sets (drop 1 (take span-long e.top.work)) c) refl

              on : TakesName now (macros c) e c → (os : List Enclosing) → e.below.items ≡ os → CallNextAlike now (macros c) c d e ⊎ IsLast
              on x [] at = ends x at (call_end_at now.sets now.names (tokens_in e.top.work) 0 c) refl
              on x (o ∷ os) at = inl (record { same = λ y. same-call e.top.work (in-whole o os at) })

              by : TakesName now (macros c) e c ⊎ (TakesName now (macros c) e c → ⊥) → CallNextAlike now (macros c) c d e ⊎ IsLast
              by (inl x) = on x e.below.items refl
              by (inr not) = inl (record { same = λ x. absurd (not x) })

          -- where it is called alike both have the same after the turn
          pub alike-after : CallNextAlike now (macros c) c d e → IsAlikeExpansion new.sets c d (others_of size) after
          alike-after calls = turned.alike c d (others_of size) (IsConfig-Keeps grows.sets p) (IsConfig-Keeps grows.sets q)
              (subst (λ m. DefineNextAlike now m (other d) c e) (sym (same c p)) (subst (λ m. DefineNextAlike now (macros c) m c e) (sym (same d q)) defines-all))
              (subst (λ m. CallNextAlike now m c d e) (sym (same c p)) calls) first-in alike-now
