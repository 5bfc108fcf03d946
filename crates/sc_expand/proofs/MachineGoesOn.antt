-- A call that goes on, as a step of the whole: its next argument is entered, or it is replaced.
use Rattle.std.proofs.Common.{◌≡◌, ℕ, ◌&&◌, Bool, true, false, true≢false, List, [], ◌∷◌, ◌++◌, All, map, reverse, refl, sym, ap, subst, ◌∙◌, Option, option_to_list, if◌then◌else◌, ◌≤◌, not, length, Ok, Err, arith, append-nil}
use Rattle.sc_expand.proofs.Facts.{All-cons, All-head, All-nil, All-pop, All-push, All-tail, items_at-under, reverse-append, IsConfig-Keeps, and-false, and-true, All-set, map-set}
use Rattle.sc_expand.proofs.MachineCalls.{argument_view, called-decides, enter-called, enter-other, argument-decides, calls_at-append, leave-called, leave-other}
use Rattle.sc_expand.proofs.MachineLemmas.{Stands-Grows, state_in-Grows, turn-progress}
use Rattle.sc_expand.proofs.PlainSettles.{waits-not}
use Rattle.sc_expand.proofs.SeenLemmas.{AreHeld-nil, ends_at-Grows, view_at-Grows, waiting_at-Grows, calls_at-Grows, seen_at-Grows, seen_at-append}
use Rattle.sc_expand.proofs.Terms.{AreHeld, Call, Cond, Enclosing, Expansion, Grows, HasEntered, Hidden, Hide, IsCond, IsConfig, IsHeldCall, IsHeldEnclosing, IsHeldExpansion, IsHeldRefusals, IsHeldSet, IsHeldTemplate, IsHeldToken, Macros, Moves, Place, Progress, Provenance, Stands, Stores, Wanted, at, at_call, calls_at, ends_at, gone, is_whole, no_view, rests, seen_at, seen_hidden, seen_list, seen_wanted, state_in, steps, view_at, waiting_at, with_call, without_first, Cause, Denotes, Fails, Failure, Part, Waits, filled_in, hide_at, hiding, provenance_of, replacement_of, result_map, scanning, seen_part, seen_template, state_by, state_of, waiting, with_space, IsResumed, with_expanded}
use Rattle.sc_expand.specs.Plain as plain
use Rattle.sc_expand.specs.Turn as turns
use Rattle.sc_expand.specs.Turn.{At, Turn, moved, over, passed, ended, fails, refused, with_end}

-- none was refused, and none has begun to wait
module _ {old new : Stores} (grows : Grows old new) {files : ℕ} (e after : Expansion) (held : IsHeldExpansion old files e) (refusals : after.refusals ≡ e.refusals) {c : List ℕ} (listed : IsConfig old.sets.arities c) where
  same-live : new.sets.has after.refusals.live.0 c ≡ old.sets.has e.refusals.live.0 c
  same-live = ap (λ r. new.sets.has r.live.0 c) refusals ∙ grows.sets.at e.refusals.live.0 c held.refusals.live listed

  same-ends : ends_at new.sets after.refusals c ≡ ends_at old.sets e.refusals c
  same-ends = ap (λ r. ends_at new.sets r c) refusals ∙ ends_at-Grows grows c listed e.refusals held.refusals

module _ (provenance : Provenance Place) (macros : Macros) {old new : Stores} (grows : Grows old new) (files : ℕ) (c : List ℕ) (listed : IsConfig old.sets.arities c) where
  -- what was refused does not matter
  pub replaced-progress : (below : List Enclosing) → All (IsHeldEnclosing old files) below → (a other b : At) (takes took : Bool) → Turn provenance macros other b took → other.live ≡ a.live → other.whole ≡ a.whole → other.ends ≡ a.ends
      → a.whole ≡ is_whole below → (a.live ≡ true → (other.view ≡ a.view) × (took ≡ takes)) → Progress provenance macros old new c below below a b takes
  replaced-progress below held a other b takes took turn live opens failures whole same = by a.live refl
    where
      refused-was : Turn provenance macros other b took → a.live ≡ false → Progress provenance macros old new c below below a b takes
      refused-was turn not = is took turn
        where
          is : (t : Bool) → Turn provenance macros other b t → Progress provenance macros old new c below below a b takes
          is t (passed still fs view) = gone not (still ∙ (live ∙ not)) (fs ∙ failures)
          is t (over was dead fs) = gone not dead (fs ∙ failures)
          is t (moved was now fs free m few) = absurd (true≢false (sym was ∙ (live ∙ not)))
          is t (turns.ended end was dead fs f) = absurd (true≢false (sym was ∙ (live ∙ not)))

      by : (l : Bool) → a.live ≡ l → Progress provenance macros old new c below below a b takes
      by false not = refused-was turn not
      by true is =
          let both = same is in
          let path : other ≡ a = λ i. record { live = live i; whole = opens i; view = both.0 i; ends = failures i } in
          turn-progress provenance macros grows files c listed below held whole (subst (Turn provenance macros a b) both.1 (subst (λ o. Turn provenance macros o b took) path turn))

  module _ (e after : Expansion) (call later : Call) (w : Wanted) (ws : List Wanted) (held : IsHeldExpansion old files e) (held_call : IsHeldCall old files call)
      (cond : new.sets.has later.cond.0 c ≡ (old.sets.has call.cond.0 c && old.sets.has e.refusals.live.0 c))
      (popped : call.wanted.items ≡ ws ++ w ∷ []) (is : waiting_at new later c ≡ without_first (waiting_at new call c) (map (seen_wanted new) (reverse ws)))
      (refusals : after.refusals ≡ e.refusals) (entered : HasEntered e after later w) where
    abbrev enclosing : Enclosing
    enclosing = record { frame = e.top; call = later; parameter = w.parameter }

    chosen : (b : Bool) (list : List Hidden) → new.sets.has later.cond.0 c ≡ b → seen_at new (map (λ (t : Hidden). (later.cond, t)) list) c ≡ map (seen_hidden new.names new.hides) (if b then list else [])
    chosen b list known = ap (map (seen_hidden new.names new.hides)) (items_at-under new.sets later.cond list c ∙ ap (λ h. if h then list else []) known)

    top_is : (b : Bool) → new.sets.has later.cond.0 c ≡ b → view_at new after.top c ≡ argument_view [] (map (seen_hidden new.names new.hides) (if b then w.tokens else []))
    top_is b known =
        let first = ap (λ l. seen_at new l c) entered.out in
        let second = ap (λ l. seen_at new l c) entered.work ∙ chosen b w.tokens known in
        let third = ap (λ l. calls_at new l c) entered.calls in
        λ i. record { out = first i; work = second i; calls = third i }

    pub entered-progress : Progress provenance macros old new c e.below.items after.below.items (at_call old e call c) (at new after c) (old.sets.has call.cond.0 c)
    entered-progress = by (old.sets.has e.refusals.live.0 c) (old.sets.has call.cond.0 c) refl refl
      where
        by : (l b : Bool) → old.sets.has e.refusals.live.0 c ≡ l → old.sets.has call.cond.0 c ≡ b
            → Progress provenance macros old new c e.below.items after.below.items (record (at old e c) { view = if b then with_call (view_at old e.top c) (waiting_at old call c) else view_at old e.top c }) (at new after c) b
        by false b not known = gone not (same-live grows e after held refusals listed ∙ not) (same-ends grows e after held refusals listed)
        by true true live has = steps live (same-live grows e after held refusals listed ∙ live) (same-ends grows e after held refusals listed) (λ stands w. called-decides old c enclosing provenance macros e.below.items (view_at old e.top c) (waiting_at old call c) stands w) (λ stands.
            let narrowed : new.sets.has later.cond.0 c ≡ true = cond ∙ (ap (λ h. h && old.sets.has e.refusals.live.0 c) has ∙ live) in
            let top = view_at-Grows grows c listed e.top held.top in
            let call_is = waiting_at-Grows grows c listed call held_call in
            let view : with_call (view_at new e.top c) (waiting_at new call c) ≡ with_call (view_at old e.top c) (waiting_at old call c) = λ i. with_call (top i) (call_is i) in
            let there = subst (Stands new c e.below.items) (sym view) (Stands-Grows grows files c listed held.below stands) in
            let first : (waiting_at new call c).wanted ≡ (w.parameter, seen_list new.names new.hides w.tokens) ∷ map (seen_wanted new) (reverse ws) =
            ap (λ l. map (seen_wanted new) (reverse l)) popped ∙ ap (map (seen_wanted new)) (reverse-append ws (w ∷ [])) in
            let r = enter-called new c enclosing provenance macros e.below.items (waiting_at new call c) (seen_list new.names new.hides w.tokens) (map (seen_wanted new) (reverse ws)) narrowed first is there in
            let was : state_in new e.below.items (with_call (view_at new e.top c) (waiting_at new call c)) c ≡ state_in old e.below.items (with_call (view_at old e.top c) (waiting_at old call c)) c =
            ap (λ v. state_in new e.below.items v c) view ∙ state_in-Grows grows files c listed e.below.items (with_call (view_at old e.top c) (waiting_at old call c)) held.below in
            let now = top_is true narrowed in (
              subst (λ v. Stands new c after.below.items v) (sym now) (subst (λ l. Stands new c l (argument_view [] (seen_list new.names new.hides w.tokens))) (sym entered.below) r.0),
              subst (λ v. Moves provenance macros (state_in old e.below.items (with_call (view_at old e.top c) (waiting_at old call c)) c) (state_in new after.below.items v c)) (sym now)
                  (subst (λ l. Moves provenance macros (state_in old e.below.items (with_call (view_at old e.top c) (waiting_at old call c)) c) (state_in new l (argument_view [] (seen_list new.names new.hides w.tokens)) c)) (sym entered.below)
                  (subst (λ s. Moves provenance macros s (state_in new (e.below.items ++ enclosing ∷ []) (argument_view [] (seen_list new.names new.hides w.tokens)) c)) was r.1)),
            ))
        by true false live absent = rests (same-live grows e after held refusals listed) (same-ends grows e after held refusals listed) (λ l stands.
            let narrowed : new.sets.has later.cond.0 c ≡ false = cond ∙ ap (λ h. h && old.sets.has e.refusals.live.0 c) absent in
            let top = view_at-Grows grows c listed e.top held.top in
            let there = subst (Stands new c e.below.items) (sym top) (Stands-Grows grows files c listed held.below stands) in
            let r = enter-other new c enclosing provenance macros e.below.items narrowed there in
            let was : state_in new e.below.items (view_at new e.top c) c ≡ state_in old e.below.items (view_at old e.top c) c =
            ap (λ v. state_in new e.below.items v c) top ∙ state_in-Grows grows files c listed e.below.items (view_at old e.top c) held.below in
            let now = top_is false narrowed in (
              subst (λ v. Stands new c after.below.items v) (sym now) (subst (λ l. Stands new c l no_view) (sym entered.below) r.0),
              sym was ∙ (r.1 ∙ (ap (λ l. state_in new l no_view c) (sym entered.below) ∙ ap (λ v. state_in new after.below.items v c) (sym now))),
            ))

-- ---- what is held

under-held : {st : Stores} {files : ℕ} (cond : Cond) (list : List Hidden) → IsCond st.sets cond.0 → All (IsHeldToken st files) list → AreHeld st files (map (λ (t : Hidden). (cond, t)) list)
under-held {st} {files} cond [] own held = AreHeld-nil st files
under-held {st} {files} cond (t ∷ ts) own held =
    let rest = under-held cond ts own (All-tail (IsHeldToken st files) t ts held) in
    record {
      own = All-cons (λ (item : Cond × Hidden). IsCond st.sets item.0.0) (cond, t) (map (λ (t : Hidden). (cond, t)) ts) own rest.own;
      held = All-cons (λ (item : Cond × Hidden). IsHeldToken st files item.1) (cond, t) (map (λ (t : Hidden). (cond, t)) ts) (All-head (IsHeldToken st files) t ts held) rest.held;
    }

-- a call under another condition, of which an argument was taken
pub later-held : {st : Stores} {files : ℕ} (call later : Call) (r : Option Wanted) → IsHeldCall st files call → IsCond st.sets later.cond.0 → call.wanted.items ≡ later.wanted.items ++ option_to_list r
    → later.head ≡ call.head → later.hide ≡ call.hide → later.template ≡ call.template → later.expanded ≡ call.expanded → IsHeldCall st files later
later-held {st} {files} call later r held own popped head hide template expanded = record {
  own = own;
  head = subst (IsHeldToken st files) (sym head) held.head;
  hide = subst (λ h. IsHeldSet st.names st.hides h) (sym (ap (λ (h : Hide). h.0) hide)) held.hide;
  template = subst (IsHeldTemplate st files) (sym template) held.template;
  wanted = (All-pop (λ (w : Wanted). All (IsHeldToken st files) w.tokens) call.wanted.items later.wanted.items r popped held.wanted).0;
  expanded = subst (λ l. All (AreHeld st files) l) (sym (ap (λ v. v.items) expanded)) held.expanded;
}

pub entered-held : (st : Stores) (files : ℕ) (e after : Expansion) (later : Call) (w : Wanted) → IsHeldExpansion st files e → IsHeldCall st files later → All (IsHeldToken st files) w.tokens
    → after.refusals ≡ e.refusals → HasEntered e after later w → IsHeldExpansion st files after
entered-held st files e after later w held held_call tokens refusals entered = record {
  refusals = subst (IsHeldRefusals st.sets files) (sym refusals) held.refusals;
  rest = subst (AreHeld st files) (sym entered.rest) held.rest;
  top = record {
    work = subst (AreHeld st files) (sym entered.work) (under-held later.cond w.tokens held_call.own tokens);
    out = subst (AreHeld st files) (sym entered.out) (AreHeld-nil st files);
    calls = subst (All (IsHeldCall st files)) (sym entered.calls) (All-nil (IsHeldCall st files));
  };
  below = subst (All (IsHeldEnclosing st files)) (sym entered.below)
      (All-push (IsHeldEnclosing st files) e.below.items (record { frame = e.top; call = later; parameter = w.parameter }) held.below (record { frame = held.top; call = held_call }));
}

-- ---- a call that is replaced, or refused, is a turn of the frame that it left

module _ {old new : Stores} (grows : Grows old new) (files : ℕ) (e after : Expansion) (call : Call) (held : IsHeldExpansion old files e) (out : after.top.out ≡ e.top.out) (calls : after.top.calls ≡ e.top.calls)
    (none : call.wanted.items ≡ []) (table : List (List ℕ)) (macros : Macros) (c : List ℕ) (listed : IsConfig old.sets.arities c) where
  wanted : (waiting_at old call c).wanted ≡ []
  wanted = ap (λ ws. map (seen_wanted old) (reverse ws)) none

  same-out : seen_at new after.top.out c ≡ seen_at old e.top.out c
  same-out = ap (λ l. seen_at new l c) out ∙ seen_at-Grows grows c listed e.top.out held.top.out

  same-calls : calls_at new after.top.calls.items c ≡ calls_at old e.top.calls.items c
  same-calls = ap (λ v. calls_at new v.items c) calls ∙ calls_at-Grows grows c listed e.top.calls.items held.top.calls

  module _ (made : List (Cond × Hidden)) (work : after.top.work ≡ made ++ e.top.work) (refusals : after.refusals ≡ e.refusals) (parts : List Part)
      (template : seen_template old call.head.token.place call.template ≡ Ok (map (seen_part old.names old.hides) parts)) where
    same-work : seen_at new after.top.work c ≡ seen_at new made c ++ seen_at old e.top.work c
    same-work = ap (λ l. seen_at new l c) work ∙ (seen_at-append new made e.top.work c ∙ ap (λ l. seen_at new made c ++ l) (seen_at-Grows grows c listed e.top.work held.top.work))

    pub replaced-turn : (old.sets.has call.cond.0 c ≡ true → old.sets.has e.refusals.live.0 c ≡ true) → (old.sets.has call.cond.0 c ≡ true → calls_at old e.top.calls.items c ≡ [])
        → (old.sets.has call.cond.0 c ≡ true → seen_at new made c
        ≡ hiding (provenance_of []) (hide_at old.names old.hides call.hide.0) (with_space call.head.token.space (filled_in (map (λ list. seen_at old list c) call.expanded.items) (map (seen_part old.names old.hides) parts))))
        → (old.sets.has call.cond.0 c ≡ false → seen_at new made c ≡ [])
        → Turn (provenance_of table) macros (at_call old e call c) (at new after c) (old.sets.has call.cond.0 c)
    replaced-turn live free is nothing = by (old.sets.has call.cond.0 c) refl
      where
        by : (b : Bool) → old.sets.has call.cond.0 c ≡ b
            → Turn (provenance_of table) macros (record (at old e c) { view = if b then with_call (view_at old e.top c) (waiting_at old call c) else view_at old e.top c }) (at new after c) b
        by false absent =
            let work_is = same-work ∙ ap (λ l. l ++ seen_at old e.top.work c) (nothing absent) in
            passed (same-live grows e after held refusals listed) (same-ends grows e after held refusals listed) (λ l. λ i. record { out = same-out i; work = work_is i; calls = same-calls i })
        by true has =
            let body = seen_at new made c in
            let here = live has in
            let gone = free has in
            let result : replacement_of (provenance_of table) (waiting_at old call c) ≡ Ok body =
            ap (result_map (λ slots. hiding (provenance_of table) (hide_at old.names old.hides call.hide.0) (with_space call.head.token.space (filled_in (map (λ list. seen_at old list c) call.expanded.items) slots)))) template
            ∙ ap (λ l. Ok l) (sym (is has)) in
            let move : Moves (provenance_of table) macros (waiting (seen_at old e.top.out c) (seen_at old e.top.work c) (waiting_at old call c)) (scanning (seen_at old e.top.out c) (body ++ seen_at old e.top.work c)) = plain.replace (seen_at old e.top.out c) (seen_at old e.top.work c) body (waiting_at old call c) wanted result in
            let was : state_by (seen_at old e.top.out c) (seen_at old e.top.work c) (calls_at old e.top.calls.items c ++ waiting_at old call c ∷ []) ≡ waiting (seen_at old e.top.out c) (seen_at old e.top.work c) (waiting_at old call c) =
            ap (λ cs. state_by (seen_at old e.top.out c) (seen_at old e.top.work c) (cs ++ waiting_at old call c ∷ [])) gone in
            let empty : calls_at new after.top.calls.items c ≡ [] = same-calls ∙ gone in
            let later : state_by (seen_at new after.top.out c) (seen_at new after.top.work c) (calls_at new after.top.calls.items c) ≡ scanning (seen_at old e.top.out c) (body ++ seen_at old e.top.work c) =
            λ i. state_by (same-out i) (same-work i) (empty i) in
            moved here (same-live grows e after held refusals listed ∙ here) (same-ends grows e after held refusals listed) (λ whole w. waits-not (subst (Waits macros) was w))
            (subst (λ s. Moves (provenance_of table) macros s (state_of (view_at new after.top c))) (sym was)
            (subst (Moves (provenance_of table) macros (waiting (seen_at old e.top.out c) (seen_at old e.top.work c) (waiting_at old call c))) (sym later) move))
            (subst (λ cs. length cs ≤ 1) (sym empty) (omega arith))

  -- a ## in the replacement makes no token
  pub refused-turn : (cause : Cause) → after.top.work ≡ e.top.work
      → seen_template old call.head.token.place call.template ≡ Err (record { cause = cause; place = call.head.token.place })
      → Denotes new.sets after.refusals.live.0 (λ c. old.sets.has e.refusals.live.0 c && not (old.sets.has call.cond.0 c))
      → ends_at new.sets after.refusals c ≡ (if old.sets.has call.cond.0 c then with_end (ends_at old.sets e.refusals c) (fails (record { cause = cause; place = call.head.token.place })) else ends_at old.sets e.refusals c)
      → (old.sets.has call.cond.0 c ≡ true → old.sets.has e.refusals.live.0 c ≡ true) → (old.sets.has call.cond.0 c ≡ true → calls_at old e.top.calls.items c ≡ [])
      → Turn (provenance_of table) macros (at_call old e call c) (at new after c) (old.sets.has call.cond.0 c)
  refused-turn cause work template told failures live free = by (old.sets.has call.cond.0 c) refl (told.at c (IsConfig-Keeps grows.sets listed)) failures
    where
      same-work : seen_at new after.top.work c ≡ seen_at old e.top.work c
      same-work = ap (λ l. seen_at new l c) work ∙ seen_at-Grows grows c listed e.top.work held.top.work

      by : (b : Bool) → old.sets.has call.cond.0 c ≡ b → new.sets.has after.refusals.live.0 c ≡ (old.sets.has e.refusals.live.0 c && not (old.sets.has call.cond.0 c))
          → ends_at new.sets after.refusals c ≡ (if old.sets.has call.cond.0 c then with_end (ends_at old.sets e.refusals c) (fails (record { cause = cause; place = call.head.token.place })) else ends_at old.sets e.refusals c)
          → Turn (provenance_of table) macros (record (at old e c) { view = if b then with_call (view_at old e.top c) (waiting_at old call c) else view_at old e.top c }) (at new after c) b
      by false absent alive failed_at =
          passed (alive ∙ (ap (λ b. old.sets.has e.refusals.live.0 c && not b) absent ∙ and-true (old.sets.has e.refusals.live.0 c)))
          (failed_at ∙ ap (λ b. if b then with_end (ends_at old.sets e.refusals c) (fails (record { cause = cause; place = call.head.token.place })) else ends_at old.sets e.refusals c) absent)
          (λ l. λ i. record { out = same-out i; work = same-work i; calls = same-calls i })
      by true has alive failed_at =
          let failure : Failure Place = record { cause = cause; place = call.head.token.place } in
          let result : replacement_of (provenance_of table) (waiting_at old call c) ≡ Err failure =
          ap (result_map (λ slots. hiding (provenance_of table) (hide_at old.names old.hides call.hide.0) (with_space call.head.token.space (filled_in (map (λ list. seen_at old list c) call.expanded.items) slots)))) template in
          let stuck : Fails (provenance_of table) macros (waiting (seen_at old e.top.out c) (seen_at old e.top.work c) (waiting_at old call c)) failure = plain.bad_paste (seen_at old e.top.out c) (seen_at old e.top.work c) (waiting_at old call c) failure wanted result in
          let was : state_by (seen_at old e.top.out c) (seen_at old e.top.work c) (calls_at old e.top.calls.items c ++ waiting_at old call c ∷ []) ≡ waiting (seen_at old e.top.out c) (seen_at old e.top.work c) (waiting_at old call c) =
          ap (λ cs. state_by (seen_at old e.top.out c) (seen_at old e.top.work c) (cs ++ waiting_at old call c ∷ [])) (free has) in
          ended (fails failure) (live has)
          (alive ∙ (ap (λ b. old.sets.has e.refusals.live.0 c && not b) has ∙ and-false (old.sets.has e.refusals.live.0 c)))
          (failed_at ∙ ap (λ b. if b then with_end (ends_at old.sets e.refusals c) (fails failure) else ends_at old.sets e.refusals c) has)
          (refused failure (subst (λ s. Fails (provenance_of table) macros s failure) (sym was) stuck) (λ whole w. waits-not (subst (Waits macros) was w)))

-- ---- an argument that has been expanded is left, as a step of the whole

module _ (provenance : Provenance Place) (macros : Macros) (st : Stores) (c : List ℕ) (below : List Enclosing) (o : Enclosing) (e after : Expansion)
    (resumed : IsResumed o e.top.out after.top.calls.items) (work : after.top.work ≡ o.frame.work) (out : after.top.out ≡ o.frame.out) (refusals : after.refusals ≡ e.refusals)
    (rest : e.top.work ≡ []) (none : e.top.calls.items ≡ []) (waiting : after.rest ≡ e.rest) where
  pub same-waiting : waiting_at st resumed.call c ≡ with_expanded (waiting_at st o.call c) o.parameter (seen_at st e.top.out c)
  same-waiting =
      let lists = ap (map (λ list. seen_at st list c)) resumed.expanded ∙ map-set (λ (list : List (Cond × Hidden)). seen_at st list c) o.call.expanded.items o.parameter e.top.out in
      λ i. record (waiting_at st (record o.call { head = resumed.head i; hide = resumed.hide i; template = resumed.template i; wanted = resumed.wanted i }) c) { expanded = lists i }

  before : view_at st e.top c ≡ argument_view (seen_at st e.top.out c) []
  before = let w = ap (λ l. seen_at st l c) rest in let k = ap (λ l. calls_at st l c) none in λ i. record { out = seen_at st e.top.out c; work = w i; calls = k i }

  later : (b : Bool) → st.sets.has o.call.cond.0 c ≡ b
      → view_at st after.top c ≡ (if b then with_call (view_at st o.frame c) (with_expanded (waiting_at st o.call c) o.parameter (seen_at st e.top.out c)) else view_at st o.frame c)
  later b known =
      let first = ap (λ l. seen_at st l c) out in
      let second = ap (λ l. seen_at st l c) work in
      let third : calls_at st after.top.calls.items c ≡ calls_at st o.frame.calls.items c ++ (if b then waiting_at st resumed.call c ∷ [] else []) =
      ap (λ l. calls_at st l c) resumed.is ∙ (calls_at-append st c o.frame.calls.items (resumed.call ∷ [])
      ∙ ap (λ h. calls_at st o.frame.calls.items c ++ (if h then waiting_at st resumed.call c ∷ [] else [])) (ap (λ (k : Cond). st.sets.has k.0 c) resumed.cond ∙ known)) in
      let whole : view_at st after.top c ≡ record (view_at st o.frame c) { calls = calls_at st o.frame.calls.items c ++ (if b then waiting_at st resumed.call c ∷ [] else []) } = λ i. record { out = first i; work = second i; calls = third i } in
      whole ∙ by b
    where
      by : (b : Bool) → record (view_at st o.frame c) { calls = calls_at st o.frame.calls.items c ++ (if b then waiting_at st resumed.call c ∷ [] else []) }
          ≡ (if b then with_call (view_at st o.frame c) (with_expanded (waiting_at st o.call c) o.parameter (seen_at st e.top.out c)) else view_at st o.frame c)
      by true = ap (λ w. with_call (view_at st o.frame c) w) same-waiting
      by false = ap (λ cs. record (view_at st o.frame c) { calls = cs }) (append-nil (calls_at st o.frame.calls.items c))

  pub left-progress : Progress provenance macros st st c (below ++ o ∷ []) below (at st e c) (at st after c) (st.sets.has o.call.cond.0 c)
  left-progress = by (st.sets.has e.refusals.live.0 c) (st.sets.has o.call.cond.0 c) refl refl
    where
      same : ends_at st.sets after.refusals c ≡ ends_at st.sets e.refusals c
      same = ap (λ r. ends_at st.sets r c) refusals

      live : st.sets.has after.refusals.live.0 c ≡ st.sets.has e.refusals.live.0 c
      live = ap (λ r. st.sets.has r.live.0 c) refusals

      by : (l b : Bool) → st.sets.has e.refusals.live.0 c ≡ l → st.sets.has o.call.cond.0 c ≡ b → Progress provenance macros st st c (below ++ o ∷ []) below (at st e c) (at st after c) b
      by false b not known = gone not (live ∙ not) same
      by true true is has = steps is (live ∙ is) same (λ stands w. argument-decides st c o provenance macros below (view_at st e.top c) has stands w) (λ stands.
          let list = seen_at st e.top.out c in
          let w = with_expanded (waiting_at st o.call c) o.parameter list in
          let r = leave-called st c o provenance macros below w list has refl (subst (Stands st c (below ++ o ∷ [])) before stands) in
          let now = later true has in (
            subst (Stands st c below) (sym now) r.0,
            subst (λ v. Moves provenance macros (state_in st (below ++ o ∷ []) v c) (state_in st below (view_at st after.top c) c)) (sym before)
                (subst (λ v. Moves provenance macros (state_in st (below ++ o ∷ []) (argument_view list []) c) (state_in st below v c)) (sym now) r.1),
          ))
      by true false is absent = rests live same (λ l stands.
          let r = leave-other st c o provenance macros below (view_at st e.top c) absent stands in
          let now = later false absent in
          (subst (Stands st c below) (sym now) r.0, r.1 ∙ ap (λ v. state_in st below v c) (sym now)))

  pub left-held : (files : ℕ) → IsHeldExpansion st files e → IsHeldEnclosing st files o → after.below ≡ e.below → IsHeldExpansion st files after
  left-held files held enclosing below_is = record {
    refusals = subst (IsHeldRefusals st.sets files) (sym refusals) held.refusals;
    rest = subst (AreHeld st files) (sym waiting) held.rest;
    top = record {
      work = subst (AreHeld st files) (sym work) enclosing.frame.work;
      out = subst (AreHeld st files) (sym out) enclosing.frame.out;
      calls = subst (All (IsHeldCall st files)) (sym resumed.is) (All-push (IsHeldCall st files) o.frame.calls.items resumed.call enclosing.frame.calls call_held);
    };
    below = subst (λ l. All (IsHeldEnclosing st files) l.items) (sym below_is) held.below;
  }
    where
      call_held : IsHeldCall st files resumed.call
      call_held = record {
        own = subst (λ (k : Cond). IsCond st.sets k.0) (sym resumed.cond) enclosing.call.own;
        head = subst (IsHeldToken st files) (sym resumed.head) enclosing.call.head;
        hide = subst (λ (h : Hide). IsHeldSet st.names st.hides h.0) (sym resumed.hide) enclosing.call.hide;
        template = subst (IsHeldTemplate st files) (sym resumed.template) enclosing.call.template;
        wanted = subst (λ l. All (λ (w : Wanted). All (IsHeldToken st files) w.tokens) l.items) (sym resumed.wanted) enclosing.call.wanted;
        expanded = subst (All (AreHeld st files)) (sym resumed.expanded) (All-set (AreHeld st files) o.call.expanded.items o.parameter e.top.out held.top.out enclosing.call.expanded);
      }
