-- Configurations that expand one name alike, through a turn: they have the same of what was made,
-- or come through the name together.
use Rattle.std.proofs.Common.{◌≡◌, ◌⊎◌, inl, inr, ℕ, ◌+◌, ◌-◌, ◌<◌, ◌≤◌, ◌&&◌, Bool, true, false, true≢false, List, [], ◌∷◌, ◌++◌, All, append-nil, drop, length, length-append, None, Some, slice_get, take, refl, sym, ap, subst, ◌∙◌, arith, if◌then◌else◌}
use Rattle.sc_expand.proofs.AlikeLemmas.{AreAlike-Keeps}
use Rattle.sc_expand.proofs.AlikeRunning.{seen-first}
use Rattle.sc_expand.proofs.Behind.{below, Fall, behind-falls, below-all, below-not, lower-min, length-seen, slice-drop}
use Rattle.sc_expand.proofs.Facts.{All-append, All-cons, All-drop, All-nil, IsConfig-Keeps, IsConfig-kept, and-false, false_from_ne_true, items_at-Keeps, items_at-append, length-map, nil_from_length, drop-append-le}
use Rattle.sc_expand.proofs.GatherPlaces.{spelled-behind}
use Rattle.sc_expand.proofs.NamedItems.{indexes-long, item-all, item-append, item-lacks, item-whole, lacks-alike, same-name-Keeps, same-name-more, first-alone, item-none}
use Rattle.sc_expand.proofs.PhaseAlike.{IsLast, alike-after, calls-or-last, first-both}
use Rattle.sc_expand.proofs.PhaseSpans.{below-fewer, function-of, span-count, stays-moves, unclosed-ends, uncalled-case}
use Rattle.sc_expand.proofs.PhaseKeeps.{more-alike, more-at, more-count, more-has, more-lacks, more-of, more-same, same-slice, more-first-had, more-idle, more-once}
use Rattle.sc_expand.proofs.PhaseMoves.{ended-state, first-far, first-more, moved-pending, rest-own, takes-pending, has-moved, moved-fits, moved-place, moved-suffix}
use Rattle.sc_expand.proofs.PhaseSegments.{kept-none}
use Rattle.sc_expand.proofs.PhaseWaits.{before-later, begins-at, begins-later, behind-later, kept-later-is, kept-own, low-later, waits-later}
use Rattle.sc_expand.proofs.Phases.{IsOver, IsReady, PairStands, Phase, Spans, as_one, bound_of, come_through, last_at, state_now, Begins, Comes, IsFresh, IsWorn, Itself, at_item, at_start, tokens_from}
use Rattle.sc_expand.proofs.PlainSettles.{no-fails, no-moves, no-waits}
use Rattle.sc_expand.proofs.Rests.{first-is, next-token}
use Rattle.sc_expand.proofs.RunLemmas.{IsRunning, bottom-state, running-apart, running-stands, turned-at, running-turned}
use Rattle.sc_expand.proofs.SeenLemmas.{seen_at-Grows, seen_at-append, Grows-trans}
use Rattle.sc_expand.proofs.Terms.{AreAlike, AreHeld, CallNextAlike, Cond, Enclosing, Expansion, Fails, Failure, Grows, HasEnded, Hidden, HiddenToken, IsAlike, IsAlikeExpansion, IsAlikeFrame, IsCond, IsConfig, IsHeldExpansion, IsPending, IsSameName, IsTurned, IsWithin, Macros, Moves, Others, Place, Progress, Provenance, Pushes, Stands, State, Stores, TakesName, Waits, at, behind_at, bottom, bottom_by, call_end, call_end_at, calls_at, case_of, closed, expanding, items_at, lower_of, of_item, others_at, provenance_of, put_by, put_out, scanning, seen_at, seen_hidden, state_by, state_in, stays, tokens_in, unclosed, view_at, waiting}
use Rattle.sc_expand.proofs.Turning.{put_by-held}
use Rattle.sc_expand.specs.Machine as machine
use Rattle.sc_expand.specs.Open as open_end
use Rattle.sc_expand.specs.Plain as plain
use Rattle.sc_expand.specs.Running as running
use Rattle.sc_expand.specs.Spans as spans
use Rattle.sc_expand.specs.Turn as turn
use Rattle.sc_expand.specs.Turn.{EndsBy, IsDecided, held_up, refused}
use Rattle.sc_expand.specs.Restricted as restricted

-- a name that is not called fails at no parenthesis of the list
module _ (provenance : Provenance Place) (macros : Macros) (out rest : List (HiddenToken Place)) (t : HiddenToken Place) where
  stays-fails : {failure : Failure Place} → case_of macros t rest ≡ stays → Fails provenance macros (scanning out (t ∷ rest)) failure → ⊥
  stays-fails case (plain.bad_object _ _ _ d failure is made) = cc
  stays-fails case (plain.open_call _ _ _ is) = cc
  stays-fails case (plain.miscounted _ _ after _ is) = cc
  stays-fails case (plain.bad_stringize _ _ after _ close d arguments failure is hash) = cc

  not-fails : {failure : Failure Place} → (case_of macros t rest ≡ stays) ⊎ (case_of macros t rest ≡ unclosed) → Fails provenance macros (scanning out (t ∷ rest)) failure → IsDecided true macros (scanning out (t ∷ rest)) → ⊥
  not-fails (inl case) fails decided = stays-fails case fails
  not-fails (inr case) fails decided = decided refl (open_end.open_call out rest t case)

-- a state in which nothing is pending scans the whole list
scans-now : (s : State Place) (left : ℕ) → (IsPending s left → ⊥) → (out : List (HiddenToken Place)) × (work : List (HiddenToken Place)) × (s ≡ scanning out work)
scans-now (scanning out work) left not = (out, work, refl)
scans-now (waiting out work w) left not = absurd (not tt)
scans-now (expanding out work w n s) left not = absurd (not tt)

-- what waits does whatever was put out
waits-after : {macros : Macros} {work : List (HiddenToken Place)} (out other : List (HiddenToken Place)) → Waits macros (scanning out work) → Waits macros (scanning other work)
waits-after out other (open_end.alone _ rest t is) = open_end.alone other rest t is
waits-after out other (open_end.open_call _ rest t is) = open_end.open_call other rest t is

module _ (files : List (List ℕ)) (macros : List ℕ → Macros) (names : List (List ℕ)) (within : (c : List ℕ) → IsWithin names (macros c)) {old now : Stores} {was e : Expansion} (grows : Grows old now) (r : IsRunning files macros old now was e)
    (began : IsHeldExpansion old (length files) was) (phase : Phase files macros old now was e) (ready : IsReady files macros phase) (new : Stores) (after : Expansion) (other : List ℕ → Macros) (same : (c : List ℕ) → IsConfig old.sets.arities c → other c ≡ macros c)
    {went : Bool} (turned : IsTurned files other now new e after went) where
  -- ---- what was put out

  abbrev last-of : {b : Bool} → Pushes new.sets e after b → List (Cond × Hidden)
  last-of (running.nothing is) = []
  last-of (running.first item cond one none first (restricted.pushed some is)) = (cond, item.1) ∷ []
  last-of (running.first item cond one none first (restricted.absent never is)) = []

  last-is : {b : Bool} (k : Pushes new.sets e after b) → put_out after ≡ put_out e ++ last-of k
  last-is (running.nothing is) = is ∙ sym (append-nil (put_out e))
  last-is (running.first item cond one none first (restricted.pushed some is)) = is
  last-is (running.first item cond one none first (restricted.absent never is)) = is ∙ sym (append-nil (put_out e))

  last-one : {b : Bool} (k : Pushes new.sets e after b) (c : List ℕ) (item : Cond × Hidden) → slice_get e.top.work 0 ≡ Some item → length (items_at new.sets (last-of k) c) ≡ 1 → items_at new.sets (last-of k) c ≡ item.1 ∷ []
  last-one (running.nothing is) c item at one = absurd (omega (arith, one))
  last-one (running.first x cond whole none first (restricted.absent never is)) c item at one = absurd (omega (arith, one))
  last-one (running.first x cond whole none first (restricted.pushed some is)) c item at one = by (new.sets.has cond.0 c) one
    where
      by : (b : Bool) → length (if b then x.1 ∷ [] else []) ≡ 1 → (if b then x.1 ∷ [] else []) ≡ item.1 ∷ []
      by true one = ap (λ (y : Cond × Hidden). y.1 ∷ []) (same-slice e.top.work 0 x item first at)
      by false one = absurd (omega (arith, one))

  last-alike : {b : Bool} (k : Pushes new.sets e after b) (c d : List ℕ) → length (items_at new.sets (last-of k) c) ≡ length (items_at new.sets (last-of k) d) → AreAlike new.sets c d (last-of k)
  last-alike (running.nothing is) c d one = All-nil (λ (x : Cond × Hidden). IsAlike new.sets c d x.0)
  last-alike (running.first x cond whole none first (restricted.absent never is)) c d one = All-nil (λ (x : Cond × Hidden). IsAlike new.sets c d x.0)
  last-alike (running.first x cond whole none first (restricted.pushed some is)) c d one =
      All-cons (λ (y : Cond × Hidden). IsAlike new.sets c d y.0) (cond, x.1) [] (by (new.sets.has cond.0 c) (new.sets.has cond.0 d) one) (All-nil (λ (y : Cond × Hidden). IsAlike new.sets c d y.0))
    where
      by : (a b : Bool) → length (if a then x.1 ∷ [] else []) ≡ length (if b then x.1 ∷ [] else []) → a ≡ b
      by true true one = refl
      by false false one = refl
      by true false one = absurd (omega (arith, one))
      by false true one = absurd (omega (arith, one))

  abbrev last : List (Cond × Hidden)
  last = last-of turned.pushes

  abbrev more : List (ℕ × (Cond × Hidden))
  more = more-of grows r new turned.grows after phase.at turned.keeps

  put-held : AreHeld now (length files) (put_out e)
  put-held = put_by-held e.below.items e.top r.held.below r.held.top

  -- how much it has put out
  last-long : (c : List ℕ) → IsConfig old.sets.arities c → length (seen_at new (put_out after) c) ≡ length (seen_at now (put_out e) c) + length (items_at new.sets last c)
  last-long c listed =
      ap length (ap (λ l. seen_at new l c) (last-is turned.pushes) ∙ (seen_at-append new (put_out e) last c ∙ ap (λ l. l ++ seen_at new last c) (seen_at-Grows turned.grows c (IsConfig-Keeps grows.sets listed) (put_out e) put-held)))
      ∙ (length-append (seen_at now (put_out e) c) (seen_at new last c) ∙ ap (λ k. length (seen_at now (put_out e) c) + k) (length-map (items_at new.sets last c) (seen_hidden new.names new.hides)))

  done-more : drop phase.outs (put_out after) ≡ drop phase.outs (put_out e) ++ last
  done-more = ap (drop phase.outs) (last-is turned.pushes) ∙ drop-append-le phase.outs (put_out e) last phase.low

  -- of its own items it has all that it has left
  own-later : (c : List ℕ) → IsConfig old.sets.arities c → last_at new after phase.n c ≡ lower_of (length (seen_at new (bottom after).work c)) (last_at now e phase.n c)
  own-later c listed = rest-own phase.n phase.fits (first-far files macros grows r began phase ready) (turned.rest c (IsConfig-Keeps grows.sets listed))

  -- who waits has left as many tokens as before
  left-long : (c : List ℕ) → IsConfig old.sets.arities c → new.sets.has after.refusals.waiting.0 c ≡ true
      → length (items_at new.sets (of_item phase.at more) c) + length (seen_at new (bottom after).work c) ≡ length (seen_at now (bottom e).work c)
  left-long c listed waits =
      let kept = ap (λ l. length (items_at new.sets l c)) (item-whole phase.at more (more-at grows r new turned.grows after phase.at turned.keeps)) in
      omega (arith, kept, more-count grows r new turned.grows after phase.at turned.keeps c listed turned.left waits, indexes-long new.sets c more, length-seen new (bottom after).work c, length-seen now (bottom e).work c)

  -- ---- who has come through the name

  module _ (c : List ℕ) (listed : IsConfig old.sets.arities c) (x : IsOver now e phase.n c) where
    -- it takes no part
    over-rests : now.sets.has e.refusals.live.0 c ≡ true → turned.takes c ≡ false
    over-rests live = false_from_ne_true (turned.takes c) (λ takes. by takes takes (turned-at grows r began new after other same turned c listed))
      where
        stands : Stands now c e.below.items (view_at now e.top c)
        stands = running-stands grows r c listed live

        pending : turned.takes c ≡ true → (HasEnded e → ⊥) → ⊥
        pending takes goes_on = x.rests live (takes-pending files macros grows r began phase ready c (turned.takes c) (λ cond next. turned.which cond next c) takes stands goes_on)

        ends : (end : turn.End) → EndsBy (provenance_of files) (macros c) true (state_now now e c) end → HasEnded e → ⊥
        ends _ (refused failure f decided) ended = no-fails (provenance_of files) (macros c) f (seen_at now e.top.out c) (ended-state now c e ended)
        ends _ (held_up whole w) ended = no-waits (provenance_of files) (macros c) w (seen_at now e.top.out c) (ended-state now c e ended)

        by : turned.takes c ≡ true → {b : Bool} → b ≡ true → Progress (provenance_of files) (macros c) now new c e.below.items after.below.items (at now e c) (at new after c) b → ⊥
        by part takes (machine.rests still alike stay) = true≢false (sym takes)
        by part takes (machine.gone gone_was gone_now alike) = true≢false (sym live ∙ gone_was)
        by part takes (machine.steps live_was live_now alike free move) = pending part (λ ended. no-moves (provenance_of files) (macros c) (move stands).1 (seen_at now e.top.out c) (ended-state now c e ended))
        by part takes (machine.ends end live_was dead alike by_end) = pending part (ends end (by_end stands))

    -- and stays as it is
    record OverStays : Type 0 where
      live : new.sets.has after.refusals.live.0 c ≡ true
      state : state_now now e c ≡ state_now new after c

    over-stays : now.sets.has e.refusals.live.0 c ≡ true → OverStays
    over-stays live = by (over-rests live) (turned-at grows r began new after other same turned c listed)
      where
        by : {b : Bool} → b ≡ false → Progress (provenance_of files) (macros c) now new c e.below.items after.below.items (at now e c) (at new after c) b → OverStays
        by not (machine.rests still alike stay) = record { live = still ∙ live; state = (stay live (running-stands grows r c listed live)).1 }
        by not (machine.gone gone_was gone_now alike) = absurd (true≢false (sym live ∙ gone_was))
        by not (machine.steps live_was live_now alike free move) = absurd (true≢false not)
        by not (machine.ends end live_was dead alike by_end) = absurd (true≢false not)

    -- it has put out and left what it had
    over-same : now.sets.has e.refusals.live.0 c ≡ true → (seen_at new (put_out after) c ≡ seen_at now (put_out e) c) × (seen_at new (bottom after).work c ≡ seen_at now (bottom e).work c)
    over-same live =
        let s = scans-now (state_now now e c) (last_at now e phase.n c) (x.rests live) in
        let was_is = bottom-state now c s.0 s.1 e.below.items e.top s.2 in
        let now_is = bottom-state new c s.0 s.1 after.below.items after.top (sym (over-stays live).state ∙ s.2) in
        (sym now_is.0 ∙ was_is.0, sym now_is.1 ∙ was_is.1)

    -- one that waits does so still
    over-waits : now.sets.has e.refusals.live.0 c ≡ false → now.sets.has e.refusals.waiting.0 c ≡ true → new.sets.has after.refusals.waiting.0 c ≡ true
    over-waits dead waits = by (turned-at grows r began new after other same turned c listed)
      where
        by : {b : Bool} → Progress (provenance_of files) (macros c) now new c e.below.items after.below.items (at now e c) (at new after c) b → new.sets.has after.refusals.waiting.0 c ≡ true
        by (machine.rests still alike stay) = ap (λ y. y.waiting) alike ∙ waits
        by (machine.gone gone_was gone_now alike) = ap (λ y. y.waiting) alike ∙ waits
        by (machine.steps live_was live_now alike free move) = absurd (true≢false (sym live_was ∙ dead))
        by (machine.ends end live_was not alike by_end) = absurd (true≢false (sym live_was ∙ dead))

    -- it goes on, or it waits
    over-cases : (now.sets.has e.refusals.live.0 c ≡ true) ⊎ ((now.sets.has e.refusals.live.0 c ≡ false) × (now.sets.has e.refusals.waiting.0 c ≡ true))
    over-cases = by x.stays
      where
        by : (now.sets.has e.refusals.live.0 c ≡ true) ⊎ (now.sets.has e.refusals.waiting.0 c ≡ true) → (now.sets.has e.refusals.live.0 c ≡ true) ⊎ ((now.sets.has e.refusals.live.0 c ≡ false) × (now.sets.has e.refusals.waiting.0 c ≡ true))
        by (inl live) = inl live
        by (inr waits) = inr (false_from_ne_true (now.sets.has e.refusals.live.0 c) (λ live. true≢false (sym waits ∙ running-apart grows r c listed live)), waits)

    -- the token that is taken of the whole list is not its own
    over-lacks : (item : Cond × Hidden) → e.below.items ≡ [] → e.top.calls.items ≡ [] → slice_get e.top.work 0 ≡ Some item → now.sets.has item.0.0 c ≡ false
    over-lacks item one none first = false_from_ne_true (now.sets.has item.0.0 c) (λ has.
        let whole : (bottom e).work ≡ e.top.work = ap (λ bs. (bottom_by bs e.top).work) one in
        let far = first-far files macros grows r began phase ready item one none first in
        let less = first-more now.sets (bottom e).work item c phase.n (ap (λ (l : List (Cond × Hidden)). slice_get l 0) whole ∙ first) has far in
        let own = x.own in
        omega (arith, less, own, length-seen now (bottom e).work c))

    over-more : items_at new.sets (of_item phase.at more) c ≡ []
    over-more = more-lacks grows r new turned.grows after phase.at turned.keeps c listed (λ item one none first. ap (λ b. b && new.sets.has after.refusals.waiting.0 c) (over-lacks item one none first))

    over-last : items_at new.sets last c ≡ []
    over-last = by over-cases
      where
        by : (now.sets.has e.refusals.live.0 c ≡ true) ⊎ ((now.sets.has e.refusals.live.0 c ≡ false) × (now.sets.has e.refusals.waiting.0 c ≡ true)) → items_at new.sets last c ≡ []
        by (inl live) = nil_from_length (items_at new.sets last c) (let is = ap length (over-same live).0 in omega (arith, is, last-long c listed))
        by (inr w) = nil_from_length (items_at new.sets last c) (let is = ap length (turned.out.apart c (IsConfig-Keeps grows.sets listed) w.0) in omega (arith, is, last-long c listed))

    over-later : IsOver new after phase.n c
    over-later = record {
      own = let few = by over-cases in let own = x.own in omega (arith, few, own, own-later c listed, lower-min (length (seen_at new (bottom after).work c)) (last_at now e phase.n c));
      stays = stay over-cases;
      rests = λ live pending. let was_pending = moved-pending files macros grows r began phase ready new after other same turned c listed live pending in x.rests was_pending.0 was_pending.1;
    }
      where
        Cases : Type 0
        Cases = (now.sets.has e.refusals.live.0 c ≡ true) ⊎ ((now.sets.has e.refusals.live.0 c ≡ false) × (now.sets.has e.refusals.waiting.0 c ≡ true))

        by : Cases → length (seen_at new (bottom after).work c) ≤ length (seen_at now (bottom e).work c)
        by (inl live) = let is = ap length (over-same live).1 in omega (arith, is)
        by (inr w) = let left = left-long c listed (over-waits w.0 w.1) in omega (arith, left)

        stay : Cases → (new.sets.has after.refusals.live.0 c ≡ true) ⊎ (new.sets.has after.refusals.waiting.0 c ≡ true)
        stay (inl live) = inl (over-stays live).live
        stay (inr w) = inr (over-waits w.0 w.1)

  -- ---- the last question

  -- The name was all that was made, and stands first; nothing of it is in the call of any.
  module _ (size : ℕ) (c : List ℕ) (listed : IsConfig old.sets.arities c) (x : TakesName now (macros c) e c) (whole : e.below.items ≡ []) (opens : call_end_at now.sets now.names (tokens_in e.top.work) 0 c ≡ closed → ⊥)
      (none : items_at now.sets (drop 1 (take (length e.top.work - lower_of (bound_of was phase.at size) phase.n) e.top.work)) c ≡ []) where
    abbrev t : HiddenToken Place
    t = seen_hidden now.names now.hides x.item.1

    abbrev out : List (HiddenToken Place)
    out = seen_at now e.top.out c

    abbrev rest : List (HiddenToken Place)
    rest = seen_at now (drop 1 e.top.work) c

    work-is : seen_at now e.top.work c ≡ t ∷ rest
    work-is = seen-first now c e.top.work x.item x.first x.has

    at-top : bottom e ≡ e.top
    at-top = ap (λ os. bottom_by os e.top) whole

    state : state_now now e c ≡ scanning out (t ∷ rest)
    state =
        let calls : calls_at now e.top.calls.items c ≡ [] = ap (λ l. calls_at now l c) x.calls in
        ap (λ os. state_in now os (view_at now e.top c) c) whole ∙ (λ i. state_by out (work-is i) (calls i))

    case-is : (case_of (macros c) t rest ≡ stays) ⊎ (case_of (macros c) t rest ≡ unclosed)
    case-is =
        let spelled = spelled-behind now.names now.sets c now.hides e.top.work in
        uncalled-case (provenance_of files) (macros c) out rest t (function-of (macros c t.spelling) x.function) x.looked_up (call_end_at now.sets now.names (tokens_in e.top.work) 0 c) (ap call_end (sym spelled)) opens

    -- all that is left is its own
    few-left : length rest ≤ last_at now e phase.n c
    few-left =
        let b = lower_of (bound_of was phase.at size) phase.n in
        let least = lower-min (bound_of was phase.at size) phase.n in
        let long = ready.below whole x.calls (λ empty. (let first : None ≡ Some x.item = sym (ap (λ (l : List (Cond × Hidden)). slice_get l 0) empty) ∙ x.first in cc)) in
        let parts = span-count now.sets c b e.top.work (omega (arith, least, long)) in
        let count = length-map (items_at now.sets (drop 1 e.top.work) c) (seen_hidden now.names now.hides) in
        let gone = ap length none in
        let fewer = below-fewer b phase.n (behind_at now.sets e.top.work c) (omega (arith, least)) in
        let same = ap (λ f. length (below phase.n (behind_at now.sets f.work c))) at-top in
        omega (arith, parts, count, gone, fewer, same)

    -- it was put out, or the configuration waits
    data Asked : Type 0 where
      went_out : new.sets.has after.refusals.live.0 c ≡ true → new.sets.has after.refusals.waiting.0 c ≡ false → state_now new after c ≡ scanning (out ++ t ∷ []) rest → Asked
      waited : new.sets.has after.refusals.live.0 c ≡ false → new.sets.has after.refusals.waiting.0 c ≡ true → Asked

    asked : Asked
    asked = by takes (turned-at grows r began new after other same turned c listed)
      where
        stands : Stands now c e.below.items (view_at now e.top c)
        stands = running-stands grows r c listed x.live

        takes : turned.takes c ≡ true
        takes = turned.which x.item.0 (next-token e x.item (drop 1 e.top.work) x.calls (first-is e.top.work x.item x.first)) c ∙ x.has

        moves : Moves (provenance_of files) (macros c) (scanning out (t ∷ rest)) (state_now new after c) → (case_of (macros c) t rest ≡ stays) ⊎ (case_of (macros c) t rest ≡ unclosed) → state_now new after c ≡ scanning (out ++ t ∷ []) rest
        moves m (inl case) = stays-moves (provenance_of files) (macros c) out rest t (state_now new after c) case m
        moves m (inr case) = absurd (unclosed-ends (provenance_of files) (macros c) out rest t (state_now new after c) case m)

        ends : (end : turn.End) → EndsBy (provenance_of files) (macros c) true (scanning out (t ∷ rest)) end → new.sets.has after.refusals.live.0 c ≡ false → machine.ends_at new.sets after.refusals c ≡ turn.with_end (machine.ends_at now.sets e.refusals c) end → Asked
        ends _ (refused failure f decided) dead alike = absurd (not-fails (provenance_of files) (macros c) out rest t case-is f decided)
        ends _ (held_up is_whole w) dead alike = waited dead (ap (λ y. y.waiting) alike)

        by : {b : Bool} → b ≡ true → Progress (provenance_of files) (macros c) now new c e.below.items after.below.items (at now e c) (at new after c) b → Asked
        by part (machine.rests still alike stay) = absurd (true≢false (sym part))
        by part (machine.gone gone_was gone_now alike) = absurd (true≢false (sym x.live ∙ gone_was))
        by part (machine.steps live_was live_now alike free move) = went_out live_now (ap (λ y. y.waiting) alike ∙ running-apart grows r c listed x.live) (moves (subst (λ s. Moves (provenance_of files) (macros c) s (state_now new after c)) state (move stands).1) case-is)
        by part (machine.ends end live_was dead alike by_end) = ends end (subst (λ s. EndsBy (provenance_of files) (macros c) true s end) state (by_end stands)) dead alike

    -- what waited of it before
    none-kept : items_at new.sets (of_item phase.at phase.kept) c ≡ []
    none-kept =
        let Own : Cond × Hidden → Type 0 = λ item. IsCond now.sets item.0.0 in
        items_at-Keeps (of_item phase.at phase.kept) c turned.grows.sets (item-all Own phase.at phase.kept (subst (All Own) phase.kept_is r.held.rest.own)) (IsConfig-Keeps grows.sets listed)
        ∙ item-lacks now.sets c phase.at phase.kept (kept-none r phase c listed (running-apart grows r c listed x.live))

    record HasAsked (put kept : List Hidden) : Type 0 where
      over : IsOver new after phase.n c
      put_is : items_at new.sets last c ≡ put
      kept_is : items_at new.sets (of_item phase.at more) c ≡ kept

    over-by : length (seen_at new (bottom after).work c) ≤ length rest → (new.sets.has after.refusals.live.0 c ≡ true) ⊎ (new.sets.has after.refusals.waiting.0 c ≡ true)
        → (new.sets.has after.refusals.live.0 c ≡ true → IsPending (state_now new after c) (last_at new after phase.n c) → length (seen_at new (bottom after).work c) ≤ last_at new after phase.n c → ⊥) → IsOver new after phase.n c
    over-by few stay rests_by =
        let left = few-left in
        let own : length (seen_at new (bottom after).work c) ≤ last_at new after phase.n c = omega (arith, few, left, own-later c listed, lower-min (length (seen_at new (bottom after).work c)) (last_at now e phase.n c)) in
        record { own = own; stays = stay; rests = λ live pending. rests_by live pending own }

    answered : HasAsked (x.item.1 ∷ []) [] ⊎ HasAsked [] (x.item.1 ∷ [])
    answered = by asked
      where
        put-was : seen_at now (put_out e) c ≡ out
        put-was = ap (λ f. seen_at now f.out c) at-top

        by : Asked → HasAsked (x.item.1 ∷ []) [] ⊎ HasAsked [] (x.item.1 ∷ [])
        by (went_out live not_waiting is) =
            let b = bottom-state new c (out ++ t ∷ []) rest after.below.items after.top is in
            let one : length (items_at new.sets last c) ≡ 1 = (let put = ap length b.0 in let before = ap length put-was in omega (arith, put, before, last-long c listed, length-append out (t ∷ []))) in
            inl (record {
              over = over-by (let same = ap length b.1 in omega (arith, same)) (inl live) (λ alive pending own.
                  let more : last_at new after phase.n c < length rest = subst (λ s. IsPending s (last_at new after phase.n c)) is pending in
                  let same = ap length b.1 in
                  omega (arith, more, same, own));
              put_is = last-one turned.pushes c x.item x.first one;
              kept_is = more-lacks grows r new turned.grows after phase.at turned.keeps c listed (λ item one none first. ap (λ w. now.sets.has item.0.0 c && w) not_waiting ∙ and-false (now.sets.has item.0.0 c));
            })
        by (waited dead waits) =
            let kept = more-has grows r new turned.grows after phase.at turned.keeps c listed x.item whole x.calls x.first x.has waits in
            let put = ap length (turned.left.put c (IsConfig-Keeps grows.sets listed) (running-apart grows r c listed) waits) in
            let left = left-long c listed waits in
            let was_long = ap length (ap (λ f. seen_at now f.work c) at-top ∙ work-is) in
            inr (record {
              over = over-by (let one = ap length kept in omega (arith, left, one, was_long)) (inr waits) (λ alive pending own. absurd (true≢false (sym alive ∙ dead)));
              put_is = nil_from_length (items_at new.sets last c) (omega (arith, put, last-long c listed));
              kept_is = kept;
            })

  -- ---- both

  module _ (size : ℕ) (c d : List ℕ) (p : IsConfig old.sets.arities c) (q : IsConfig old.sets.arities d) (span : Spans files macros old was phase.at size c d) where
    abbrev P : Cond × Hidden → Type 0
    P item = IsAlike new.sets c d item.0

    abbrev others : Others
    others = record { behind = lower_of (bound_of was phase.at size) phase.n; out = phase.outs; faults = phase.faults }

    abbrev done : List (Cond × Hidden)
    done = drop phase.outs (put_out e)

    abbrev before : List (Cond × Hidden)
    before = of_item phase.at phase.kept

    abbrev now-kept : List (Cond × Hidden)
    now-kept = of_item phase.at more

    done-own : All (λ (item : Cond × Hidden). IsCond now.sets item.0.0) done
    done-own = All-drop (λ (item : Cond × Hidden). IsCond now.sets item.0.0) phase.outs (put_out e) put-held.own

    before-own : All (λ (item : Cond × Hidden). IsCond now.sets item.0.0) before
    before-own = item-all (λ (item : Cond × Hidden). IsCond now.sets item.0.0) phase.at phase.kept (subst (All (λ (item : Cond × Hidden). IsCond now.sets item.0.0)) phase.kept_is r.held.rest.own)

    both-later : {xs ys : List (Cond × Hidden)} → xs ≡ done ++ last → ys ≡ before ++ now-kept → IsSameName new.sets (done ++ last) (before ++ now-kept) c d → IsSameName new.sets xs ys c d
    both-later xs ys is = subst (λ (z : List (Cond × Hidden) × List (Cond × Hidden)). IsSameName new.sets z.0 z.1 c d) (λ i. (sym xs i, sym ys i)) is

    abbrev PairLater : Type 0
    PairLater = PairStands new after others phase.n phase.outs (of_item phase.at (phase.kept ++ more)) c d

    module _ (all : IsAlikeExpansion now.sets c d others e) where
      done-alike : e.below.items ≡ [] → AreAlike new.sets c d done
      done-alike whole =
          let out = (subst (λ (bs : List Enclosing). IsAlikeFrame now.sets c d (others_at others (length bs)) e.top) whole all.top).out in
          AreAlike-Keeps turned.grows.sets (IsConfig-Keeps grows.sets p) (IsConfig-Keeps grows.sets q) done done-own
          (subst (λ l. AreAlike now.sets c d (drop phase.outs l)) (sym (ap (λ bs. put_by bs e.top) whole)) out)

      module _ (l : IsLast files macros names within grows r began phase ready size c d p q span all new after other same turned) where
        abbrev One : List Hidden → List Hidden → Type 0
        One put kept = HasAsked size c p l.one l.whole l.opens l.none put kept

        abbrev Two : List Hidden → List Hidden → Type 0
        Two put kept = HasAsked size d q l.two l.whole l.opens_other l.none_other put kept

        token-same : l.two.item.1 ∷ [] ≡ l.one.item.1 ∷ []
        token-same = ap (λ (y : Cond × Hidden). y.1 ∷ []) (same-slice e.top.work 0 l.two.item l.one.item l.two.first l.one.first)

        one-before : items_at new.sets before c ≡ []
        one-before = none-kept size c p l.one l.whole l.opens l.none

        two-before : items_at new.sets before d ≡ []
        two-before = none-kept size d q l.two l.whole l.opens_other l.none_other

        kept-by : (x : List ℕ) (is : List Hidden) → items_at new.sets before x ≡ [] → items_at new.sets now-kept x ≡ is → items_at new.sets (before ++ now-kept) x ≡ is
        kept-by x is none some = items_at-append new.sets before now-kept x ∙ (λ i. none i ++ some i)

        asked-both : One (l.one.item.1 ∷ []) [] ⊎ One [] (l.one.item.1 ∷ []) → Two (l.two.item.1 ∷ []) [] ⊎ Two [] (l.two.item.1 ∷ []) → (IsOver new after phase.n c × IsOver new after phase.n d) × IsSameName new.sets (done ++ last) (before ++ now-kept) c d
        asked-both (inl a) (inl b) = (
          (a.over, b.over),
          spans.same (All-append P done last (done-alike l.whole) (last-alike turned.pushes c d (ap length a.put_is ∙ sym (ap length b.put_is))))
              (lacks-alike new.sets c d (before ++ now-kept) (kept-by c [] one-before a.kept_is) (kept-by d [] two-before b.kept_is)),
        )
        asked-both (inr a) (inr b) = (
          (a.over, b.over),
          spans.same (All-append P done last (done-alike l.whole) (lacks-alike new.sets c d last a.put_is b.put_is))
              (All-append P before now-kept (lacks-alike new.sets c d before one-before two-before) (more-same grows r new turned.grows after phase.at turned.keeps c d (ap length a.kept_is ∙ sym (ap length b.kept_is)))),
        )
        asked-both (inl a) (inr b) = (
          (a.over, b.over),
          spans.one_ahead (record {
            first = done;
            last = last;
            name = l.one.item.1;
            is = refl;
            alike = done-alike l.whole;
            one = a.put_is;
            other = b.put_is;
            nothing = kept-by c [] one-before a.kept_is;
            waits = kept-by d (l.two.item.1 ∷ []) two-before b.kept_is ∙ token-same;
          }),
        )
        asked-both (inr a) (inl b) = (
          (a.over, b.over),
          spans.other_ahead (record {
            first = done;
            last = last;
            name = l.one.item.1;
            is = refl;
            alike = λ k x h. sym (done-alike l.whole k x h);
            one = b.put_is ∙ token-same;
            other = a.put_is;
            nothing = kept-by d [] two-before b.kept_is;
            waits = kept-by c (l.one.item.1 ∷ []) one-before a.kept_is;
          }),
        )

        pair-asked : PairLater
        pair-asked =
            let it = asked-both (answered size c p l.one l.whole l.opens l.none) (answered size d q l.two l.whole l.opens_other l.none_other) in
            come_through it.0.0 it.0.1 (both-later done-more (item-append phase.at phase.kept more) it.1)

      pair-going : AreAlike now.sets c d before → PairLater
      pair-going of = by (calls-or-last files macros names within grows r began phase ready size c d p q span all new after other same turned)
        where
          by : CallNextAlike now (macros c) c d e ⊎ IsLast files macros names within grows r began phase ready size c d p q span all new after other same turned → PairLater
          by (inr l) = pair-asked l
          by (inl calls) =
              let next : IsAlikeExpansion new.sets c d others after = alike-after files macros names within grows r began phase ready size c d p q span all new after other same turned calls in
              as_one next (subst (AreAlike new.sets c d) (sym (item-append phase.at phase.kept more)) (All-append P before now-kept
              (AreAlike-Keeps turned.grows.sets (IsConfig-Keeps grows.sets p) (IsConfig-Keeps grows.sets q) before before-own of)
              (more-alike grows r new turned.grows after phase.at turned.keeps c d p q
              (λ item one none first. first-both files macros names within grows r began phase ready size c d p q span all item first none) next.refusals.waiting)))

    pair-later : PairStands now e others phase.n phase.outs before c d → PairLater
    pair-later (as_one all of) = pair-going all of
    pair-later (come_through x y is) =
        come_through (over-later c p x) (over-later d q y) (both-later done-more (item-append phase.at phase.kept more)
        (same-name-more new.sets c d done before last now-kept (over-last c p x) (over-last d q y) (over-more c p x) (over-more d q y)
        (same-name-Keeps turned.grows.sets done before done-own before-own (IsConfig-Keeps grows.sets p) (IsConfig-Keeps grows.sets q) is)))

  -- ---- the item itself

  kept-one : (k : ℕ) → phase.next ≤ k → length (of_item k (phase.kept ++ more)) ≤ 1
  kept-one k le = by phase.begins (begins-later files macros grows r began phase ready new after other same turned)
    where
      were : length (of_item k phase.kept) ≤ 1
      were = phase.once k le

      parts : length (of_item k (phase.kept ++ more)) ≡ length (of_item k phase.kept) + length (of_item k more)
      parts = ap length (item-append k phase.kept more) ∙ length-append (of_item k phase.kept) (of_item k more)

      by : Begins files macros old now was e phase.came phase.at phase.next → Begins files macros old new was after phase.came phase.at phase.next → length (of_item k (phase.kept ++ more)) ≤ 1
      by (at_item one missed) later =
          let none = ap length (item-none k more (λ i x h is. (let here = more-at grows r new turned.grows after phase.at turned.keeps i x h in omega (arith, here, is, le, one)))) in
          omega (arith, parts, were, none)
      by (at_start is_start none_came empty idle) (at_item one missed) = absurd (omega (arith, is_start, one))
      by (at_start is_start none_came empty idle) (at_start is_start' none_came' empty' idle') =
          let none = ap (λ l. length (of_item k l)) (more-idle grows r new turned.grows after phase.at turned.keeps idle' (λ c listed. IsConfig-kept grows.sets (IsConfig-kept turned.grows.sets listed))) in
          omega (arith, parts, were, none)

  -- who begins to wait went on, and came to the item
  began-to-wait : (w : IsWorn files macros old now was e phase.came phase.at phase.n phase.kept) (c : List ℕ) (listed : IsConfig old.sets.arities c) (waits : new.sets.has after.refusals.waiting.0 c ≡ true)
      → now.sets.has e.refusals.waiting.0 c ≡ false → Itself files macros old was phase.at c → ⊥
  began-to-wait w c listed waits not it =
      let b = begins-at files macros grows r began phase ready new after other same turned c listed waits not in
      elim it [ inl off ↦ off b.2 | inr x ↦ w.moved c listed b.0 b.1 x.0 (waits-after [] [] x.1) ]

  worn-turned : IsWorn files macros old now was e phase.came phase.at phase.n phase.kept → IsWorn files macros old new was after phase.came phase.at phase.n (phase.kept ++ more)
  worn-turned w = record {
    moved = λ c listed here live. w.moved c listed here (has-moved files macros grows r began phase ready new after other same turned c listed live).live;
    over = λ c listed waits it. over-later c listed (w.over c listed (waited c listed waits it) it);
    first = λ c listed waits it.
        let Own : Cond × Hidden → Type 0 = λ item. IsCond now.sets item.0.0 in
        let of = of_item phase.at phase.kept in
        let was_waiting = waited c listed waits it in
        ap (λ l. items_at new.sets (drop 1 l) c) (item-append phase.at phase.kept more)
        ∙ first-alone new.sets c of (of_item phase.at more)
        (items_at-Keeps (drop 1 of) c turned.grows.sets (All-drop Own 1 of (item-all Own phase.at phase.kept (kept-own files macros grows r began phase ready new after other same turned))) (IsConfig-Keeps grows.sets listed) ∙ w.first c listed was_waiting it)
        (over-more c listed (w.over c listed was_waiting it));
  }
    where
      waited : (c : List ℕ) → IsConfig old.sets.arities c → new.sets.has after.refusals.waiting.0 c ≡ true → Itself files macros old was phase.at c → now.sets.has e.refusals.waiting.0 c ≡ true
      waited c listed waits it = by (now.sets.has e.refusals.waiting.0 c) refl
        where
          by : (b : Bool) → now.sets.has e.refusals.waiting.0 c ≡ b → b ≡ true
          by true is = refl
          by false is = absurd (began-to-wait w c listed waits is it)

  -- ---- the first turn

  module _ (f : IsFresh files macros old now was e phase.came phase.at phase.n phase.kept) where
    starts-first : slice_get e.top.work 0 ≡ Some f.first
    starts-first = ap (λ (l : List (Cond × Hidden)). slice_get l 0) f.work

    bottom-is : (bottom e).work ≡ f.first ∷ f.rest
    bottom-is = ap (λ bs. (bottom_by bs e.top).work) f.below ∙ f.work

    -- who comes to the item takes part
    went-on : (c : List ℕ) → IsConfig old.sets.arities c → phase.came c ≡ true → new.sets.has after.refusals.live.0 c ≡ true
        → (x : Comes files macros old was phase.at c) → Waits (macros c) (scanning [] (seen_hidden old.names old.hides x.item.1 ∷ tokens_from old was (phase.at + 1) c)) → ⊥
    went-on c listed here live x w = by (turned.which f.first.0 (next-token e f.first f.rest f.calls f.work) c ∙ f.has c listed here) (turned-at grows r began new after other same turned c listed)
      where
        out : List (HiddenToken Place)
        out = seen_at now e.top.out c

        work-is : seen_at now e.top.work c ≡ seen_hidden old.names old.hides x.item.1 ∷ tokens_from old was (phase.at + 1) c
        work-is =
            let s = f.starts c listed here in
            let same : s.0.item ≡ x.item = same-slice was.top.work phase.at s.0.item x.item (slice-drop phase.at was.top.work s.0.item (drop (phase.at + 1) was.top.work) s.0.first) x.is in
            s.1 ∙ ap (λ (y : Cond × Hidden). seen_hidden old.names old.hides y.1 ∷ tokens_from old was (phase.at + 1) c) same

        state : state_now now e c ≡ scanning out (seen_at now e.top.work c)
        state =
            let calls : calls_at now e.top.calls.items c ≡ [] = ap (λ l. calls_at now l c) f.calls in
            ap (λ bs. state_in now bs (view_at now e.top c) c) f.below ∙ ap (state_by out (seen_at now e.top.work c)) calls

        waits : Waits (macros c) (state_now now e c)
        waits = subst (Waits (macros c)) (ap (scanning out) (sym work-is) ∙ sym state) (waits-after [] out w)

        was_live : now.sets.has e.refusals.live.0 c ≡ true
        was_live = (has-moved files macros grows r began phase ready new after other same turned c listed live).live

        by : {b : Bool} → b ≡ true → Progress (provenance_of files) (macros c) now new c e.below.items after.below.items (at now e c) (at new after c) b → ⊥
        by takes (machine.rests still alike stay) = true≢false (sym takes)
        by takes (machine.gone gone_was gone_now alike) = true≢false (sym was_live ∙ gone_was)
        by takes (machine.steps live_was live_now alike free move) = free (running-stands grows r c listed was_live) waits
        by takes (machine.ends end live_was dead alike by_end) = true≢false (sym live ∙ dead)

    worn-first : IsWorn files macros old new was after phase.came phase.at phase.n (phase.kept ++ more)
    worn-first = record {
      moved = went-on;
      over = λ c listed waits it. record {
        own =
            let long = f.long in
            let many = first-long c in
            let left = left-long c listed waits in
            let most = more-first-had grows r new turned.grows after phase.at turned.keeps c listed waits f.first f.below f.calls starts-first in
            omega (arith, many, left, most, own-later c listed, lower-min (length (seen_at new (bottom after).work c)) (last_at now e phase.n c));
        stays = inr waits;
        rests = λ live pending. absurd (true≢false (sym waits ∙ running-apart (Grows-trans grows turned.grows) (running-turned grows r began new after other same turned) c listed live));
      };
      first = λ c listed waits it. ap (λ l. items_at new.sets (drop 1 l) c) (item-append phase.at phase.kept more ∙ ap (λ l. l ++ of_item phase.at more) f.none)
          ∙ ap (λ l. items_at new.sets l c) (more-once grows r new turned.grows after phase.at turned.keeps);
    }
      where
        first-long : (c : List ℕ) → length (seen_at now (bottom e).work c) ≤ length (if now.sets.has f.first.0.0 c then f.first.1 ∷ [] else []) + last_at now e phase.n c
        first-long c = subst (λ (l : List (Cond × Hidden)). length (seen_at now l c) ≤ length (if now.sets.has f.first.0.0 c then f.first.1 ∷ [] else []) + length (below phase.n (behind_at now.sets l c))) (sym bottom-is)
            (let count = length-seen now (f.first ∷ f.rest) c in let long = f.long in by (now.sets.has f.first.0.0 c) count)
          where
            low : length (below phase.n (behind_at now.sets f.rest c)) ≡ length (behind_at now.sets f.rest c)
            low = ap length (below-all phase.n (behind_at now.sets f.rest c) (subst (λ n. Fall n (behind_at now.sets f.rest c)) f.long (behind-falls now.sets c f.rest)))

            by : (b : Bool) → length (seen_at now (f.first ∷ f.rest) c) ≡ length (if b then length f.rest ∷ behind_at now.sets f.rest c else behind_at now.sets f.rest c)
                → length (seen_at now (f.first ∷ f.rest) c) ≤ length (if b then f.first.1 ∷ [] else []) + length (below phase.n (if b then length f.rest ∷ behind_at now.sets f.rest c else behind_at now.sets f.rest c))
            by true count =
                let long = f.long in
                let skips = ap length (below-not phase.n (length f.rest) (behind_at now.sets f.rest c) (omega (arith, long))) in
                omega (arith, count, low, skips)
            by false count = omega (arith, count, low)

  -- ---- the phase

  -- A phase stays one through a turn.
  pub phase-turned : Phase files macros old new was after
  phase-turned = record {
    at = phase.at;
    next = phase.next;
    n = phase.n;
    fits = moved-fits files macros grows r began phase ready new after other same turned;
    most = phase.most;
    outs = phase.outs;
    low = low-later files macros grows r began phase ready new after other same turned;
    faults = phase.faults;
    came = phase.came;
    begins = begins-later files macros grows r began phase ready new after other same turned;
    kept = phase.kept ++ more;
    kept_is = kept-later-is files macros grows r began phase ready new after other same turned;
    behind = behind-later files macros grows r began phase ready new after other same turned;
    once = kept-one;
    worn = inr (elim phase.worn [ inl f ↦ worn-first f | inr w ↦ worn-turned w ]);
    before = before-later files macros grows r began phase ready new after other same turned;
    waits = waits-later files macros grows r began phase ready new after other same turned;
    has = phase.has;
    place = moved-place files macros grows r began phase ready new after other same turned;
    suffix = moved-suffix files macros grows r began phase ready new after other same turned;
    pairs = λ size c d p q span here there. pair-later size c d p q span (phase.pairs size c d p q span here there);
  }
