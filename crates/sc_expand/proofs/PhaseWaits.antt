-- What a phase has put out, through a turn, and what is put out for the item of who begins to wait.
use Rattle.std.proofs.Common.{◌≡◌, ◌∙◌, ℕ, ◌≤◌, Bool, true, false, true≢false, List, [], ◌∷◌, ◌++◌, ◌-◌, ◌<◌, All, append-nil, drop, length, length-append, map, suc, ◌+◌, Some, None, slice_get, take, refl, sym, ap, subst, arith}
use Rattle.sc_expand.proofs.Behind.{behind-falls, below, below-behind, length-seen, same-drop}
use Rattle.sc_expand.proofs.Facts.{All-append, IsConfig-Keeps, IsConfig-kept, append_cancel_left, drop-drop, drop-map, false_from_ne_true, length-drop, length-map, map-append, take-append-drop}
use Rattle.sc_expand.proofs.WorkListLemmas.{behind-drop}
use Rattle.sc_expand.proofs.PassesLaws.{none-behind, placed-within}
use Rattle.sc_expand.proofs.Phases.{come-many, comes-by, from-later, item-is, Begins, Comes, IsReady, Phase, Segments, Waiting, WaitsHere, at_item, at_start, indexes_now, last_at, state_now, tokens_from}
use Rattle.sc_expand.proofs.PhaseKeeps.{more-at, more-idle, more-is, more-of, number, numbers-parts, waits-turned}
use Rattle.sc_expand.proofs.PhaseMoves.{ended-state, first-far, first-out, held-first, start-later, state-bottom, takes-pending}
use Rattle.sc_expand.proofs.PhaseSegments.{indexes-none, puts-as, segments-Grows, segments-kept}
use Rattle.sc_expand.proofs.PassesLaws as placed
use Rattle.sc_expand.proofs.PlainSettles.{HasWaited, has-waited, no-waits}
use Rattle.sc_expand.proofs.RunLemmas.{IsRunning, bottom-state, running-apart, running-stands, turned-at}
use Rattle.sc_expand.proofs.SeenLemmas.{seen_at-append}
use Rattle.sc_expand.proofs.Terms.{Cond, EndsBy, Expansion, Grows, HasEnded, Hidden, IsCond, IsConfig, IsHeldExpansion, IsTurned, Macros, Progress, Pushes, Stands, Stores, at, behind_at, bottom, held_up, indexes_at, items_at, last_ones, provenance_of, put_out, seen_at, view_at, waits}
use Rattle.sc_expand.specs.Machine as machine
use Rattle.sc_expand.specs.Open as open_end
use Rattle.sc_expand.specs.Running as running
use Rattle.sc_expand.specs.Spans as spans
use Rattle.sc_expand.specs.Turn as turn
use Rattle.sc_expand.specs.Restricted as restricted

module _ (files : List (List ℕ)) (macros : List ℕ → Macros) {old now : Stores} {was e : Expansion} (grows : Grows old now) (r : IsRunning files macros old now was e) (began : IsHeldExpansion old (length files) was)
    (phase : Phase files macros old now was e) (ready : IsReady files macros phase) (new : Stores) (after : Expansion) (other : List ℕ → Macros) (same : (c : List ℕ) → IsConfig old.sets.arities c → other c ≡ macros c)
    {went : Bool} (turned : IsTurned files other now new e after went) where
  -- who takes part is in the name's expansion
  taking : (c : List ℕ) (listed : IsConfig old.sets.arities c) (live : now.sets.has e.refusals.live.0 c ≡ true) → turned.takes c ≡ true → (HasEnded e → ⊥)
      → placed.IsWithin (provenance_of files) (macros c) (seen_at old was.top.work c) (phase.came c) (length (tokens_from old was phase.next c)) (seen_at now (take phase.outs (put_out e)) c) (state_now now e c) (last_at now e phase.n c)
  taking c listed live takes goes_on =
      let pending = takes-pending files macros grows r began phase ready c (turned.takes c) (λ cond next. turned.which cond next c) takes (running-stands grows r c listed live) goes_on in
      placed-within (provenance_of files) (macros c) (seen_at old was.top.work c) (phase.came c) (length (tokens_from old was phase.next c)) (seen_at now (take phase.outs (put_out e)) c) (last_at now e phase.n c) (state_now now e c)
      (phase.place c listed live) pending

  -- ---- what was put out

  pub low-later : phase.outs ≤ length (put_out after)
  low-later = by turned.pushes
    where
      by : {b : Bool} → Pushes new.sets e after b → phase.outs ≤ length (put_out after)
      by (running.nothing is) = let low = phase.low in omega (arith, low, ap length is)
      by (running.first item cond one none first (restricted.pushed some is)) = let low = phase.low in omega (arith, low, ap length is, length-append (put_out e) ((cond, item.1) ∷ []))
      by (running.first item cond one none first (restricted.absent never is)) = let low = phase.low in omega (arith, low, ap length is)

  -- what waits of the item is all that a turn keeps
  abbrev pub kept-later : List (ℕ × (Cond × Hidden))
  kept-later = phase.kept ++ more-of grows r new turned.grows after phase.at turned.keeps

  pub kept-later-is : after.rest ≡ map (λ x. x.1) (phase.kept ++ more-of grows r new turned.grows after phase.at turned.keeps)
  kept-later-is =
      let more = more-of grows r new turned.grows after phase.at turned.keeps in
      more-is grows r new turned.grows after phase.at turned.keeps ∙ (ap (λ l. l ++ map (λ (x : ℕ × (Cond × Hidden)). x.1) more) phase.kept_is ∙ sym (map-append (λ (x : ℕ × (Cond × Hidden)). x.1) phase.kept more))

  pub kept-own : All (λ (item : Cond × Hidden). IsCond now.sets item.0.0) (map (λ x. x.1) phase.kept)
  kept-own = subst (All (λ (item : Cond × Hidden). IsCond now.sets item.0.0)) phase.kept_is r.held.rest.own

  pub before-later : Segments files macros old was new phase.at (take phase.outs (put_out after)) (phase.kept ++ more-of grows r new turned.grows after phase.at turned.keeps)
  before-later =
      let more = more-of grows r new turned.grows after phase.at turned.keeps in
      subst (λ l. Segments files macros old was new phase.at l (phase.kept ++ more)) (sym (first-out files macros grows r began phase ready new after other same turned))
      (segments-kept files macros old new was phase.kept more (λ k x h. (let here = more-at grows r new turned.grows after phase.at turned.keeps k x h in omega (arith, here)))
      (segments-Grows files macros old now was grows turned.grows (held-first files macros grows r began phase ready new after other same turned) kept-own phase.before))

  never-first : {item : Cond × Hidden} → slice_get e.top.work 0 ≡ Some item → HasEnded e → ⊥
  never-first {item} first ended = let none : None ≡ Some item = sym (ap (λ (l : List (Cond × Hidden)). slice_get l 0) ended.work) ∙ first in cc

  -- ---- who waits

  module _ (c : List ℕ) (listed : IsConfig old.sets.arities c) (waits_now : new.sets.has after.refusals.waiting.0 c ≡ true) where
    -- it has put out what it had
    put-same : seen_at new (put_out after) c ≡ seen_at now (put_out e) c
    put-same = turned.left.put c (IsConfig-Keeps grows.sets listed) (running-apart grows r c listed) waits_now

    parts : (st : Stores) (x : Expansion) → seen_at st (put_out x) c ≡ seen_at st (take phase.outs (put_out x)) c ++ seen_at st (drop phase.outs (put_out x)) c
    parts st x = ap (λ l. seen_at st l c) (sym (take-append-drop phase.outs (put_out x))) ∙ seen_at-append st (take phase.outs (put_out x)) (drop phase.outs (put_out x)) c

    own-same : seen_at new (drop phase.outs (put_out after)) c ≡ seen_at now (drop phase.outs (put_out e)) c
    own-same =
        append_cancel_left (seen_at now (take phase.outs (put_out e)) c) (seen_at new (drop phase.outs (put_out after)) c) (seen_at now (drop phase.outs (put_out e)) c)
        (ap (λ l. l ++ seen_at new (drop phase.outs (put_out after)) c) (sym (start-later files macros grows r began phase ready new after other same turned c listed))
        ∙ (sym (parts new after) ∙ (put-same ∙ parts now e)))

    record BeginsToWait : Type 0 where
      live : now.sets.has e.refusals.live.0 c ≡ true
      takes : turned.takes c ≡ true
      ends : Stands now c e.below.items (view_at now e.top c) → EndsBy (provenance_of files) (macros c) true (state_now now e c) turn.waits

    begins-to-wait : now.sets.has e.refusals.waiting.0 c ≡ false → BeginsToWait
    begins-to-wait not = by refl (turned-at grows r began new after other same turned c listed)
      where
        by : {b : Bool} → turned.takes c ≡ b → Progress (provenance_of files) (macros c) now new c e.below.items after.below.items (at now e c) (at new after c) b → BeginsToWait
        by is (machine.rests still alike stays) = absurd (true≢false (sym waits_now ∙ (ap (λ x. x.waiting) alike ∙ not)))
        by is (machine.gone gone_was gone_now alike) = absurd (true≢false (sym waits_now ∙ (ap (λ x. x.waiting) alike ∙ not)))
        by is (machine.steps live_was live_now alike free move) = absurd (true≢false (sym waits_now ∙ (ap (λ x. x.waiting) alike ∙ not)))
        by is (machine.ends (turn.fails failure) live_was dead alike ends) = absurd (true≢false (sym waits_now ∙ (ap (λ x. x.waiting) alike ∙ not)))
        by is (machine.ends turn.waits live_was dead alike ends) = record { live = live_was; takes = is; ends = ends }

    waits-now : BeginsToWait → open_end.Waits (macros c) (state_now now e c)
    waits-now b = held (b.ends (running-stands grows r c listed b.live))
      where
        held : EndsBy (provenance_of files) (macros c) true (state_now now e c) turn.waits → open_end.Waits (macros c) (state_now now e c)
        held (held_up whole w) = w

    -- it is in the name's expansion
    waits-within : BeginsToWait → placed.IsWithin (provenance_of files) (macros c) (seen_at old was.top.work c) (phase.came c) (length (tokens_from old was phase.next c)) (seen_at now (take phase.outs (put_out e)) c) (state_now now e c) (last_at now e phase.n c)
    waits-within b = taking c listed b.live b.takes (λ ended. no-waits (provenance_of files) (macros c) (waits-now b) (seen_at now e.top.out c) (ended-state now c e ended))

    abbrev long : ℕ
    long = length was.top.work

    indexes-same : indexes_now new after long phase.n phase.at kept-later c ≡ indexes_now now e long phase.n phase.at phase.kept c
    indexes-same =
        waits-turned grows r new turned.grows after phase.at turned.keeps c listed turned.left waits_now phase.kept kept-own long phase.n (first-far files macros grows r began phase ready)
        (turned.rest c (IsConfig-Keeps grows.sets listed))

    abbrev Here : Type 0
    Here = WaitsHere files macros old new was phase.at phase.next (drop phase.outs (put_out after)) (indexes_now new after long phase.n phase.at kept-later c) c

    -- it came to the item, whose run has come to its end
    record BeginsHere : Type 0 where
      one : phase.next ≡ phase.at + 1
      live : now.sets.has e.refusals.live.0 c ≡ true
      x : placed.IsWithin (provenance_of files) (macros c) (seen_at old was.top.work c) (phase.came c) (length (tokens_from old was phase.next c)) (seen_at now (take phase.outs (put_out e)) c) (state_now now e c) (last_at now e phase.n c)
      n : HasWaited (provenance_of files) (macros c) x.name (seen_at now (put_out e) c)

    begins-here : now.sets.has e.refusals.waiting.0 c ≡ false → BeginsHere
    begins-here not = by phase.begins
      where
        b : BeginsToWait
        b = begins-to-wait not

        by : Begins files macros old now was e phase.came phase.at phase.next → BeginsHere
        by (at_start is_start none_came empty idle) = absurd (true≢false (sym (waits-within b).came_is ∙ none_came c))
        by (at_item one missed) = record {
          one = one;
          live = b.live;
          x = waits-within b;
          n = has-waited (provenance_of files) (macros c) (waits-within b).name (waits-now b) (seen_at now (put_out e) c) (λ o left is. (bottom-state now c o left e.below.items e.top is).0);
        }

    abbrev long-here : (h : BeginsHere) → length h.x.name.behind ≡ length (tokens_from old was (phase.at + 1) c)
    long-here h = h.x.long ∙ ap (λ k. length (tokens_from old was k c)) h.one

    abbrev comes-here : BeginsHere → Comes files macros old was phase.at c
    comes-here h = comes-by files macros old was phase.at c (phase.has c listed h.x.came_is) h.x.name.passes (long-here h) h.n.runs

    pub begins-at : now.sets.has e.refusals.waiting.0 c ≡ false → (phase.came c ≡ true) × (now.sets.has e.refusals.live.0 c ≡ true) × Comes files macros old was phase.at c
    begins-at not = let h = begins-here not in (h.x.came_is, h.live, comes-here h)

    -- what it has of the list is what was made, and then the last of what it had
    first-as : now.sets.has e.refusals.waiting.0 c ≡ false → (h : BeginsHere) → Waiting files macros old was (indexes_now new after long phase.n phase.at kept-later c) c
    first-as not h = record {
      at = phase.at;
      comes = comes-here h;
      name = h.n.name;
      made = h.n.made;
      left = h.x.name.left;
      ends = ap (waits h.n.name) h.n.stands;
      takes = sym behind_is ∙ (h.x.name.reaches.stands ∙ ap (λ l. l ++ h.x.name.left) (sym h.n.takes));
      is = indexes-same ∙ ((λ i. indexes-none r phase c listed not i ++ map (number long phase.n phase.at) numbers)
          ∙ (numbers-parts long phase.n phase.at (length (bottom e).work) (h.n.name ∷ h.n.made) numbers (behind-falls now.sets c (bottom e).work) counts
          ∙ ap (λ l. map (λ t. phase.at) (h.n.name ∷ h.n.made) ++ l) (ap (map (λ j. long - suc j)) lasts ∙ lasts-are)));
    }
      where
        behind_is : h.x.name.behind ≡ tokens_from old was (phase.at + 1) c
        behind_is = ap (drop 1) (item-is files macros old was phase.at c (phase.has c listed h.x.came_is) h.x.name.passes (long-here h))

        numbers : List ℕ
        numbers = behind_at now.sets (bottom e).work c

        most : phase.n ≤ length was.top.work
        most = let all = phase.most in omega (arith, all)

        had : ℕ
        had = length (items_at old.sets (take (long - phase.n) was.top.work) c)

        suffix : (g : ℕ) × (below phase.n numbers ≡ drop g (below phase.n (behind_at old.sets was.top.work c)))
        suffix = phase.suffix c listed h.live phase.n (omega arith)

        gone : ℕ
        gone = had + suffix.0

        lasts : below phase.n numbers ≡ drop gone (behind_at old.sets was.top.work c)
        lasts = suffix.1 ∙ (ap (drop suffix.0) (below-behind old.sets c phase.n was.top.work most ∙ behind-drop old.sets (long - phase.n) was.top.work c) ∙ drop-drop suffix.0 had (behind_at old.sets was.top.work c))

        -- which are as many as are left
        lasts-are : map (λ j. long - suc j) (drop gone (behind_at old.sets was.top.work c)) ≡ last_ones (length h.x.name.left) (indexes_at old.sets was.top.work c)
        lasts-are =
            let own : ℕ → ℕ = λ j. long - suc j in
            let all = indexes_at old.sets was.top.work c in
            let first = length all - length h.x.name.left in
            let here = sym (drop-map own gone (behind_at old.sets was.top.work c)) in
            let left = h.x.own in
            here ∙ same-drop gone first all (omega (arith, left, ap length lasts, ap length here, length-map (drop gone (behind_at old.sets was.top.work c)) own, length-drop gone all, length-drop first all))

        counts : suc (length h.n.made) + length (below phase.n numbers) ≡ length numbers
        counts =
            let own = h.x.own in
            let all = ap length (sym (state-bottom now e c) ∙ (h.x.name.reaches.bottom_is ∙ ap (λ l. l ++ h.x.name.left) h.n.front)) in
            omega (arith, own, all, length-append (h.n.name ∷ h.n.made) h.x.name.left, length-seen now (bottom e).work c)

    waits-by : (b : Bool) → now.sets.has e.refusals.waiting.0 c ≡ b → Here
    waits-by true is =
        let w = phase.waits c listed is in record {
          puts = puts-as files macros old now was new phase.at (drop phase.outs (put_out e)) (drop phase.outs (put_out after)) c own-same w.puts;
          waited = subst (λ l. Waiting files macros old was l c) (sym indexes-same) w.waited;
          last = w.last;
        }
    waits-by false is = let h = begins-here is in record {
      puts = spans.comes (comes-here h) (own-same
          ∙ append_cancel_left (seen_at now (take phase.outs (put_out e)) c) (seen_at now (drop phase.outs (put_out e)) c) h.n.done (sym (parts now e) ∙ (h.n.is ∙ ap (λ l. l ++ h.n.done) h.x.from)));
      waited = first-as is h;
      last = λ index le y.
          let many = come-many files macros old was index c y in
          let before = from-later old was c phase.next index le in
          let stood = h.x.long in
          none-behind (provenance_of files) (macros c) h.x.name.passes h.n.runs y.passes (omega (arith, many, before, stood));
    }

    pub waits-later : WaitsHere files macros old new was phase.at phase.next (drop phase.outs (put_out after)) (indexes_now new after (length was.top.work) phase.n phase.at kept-later c) c
    waits-later = waits-by (now.sets.has e.refusals.waiting.0 c) refl

  pub begins-later : Begins files macros old new was after phase.came phase.at phase.next
  begins-later = by phase.begins
    where
      by : Begins files macros old now was e phase.came phase.at phase.next → Begins files macros old new was after phase.came phase.at phase.next
      by (at_item one missed) = at_item one missed
      by (at_start is_start none_came empty idle) = at_start is_start none_came (still turned.pushes refl ∙ empty) (λ c listed.
          false_from_ne_true (new.sets.has after.refusals.waiting.0 c) (λ waits. true≢false (sym (waits-within c listed waits (begins-to-wait c listed waits (idle c listed))).came_is ∙ none_came c)))
        where
          still : {b : Bool} → Pushes new.sets e after b → went ≡ b → put_out after ≡ put_out e
          still (running.nothing is) went_is = is
          still (running.first item cond one none first behind) went_is = absurd (turned.some went_is (λ c listed takes live.
              true≢false (sym (taking c (IsConfig-kept grows.sets listed) live takes (never-first first)).came_is ∙ none_came c)))

  -- each element that waits is of the item, or of one before it
  pub behind-later : All (λ x. x.0 < length was.top.work - phase.n) (phase.kept ++ more-of grows r new turned.grows after phase.at turned.keeps)
  behind-later = by begins-later
    where
      Low : ℕ × (Cond × Hidden) → Type 0
      Low x = x.0 < length was.top.work - phase.n

      by : Begins files macros old new was after phase.came phase.at phase.next → All Low (phase.kept ++ more-of grows r new turned.grows after phase.at turned.keeps)
      by (at_item one missed) =
          let most = phase.most in
          All-append Low phase.kept (more-of grows r new turned.grows after phase.at turned.keeps) phase.behind
          (λ k x h. (let here = more-at grows r new turned.grows after phase.at turned.keeps k x h in omega (arith, here, one, most)))
      by (at_start is_start none_came empty idle) =
          let none = more-idle grows r new turned.grows after phase.at turned.keeps idle (λ c listed. IsConfig-kept grows.sets (IsConfig-kept turned.grows.sets listed)) in
          subst (All Low) (sym (ap (λ l. phase.kept ++ l) none ∙ append-nil phase.kept)) phase.behind
