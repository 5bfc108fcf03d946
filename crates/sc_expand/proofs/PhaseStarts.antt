-- A phase of an expansion begins: with the whole list, and at each name of it.
use Rattle.std.proofs.Common.{◌≡◌, ◌⊎◌, inl, inr, ℕ, zero, suc, ◌+◌, ◌-◌, ◌<◌, ◌≤◌, ◌&&◌, Bool, true, false, true≢false, List, [], ◌∷◌, ◌++◌, All, Some, drop, length, length-append, map, slice_get, take, refl, sym, ap, subst, ◌∙◌, arith, if◌then◌else◌}
use Rattle.sc_expand.proofs.AlikeLemmas.{AreAlike-Keeps, IsAlike-Keeps}
use Rattle.sc_expand.proofs.Behind.{Fall, Fall-weaker, behind-falls, below, below-all, below-behind, below-not, lower-bounds, lower-least, lower-min, alike-behind, below-from, below-same, first-had, length-seen, same-end, seen-drop, seen-name, take-least}
use Rattle.sc_expand.proofs.WaitingLemmas.{behind-Keeps, bottom-frame}
use Rattle.sc_expand.proofs.Facts.{All-append, All-cons, All-drop, All-head, All-nil, All-take, IsConfig-Keeps, IsConfig-kept, and_parts, append-nil, append_assoc, cases_lt, drop-drop, drop_all, items_at-Keeps, length-drop, map-append, take-take, take_all}
use Rattle.sc_expand.proofs.MachineLemmas.{progress-step}
use Rattle.sc_expand.proofs.NamedItems.{first-alone, indexes-append, indexes-Keeps, item-all, item-append, item-none, same-name-Keeps, same-name-more}
use Rattle.sc_expand.proofs.PassesLaws.{passes-end, IsNext, Placed, away, placed-next}
use Rattle.sc_expand.proofs.Phases.{come-many, from-later, Begins, Comes, HasItem, IsFresh, IsOver, IsReady, IsWorn, PairStands, Phase, Segments, Settling, Spans, Waiting, as_one, at_item, at_start, bound_of, come_through, indexes_now, last_at, state_now, tokens_from}
use Rattle.sc_expand.proofs.PhaseKeeps.{all-below, all-fall, fronts-alike, fronts-lack, low-behind, number, numbered, numbered-once, numbered-none, numbered-own, numbered-alike, numbered-behind, numbered-idle, numbered-indexes, numbered-is, numbered-lacks, numbered-later, numbers-first, numbers-same}
use Rattle.sc_expand.proofs.PhaseMoves.{first-more}
use Rattle.sc_expand.proofs.PhaseSegments.{bottom-is, held-drop, held-take, out-is, own-few, phase-segments, puts-as, segments-Grows, segments-kept, settles-on, stands, state-is}
use Rattle.sc_expand.proofs.Rests.{none-some}
use Rattle.sc_expand.proofs.RunLemmas.{IsRunning, rests-at, running-apart, running-stands, start-state, told-apart}
use Rattle.sc_expand.proofs.SeenLemmas.{seen_at-Grows}
use Rattle.sc_expand.proofs.Terms.{AreAlike, AreAlikeFaults, AreHeld, Call, Cond, Enclosing, Expansion, Fault, Frame, Grows, Hidden, HiddenToken, IsAlike, IsAlikeCall, IsAlikeEnclosing, IsAlikeExpansion, IsAlikeFrame, IsCond, IsConfig, IsHeldExpansion, IsPending, IsRested, IsUncalled, IsUntouched, KeepsGone, Macros, Others, Passes, Place, Refusals, Sets, State, Stores, begins, behind_at, bottom, bottom_by, items_at, lower_of, others_at, provenance_of, put_by, put_out, scanning, seen_at, seen_hidden}
use Rattle.sc_expand.proofs.Turning.{put_by-held}
use Rattle.sc_expand.specs.Spans.{IsSameName, indexes_in, of_item, passed}

-- ---- fewer tokens that are alike

module _ (s : Sets) (c d : List ℕ) (others : Others) (b : ℕ) where
  abbrev fewer : Others
  fewer = record { behind = b; out = others.out; faults = others.faults }

  alike-frame : (frame : Frame) → length frame.work - b ≤ length frame.work - others.behind → IsAlikeFrame s c d others frame → IsAlikeFrame s c d fewer frame
  alike-frame frame less alike =
      let P : Cond × Hidden → Type 0 = λ item. IsAlike s c d item.0 in
      let m = length frame.work - b in
      let k = length frame.work - others.behind in
      record { work = subst (All P) (take-take m k frame.work less) (All-take P m (take k frame.work) alike.work); out = alike.out; calls = alike.calls }

  alike-top : (below : List Enclosing) (top : Frame) → length (bottom_by below top).work - b ≤ length (bottom_by below top).work - others.behind
      → IsAlikeFrame s c d (others_at others (length below)) top → IsAlikeFrame s c d (others_at fewer (length below)) top
  alike-top [] top less alike = alike-frame top less alike
  alike-top (e ∷ es) top less alike = alike

  alike-below : (below : List Enclosing) (top : Frame) → length (bottom_by below top).work - b ≤ length (bottom_by below top).work - others.behind
      → (n : ℕ) (o : Enclosing) → slice_get below n ≡ Some o → IsAlikeEnclosing s c d (others_at others n) o → IsAlikeEnclosing s c d (others_at fewer n) o
  alike-below [] top less n o is alike = absurd (cc)
  alike-below (e ∷ es) top less zero o is alike =
      let same : e ≡ o = cc in
      record { frame = alike-frame o.frame (subst (λ (x : Enclosing). length x.frame.work - b ≤ length x.frame.work - others.behind) same less) alike.frame; call = alike.call }
  alike-below (e ∷ es) top less (suc n) o is alike = alike

  pub alike-fewer : (e : Expansion) → length (bottom e).work - b ≤ length (bottom e).work - others.behind → IsAlikeExpansion s c d others e
      → IsAlikeExpansion s c d (record { behind = b; out = others.out; faults = others.faults }) e
  alike-fewer e less alike = record {
    refusals = record { live = alike.refusals.live; waiting = alike.refusals.waiting; faults = alike.refusals.faults };
    top = alike-top e.below.items e.top less alike.top;
    below = λ n o is. alike-below e.below.items e.top less n o is (alike.below n o is);
  }

-- ---- the start

module _ (files : List (List ℕ)) (macros : List ℕ → Macros) where
  -- no configuration has come to a name
  pub phase-start : (old : Stores) (was : Expansion) → IsHeldExpansion old (length files) was → IsUntouched old.sets was → Phase files macros old old was was
  phase-start old was held fresh = record {
    at = 0;
    next = 0;
    n = length was.top.work;
    fits = let long = ap (λ (f : Frame). length f.work) bot in omega (arith, long);
    most = omega arith;
    outs = 0;
    low = omega arith;
    faults = 0;
    came = λ c. false;
    begins = at_start refl (λ c. refl) (ap (λ bs. put_by bs was.top) fresh.below ∙ fresh.out) (λ c p. fresh.waiting.none c p);
    kept = [];
    kept_is = fresh.rest;
    behind = All-nil (λ (x : ℕ × (Cond × Hidden)). x.0 < length was.top.work - length was.top.work);
    once = λ k le. omega arith;
    worn = inr (record {
      moved = λ c p k. absurd (true≢false (sym k));
      over = λ c p waits. absurd (true≢false (sym waits ∙ fresh.waiting.none c p));
      first = λ c p waits. absurd (true≢false (sym waits ∙ fresh.waiting.none c p));
    });
    before = record { segments = []; many = refl; is = refl; each = λ index part found. absurd (cc); names = λ index part found. absurd (cc); itself = λ index less. absurd (omega (arith, less)) };
    waits = λ c p waits. absurd (true≢false (sym waits ∙ fresh.waiting.none c p));
    has = λ c p k. absurd (true≢false (sym k));
    place = λ c p live. place c;
    suffix = λ c p live m le. (0, ap (λ (f : Frame). below m (behind_at old.sets f.work c)) bot);
    pairs = λ size c d p q span here there. absurd (true≢false (sym here));
  }
    where
      bot : bottom was ≡ was.top
      bot = ap (λ bs. bottom_by bs was.top) fresh.below

      all : (c : List ℕ) → below (length was.top.work) (behind_at old.sets (bottom was).work c) ≡ behind_at old.sets was.top.work c
      all c = ap (λ (f : Frame). below (length was.top.work) (behind_at old.sets f.work c)) bot ∙ below-all (length was.top.work) (behind_at old.sets was.top.work c) (behind-falls old.sets c was.top.work)

      place : (c : List ℕ) → Placed (provenance_of files) (macros c) (seen_at old was.top.work c) false (length (seen_at old was.top.work c)) [] (state_now old was c) (last_at old was (length was.top.work) c)
      place c =
          subst (λ s. Placed (provenance_of files) (macros c) (seen_at old was.top.work c) false (length (seen_at old was.top.work c)) [] s (last_at old was (length was.top.work) c)) (sym (start-state files macros old was held fresh c))
          (away refl begins (ap length (all c) ∙ sym (length-seen old was.top.work c)) (record { few = omega arith; most = λ out left p less. less }))

-- ---- what only refused configurations have has gone

module _ {files : List (List ℕ)} {macros : List ℕ → Macros} {old now : Stores} {was e : Expansion} (grows : Grows old now)
    (r : IsRunning files macros old now was e) (began : IsHeldExpansion old (length files) was) where
  pub phase-rested : (new : Stores) (after : Expansion) → Phase files macros old now was e → IsRested now new e after → Phase files macros old new was after
  phase-rested new after phase rested = record {
    at = phase.at;
    next = phase.next;
    n = n;
    fits = omega (arith, lower-min (length (bottom after).work) phase.n);
    most = let most = phase.most in omega (arith, lower-min (length (bottom after).work) phase.n, most);
    outs = phase.outs;
    low = subst (λ (l : List (Cond × Hidden)). phase.outs ≤ length l) (sym rested.out) phase.low;
    faults = phase.faults;
    came = phase.came;
    begins = begins-now phase.begins;
    kept = phase.kept ++ more;
    kept_is = gone.rest ∙ ((λ i. phase.kept_is i ++ sym (numbered-is new.sets e.refusals.waiting.0 (length was.top.work) phase.n phase.at (length (bottom after).work) gone.is) i) ∙ sym (map-append (λ (x : ℕ × (Cond × Hidden)). x.1) phase.kept more));
    behind = All-append (λ (x : ℕ × (Cond × Hidden)). x.0 < length was.top.work - n) phase.kept more (λ k x h. (let few = phase.behind k x h in omega (arith, few, lower-min (length (bottom after).work) phase.n))) more-behind;
    once = once-rested;
    worn = worn-rested phase.worn;
    before = subst (λ l. Segments files macros old was new phase.at (take phase.outs l) (phase.kept ++ more)) (sym rested.out)
        (segments-kept files macros old new was phase.kept more more-later (segments-Grows files macros old now was grows rested.grows (held-take phase.outs (put_out e) held_out) kept-own phase.before));
    waits = λ c p waits.
        let w = phase.waits c p (sym (waits-same c p) ∙ waits) in record {
          puts = puts-as files macros old now was new phase.at (drop phase.outs (put_out e)) (drop phase.outs (put_out after)) c (own-same c p) w.puts;
          waited = subst (λ l. Waiting files macros old was l c) (sym (indexes-same c p waits)) w.waited;
          last = w.last;
        };
    has = phase.has;
    place = λ c p live.
        let s = stays c p live in
        subst (λ (z : List (HiddenToken Place) × State Place × ℕ). Placed (provenance_of files) (macros c) (seen_at old was.top.work c) (phase.came c) (length (tokens_from old was phase.next c)) z.0 z.1 z.2)
        (λ i. (sym (start-same c p) i, s.1 i, sym (last c p live) i)) (phase.place c p s.0);
    suffix = λ c p live m le. let it = phase.suffix c p (stays c p live).0 m (omega (arith, le, lower-min (length (bottom after).work) phase.n)) in (it.0, ap (below m) (behind c p live) ∙ it.1);
    pairs = λ size c d p q span here there. pair-rested size c d p q here there (phase.pairs size c d p q span here there);
  }
    where
      long : ℕ
      long = length (bottom after).work

      n : ℕ
      n = lower_of (length (bottom after).work) phase.n

      less : (bound : ℕ) → long - lower_of bound n ≤ long - lower_of bound phase.n
      less bound = elim (lower-bounds bound long phase.n) [ inl same ↦ omega (arith, same) | inr far ↦ omega (arith, far.0) ]

      stays : (c : List ℕ) → IsConfig old.sets.arities c → new.sets.has after.refusals.live.0 c ≡ true
          → (now.sets.has e.refusals.live.0 c ≡ true) × (state_now now e c ≡ state_now new after c)
      stays c p live =
          let s = progress-step (provenance_of files) (macros c) now new c e.below.items after.below.items (rests-at grows r began new after rested c p) live (running-stands grows r c p) in
          (s.0, s.1.stays refl)

      held_out : AreHeld now (length files) (put_out e)
      held_out = put_by-held e.below.items e.top r.held.below r.held.top

      start-same : (c : List ℕ) → IsConfig old.sets.arities c → seen_at new (take phase.outs (put_out after)) c ≡ seen_at now (take phase.outs (put_out e)) c
      start-same c p = ap (λ l. seen_at new (take phase.outs l) c) rested.out ∙ seen_at-Grows rested.grows c (IsConfig-Keeps grows.sets p) (take phase.outs (put_out e)) (held-take phase.outs (put_out e) held_out)

      own-same : (c : List ℕ) → IsConfig old.sets.arities c → seen_at new (drop phase.outs (put_out after)) c ≡ seen_at now (drop phase.outs (put_out e)) c
      own-same c p = ap (λ l. seen_at new (drop phase.outs l) c) rested.out ∙ seen_at-Grows rested.grows c (IsConfig-Keeps grows.sets p) (drop phase.outs (put_out e)) (held-drop phase.outs (put_out e) held_out)

      waits-same : (c : List ℕ) → IsConfig old.sets.arities c → new.sets.has after.refusals.waiting.0 c ≡ now.sets.has e.refusals.waiting.0 c
      waits-same c p = ap (λ (k : Refusals). new.sets.has k.waiting.0 c) rested.refusals ∙ rested.grows.sets.at e.refusals.waiting.0 c r.held.refusals.waiting (IsConfig-Keeps grows.sets p)

      begins-now : Begins files macros old now was e phase.came phase.at phase.next → Begins files macros old new was after phase.came phase.at phase.next
      begins-now (at_item one missed) = at_item one missed
      begins-now (at_start is_start none_came empty idle) = at_start is_start none_came (rested.out ∙ empty) (λ c p. waits-same c p ∙ idle c p)

      behind : (c : List ℕ) → IsConfig old.sets.arities c → new.sets.has after.refusals.live.0 c ≡ true → behind_at new.sets (bottom after).work c ≡ behind_at now.sets (bottom e).work c
      behind c p live = rested.rest (length files) c r.held (IsConfig-Keeps grows.sets p) (stays c p live).0

      last : (c : List ℕ) → IsConfig old.sets.arities c → new.sets.has after.refusals.live.0 c ≡ true → last_at new after n c ≡ last_at now e phase.n c
      last c p live = ap length (below-same long n phase.n (behind_at new.sets (bottom after).work c) (behind-falls new.sets c (bottom after).work) (lower-least long phase.n) ∙ ap (below phase.n) (behind c p live))

      -- ---- what is kept

      gone : KeepsGone new.sets e after
      gone = rested.keeps (length files) r.held

      more : List (ℕ × (Cond × Hidden))
      more = numbered new.sets e.refusals.waiting.0 (length was.top.work) phase.n phase.at (length (bottom after).work) gone.is

      kept-own : All (λ (item : Cond × Hidden). IsCond now.sets item.0.0) (map (λ x. x.1) phase.kept)
      kept-own = subst (All (λ (item : Cond × Hidden). IsCond now.sets item.0.0)) phase.kept_is r.held.rest.own

      more-idle : ((c : List ℕ) → IsConfig old.sets.arities c → now.sets.has e.refusals.waiting.0 c ≡ false) → more ≡ []
      more-idle idle = numbered-idle new.sets e.refusals.waiting.0 (length was.top.work) phase.n phase.at (length (bottom after).work) gone.is (λ c listed.
          (let there = IsConfig-kept rested.grows.sets listed in
          rested.grows.sets.at e.refusals.waiting.0 c r.held.refusals.waiting there ∙ idle c (IsConfig-kept grows.sets there)))

      more-behind : All (λ x. x.0 < length was.top.work - n) more
      more-behind = by phase.begins
        where
          by : Begins files macros old now was e phase.came phase.at phase.next → All (λ x. x.0 < length was.top.work - n) more
          by (at_item one missed) =
              let most = phase.most in
              numbered-behind new.sets e.refusals.waiting.0 (length was.top.work) phase.n phase.at (length (bottom after).work) n gone.is (omega (arith, one, most, lower-min (length (bottom after).work) phase.n))
              (omega (arith, lower-min (length (bottom after).work) phase.n)) (omega (arith, lower-min (length (bottom after).work) phase.n)) (omega (arith, most))
          by (at_start is_start none_came empty idle) = subst (All (λ (x : ℕ × (Cond × Hidden)). x.0 < length was.top.work - n)) (sym (more-idle idle)) (All-nil (λ (x : ℕ × (Cond × Hidden)). x.0 < length was.top.work - n))

      more-later : All (λ x. phase.at ≤ x.0) more
      more-later = by phase.begins
        where
          by : Begins files macros old now was e phase.came phase.at phase.next → All (λ x. phase.at ≤ x.0) more
          by (at_item one missed) = let most = phase.most in numbered-later new.sets e.refusals.waiting.0 (length was.top.work) phase.n phase.at (length (bottom after).work) gone.is (omega (arith, one, most)) (omega (arith, most))
          by (at_start is_start none_came empty idle) = subst (All (λ (x : ℕ × (Cond × Hidden)). phase.at ≤ x.0)) (sym (more-idle idle)) (All-nil (λ (x : ℕ × (Cond × Hidden)). phase.at ≤ x.0))

      -- ---- two configurations

      low : (c : List ℕ) → IsConfig old.sets.arities c → (phase.came c ≡ true) ⊎ (now.sets.has e.refusals.waiting.0 c ≡ true) → phase.at < length was.top.work - phase.n
      low c p here = by phase.begins here
        where
          by : Begins files macros old now was e phase.came phase.at phase.next → (phase.came c ≡ true) ⊎ (now.sets.has e.refusals.waiting.0 c ≡ true) → phase.at < length was.top.work - phase.n
          by (at_item one missed) here = let most = phase.most in omega (arith, one, most)
          by (at_start is_start none_came empty idle) (inl came) = absurd (true≢false (sym came ∙ none_came c))
          by (at_start is_start none_came empty idle) (inr waits) = absurd (true≢false (sym waits ∙ idle c p))

      fits-all : phase.n ≤ length was.top.work
      fits-all = let most = phase.most in omega (arith, most)

      -- the list below all others began with what is gone
      work-now : (c : List ℕ) → IsConfig old.sets.arities c → behind_at new.sets (gone.gone ++ (bottom after).work) c ≡ behind_at now.sets (bottom e).work c
      work-now c p = ap (λ l. behind_at new.sets l c) (sym gone.work) ∙ behind-Keeps rested.grows.sets (IsConfig-Keeps grows.sets p) (bottom e).work (bottom-frame e r.held).work.own

      -- what waits and is left
      indexes-same : (c : List ℕ) → IsConfig old.sets.arities c → new.sets.has after.refusals.waiting.0 c ≡ true
          → indexes_now new after (length was.top.work) n phase.at (phase.kept ++ more) c ≡ indexes_now now e (length was.top.work) phase.n phase.at phase.kept c
      indexes-same c p waits =
          let kept = indexes_in now.sets phase.kept c in
          let they = indexes_in new.sets more c in
          let numbers = behind_at new.sets (bottom after).work c in
          let f = number (length was.top.work) phase.n phase.at in
          let waited = ap (λ (k : Refusals). new.sets.has k.waiting.0 c) (sym rested.refusals) ∙ waits in
          let gone_is = numbered-indexes new.sets e.refusals.waiting.0 (length was.top.work) phase.n phase.at long gone.is (bottom after).work refl c (IsConfig-Keeps rested.grows.sets (IsConfig-Keeps grows.sets p)) waited in
          (λ i. (indexes-append new.sets c phase.kept more ∙ ap (λ l. l ++ they) (indexes-Keeps new.sets c rested.grows.sets (IsConfig-Keeps grows.sets p) phase.kept kept-own)) i
          ++ numbers-same (length was.top.work) n phase.n phase.at long numbers (behind-falls new.sets c (bottom after).work) (lower-least long phase.n) i)
          ∙ (append_assoc kept they (map f numbers) ∙ ap (λ l. kept ++ l) (sym gone_is ∙ ap (map f) (work-now c p)))

      lows : (c : List ℕ) → IsConfig old.sets.arities c → IsOver now e phase.n c → All (λ m. m < phase.n) (behind_at new.sets (gone.gone ++ (bottom after).work) c)
      lows c p x = subst (All (λ (m : ℕ). m < phase.n)) (sym (work-now c p)) (all-below phase.n (behind_at now.sets (bottom e).work c) (let own = x.own in omega (arith, own, length-seen now (bottom e).work c)))

      over-rested : (c : List ℕ) → IsConfig old.sets.arities c → IsOver now e phase.n c → IsOver new after n c
      over-rested c p x = record {
        own =
            let ms = behind_at new.sets (bottom after).work c in
            let falls = behind-falls new.sets c (bottom after).work in
            let all = below-all phase.n ms (all-fall phase.n (length (bottom after).work) ms (low-behind new.sets c phase.n gone.gone (bottom after).work (lows c p x)) falls) in
            let same = ap length (below-same long n phase.n ms falls (lower-least long phase.n) ∙ all) in
            omega (arith, same, length-seen new (bottom after).work c);
        stays = stay x.stays;
        rests = λ live pending.
            let s = stays c p live in
            x.rests s.0 (subst (λ m. IsPending (state_now now e c) m) (last c p live) (subst (λ y. IsPending y (last_at new after n c)) (sym s.1) pending));
      }
        where
          stay : (now.sets.has e.refusals.live.0 c ≡ true) ⊎ (now.sets.has e.refusals.waiting.0 c ≡ true) → (new.sets.has after.refusals.live.0 c ≡ true) ⊎ (new.sets.has after.refusals.waiting.0 c ≡ true)
          stay (inl live) = inl (ap (λ (k : Refusals). new.sets.has k.live.0 c) rested.refusals ∙ (rested.grows.sets.at e.refusals.live.0 c r.held.refusals.live (IsConfig-Keeps grows.sets p) ∙ live))
          stay (inr waits) = inr (waits-same c p ∙ waits)

      over-lacks : (c : List ℕ) → IsConfig old.sets.arities c → (phase.came c ≡ true) ⊎ (now.sets.has e.refusals.waiting.0 c ≡ true) → IsOver now e phase.n c → items_at new.sets (of_item phase.at more) c ≡ []
      over-lacks c p here x =
          numbered-lacks new.sets e.refusals.waiting.0 (length was.top.work) phase.n phase.at (length (bottom after).work) (low c p here) fits-all gone.is c (IsConfig-Keeps rested.grows.sets (IsConfig-Keeps grows.sets p))
          (fronts-lack new.sets e.refusals.waiting.0 (length was.top.work) phase.n phase.at (length (bottom after).work) c gone.gone (bottom after).work refl (lows c p x))

      -- ---- the item itself

      gone-long : length gone.gone + length (bottom after).work ≡ length (bottom e).work
      gone-long = sym (length-append gone.gone (bottom after).work) ∙ sym (ap length gone.work)

      once-rested : (k : ℕ) → phase.next ≤ k → length (of_item k (phase.kept ++ more)) ≤ 1
      once-rested k le = by phase.begins (cases_lt k (length was.top.work - phase.n))
        where
          parts : length (of_item k (phase.kept ++ more)) ≡ length (of_item k phase.kept) + length (of_item k more)
          parts = ap length (item-append k phase.kept more) ∙ length-append (of_item k phase.kept) (of_item k more)

          were : length (of_item k phase.kept) ≤ 1
          were = phase.once k le

          by : Begins files macros old now was e phase.came phase.at phase.next → (k < length was.top.work - phase.n) ⊎ (length was.top.work - phase.n ≤ k) → length (of_item k (phase.kept ++ more)) ≤ 1
          by (at_start is_start none_came empty idle) where_is = let none = ap (λ l. length (of_item k l)) (more-idle idle) in omega (arith, parts, were, none)
          by (at_item one missed) (inl before) =
              let none = ap length (item-none k more (λ j x h is. (let of = numbered-own new.sets e.refusals.waiting.0 (length was.top.work) phase.n phase.at long gone.is j x h in
              elim of [ inl same ↦ omega (arith, same, is, le, one) | inr high ↦ omega (arith, high, is, before) ]))) in
              omega (arith, parts, were, none)
          by (at_item one missed) (inr behind) =
              let most = phase.most in
              let none = ap length (item-none k phase.kept (λ j x h is. (let less = phase.behind j x h in omega (arith, less, is, behind)))) in
              let new_is = numbered-once new.sets e.refusals.waiting.0 (length was.top.work) phase.n phase.at long gone.is k (omega (arith, one, most)) fits-all (λ same. absurd (omega (arith, same, le, one))) in
              omega (arith, parts, none, new_is)

      worn-rested : IsFresh files macros old now was e phase.came phase.at phase.n phase.kept ⊎ IsWorn files macros old now was e phase.came phase.at phase.n phase.kept
          → IsFresh files macros old new was after phase.came phase.at n (phase.kept ++ more) ⊎ IsWorn files macros old new was after phase.came phase.at n (phase.kept ++ more)
      worn-rested (inr w) = inr (record {
        moved = λ c p here live. w.moved c p here (stays c p live).0;
        over = λ c p waits it. over-rested c p (w.over c p (sym (waits-same c p) ∙ waits) it);
        first = λ c p waits it.
            let Own : Cond × Hidden → Type 0 = λ item. IsCond now.sets item.0.0 in
            let of = of_item phase.at phase.kept in
            let waited = sym (waits-same c p) ∙ waits in
            ap (λ l. items_at new.sets (drop 1 l) c) (item-append phase.at phase.kept more)
            ∙ first-alone new.sets c of (of_item phase.at more) (items_at-Keeps (drop 1 of) c rested.grows.sets (All-drop Own 1 of (item-all Own phase.at phase.kept kept-own)) (IsConfig-Keeps grows.sets p) ∙ w.first c p waited it)
            (over-lacks c p (inr waited) (w.over c p waited it));
      })
      worn-rested (inl f) = by gone.gone refl
        where
          was-work : (bottom e).work ≡ f.first ∷ f.rest
          was-work = ap (λ bs. (bottom_by bs e.top).work) f.below ∙ f.work

          uncalled : IsUncalled after
          uncalled = rested.uncalled (record { below = f.below; calls = f.calls })

          by : (gs : List (Cond × Hidden)) → gone.gone ≡ gs
              → IsFresh files macros old new was after phase.came phase.at n (phase.kept ++ more) ⊎ IsWorn files macros old new was after phase.came phase.at n (phase.kept ++ more)
          by [] none = inl (record {
            below = uncalled.below;
            calls = uncalled.calls;
            first = f.first;
            rest = f.rest;
            work = sym (ap (λ bs. (bottom_by bs after.top).work) uncalled.below) ∙ stands;
            long = let count = ap length stands in let rest = f.long in omega (arith, count, rest, lower-min (length (bottom after).work) phase.n);
            none = item-append phase.at phase.kept more ∙ ((λ i. f.none i ++ of_item phase.at (numbered-none new.sets e.refusals.waiting.0 (length was.top.work) phase.n phase.at long gone.is none i)));
            has = λ c p here. rested.grows.sets.at f.first.0.0 c (All-head (λ (item : Cond × Hidden). IsCond now.sets item.0.0) f.first f.rest (subst (All (λ (item : Cond × Hidden). IsCond now.sets item.0.0)) f.work r.held.top.work.own)) (IsConfig-Keeps grows.sets p) ∙ f.has c p here;
            starts = λ c p here.
                let s = f.starts c p here in
                let same : after.top.work ≡ e.top.work = sym (ap (λ bs. (bottom_by bs after.top).work) uncalled.below) ∙ (stands ∙ sym f.work) in
                (s.0, ap (λ l. seen_at new l c) same ∙ (seen_at-Grows rested.grows c (IsConfig-Keeps grows.sets p) e.top.work r.held.top.work ∙ s.1));
          })
            where
              stands : (bottom after).work ≡ f.first ∷ f.rest
              stands = ap (λ l. l ++ (bottom after).work) (sym none) ∙ (sym gone.work ∙ was-work)
          by (g ∷ gs) is = inr (record {
            moved = λ c p here live. absurd (gone-none c p here live);
            over = λ c p waits it. record { own = low-now c; stays = inr waits; rests = λ live pending. absurd (true≢false (sym (sym (waits-same c p) ∙ waits) ∙ running-apart grows r c p (stays c p live).0)) };
            first = λ c p waits it. ap (λ l. items_at new.sets l c) (drop_all 1 (of_item phase.at (phase.kept ++ more)) (let low = low c p (inr (sym (waits-same c p) ∙ waits)) in one-only low));
          })
            where
              short : (bottom after).work ≡ (bottom after).work → length (bottom after).work ≤ phase.n
              short same = let count = ap length was-work in let rest = f.long in let some = ap length is in omega (arith, gone-long, count, rest, some)

              low-now : (c : List ℕ) → length (seen_at new (bottom after).work c) ≤ last_at new after n c
              low-now c =
                  let few = short refl in
                  let ms = behind_at new.sets (bottom after).work c in
                  let all = ap length (below-all n ms (Fall-weaker long n ms (omega (arith, few, lower-min (length (bottom after).work) phase.n)) (behind-falls new.sets c (bottom after).work))) in
                  omega (arith, all, length-seen new (bottom after).work c)

              one-only : phase.at < length was.top.work - phase.n → length (of_item phase.at (phase.kept ++ more)) ≤ 1
              one-only low =
                  let parts = ap length (item-append phase.at phase.kept more ∙ ap (λ l. l ++ of_item phase.at more) f.none) in
                  let count = ap length was-work in
                  let rest = f.long in
                  let new_is = numbered-once new.sets e.refusals.waiting.0 (length was.top.work) phase.n phase.at long gone.is phase.at low fits-all (λ same. omega (arith, gone-long, count, rest)) in
                  omega (arith, parts, new_is)

              gone-none : (c : List ℕ) → IsConfig old.sets.arities c → phase.came c ≡ true → new.sets.has after.refusals.live.0 c ≡ true → ⊥
              gone-none c p here live =
                  let there = behind c p live in
                  let many = first-more now.sets (bottom e).work f.first c phase.n (ap (λ (l : List (Cond × Hidden)). slice_get l 0) was-work) (f.has c p here) (let count = ap length was-work in let rest = f.long in omega (arith, count, rest)) in
                  let few = short refl in
                  let ms = behind_at new.sets (bottom after).work c in
                  let all = ap length (below-all phase.n ms (Fall-weaker long phase.n ms few (behind-falls new.sets c (bottom after).work))) in
                  let same = ap (λ l. length (below phase.n l)) there in
                  let count = ap length there in
                  omega (arith, many, all, same, count)

      -- what was made of the list below all others
      made-alike : (c d : List ℕ) (others : Others) → IsAlikeExpansion now.sets c d others e → AreAlike now.sets c d (take (length (bottom e).work - others.behind) (bottom e).work)
      made-alike c d others all = under e.below.items refl
        where
          under : (bs : List Enclosing) → e.below.items ≡ bs → AreAlike now.sets c d (take (length (bottom_by bs e.top).work - others.behind) (bottom_by bs e.top).work)
          under [] is = (subst (λ (bs : List Enclosing). IsAlikeFrame now.sets c d (others_at others (length bs)) e.top) is all.top).work
          under (b ∷ bs) is = (all.below 0 b (ap (λ (l : List Enclosing). slice_get l 0) is)).frame.work

      pair-rested : (size : ℕ) (c d : List ℕ) → IsConfig old.sets.arities c → IsConfig old.sets.arities d → phase.came c ≡ true → phase.came d ≡ true
          → PairStands now e (record { behind = lower_of (bound_of was phase.at size) phase.n; out = phase.outs; faults = phase.faults }) phase.n phase.outs (of_item phase.at phase.kept) c d
          → PairStands new after (record { behind = lower_of (bound_of was phase.at size) n; out = phase.outs; faults = phase.faults }) n phase.outs (of_item phase.at (phase.kept ++ more)) c d
      pair-rested size c d p q here there (as_one all of) =
          let others : Others = record { behind = lower_of (bound_of was phase.at size) phase.n; out = phase.outs; faults = phase.faults } in
          let p1 = IsConfig-Keeps grows.sets p in
          let q1 = IsConfig-Keeps grows.sets q in
          let Own : Cond × Hidden → Type 0 = λ item. IsCond now.sets item.0.0 in
          let bound = lower_of (bound_of was phase.at size) phase.n in
          let work = AreAlike-Keeps rested.grows.sets p1 q1 (take (length (bottom e).work - bound) (bottom e).work) (All-take Own (length (bottom e).work - bound) (bottom e).work (bottom-frame e r.held).work.own) (made-alike c d others all) in
          let fronts = fronts-alike new.sets e.refusals.waiting.0 (length was.top.work) phase.n phase.at (length (bottom after).work) c d bound gone.gone (bottom after).work refl (omega (arith, lower-min (bound_of was phase.at size) phase.n))
          (subst (λ (l : List (Cond × Hidden)). AreAlike new.sets c d (take (length l - bound) l)) gone.work work) in
          let waits : new.sets.has e.refusals.waiting.0 c ≡ new.sets.has e.refusals.waiting.0 d = IsAlike-Keeps rested.grows.sets p1 q1 {cond = e.refusals.waiting} r.held.refusals.waiting all.refusals.waiting in
          as_one
          (alike-fewer new.sets c d others (lower_of (bound_of was phase.at size) n) after (less (bound_of was phase.at size)) (rested.alike (length files) c d others r.held p1 q1 all))
          (subst (AreAlike new.sets c d) (sym (item-append phase.at phase.kept more)) (All-append (λ (item : Cond × Hidden). IsAlike new.sets c d item.0) (of_item phase.at phase.kept) (of_item phase.at more)
          (AreAlike-Keeps rested.grows.sets p1 q1 (of_item phase.at phase.kept) (item-all Own phase.at phase.kept kept-own) of)
          (numbered-alike new.sets e.refusals.waiting.0 (length was.top.work) phase.n phase.at (length (bottom after).work) (low c p (inl here)) fits-all gone.is c d (IsConfig-Keeps rested.grows.sets p1) (IsConfig-Keeps rested.grows.sets q1) waits fronts)))
      pair-rested size c d p q here there (come_through x y is) =
          let Own : Cond × Hidden → Type 0 = λ item. IsCond now.sets item.0.0 in
          let done = drop phase.outs (put_out e) in
          let later = same-name-more new.sets c d done (of_item phase.at phase.kept) [] (of_item phase.at more) refl refl (over-lacks c p (inl here) x) (over-lacks d q (inl there) y)
          (same-name-Keeps rested.grows.sets done (of_item phase.at phase.kept) (All-drop Own phase.outs (put_out e) held_out.own) (item-all Own phase.at phase.kept kept-own) (IsConfig-Keeps grows.sets p) (IsConfig-Keeps grows.sets q) is) in
          come_through (over-rested c p x) (over-rested d q y)
          (subst (λ (z : List (Cond × Hidden) × List (Cond × Hidden)). IsSameName new.sets z.0 z.1 c d)
          (λ i. ((append-nil done ∙ ap (drop phase.outs) (sym rested.out)) i, sym (item-append phase.at phase.kept more) i)) later)

-- ---- the next name of the list

not-first : (a b : Bool) → (a && b) ≡ false → b ≡ true → a ≡ false
not-first true b is live = absurd (true≢false (sym live ∙ is))
not-first false b is live = refl

module _ {files : List (List ℕ)} {macros : List ℕ → Macros} {old now : Stores} {was e : Expansion}
    (r : IsRunning files macros old now was e) (phase : Phase files macros old now was e)
    (none : e.below.items ≡ []) (uncalled : e.top.calls.items ≡ []) (item : Cond × Hidden) (rest : List (Cond × Hidden)) (work : e.top.work ≡ item ∷ rest) (near : length e.top.work ≤ phase.n) where
  bottom-first : (bottom e).work ≡ item ∷ rest
  bottom-first = bottom-is r phase none uncalled near ∙ work

  state-first : (c : List ℕ) → state_now now e c ≡ scanning (seen_at now e.top.out c) (seen_at now (item ∷ rest) c)
  state-first c = state-is r phase none uncalled near c ∙ ap (λ l. scanning (seen_at now e.top.out c) (seen_at now l c)) work

  -- the configuration comes to what is left, and to nothing between this and the last item
  stands-first : (c : List ℕ) → IsConfig old.sets.arities c → now.sets.has e.refusals.live.0 c ≡ true
      → Passes (provenance_of files) (macros c) (seen_at old was.top.work c) (seen_at now e.top.out c) (seen_at now (item ∷ rest) c)
      × IsNext (provenance_of files) (macros c) (seen_at old was.top.work c) (length (tokens_from old was phase.next c)) (seen_at now (item ∷ rest) c)
  stands-first c p live =
      subst (λ l. Passes (provenance_of files) (macros c) (seen_at old was.top.work c) (seen_at now e.top.out c) (seen_at now l c)
      × IsNext (provenance_of files) (macros c) (seen_at old was.top.work c) (length (tokens_from old was phase.next c)) (seen_at now l c)) work (stands r phase none uncalled near c p live)

  arrived : (c : List ℕ) → IsConfig old.sets.arities c → now.sets.has e.refusals.live.0 c ≡ true → Passes (provenance_of files) (macros c) (seen_at old was.top.work c) (seen_at now e.top.out c) (seen_at now (item ∷ rest) c)
  arrived c p live = (stands-first c p live).0

  -- the name's index
  abbrev at_now : ℕ
  at_now = length was.top.work - suc (length rest)

  abbrev came_now : List ℕ → Bool
  came_now c = now.sets.has item.0.0 c && now.sets.has e.refusals.live.0 c

  -- the configuration has the item, and of the list what it has now
  record Has (c : List ℕ) : Type 0 where
    had : HasItem old was at_now c
    long : length (drop (at_now + 1) was.top.work) ≡ length rest
    behind : behind_at old.sets (drop (at_now + 1) was.top.work) c ≡ behind_at now.sets rest c
    seen : seen_at now (item ∷ rest) c ≡ seen_hidden old.names old.hides had.item.1 ∷ seen_at old (drop (at_now + 1) was.top.work) c

  item-has : (c : List ℕ) (name : Cond × Hidden) (behind : List (Cond × Hidden)) → drop at_now was.top.work ≡ name ∷ behind → old.sets.has name.0.0 c ≡ true → length behind ≡ length rest
      → behind_at old.sets behind c ≡ behind_at now.sets rest c → seen_at now (item ∷ rest) c ≡ seen_at old (drop at_now was.top.work) c → Has c
  item-has c name behind is has long same tokens =
      let behind_is : drop (at_now + 1) was.top.work ≡ behind = sym (drop-drop 1 at_now was.top.work) ∙ ap (drop 1) is in
      let first : drop at_now was.top.work ≡ name ∷ drop (at_now + 1) was.top.work = is ∙ ap (λ l. name ∷ l) (sym behind_is) in
      record {
        had = record { item = name; first = first; has = has };
        long = ap length behind_is ∙ long;
        behind = ap (λ l. behind_at old.sets l c) behind_is ∙ same;
        seen = tokens ∙ seen-name old (drop at_now was.top.work) (drop (at_now + 1) was.top.work) name c first has;
      }

  comes : (c : List ℕ) → IsConfig old.sets.arities c → came_now c ≡ true → Has c
  comes c p k =
      let h = and_parts (now.sets.has item.0.0 c) (now.sets.has e.refusals.live.0 c) k in
      let ms = behind_at now.sets rest c in
      let m = length rest in
      let work_is = ap length work in
      let most = phase.most in
      let far : suc m ≤ length was.top.work = omega (arith, work_is, near, most) in
      let list = drop at_now was.top.work in
      let number = phase.suffix c p h.1 (suc m) (omega (arith, work_is, near)) in
      let mine : behind_at now.sets (item ∷ rest) c ≡ m ∷ ms = ap (λ (b : Bool). if b then m ∷ ms else ms) h.0 in
      let all : below (suc m) (behind_at now.sets (bottom e).work c) ≡ m ∷ ms = ap (λ l. below (suc m) (behind_at now.sets l c)) bottom-first ∙ (below-all (suc m) (behind_at now.sets (item ∷ rest) c) (behind-falls now.sets c (item ∷ rest)) ∙ mine) in
      let long : length list ≡ suc m = omega (arith, length-drop at_now was.top.work, far) in
      let falls = behind-falls old.sets c list in
      let from = below-from (length list) number.0 m ms (behind_at old.sets list c) falls (ap (drop number.0) (sym (below-behind old.sets c (suc m) was.top.work far)) ∙ (sym number.1 ∙ all)) in
      let there : behind_at old.sets list c ≡ m ∷ ms = sym (below-all (suc m) (behind_at old.sets list c) (subst (λ n. Fall n (behind_at old.sets list c)) long falls)) ∙ from.1 in
      let first = first-had old.sets c m ms list long there in
      let one = passes-end (provenance_of files) (macros c) (arrived c p h.1) in
      let other = seen-drop old at_now was.top.work c in
      let count : length (seen_at now (item ∷ rest) c) ≡ length (seen_at old list c) = length-seen now (item ∷ rest) c ∙ (ap length (mine ∙ sym there) ∙ sym (length-seen old list c)) in
      item-has c first.0 first.1 first.2 first.3 first.5 first.4 (same-end one.0 other.0 (seen_at old was.top.work c) (seen_at now (item ∷ rest) c) (seen_at old list c) one.1 other.1 count)

  -- its own items behind the name
  behind-name : (c : List ℕ) → below (length rest) (behind_at now.sets (bottom e).work c) ≡ behind_at now.sets rest c
  behind-name c =
      ap (λ l. below (length rest) (behind_at now.sets l c)) bottom-first ∙ by (now.sets.has item.0.0 c) ∙ below-all (length rest) (behind_at now.sets rest c) (behind-falls now.sets c rest)
    where
      by : (has : Bool) → below (length rest) (if has then length rest ∷ behind_at now.sets rest c else behind_at now.sets rest c) ≡ below (length rest) (behind_at now.sets rest c)
      by true = below-not (length rest) (length rest) (behind_at now.sets rest c) (omega arith)
      by false = refl

  -- the phase's items end where the name stands or before
  next-before : phase.next ≤ at_now
  next-before = let long = ap length work in let most = phase.most in omega (arith, long, near, most)

  -- who does not have the name has no more than the items behind it
  few-behind : (c : List ℕ) → IsConfig old.sets.arities c → now.sets.has e.refusals.live.0 c ≡ true → now.sets.has item.0.0 c ≡ false → length (seen_at now (item ∷ rest) c) ≤ length (tokens_from old was (at_now + 1) c)
  few-behind c p live none_first =
      let long = ap length work in
      let most = phase.most in
      let few = own-few r phase none uncalled near c p live (length rest) (omega (arith, long, near)) in
      let index : length was.top.work - length rest ≡ at_now + 1 = omega (arith, long, near, most) in
      let same = ap (λ k. length (tokens_from old was k c)) index in
      let count = ap length (behind-name c ∙ ap (λ (b : Bool). if b then length rest ∷ behind_at now.sets rest c else behind_at now.sets rest c) (sym none_first)) in
      omega (arith, few, same, count, length-seen now (item ∷ rest) c)

  missed-live : (c : List ℕ) → IsConfig old.sets.arities c → now.sets.has e.refusals.live.0 c ≡ true → came_now c ≡ false → Comes files macros old was at_now c → ⊥
  missed-live c p live not x =
      let many = come-many files macros old was at_now c x in
      let before = from-later old was c phase.next at_now next-before in
      let far = (stands-first c p live).1.most x.before (seen_hidden old.names old.hides x.item.1 ∷ tokens_from old was (at_now + 1) c) x.passes (omega (arith, many, before)) in
      omega (arith, far, few-behind c p live (not-first (now.sets.has item.0.0 c) (now.sets.has e.refusals.live.0 c) not live))

  -- who waits comes to no more items
  missed-name : (c : List ℕ) → IsConfig old.sets.arities c → old.sets.has was.refusals.live.0 c ≡ true → Settling files macros old was c → came_now c ≡ false → Comes files macros old was at_now c → ⊥
  missed-name c p asks settles not x = elim (settles-on r c p asks settles) [ inl live ↦ missed-live c p live not x | inr waits ↦ (phase.waits c p waits).last at_now next-before x ]

  -- all that was put out stood there as the name's expansion begins
  out-long : length (put_out e) ≤ length e.top.out
  out-long = let same = ap length (out-is r phase none uncalled near) in omega (arith, same)

  starts : take (length e.top.out) (put_out e) ≡ put_out e
  starts = take_all (length e.top.out) (put_out e) out-long

  place-now : (c : List ℕ) → IsConfig old.sets.arities c → now.sets.has e.refusals.live.0 c ≡ true
      → Placed (provenance_of files) (macros c) (seen_at old was.top.work c) (came_now c) (length (tokens_from old was (at_now + 1) c)) (seen_at now (take (length e.top.out) (put_out e)) c) (state_now now e c) (last_at now e (length rest) c)
  place-now c p live =
      subst (λ (z : List (HiddenToken Place) × State Place). Placed (provenance_of files) (macros c) list (came_now c) (length behind) z.0 z.1 (last_at now e (length rest) c))
      (λ i. (seen_at now ((sym (out-is r phase none uncalled near) ∙ sym starts) i) c, sym (state-first c) i)) (by (came_now c) refl)
    where
      list : List (HiddenToken Place)
      list = seen_at old was.top.work c

      behind : List (HiddenToken Place)
      behind = tokens_from old was (at_now + 1) c

      out : List (HiddenToken Place)
      out = seen_at now e.top.out c

      by : (b : Bool) → came_now c ≡ b → Placed (provenance_of files) (macros c) list (came_now c) (length behind) out (scanning out (seen_at now (item ∷ rest) c)) (last_at now e (length rest) c)
      by true k =
          let it = comes c p k in
          let count = ap length (behind-name c ∙ sym it.behind) ∙ sym (length-seen old (drop (at_now + 1) was.top.work) c) in
          subst (λ l. Placed (provenance_of files) (macros c) list (came_now c) (length behind) out (scanning out l) (last_at now e (length rest) c)) (sym it.seen)
          (placed-next (provenance_of files) (macros c) list out behind (seen_hidden old.names old.hides it.had.item.1) (came_now c) (length behind) (last_at now e (length rest) c) k (subst (Passes (provenance_of files) (macros c) list out) it.seen (arrived c p live)) refl count)
      by false not =
          let none_first = not-first (now.sets.has item.0.0 c) (now.sets.has e.refusals.live.0 c) not live in
          let before = from-later old was c phase.next (at_now + 1) (let le = next-before in omega (arith, le)) in
          away not (arrived c p live) (ap length (behind-name c ∙ ap (λ (b : Bool). if b then length rest ∷ behind_at now.sets rest c else behind_at now.sets rest c) (sym none_first)) ∙ sym (length-seen now (item ∷ rest) c))
          (record { few = few-behind c p live none_first; most = λ o l q less. (stands-first c p live).1.most o l q (omega (arith, less, before)) })

  -- who expand it alike have the same of what it takes
  alike-name : (size : ℕ) (c d : List ℕ) (it : Has c) (jt : Has d) → Spans files macros old was at_now size c d → now.sets.has item.0.0 c ≡ now.sets.has item.0.0 d
      → now.sets.has e.refusals.live.0 c ≡ now.sets.has e.refusals.live.0 d → now.sets.has e.refusals.waiting.0 c ≡ now.sets.has e.refusals.waiting.0 d
      → IsAlikeExpansion now.sets c d (record { behind = lower_of (bound_of was at_now size) (length rest); out = length e.top.out; faults = length e.refusals.faults.items }) e
  alike-name size c d it jt span first live waiting = record {
    refusals = record {
      live = live;
      waiting = waiting;
      faults = subst (AreAlikeFaults now.sets c d) (sym (drop_all (length e.refusals.faults.items) e.refusals.faults.items (omega arith))) (All-nil (λ (fault : Fault). IsAlike now.sets c d fault.cond));
    };
    top = subst (λ (bs : List Enclosing). IsAlikeFrame now.sets c d (others_at others (length bs)) e.top) (sym none) (record {
      work = subst (λ (l : List (Cond × Hidden)). AreAlike now.sets c d (take (length l - lower_of bound (length rest)) l)) (sym work)
          (subst (λ (n : ℕ). AreAlike now.sets c d (take n (item ∷ rest))) (sym count) (All-cons P item (take (length rest - bound) rest) first same));
      out = subst (AreAlike now.sets c d) (sym (drop_all (length e.top.out) e.top.out (omega arith))) (All-nil P);
      calls = subst (All (IsAlikeCall now.sets c d)) (sym uncalled) (All-nil (IsAlikeCall now.sets c d));
    });
    below = λ n o is. absurd (none-some (sym (ap (λ (bs : List Enclosing). slice_get bs n) none) ∙ is));
  }
    where
      P : Cond × Hidden → Type 0
      P x = IsAlike now.sets c d x.0

      bound : ℕ
      bound = bound_of was at_now size

      others : Others
      others = record { behind = lower_of (bound_of was at_now size) (length rest); out = length e.top.out; faults = length e.refusals.faults.items }

      same : AreAlike now.sets c d (take (length rest - bound) rest)
      same = subst (AreAlike now.sets c d) (take-least size rest ∙ ap (λ k. take (length rest - (k - size)) rest) (sym it.long)) (alike-behind old.sets now.sets c d size (drop (at_now + 1) was.top.work) rest it.long it.behind jt.behind span.alike)

      count : suc (length rest) - lower_of bound (length rest) ≡ suc (length rest - bound)
      count = let long = it.long in omega (arith, long, lower-min bound (length rest))

  segments-now : Segments files macros old was now at_now (take (length e.top.out) (put_out e)) phase.kept
  segments-now = subst (λ (z : ℕ × List (Cond × Hidden)). Segments files macros old was now z.0 z.1 phase.kept) (λ i. (length was.top.work - length (work i), sym starts i)) (phase-segments r phase none uncalled near)

  reaches-name : (p : Phase files macros old now was e) × IsReady files macros p
  reaches-name = (phase_now, record { below = λ one free some. let long = ap length work in omega (arith, long) })
    where
      indexes-first : (c : List ℕ) → indexes_now now e (length was.top.work) phase.n phase.at phase.kept c ≡ indexes_now now e (length was.top.work) (length rest) at_now phase.kept c
      indexes-first c =
          let numbers = behind_at now.sets (bottom e).work c in
          ap (λ l. indexes_in now.sets phase.kept c ++ l) (numbers-first (length was.top.work) phase.n (length rest) phase.at numbers
          (subst (λ (l : List (Cond × Hidden)). Fall (length l) numbers) bottom-first (behind-falls now.sets c (bottom e).work)) (let long = ap length work in omega (arith, long, near)))

      phase_now : Phase files macros old now was e
      phase_now = record {
        at = at_now;
        next = at_now + 1;
        n = length rest;
        fits = let long = ap length bottom-first in omega (arith, long);
        most = let long = ap length work in let most = phase.most in omega (arith, long, near, most);
        outs = length e.top.out;
        low = let same = ap length (out-is r phase none uncalled near) in omega (arith, same);
        faults = length e.refusals.faults.items;
        came = came_now;
        begins = at_item refl missed-name;
        kept = phase.kept;
        kept_is = phase.kept_is;
        behind = λ k x h. (let few = phase.behind k x h in let long = ap length work in omega (arith, few, long, near));
        once = λ k le. (let none = ap length (item-none k phase.kept (λ j x h same. (let few = phase.behind j x h in let long = ap length work in omega (arith, few, long, near, same, le)))) in omega (arith, none));
        worn = inl (record {
          below = none;
          calls = uncalled;
          first = item;
          rest = rest;
          work = work;
          long = refl;
          none = item-none at_now phase.kept (λ k x h same. (let few = phase.behind k x h in let long = ap length work in omega (arith, few, long, near, same)));
          has = λ c p k. (and_parts (now.sets.has item.0.0 c) (now.sets.has e.refusals.live.0 c) k).0;
          starts = λ c p k. (let it = comes c p k in (it.had, ap (λ l. seen_at now l c) work ∙ it.seen));
        });
        before = segments-now;
        waits = λ c p waits.
            let w = phase.waits c p waits in
            let le = next-before in
            record {
              puts = passed (w.last at_now le) (ap (λ l. items_at now.sets l c) (drop_all (length e.top.out) (put_out e) out-long));
              waited = subst (λ l. Waiting files macros old was l c) (indexes-first c) w.waited;
              last = λ index far. w.last index (omega (arith, le, far));
            };
        has = λ c p k. (comes c p k).had;
        place = place-now;
        suffix = λ c p live m le. let long = ap length work in phase.suffix c p live m (omega (arith, long, near, le));
        pairs = λ size c d p q span here there.
            let k = and_parts (now.sets.has item.0.0 c) (now.sets.has e.refusals.live.0 c) here in
            let l = and_parts (now.sets.has item.0.0 d) (now.sets.has e.refusals.live.0 d) there in
            let none = item-none at_now phase.kept (λ k x h same. (let few = phase.behind k x h in let long = ap length work in omega (arith, few, long, near, same))) in
            as_one (alike-name size c d (comes c p here) (comes d q there) span (k.0 ∙ sym l.0) (k.1 ∙ sym l.1) (told-apart (r.told c p) k.1 ∙ sym (told-apart (r.told d q) l.1)))
            (subst (AreAlike now.sets c d) (sym none) (All-nil (λ (x : Cond × Hidden). IsAlike now.sets c d x.0)));
      }

-- the phase goes on, or comes to the next name
pub phase-ready : {files : List (List ℕ)} {macros : List ℕ → Macros} {old now : Stores} {was e : Expansion}
    → IsRunning files macros old now was e → Phase files macros old now was e → (p : Phase files macros old now was e) × IsReady files macros p
phase-ready {files} {macros} {old} {now} {was} {e} r phase = under e.below.items refl
  where
    Ready : Type 0
    Ready = (p : Phase files macros old now was e) × IsReady files macros p

    head : e.below.items ≡ [] → e.top.calls.items ≡ [] → (work : List (Cond × Hidden)) → e.top.work ≡ work → Ready
    head none uncalled [] is = (phase, record { below = λ one free some. absurd (some is) })
    head none uncalled (item ∷ rest) is = by (cases_lt phase.n (length e.top.work))
      where
        by : (phase.n < length e.top.work) ⊎ (length e.top.work ≤ phase.n) → Ready
        by (inl more) = (phase, record { below = λ one free some. omega (arith, more) })
        by (inr near) = reaches-name r phase none uncalled item rest is near

    calls : e.below.items ≡ [] → (ks : List Call) → e.top.calls.items ≡ ks → Ready
    calls none [] is = head none is e.top.work refl
    calls none (k ∷ ks) is = (phase, record { below = λ one free some. absurd (cc (is, free)) })

    under : (bs : List Enclosing) → e.below.items ≡ bs → Ready
    under [] is = calls is e.top.calls.items refl
    under (b ∷ bs) is = (phase, record { below = λ one free some. absurd (cc (is, one)) })
