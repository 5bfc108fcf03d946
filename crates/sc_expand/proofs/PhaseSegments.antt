-- What a phase has put out is that of its item, behind what was put out for those before it.
use Rattle.std.proofs.Common.{◌≡◌, ◌⊎◌, inl, inr, ℕ, zero, suc, ◌+◌, ◌-◌, ◌<◌, ◌≤◌, Bool, true, false, true≢false, List, [], ◌∷◌, ◌++◌, All, append-nil, Some, Ok, Err, drop, flat_map, length, length-append, map, slice_get, take, refl, sym, ap, ◌∙◌, subst, arith}
use Rattle.c11_macros.proofs.SettlesLaws.{one-settled}
use Rattle.sc_expand.proofs.Behind.{Fall-weaker, behind-falls, below, below-all, below-items, length-seen}
use Rattle.sc_expand.proofs.Facts.{All-drop, All-take, IsConfig-Keeps, append_cancel_left, cases_lt, drop-append_seam, drop_all, flat_map-append, items_at-Keeps, length-drop, length-map, slice_get-front, slice_get-seam, slice_get_within, take-append-drop, take-append_seam, true_from_ne_false, nil_from_length}
use Rattle.sc_expand.proofs.MachineLemmas as told
use Rattle.sc_expand.proofs.MachineLemmas.{IsTold}
use Rattle.sc_expand.proofs.NamedItems.{first-alone, indexes-long, item-all, item-append, item-lacks, item-none, same-name-Keeps}
use Rattle.sc_expand.proofs.Phases.{come-many, comes-by, from-later, Begins, Comes, Itself, PairStands, Phase, Puts, Segments, Settling, Spans, Waiting, as_one, at_item, at_start, bound_of, come_through, last_at, state_now, tokens_from}
use Rattle.sc_expand.proofs.PhaseKeeps.{number}
use Rattle.sc_expand.proofs.PassesLaws.{IsNext, Placed, away, inside, passed, placed-between, within-more}
use Rattle.sc_expand.proofs.RunLemmas.{IsRunning, told-apart}
use Rattle.sc_expand.proofs.SeenLemmas.{seen_at-Grows, seen_at-append}
use Rattle.sc_expand.proofs.TakingParts.{none-found}
use Rattle.sc_expand.proofs.Terms.{AreAlike, AreHeld, Becomes, Cond, Enclosing, Expansion, Grows, HasEnded, Hidden, HiddenToken, IsAlikeFrame, IsCond, IsConfig, IsHeldToken, IsSameName, Macros, Others, Passes, Place, Stores, at, behind_at, bottom, bottom_by, calls_at, indexes_in, items_at, left_at, lower_of, of_item, others_at, provenance_of, put_by, put_out, scanning, seen_at, seen_hidden, state_by, state_in, view_at}
use Rattle.sc_expand.specs.Spans as spans

-- so many lists one after the other
abbrev joined : {A : Type 0} → List (List A) → List A
joined lists = flat_map (λ list. list) lists

-- ---- parts of a list that is held

pub held-take : {st : Stores} {files : ℕ} (n : ℕ) (list : List (Cond × Hidden)) → AreHeld st files list → AreHeld st files (take n list)
held-take {st} {files} n list held = record {
  own = All-take (λ (item : Cond × Hidden). IsCond st.sets item.0.0) n list held.own;
  held = All-take (λ (item : Cond × Hidden). IsHeldToken st files item.1) n list held.held;
}

pub held-drop : {st : Stores} {files : ℕ} (n : ℕ) (list : List (Cond × Hidden)) → AreHeld st files list → AreHeld st files (drop n list)
held-drop {st} {files} n list held = record {
  own = All-drop (λ (item : Cond × Hidden). IsCond st.sets item.0.0) n list held.own;
  held = All-drop (λ (item : Cond × Hidden). IsHeldToken st files item.1) n list held.held;
}

held-part : {st : Stores} {files : ℕ} (lists : List (List (Cond × Hidden))) (n : ℕ) (part : List (Cond × Hidden)) → slice_get lists n ≡ Some part → AreHeld st files (joined lists) → AreHeld st files part
held-part [] n part is held = absurd (cc)
held-part {st} {files} (list ∷ lists) zero part is held =
    let same : list ≡ part = cc in
    subst (AreHeld st files) (take-append_seam list (joined lists) ∙ same) (held-take (length list) (list ++ joined lists) held)
held-part {st} {files} (list ∷ lists) (suc n) part is held =
    held-part lists n part is (subst (AreHeld st files) (drop-append_seam list (joined lists)) (held-drop (length list) (list ++ joined lists) held))

-- ---- segments

module _ (files : List (List ℕ)) (macros : List ℕ → Macros) (old now : Stores) (was : Expansion) where
  -- what has the same tokens
  pub puts-as : (new : Stores) (index : ℕ) (out later : List (Cond × Hidden)) (c : List ℕ) → seen_at new later c ≡ seen_at now out c → Puts files macros old was index now out c → Puts files macros old was index new later c
  puts-as new index out later c same (spans.comes x is) = spans.comes x (same ∙ is)
  puts-as new index out later c same (spans.passed off none) = spans.passed off (none-found (seen_hidden new.names new.hides) (items_at new.sets later c) (same ∙ ap (map (seen_hidden now.names now.hides)) none))

  pub segments-Grows : {new : Stores} {many count : ℕ} {out : List (Cond × Hidden)} {kept : List (ℕ × (Cond × Hidden))} → Grows old now → Grows now new → AreHeld now many out → All (λ (item : Cond × Hidden). IsCond now.sets item.0.0) (map (λ x. x.1) kept)
      → Segments files macros old was now count out kept → Segments files macros old was new count out kept
  segments-Grows {new} {many} {kept = kept} grows later held own s = record {
    segments = s.segments;
    many = s.many;
    is = s.is;
    each = λ index part found c listed live settles.
        puts-as new index part part c (seen_at-Grows later c (IsConfig-Keeps grows.sets listed) part (held-part s.segments index part found (subst (AreHeld now many) s.is held))) (s.each index part found c listed live settles);
    names = λ index part found size c d p q here there one two span.
        same-name-Keeps later.sets part (of_item index kept) (held-part s.segments index part found (subst (AreHeld now many) s.is held)).own (item-all (λ (item : Cond × Hidden). IsCond now.sets item.0.0) index kept own)
        (IsConfig-Keeps grows.sets p) (IsConfig-Keeps grows.sets q) (s.names index part found size c d p q here there one two span);
    itself = λ index less c listed live settles it.
        let Own : Cond × Hidden → Type 0 = λ item. IsCond now.sets item.0.0 in
        items_at-Keeps (drop 1 (of_item index kept)) c later.sets (All-drop Own 1 (of_item index kept) (item-all Own index kept own)) (IsConfig-Keeps grows.sets listed) ∙ s.itself index less c listed live settles it;
  }

  -- more waits of later items
  pub segments-kept : {count : ℕ} {out : List (Cond × Hidden)} (kept more : List (ℕ × (Cond × Hidden))) → All (λ x. count ≤ x.0) more → Segments files macros old was now count out kept → Segments files macros old was now count out (kept ++ more)
  segments-kept {count} kept more later s = record {
    segments = s.segments;
    many = s.many;
    is = s.is;
    each = s.each;
    names = λ index part found size c d p q here there one two span.
        let within = slice_get_within s.segments index part found in
        let long = s.many in
        subst (λ l. IsSameName now.sets part l c d) (sym (same index (omega (arith, within, long)))) (s.names index part found size c d p q here there one two span);
    itself = λ index less c listed live settles it. ap (λ l. items_at now.sets (drop 1 l) c) (same index less) ∙ s.itself index less c listed live settles it;
  }
    where
      same : (index : ℕ) → index < count → of_item index (kept ++ more) ≡ of_item index kept
      same index less = item-append index kept more ∙ (ap (λ l. of_item index kept ++ l) (item-none index more (λ k x h is. (let le = later k x h in omega (arith, le, is, less)))) ∙ append-nil (of_item index kept))

  -- configurations that expand an item alike have the same of it, but that one may be ahead
  abbrev pub Named : ℕ → List (Cond × Hidden) → List (Cond × Hidden) → Type 0
  Named index part of = (size : ℕ) (c d : List ℕ) → IsConfig old.sets.arities c → IsConfig old.sets.arities d → old.sets.has was.refusals.live.0 c ≡ true → old.sets.has was.refusals.live.0 d ≡ true
      → Settling files macros old was c → Settling files macros old was d → Spans files macros old was index size c d → IsSameName now.sets part of c d

  -- one item more
  segments-one : (count : ℕ) (out last : List (Cond × Hidden)) (kept : List (ℕ × (Cond × Hidden))) → Segments files macros old was now count out kept
      → ((c : List ℕ) → IsConfig old.sets.arities c → old.sets.has was.refusals.live.0 c ≡ true → Settling files macros old was c → Puts files macros old was count now last c)
      → Named count last (of_item count kept)
      → ((c : List ℕ) → IsConfig old.sets.arities c → old.sets.has was.refusals.live.0 c ≡ true → Settling files macros old was c → Itself files macros old was count c → items_at now.sets (drop 1 (of_item count kept)) c ≡ [])
      → Segments files macros old was now (suc count) (out ++ last) kept
  segments-one count out last kept s puts names itself = record {
    segments = s.segments ++ last ∷ [];
    many = let long = s.many in omega (arith, length-append s.segments (last ∷ []), long);
    is = ap (λ l. l ++ last) s.is ∙ sym (flat_map-append (λ list. list) s.segments (last ∷ []) ∙ ap (λ l. joined s.segments ++ l) (append-nil last));
    each = λ index part found c listed live settles. elim (cases_lt index (length s.segments)) [
      | inl less ↦ s.each index part (sym (slice_get-front s.segments (last ∷ []) index less) ∙ found) c listed live settles
      | inr le ↦
          let here = placed index part found le in
          subst (λ (z : ℕ × List (Cond × Hidden)). Puts files macros old was z.0 now z.1 c) (λ i. (here.0 i, here.1 i)) (puts c listed live settles)
    ];
    names = λ index part found. elim (cases_lt index (length s.segments)) [
      | inl less ↦ s.names index part (sym (slice_get-front s.segments (last ∷ []) index less) ∙ found)
      | inr le ↦
          let here = placed index part found le in
          subst (λ (z : ℕ × List (Cond × Hidden)). Named z.0 z.1 (of_item z.0 kept)) (λ i. (here.0 i, here.1 i)) names
    ];
    itself = λ index less c listed live settles it. elim (cases_lt index count) [
      | inl under ↦ s.itself index under c listed live settles it
      | inr le ↦
          let here : count ≡ index = omega (arith, le, less) in
          ap (λ k. items_at now.sets (drop 1 (of_item k kept)) c) (sym here) ∙ itself c listed live settles (subst (λ k. Itself files macros old was k c) (sym here) it)
    ];
  }
    where
      placed : (index : ℕ) (part : List (Cond × Hidden)) → slice_get (s.segments ++ last ∷ []) index ≡ Some part → length s.segments ≤ index → (count ≡ index) × (last ≡ part)
      placed index part found le =
          let within = slice_get_within (s.segments ++ last ∷ []) index part found in
          let here : index ≡ length s.segments = omega (arith, within, length-append s.segments (last ∷ []), le) in
          let same : last ≡ part = cc (sym (slice_get-seam s.segments last []) ∙ (ap (slice_get (s.segments ++ last ∷ [])) (sym here) ∙ found)) in
          (sym s.many ∙ sym here, same)

  -- some more, to which no configuration comes, and of each of which one element waits at most
  segments-more : (more count later : ℕ) (out : List (Cond × Hidden)) (kept : List (ℕ × (Cond × Hidden))) → later ≡ more + count → Segments files macros old was now count out kept
      → ((c : List ℕ) → IsConfig old.sets.arities c → old.sets.has was.refusals.live.0 c ≡ true → Settling files macros old was c → (index : ℕ) → count ≤ index → index < later → Comes files macros old was index c → ⊥)
      → ((index : ℕ) → count ≤ index → length (of_item index kept) ≤ 1) → Segments files macros old was now later out kept
  segments-more zero count later out kept is s off few = let same : count ≡ later = omega (arith, is) in subst (λ k. Segments files macros old was now k out kept) same s
  segments-more (suc more) count later out kept is s off few =
      segments-more more (suc count) later out kept (omega (arith, is)) (subst (λ l. Segments files macros old was now (suc count) l kept) (append-nil out)
      (segments-one count out [] kept s (λ c listed live settles. spans.passed (off c listed live settles count (omega arith) (omega (arith, is))) refl)
      (λ size c d p q here there one two span. absurd (off c p here one count (omega arith) (omega (arith, is)) span.one))
      (λ c listed live settles it. ap (λ l. items_at now.sets l c) (drop_all 1 (of_item count kept) (few count (omega arith))))))
      (λ c listed live settles index le less. off c listed live settles index (omega (arith, le)) less) (λ index le. few index (omega (arith, le)))

-- ---- between two items

module _ {files : List (List ℕ)} {macros : List ℕ → Macros} {old now : Stores} {was e : Expansion} (r : IsRunning files macros old now was e) where
  -- who is not refused goes on or waits
  pub settles-on : (c : List ℕ) → IsConfig old.sets.arities c → old.sets.has was.refusals.live.0 c ≡ true → Settling files macros old was c
      → (now.sets.has e.refusals.live.0 c ≡ true) ⊎ (now.sets.has e.refusals.waiting.0 c ≡ true)
  settles-on c listed asks settles = by asks (r.told c listed)
    where
      by : {asked : Bool} → asked ≡ true → IsTold (provenance_of files) (macros c) (seen_at old was.top.work c) (seen_at now (put_out e) c) (left_at now e c) now c e.below.items (at now e c) asked
          → (now.sets.has e.refusals.live.0 c ≡ true) ⊎ (now.sets.has e.refusals.waiting.0 c ≡ true)
      by is (told.unasked not none) = absurd (true≢false (sym is))
      by is (told.going live none stands opens) = inl live
      by is (told.failed failure not one holds) =
          absurd (cc (one-settled (provenance_of files) (macros c) (seen_at old was.top.work c) (Ok (settles.0, settles.1)) (Err failure) settles.2 holds))
      by is (told.waiting not one s) = inr (ap (λ a. a.waiting) one)

  -- who doesn't wait has nothing of what is kept
  pub kept-none : (phase : Phase files macros old now was e) (c : List ℕ) → IsConfig old.sets.arities c → now.sets.has e.refusals.waiting.0 c ≡ false → items_at now.sets (map (λ x. x.1) phase.kept) c ≡ []
  kept-none phase c listed not = ap (λ l. items_at now.sets l c) (sym phase.kept_is) ∙ none-found (seen_hidden now.names now.hides) (items_at now.sets e.rest c) (r.rest c listed not)

  pub indexes-none : (phase : Phase files macros old now was e) (c : List ℕ) → IsConfig old.sets.arities c → now.sets.has e.refusals.waiting.0 c ≡ false → indexes_in now.sets phase.kept c ≡ []
  indexes-none phase c listed not = nil_from_length (indexes_in now.sets phase.kept c) (indexes-long now.sets c phase.kept ∙ ap length (kept-none phase c listed not))

  module _ (phase : Phase files macros old now was e) (none : e.below.items ≡ []) (uncalled : e.top.calls.items ≡ []) (near : length e.top.work ≤ phase.n) where
    pub bottom-is : (bottom e).work ≡ e.top.work
    bottom-is = ap (λ bs. (bottom_by bs e.top).work) none

    pub out-is : put_out e ≡ e.top.out
    out-is = ap (λ bs. put_by bs e.top) none

    pub state-is : (c : List ℕ) → state_now now e c ≡ scanning (seen_at now e.top.out c) (seen_at now e.top.work c)
    state-is c =
        let calls : calls_at now e.top.calls.items c ≡ [] = ap (λ l. calls_at now l c) uncalled in
        ap (λ bs. state_in now bs (view_at now e.top c) c) none ∙ ap (state_by (seen_at now e.top.out c) (seen_at now e.top.work c)) calls

    -- all that is left is the list's own
    all-own : (m : ℕ) → length e.top.work ≤ m → (c : List ℕ) → below m (behind_at now.sets (bottom e).work c) ≡ behind_at now.sets e.top.work c
    all-own m le c =
        ap (λ l. below m (behind_at now.sets l c)) bottom-is
        ∙ below-all m (behind_at now.sets e.top.work c) (Fall-weaker (length e.top.work) m (behind_at now.sets e.top.work c) le (behind-falls now.sets c e.top.work))

    count-is : (c : List ℕ) → last_at now e phase.n c ≡ length (seen_at now e.top.work c)
    count-is c = ap length (all-own phase.n near c) ∙ sym (length-seen now e.top.work c)

    place-is : (c : List ℕ) → IsConfig old.sets.arities c → now.sets.has e.refusals.live.0 c ≡ true
        → Placed (provenance_of files) (macros c) (seen_at old was.top.work c) (phase.came c) (length (tokens_from old was phase.next c)) (seen_at now (take phase.outs (put_out e)) c)
        (scanning (seen_at now e.top.out c) (seen_at now e.top.work c)) (last_at now e phase.n c)
    place-is c p live =
        subst (λ s. Placed (provenance_of files) (macros c) (seen_at old was.top.work c) (phase.came c) (length (tokens_from old was phase.next c)) (seen_at now (take phase.outs (put_out e)) c) s (last_at now e phase.n c))
        (state-is c) (phase.place c p live)

    -- the configuration comes to what is left, and to nothing between this and the item
    pub stands : (c : List ℕ) → IsConfig old.sets.arities c → now.sets.has e.refusals.live.0 c ≡ true
        → Passes (provenance_of files) (macros c) (seen_at old was.top.work c) (seen_at now e.top.out c) (seen_at now e.top.work c)
        × IsNext (provenance_of files) (macros c) (seen_at old was.top.work c) (length (tokens_from old was phase.next c)) (seen_at now e.top.work c)
    stands c p live =
        let count = count-is c in
        placed-between (provenance_of files) (macros c) (seen_at old was.top.work c) (phase.came c) (length (tokens_from old was phase.next c)) (seen_at now (take phase.outs (put_out e)) c) (last_at now e phase.n c)
        (seen_at now e.top.out c) (seen_at now e.top.work c) (place-is c p live) (omega (arith, count))

    -- of the last items it has no more than it had
    pub own-few : (c : List ℕ) → IsConfig old.sets.arities c → now.sets.has e.refusals.live.0 c ≡ true → (m : ℕ) → m ≤ phase.n
        → length (below m (behind_at now.sets (bottom e).work c)) ≤ length (tokens_from old was (length was.top.work - m) c)
    own-few c p live m le =
        let it = phase.suffix c p live m le in
        let most = phase.most in
        omega (
          arith,
          ap length it.1,
          length-drop it.0 (below m (behind_at old.sets was.top.work c)),
          below-items old.sets c m was.top.work (omega (arith, le, most)),
          length-map (items_at old.sets (drop (length was.top.work - m) was.top.work) c) (seen_hidden old.names old.hides),
        )

    left-few : (c : List ℕ) → IsConfig old.sets.arities c → now.sets.has e.refusals.live.0 c ≡ true
        → length (seen_at now e.top.work c) ≤ length (tokens_from old was (length was.top.work - length e.top.work) c)
    left-few c p live = let few = own-few c p live (length e.top.work) near in let count = ap length (all-own (length e.top.work) (omega arith) c) in omega (arith, few, count, length-seen now e.top.work c)

    -- ---- what was put out

    module _ (one : phase.next ≡ phase.at + 1) (c : List ℕ) (missed : phase.came c ≡ false → Comes files macros old was phase.at c → ⊥) (listed : IsConfig old.sets.arities c) (live : now.sets.has e.refusals.live.0 c ≡ true) where
      abbrev own : List (Cond × Hidden)
      own = drop phase.outs (put_out e)

      abbrev start : List (HiddenToken Place)
      start = seen_at now (take phase.outs (put_out e)) c

      parts : seen_at now e.top.out c ≡ start ++ seen_at now own c
      parts = ap (λ l. seen_at now l c) (sym out-is ∙ sym (take-append-drop phase.outs (put_out e))) ∙ seen_at-append now (take phase.outs (put_out e)) own c

      -- the item's, by where the configuration stands
      puts-by : (out work : List (HiddenToken Place)) (left : ℕ) → Placed (provenance_of files) (macros c) (seen_at old was.top.work c) (phase.came c) (length (tokens_from old was phase.next c)) start (scanning out work) left
          → length work ≤ left → out ≡ start ++ seen_at now own c → Puts files macros old was phase.at now own c
      puts-by _ work left (away not p same next) few is =
          spans.passed (missed not) (none-found (seen_hidden now.names now.hides) (items_at now.sets own c) (append_cancel_left start (seen_at now own c) [] (sym is ∙ sym (append-nil start))))
      puts-by _ work left (passed {done = done} u came p run long same) few is =
          spans.comes (comes-by files macros old was phase.at c (phase.has c listed came) p (long ∙ ap (λ k. length (tokens_from old was k c)) one) run) (append_cancel_left start (seen_at now own c) done (sym is))
      puts-by out work left (inside w) few is = absurd (within-more (provenance_of files) (macros c) (seen_at old was.top.work c) (phase.came c) (length (tokens_from old was phase.next c)) start left out work w few)

      puts-own : Puts files macros old was phase.at now own c
      puts-own = let count = count-is c in puts-by (seen_at now e.top.out c) (seen_at now e.top.work c) (last_at now e phase.n c) (place-is c listed live) (omega (arith, count)) parts

    -- who expand it alike
    named : (one : phase.next ≡ phase.at + 1) → ((c : List ℕ) → IsConfig old.sets.arities c → old.sets.has was.refusals.live.0 c ≡ true → Settling files macros old was c → phase.came c ≡ false → Comes files macros old was phase.at c → ⊥)
        → Named files macros old now was phase.at (drop phase.outs (put_out e)) (of_item phase.at phase.kept)
    named one missed size c d p q here there settles also span = by (phase.pairs size c d p q span (came c p here settles span.one) (came d q there also span.other))
      where
        others : Others
        others = record { behind = lower_of (bound_of was phase.at size) phase.n; out = phase.outs; faults = phase.faults }

        came : (x : List ℕ) → IsConfig old.sets.arities x → old.sets.has was.refusals.live.0 x ≡ true → Settling files macros old was x → Comes files macros old was phase.at x → phase.came x ≡ true
        came x listed asks settled coming = true_from_ne_false (phase.came x) (λ not. missed x listed asks settled not coming)

        by : PairStands now e others phase.n phase.outs (of_item phase.at phase.kept) c d → IsSameName now.sets (drop phase.outs (put_out e)) (of_item phase.at phase.kept) c d
        by (as_one all of) =
            let out = (subst (λ (bs : List Enclosing). IsAlikeFrame now.sets c d (others_at others (length bs)) e.top) none all.top).out in
            spans.same (subst (λ l. AreAlike now.sets c d (drop phase.outs l)) (sym out-is) out) of
        by (come_through x y is) = is

    closed : Segments files macros old was now phase.next (put_out e) phase.kept
    closed = by phase.begins
      where
        by : Begins files macros old now was e phase.came phase.at phase.next → Segments files macros old was now phase.next (put_out e) phase.kept
        by (at_start is_start none_came empty idle) = record { segments = []; many = sym is_start; is = empty; each = λ index part found. absurd (cc); names = λ index part found. absurd (cc); itself = λ index less. absurd (omega (arith, less, is_start)) }
        by (at_item one missed) =
            let next : suc phase.at ≡ phase.next = omega (arith, one) in
            subst (λ (z : ℕ × List (Cond × Hidden)). Segments files macros old was now z.0 z.1 phase.kept) (λ i. (next i, take-append-drop phase.outs (put_out e) i))
            (segments-one files macros old now was phase.at (take phase.outs (put_out e)) (drop phase.outs (put_out e)) phase.kept phase.before (λ c listed live settles.
            elim (settles-on c listed live settles) [ inl here ↦ puts-own one c (missed c listed live settles) listed here | inr waits ↦ (phase.waits c listed waits).puts ]) (named one missed) itself)
          where
            itself : (c : List ℕ) → IsConfig old.sets.arities c → old.sets.has was.refusals.live.0 c ≡ true → Settling files macros old was c → Itself files macros old was phase.at c → items_at now.sets (drop 1 (of_item phase.at phase.kept)) c ≡ []
            itself c listed live settles it = elim (settles-on c listed live settles) [
              | inl here ↦ first-alone now.sets c [] (of_item phase.at phase.kept) refl (item-lacks now.sets c phase.at phase.kept (kept-none phase c listed (told-apart (r.told c listed) here)))
              | inr waits ↦ elim phase.worn [ inl fresh ↦ absurd (let long = ap length fresh.work in let rest = fresh.long in omega (arith, near, long, rest)) | inr worn ↦ worn.first c listed waits it ]
            ]

    -- no configuration comes to an item between the phase's and those that are left
    quiet : (c : List ℕ) → IsConfig old.sets.arities c → old.sets.has was.refusals.live.0 c ≡ true → Settling files macros old was c → (index : ℕ) → phase.next ≤ index → index < length was.top.work - length e.top.work
        → Comes files macros old was index c → ⊥
    quiet c listed asks settles index le less x = elim (settles-on c listed asks settles) [
      | inl live ↦
          let many = come-many files macros old was index c x in
          let before = from-later old was c phase.next index le in
          let behind = from-later old was c (index + 1) (length was.top.work - length e.top.work) (omega (arith, less)) in
          let far = (stands c listed live).1.most x.before (seen_hidden old.names old.hides x.item.1 ∷ tokens_from old was (index + 1) c) x.passes (omega (arith, many, before)) in
          absurd (omega (arith, far, left-few c listed live, behind))
      | inr waits ↦ (phase.waits c listed waits).last index le x
    ]

    -- what was put out is that of all items before those that are left
    pub phase-segments : Segments files macros old was now (length was.top.work - length e.top.work) (put_out e) phase.kept
    phase-segments =
        let most = phase.most in
        segments-more files macros old now was (length was.top.work - length e.top.work - phase.next) phase.next (length was.top.work - length e.top.work) (put_out e) phase.kept (omega (arith, most, near)) closed quiet phase.once

  -- at the end it is that of all
  pub run-segments : Phase files macros old now was e → HasEnded e
      → Becomes (seen_hidden old.names old.hides) (provenance_of files) macros old.sets was.top.work was.refusals.live.0 now.sets (seen_hidden now.names now.hides) e.top.out e.rest
  run-segments phase ended =
      let empty = ap length ended.work in
      let near : length e.top.work ≤ phase.n = omega (arith, empty) in
      let all : length was.top.work - length e.top.work ≡ length was.top.work = omega (arith, empty) in
      let out = out-is phase ended.below ended.calls near in
      record {
        kept = phase.kept;
        is = phase.kept_is;
        within = λ k x h. (let less = phase.behind k x h in omega (arith, less));
        some = r.some;
        segments = subst (λ (z : ℕ × List (Cond × Hidden)). Segments files macros old was now z.0 z.1 phase.kept) (λ i. (all i, out i)) (phase-segments phase ended.below ended.calls near);
        waits = λ c listed asks settles. elim (settles-on c listed asks settles) [
          | inl live ↦ inl (indexes-none phase c listed (told-apart (r.told c listed) live))
          | inr waits ↦
              let left : (bottom e).work ≡ [] = bottom-is phase ended.below ended.calls near ∙ ended.work in
              let kept = indexes_in now.sets phase.kept c in
              inr (subst (λ l. Waiting files macros old was l c)
              (ap (λ (l : List (Cond × Hidden)). kept ++ map (number (length was.top.work) phase.n phase.at) (behind_at now.sets l c)) left ∙ append-nil kept) (phase.waits c listed waits).waited)
        ];
      }
