-- Where the tokens stand that an item of a list that settles became.
use Rattle.std.proofs.Common.{◌≡◌, inl, inr, ◌⊎◌, ℕ, zero, suc, ◌+◌, ◌<◌, ◌≤◌, true, List, [], ◌∷◌, ◌++◌, append-nil, append_assoc, drop, length, map, slice_get, take, Some, refl, sym, ap, subst, ◌∙◌, arith, if◌then◌else◌, length-drop, ◌-◌}
use Rattle.std.proofs.lemmas.Bool.{cases_lt}
use Rattle.std.proofs.lemmas.List.{drop_at, take_at}
use Rattle.std.proofs.lemmas.Grind.{flat_map-append}
use Rattle.std.proofs.lemmas.Option.{same_Some, slice_get_within}
use Rattle.std.specs.List.{flat_map}
use Rattle.c11_macros.proofs.OneRun.{one-run}
use Rattle.c11_macros.specs.Hidden.{Hidden, Provenance}
use Rattle.c11_macros.specs.Macros.{Macros}
use Rattle.c11_macros.specs.Runs.{Passes, Runs, Uses, begins, goes_on, over}
use Rattle.sc_expand.proofs.PassesLaws.{none-between, over-source, passes-end, run-same}
use Rattle.sc_expand.proofs.ThinLemmas.{segments-thin}
use Rattle.sc_expand.specs.Spans.{ComesAt, InSegments, IsSettling, IsSpan, PutsOutAt, behind, comes, passed}
use Rattle.sc_expand.specs.Thin.{IsNth}
use Rattle.sc_prep.proofs.Facts.{items_at-append, length-append, length-map, map-append, take-add}
use Rattle.sc_prep.proofs.NthItems.{StandsAt, had-stands, nth-behind, nth-front, some-at, some-stands, splits-at, stands-get, stands-items, stands-many, stands-nth}
use Rattle.sc_prep.proofs.Terms.{Cond, IsConfig, Sets, items_at}

module _ {T P : Type 0} (see : T → Hidden P) (provenance : Provenance P) (macros : List ℕ → Macros) (s : Sets) (list : List (Cond × T)) (c : List ℕ) where
  abbrev Comes : ℕ → Type 0
  Comes at = ComesAt see provenance macros s list at c

  abbrev left : ℕ → List (Hidden P)
  left at = behind see provenance macros s list at c

  abbrev all : List (Hidden P)
  all = map see (items_at s list c)

  -- ---- what stands behind an item

  stands-behind : {n i : ℕ} (at : StandsAt s c list n i) → left i ≡ map see (items_at s at.back c)
  stands-behind {i = i} at =
      let long : length (at.front ++ at.item ∷ []) ≡ i + 1 = (let is = at.index in omega (arith, is, length-append at.front (at.item ∷ []))) in
      ap (λ l. map see (items_at s (drop (i + 1) l) c)) (at.is ∙ sym (append_assoc at.front (at.item ∷ []) at.back)) ∙ ap (λ l. map see (items_at s l c)) (drop_at (at.front ++ at.item ∷ []) at.back (i + 1) long)

  -- all that it has, at an item that it has
  stands-all : {n i : ℕ} (at : StandsAt s c list n i) → all ≡ map see (items_at s at.front c) ++ see at.item.1 ∷ left i
  stands-all at =
      ap (map see) (stands-items s c at) ∙ (map-append see (items_at s at.front c) (at.item.1 ∷ items_at s at.back c) ∙ ap (λ l. map see (items_at s at.front c) ++ see at.item.1 ∷ l) (sym (stands-behind at)))

  stands-tail : {n i : ℕ} (at : StandsAt s c list n i) → drop n all ≡ see at.item.1 ∷ left i
  stands-tail {n} {i} at = ap (drop n) (stands-all at) ∙ drop_at (map see (items_at s at.front c)) (see at.item.1 ∷ left i) n (length-map (items_at s at.front c) see ∙ at.many)

  stands-long : {n i : ℕ} (at : StandsAt s c list n i) → length all ≡ n + suc (length (left i))
  stands-long {n} {i} at =
      let parts = ap length (stands-all at) in
      let both = length-append (map see (items_at s at.front c)) (see at.item.1 ∷ left i) in
      let front = length-map (items_at s at.front c) see in
      let many = at.many in
      omega (arith, parts, both, front, many)

  -- fewer stand before an item that stands before another
  stands-less : {n i m j : ℕ} (one : StandsAt s c list n i) (other : StandsAt s c list m j) → i < j → n < m
  stands-less {n} {i} {m} {j} one other less =
      let d = j - suc i in
      let gap : i + suc d ≡ j = omega (arith, less) in
      let there : take (suc d) (drop i list) ≡ one.item ∷ take d one.back = ap (take (suc d)) (ap (drop i) one.is ∙ drop_at one.front (one.item ∷ one.back) i one.index) in
      let whole : take j list ≡ take i list ++ one.item ∷ take d one.back = ap (λ k. take k list) (sym gap) ∙ (take-add i (suc d) list ∙ ap (λ l. take i list ++ l) there) in
      let had = ap (λ l. length (items_at s l c)) whole ∙ (ap length (items_at-append s (take i list) (one.item ∷ take d one.back) c) ∙ length-append (items_at s (take i list) c) _) in
      let last : length (items_at s (one.item ∷ take d one.back) c) ≡ suc (length (items_at s (take d one.back) c)) = ap (λ b. length (if b then one.item.1 ∷ items_at s (take d one.back) c else items_at s (take d one.back) c)) one.has in
      let many = stands-many s c one in
      let many2 = stands-many s c other in
      omega (arith, had, last, many, many2)

  stands-order : {n i m j : ℕ} (one : StandsAt s c list n i) (other : StandsAt s c list m j) → n < m → i < j
  stands-order {n} {i} {m} {j} one other less = by (cases_lt i j) (cases_lt j i)
    where
      by : (i < j) ⊎ (j ≤ i) → (j < i) ⊎ (i ≤ j) → i < j
      by (inl is) _ = is
      by (inr le) (inl lt) = let more = stands-less other one lt in absurd (omega (arith, more, less))
      by (inr le) (inr ge) =
          let same : i ≡ j = omega (arith, le, ge) in
          let counts : n ≡ m = sym (stands-many s c one) ∙ (ap (λ k. length (items_at s (take k list) c)) same ∙ stands-many s c other) in
          absurd (omega (arith, counts, less))

  module _ {cond : ℕ} {later : Sets} {look : T → Hidden P} {count : ℕ} {out : List (Cond × T)} {kept : List (ℕ × (Cond × T))} (b : InSegments see provenance macros s list cond later look count out kept) (many : count ≡ length list)
      (listed : IsConfig s.arities c) (here : s.has cond c ≡ true) (settling : IsSettling see provenance macros s list c) where
    -- what so many first items became
    abbrev upto : ℕ → List (Cond × T)
    upto n = flat_map (λ segment. segment) (take n b.segments)

    abbrev put : List (Cond × T) → List (Hidden P)
    put xs = map look (items_at later xs c)

    put-append : (xs ys : List (Cond × T)) → put (xs ++ ys) ≡ put xs ++ put ys
    put-append xs ys = ap (map look) (items_at-append later xs ys c) ∙ map-append look (items_at later xs c) (items_at later ys c)

    upto-next : (n : ℕ) (x : List (Cond × T)) → slice_get b.segments n ≡ Some x → upto (suc n) ≡ upto n ++ x
    upto-next n x found =
        let it = splits-at b.segments n x found in
        let F : List (List (Cond × T)) → List (Cond × T) = flat_map (λ segment. segment) in
        let long : length (it.front ++ x ∷ []) ≡ suc n = (let index = it.index in omega (arith, index, length-append it.front (x ∷ []))) in
        ap (λ l. F (take (suc n) l)) (it.is ∙ sym (append_assoc it.front (x ∷ []) it.back))
        ∙ (ap F (take_at (it.front ++ x ∷ []) it.back (suc n) long)
        ∙ (flat_map-append (λ segment. segment) it.front (x ∷ [])
        ∙ (λ i. F (it.first i) ++ append-nil x i)))

    -- where the configuration doesn't come, nothing is put out
    skipped : (n : ℕ) (x : List (Cond × T)) → slice_get b.segments n ≡ Some x → (Comes n → ⊥) → put x ≡ []
    skipped n x found none = by (b.each n x found c listed here settling)
      where
        by : PutsOutAt see provenance macros s list n later look x c → put x ≡ []
        by (comes y e) = absurd (none y)
        by (passed _ e) = ap (map look) e

    skip : (d i : ℕ) → i + d ≤ count → ((k : ℕ) → i ≤ k → k < i + d → Comes k → ⊥) → put (upto (i + d)) ≡ put (upto i)
    skip zero i short none = let same : i + 0 ≡ i = omega arith in ap (λ n. put (upto n)) same
    skip (suc d) i short none =
        let same : i + suc d ≡ suc (i + d) = omega arith in
        let found = some-at b.segments (i + d) (let all_of = b.many in omega (arith, short, all_of)) in
        ap (λ n. put (upto n)) same
        ∙ (ap put (upto-next (i + d) found.0 found.1)
        ∙ (put-append (upto (i + d)) found.0
        ∙ ((λ j. put (upto (i + d)) ++ skipped (i + d) found.0 found.1 (none (i + d) (omega arith) (omega arith)) j) ∙ (append-nil (put (upto (i + d))) ∙ skip d i (omega (arith, short)) (λ k least less. none k least (omega (arith, less)))))))

    -- what it comes to becomes what it comes to
    comes-puts : (n : ℕ) (x : List (Cond × T)) → slice_get b.segments n ≡ Some x → (y : Comes n) → put x ≡ y.done
    comes-puts n x found y = by (b.each n x found c listed here settling)
      where
        by : PutsOutAt see provenance macros s list n later look x c → put x ≡ y.done
        by (comes z e) =
            let item : y.item ≡ z.item = same_Some y.item z.item (sym y.is ∙ z.is) in
            let runs = run-same provenance (macros c) (λ i. see (sym item i).1 ∷ left n) z.runs in
            e ∙ sym (one-run provenance (macros c) y.runs z.done z.end z.uses runs).done
        by (passed none e) = absurd (none y)

    -- ---- what was put out before an item

    -- the item at which names were passed
    record Came (t : Hidden P) (rest : List (Hidden P)) : Type 0 where
      n : ℕ
      i : ℕ
      stands : StandsAt s c list n i
      tail : t ∷ rest ≡ see stands.item.1 ∷ left i

    came : {out rest : List (Hidden P)} {t : Hidden P} → Passes provenance (macros c) all out (t ∷ rest) → Came t rest
    came {out} {rest} {t} p =
        let end = passes-end provenance (macros c) p in
        let it = some-stands s c list end.0 (let long = ap length end.1 in omega (arith, long, length-drop end.0 all, length-map (items_at s list c) see)) in
        record { n = end.0; i = it.0; stands = it.1; tail = end.1 ∙ stands-tail it.1 }

    module _ {passed_by done after rest : List (Hidden P)} {t : Hidden P} (u : Uses P) (p : Passes provenance (macros c) all passed_by (t ∷ rest)) (run : Runs provenance (macros c) (t ∷ []) rest done (over after) u) (at : ℕ) (item : Cond × T)
        (is : slice_get list at ≡ Some item) (has : s.has item.0.0 c ≡ true) (same : after ≡ see item.1 ∷ left at) (it : Came t rest) where
      abbrev came-at : Comes it.i
      came-at = record {
        item = it.stands.item;
        is = stands-get s c it.stands;
        has = it.stands.has;
        before = passed_by;
        passes = subst (λ l. Passes provenance (macros c) all passed_by l) it.tail p;
        done = done;
        end = over after;
        uses = u;
        runs = run-same provenance (macros c) it.tail run;
      }

      rests : length rest ≡ length (left it.i)
      rests = let tails = ap length it.tail in omega (arith, tails)

      short : length after ≡ suc (length (left at))
      short = ap length same

      comes-later : {n : ℕ} → StandsAt s c list n at → it.i < at
      comes-later {n} last =
          let long = stands-long last in
          let long2 = stands-long it.stands in
          let source = ap length (over-source provenance (macros c) run) in
          let source2 = length-append u.taken after in
          let tails = rests in
          let few = short in
          stands-order it.stands last (omega (arith, long, long2, source, source2, tails, few))

      comes-between : {n : ℕ} → StandsAt s c list n at → (k : ℕ) → suc it.i ≤ k → k < at → Comes k → ⊥
      comes-between {n} last k least below y =
          let other = had-stands s c list k y.item y.is y.has in
          let long = stands-long last in
          let long2 = stands-long it.stands in
          let long3 = stands-long other.1 in
          let fewer = stands-less it.stands other.1 (omega (arith, least)) in
          let fewer2 = stands-less other.1 last below in
          let tails = rests in
          let few = short in
          let between = none-between provenance (macros c) p run y.passes (omega (arith, long2, long3, fewer, tails)) in
          omega (arith, between, few, long, long3, fewer2)

      before-next : put (upto it.i) ≡ passed_by → put (upto at) ≡ passed_by ++ done
      before-next earlier =
          let last = had-stands s c list at item is has in
          let less = comes-later last.1 in
          let within = slice_get_within list at item is in
          let gap : suc it.i + (at - suc it.i) ≡ at = omega (arith, less) in
          let found = some-at b.segments it.i (let all_of = b.many in omega (arith, within, many, all_of, less)) in
          ap (λ n. put (upto n)) (sym gap)
          ∙ (skip (at - suc it.i) (suc it.i) (omega (arith, within, many, gap)) (λ k least below. comes-between last.1 k least (omega (arith, below, gap)))
          ∙ (ap put (upto-next it.i found.0 found.1) ∙ (put-append (upto it.i) found.0 ∙ (λ j. earlier j ++ comes-puts it.i found.0 found.1 came-at j))))

    before-at : {before tail : List (Hidden P)} → Passes provenance (macros c) all before tail → (at : ℕ) (item : Cond × T) → slice_get list at ≡ Some item → s.has item.0.0 c ≡ true → tail ≡ see item.1 ∷ left at → put (upto at) ≡ before
    before-at begins at item is has same =
        let stands = had-stands s c list at item is has in
        let alone : stands.0 ≡ 0 = (let long = stands-long stands.1 in let short = ap length same in omega (arith, long, short)) in
        let within = slice_get_within list at item is in
        let zero_left : 0 + at ≡ at = omega arith in
        ap (λ n. put (upto n)) (sym zero_left)
        ∙ skip at 0 (omega (arith, within, many)) (λ k least less y.
        let other = had-stands s c list k y.item y.is y.has in
        let fewer = stands-less other.1 stands.1 (omega (arith, less)) in
        omega (arith, fewer, alone))
    before-at (goes_on u p run) at item is has same =
        let it = came p in
        before-next u p run at item is has same it (before-at p it.i it.stands.item (stands-get s c it.stands) it.stands.has it.tail)

    pub before-put : {at : ℕ} (y : Comes at) → put (upto at) ≡ y.before
    before-put {at} y = before-at y.passes at y.item y.is y.has refl

    -- ---- what was put out for it, of all

    module _ (at : ℕ) (x : List (Cond × T)) (found : slice_get b.segments at ≡ Some x) (y : Comes at) where
      abbrev last-segments : List (Cond × T)
      last-segments = flat_map (λ segment. segment) (splits-at b.segments at x found).back

      parts : out ≡ upto at ++ (x ++ last-segments)
      parts =
          let it = splits-at b.segments at x found in
          let F : List (List (Cond × T)) → List (Cond × T) = flat_map (λ segment. segment) in
          b.is ∙ (ap F it.is ∙ (flat_map-append (λ segment. segment) it.front (x ∷ it.back) ∙ ap (λ l. F l ++ (x ++ F it.back)) it.first))

      pub put-all : put out ≡ (y.before ++ y.done) ++ put last-segments
      put-all =
          ap put parts
          ∙ (put-append (upto at) (x ++ last-segments)
          ∙ ((λ j. before-put y j ++ put-append x last-segments j) ∙ (ap (λ l. y.before ++ (l ++ put last-segments)) (comes-puts at x found y) ∙ sym (append_assoc y.before y.done (put last-segments)))))

      pub some-nth : (index : ℕ) (made : Hidden P) → slice_get y.done index ≡ Some made → (i : ℕ) × IsNth later x c index i
      some-nth index made is =
          let within = slice_get_within y.done index made is in
          let long = ap length (comes-puts at x found y) in
          let it = some-stands later c x index (omega (arith, within, long, length-map (items_at later x c) look)) in
          (it.0, stands-nth later c it.1)

      pub nth-all : (index i : ℕ) → IsNth later x c index i → IsNth later out c (length y.before + index) (length (upto at) + i)
      nth-all index i is =
          let long : length (items_at later (upto at) c) ≡ length y.before = sym (length-map (items_at later (upto at) c) look) ∙ ap length (before-put y) in
          subst (λ l. IsNth later l c (length y.before + index) (length (upto at) + i)) (sym parts)
          (subst (λ n. IsNth later (upto at ++ (x ++ last-segments)) c (n + index) (length (upto at) + i)) long
          (nth-behind later c (upto at) (x ++ last-segments) index i (nth-front later c x last-segments index i is)))

-- ---- two configurations that expand it alike

module _ {T P : Type 0} (see : T → Hidden P) (provenance : Provenance P) (macros : List ℕ → Macros) (s : Sets) (list : List (Cond × T)) {cond : ℕ} {later : Sets} {look : T → Hidden P} {out : List (Cond × T)} {kept : List (ℕ × (Cond × T))}
    (b : InSegments see provenance macros s list cond later look (length list) out kept) where
  -- all that it puts out, where it comes to an item
  pub comes-all : (c : List ℕ) → IsConfig s.arities c → s.has cond c ≡ true → IsSettling see provenance macros s list c → {at : ℕ} (y : ComesAt see provenance macros s list at c)
      → (more : List (Hidden P)) × (map look (items_at later out c) ≡ (y.before ++ y.done) ++ more)
  comes-all c listed here settling {at} y =
      let within = slice_get_within list at y.item y.is in
      let found = some-at b.segments at (let many = b.many in omega (arith, within, many)) in
      (map look (items_at later (last-segments see provenance macros s list c b refl listed here settling at found.0 found.1 y) c), put-all see provenance macros s list c b refl listed here settling at found.0 found.1 y)

  -- a token that both make is one element
  pub span-one : (at size : ℕ) (c d : List ℕ) → IsConfig s.arities c → IsConfig s.arities d → s.has cond c ≡ true → s.has cond d ≡ true → IsSettling see provenance macros s list c → IsSettling see provenance macros s list d
      → (span : IsSpan see provenance macros s list at size c d) (index : ℕ) (made also : Hidden P) → slice_get span.one.done index ≡ Some made → slice_get span.other.done index ≡ Some also
      → (i : ℕ) × IsNth later out c (length span.one.before + index) i × IsNth later out d (length span.other.before + index) i
  span-one at size c d p q here there one two span index made also is is2 =
      let within = slice_get_within list at span.one.item span.one.is in
      let found = some-at b.segments at (let many = b.many in omega (arith, within, many)) in
      let x = found.0 in
      let i = some-nth see provenance macros s list c b refl p here one at x found.1 span.one index made is in
      let j = some-nth see provenance macros s list d b refl q there two at x found.1 span.other index also is2 in
      let same : i.0 ≡ j.0 = (segments-thin see provenance macros s list b at x found.1 c d p q here there one two).puts index i.0 j.0 (inl (size, span)) i.1 j.1 in
      let n = nth-all see provenance macros s list c b refl p here one at x found.1 span.one index i.0 i.1 in
      let m = nth-all see provenance macros s list d b refl q there two at x found.1 span.other index j.0 j.1 in
      let before : List (Cond × T) = flat_map (λ segment. segment) (take at b.segments) in
      (length before + i.0, n, subst (λ k. IsNth later out d (length span.other.before + index) (length before + k)) (sym same) m)
