-- What a turn keeps of the item that is being expanded, and what is kept of first tokens that are
-- gone.
use Rattle.std.proofs.Common.{◌≡◌, ℕ, suc, ◌+◌, ◌-◌, ◌<◌, ◌≤◌, ◌&&◌, nat_lt, Bool, true, false, true≢false, List, [], ◌∷◌, ◌++◌, All, append-nil, append_assoc, drop, length, length-append, map, Some, slice_get, take, refl, sym, ap, subst, ◌∙◌, arith, inl, inr, ◌⊎◌, if◌then◌else◌}
use Rattle.sc_expand.proofs.AlikeLemmas.{All-but-tail}
use Rattle.sc_expand.proofs.AlikeTaking.{alike-first}
use Rattle.sc_expand.proofs.Behind.{Fall, Fall-weaker, below, below-all, below-has, below-not, length-seen, same-drop}
use Rattle.sc_expand.proofs.Facts.{All-cons, All-head, All-nil, All-tail, IsConfig-Keeps, and_parts, cases_eq, cases_lt, eq-eqb, le-ltb, length-drop, length-map, lt-ltb, ne_eqb, and_right, nil_from_length}
use Rattle.sc_expand.proofs.NamedItems.{indexes-append, indexes-Keeps, indexes-long, item-none, item-one, item-whole}
use Rattle.sc_expand.proofs.RunLemmas.{IsRunning, running-apart}
use Rattle.sc_expand.proofs.SeenLemmas.{seen_at-Grows, seen_at-append}
use Rattle.sc_expand.proofs.Terms.{AreAlike, Cond, Expansion, Grows, Hidden, IsAlike, IsCond, IsConfig, IsRestricted, Macros, Sets, Stores, behind_at, indexes_in, items_at, of_item, seen_at, seen_hidden}
use Rattle.sc_expand.specs.Running as running
use Rattle.sc_expand.specs.Running.{KeepsLeft, KeepsNext, Rest, bottom, bottom_by, put, took}
use Rattle.sc_expand.specs.Restricted as restricted

-- ---- numbers

-- whose token is kept that so many stand behind: of the last n items it is the list's own
abbrev pub number : (long n at : ℕ) → ℕ → ℕ
number long n at j = if nat_lt j n then long - suc j else at

-- so many numbers that are less, and others
pub below-most : (n : ℕ) (ms : List ℕ) → length (below n ms) ≤ length ms
below-most n [] = omega arith
below-most n (m ∷ ms) = by (nat_lt m n) (below-most n ms)
  where
    by : (b : Bool) → length (below n ms) ≤ length ms → length (if b then m ∷ below n ms else below n ms) ≤ suc (length ms)
    by true le = omega (arith, le)
    by false le = omega (arith, le)

pub all-below : (n : ℕ) (ms : List ℕ) → length ms ≤ length (below n ms) → All (λ m. m < n) ms
all-below n [] few = All-nil (λ (m : ℕ). m < n)
all-below n (m ∷ ms) few = elim (cases_lt m n) [
  | inl less ↦ All-cons (λ (m : ℕ). m < n) m ms less (all-below n ms (let one = ap length (below-has n m ms less) in omega (arith, few, one)))
  | inr le ↦ absurd (let one = ap length (below-not n m ms le) in omega (arith, few, one, below-most n ms))
]

pub all-fall : (n high : ℕ) (ms : List ℕ) → All (λ m. m < n) ms → Fall high ms → Fall n ms
all-fall n high [] low falls = tt
all-fall n high (m ∷ ms) low falls = (All-head (λ (m : ℕ). m < n) m ms low, falls.1)

module _ (long n : ℕ) where
  abbrev own : ℕ → ℕ
  own j = long - suc j

  number-low : (at j : ℕ) → j < n → number long n at j ≡ own j
  number-low at j less = ap (λ (b : Bool). if b then own j else at) (lt-ltb j n less)

  number-high : (at j : ℕ) → n ≤ j → number long n at j ≡ at
  number-high at j le = ap (λ (b : Bool). if b then own j else at) (le-ltb j n le)

  -- the last n items are told by their indexes
  numbers-low : (at : ℕ) (ns : List ℕ) → Fall n ns → map (number long n at) ns ≡ map own ns
  numbers-low at [] falls = refl
  numbers-low at (m ∷ ms) falls =
      let first = number-low at m falls.0 in
      let later = numbers-low at ms (Fall-weaker m n ms (omega (arith, falls.0)) falls.1) in
      λ i. first i ∷ later i

  -- and the one before them, where it is the item
  pub numbers-next : (ns : List ℕ) → Fall (suc n) ns → map (number long n (own n)) ns ≡ map own ns
  numbers-next [] falls = refl
  numbers-next (m ∷ ms) falls =
      let first : number long n (own n) m ≡ own m = elim (cases_lt m n) [ inl less ↦ number-low (own n) m less | inr le ↦ number-high (own n) m le ∙ ap own (omega (arith, le, falls.0)) ] in
      let later = numbers-next ms (Fall-weaker m (suc n) ms (omega (arith, falls.0)) falls.1) in
      λ i. first i ∷ later i

  -- all that stands before them is of the item
  pub numbers-parts : {A : Type 0} (at high : ℕ) (ts : List A) (ns : List ℕ) → Fall high ns → length ts + length (below n ns) ≡ length ns → map (number long n at) ns ≡ map (λ t. at) ts ++ map own (below n ns)
  numbers-parts at high [] ns falls all =
      let low = all-fall n high ns (all-below n ns (omega (arith, all))) falls in
      numbers-low at ns low ∙ ap (map own) (sym (below-all n ns low))
  numbers-parts at high (t ∷ ts) [] falls all = absurd (omega (arith, all))
  numbers-parts at high (t ∷ ts) (m ∷ ms) falls all = elim (cases_lt m n) [
    | inl less ↦ absurd (let same = ap length (below-all n (m ∷ ms) (less, falls.1)) in omega (arith, all, same))
    | inr le ↦
        let skips = below-not n m ms le in
        let later = numbers-parts at m ts ms falls.1 (let same = ap length skips in omega (arith, all, same)) in
        (λ i. number-high at m le i ∷ later i) ∙ ap (λ l. at ∷ (map (λ t. at) ts ++ map own l)) (sym skips)
  ]

-- those of a list are the same by either bound that all are below
pub numbers-same : (long a b at high : ℕ) (ns : List ℕ) → Fall high ns → (a ≡ b) ⊎ ((high ≤ a) × (high ≤ b)) → map (number long a at) ns ≡ map (number long b at) ns
numbers-same long a b at high ns falls (inl is) = ap (λ n. map (number long n at) ns) is
numbers-same long a b at high ns falls (inr far) = numbers-low long a at ns (Fall-weaker high a ns far.0 falls) ∙ sym (numbers-low long b at ns (Fall-weaker high b ns far.1 falls))

-- those of a list whose items are all the last, and of one that its first item begins
pub numbers-first : (long n m at : ℕ) (ns : List ℕ) → Fall (suc m) ns → suc m ≤ n → map (number long n at) ns ≡ map (number long m (long - suc m)) ns
numbers-first long n m at ns falls le = numbers-low long n at ns (Fall-weaker (suc m) n ns le falls) ∙ sym (numbers-next long m ns falls)

-- ---- a turn

empty-first : {A : Type 0} (list : List A) (x : A) → list ≡ [] → slice_get list 0 ≡ Some x → ⊥
empty-first [] x is first = cc
empty-first (y ∷ ys) x is first = cc

pub same-slice : {A : Type 0} (list : List A) (n : ℕ) (x y : A) → slice_get list n ≡ Some x → slice_get list n ≡ Some y → x ≡ y
same-slice list n x y one other = let both : Some x ≡ Some y = sym one ∙ other in cc

-- the first item of a list, at a configuration
first-items : (s : Sets) (c : List ℕ) (list : List (Cond × Hidden)) (item : Cond × Hidden) → slice_get list 0 ≡ Some item → items_at s (take 1 list) c ≡ (if s.has item.0.0 c then item.1 ∷ [] else [])
first-items s c [] item first = absurd (cc)
first-items s c (x ∷ xs) item first = let same : x ≡ item = cc in ap (λ (y : Cond × Hidden). if s.has y.0.0 c then y.1 ∷ [] else []) same

first-number : (s : Sets) (c : List ℕ) (long n at : ℕ) (list : List (Cond × Hidden)) (item : Cond × Hidden) → slice_get list 0 ≡ Some item → s.has item.0.0 c ≡ true → n < length list
    → map (number long n at) (behind_at s list c) ≡ at ∷ map (number long n at) (drop 1 (behind_at s list c))
first-number s c long n at [] item first has far = absurd (cc)
first-number s c long n at (x ∷ xs) item first has far =
    let same : x ≡ item = cc in
    let is : behind_at s (x ∷ xs) c ≡ length xs ∷ behind_at s xs c = ap (λ (b : Bool). if b then length xs ∷ behind_at s xs c else behind_at s xs c) (ap (λ (y : Cond × Hidden). s.has y.0.0 c) same ∙ has) in
    ap (map (number long n at)) is ∙ ((λ i. number-high long n at (length xs) (omega (arith, far)) i ∷ map (number long n at) (behind_at s xs c)) ∙ sym (ap (λ l. at ∷ map (number long n at) (drop 1 l)) is))

module _ {files : List (List ℕ)} {macros : List ℕ → Macros} {old now : Stores} {was e : Expansion} (grows : Grows old now) (r : IsRunning files macros old now was e) (new : Stores) (later : Grows now new) (after : Expansion) (at : ℕ) where
  abbrev pub more-of : {went : Bool} → KeepsNext now.sets new.sets e after went → List (ℕ × (Cond × Hidden))
  more-of (running.nothing_kept empty is) = []
  more-of (running.first_kept item cond whole none first (restricted.pushed some is) has) = (at, (cond, item.1)) ∷ []
  more-of (running.first_kept item cond whole none first (restricted.absent never is) has) = []

  pub more-is : {went : Bool} (k : KeepsNext now.sets new.sets e after went) → after.rest ≡ e.rest ++ map (λ x. x.1) (more-of k)
  more-is (running.nothing_kept empty is) = is ∙ sym (append-nil e.rest)
  more-is (running.first_kept item cond whole none first (restricted.pushed some is) has) = is
  more-is (running.first_kept item cond whole none first (restricted.absent never is) has) = is ∙ sym (append-nil e.rest)

  pub more-at : {went : Bool} (k : KeepsNext now.sets new.sets e after went) → All (λ x. x.0 ≡ at) (more-of k)
  more-at (running.nothing_kept empty is) = All-nil (λ (x : ℕ × (Cond × Hidden)). x.0 ≡ at)
  more-at (running.first_kept item cond whole none first (restricted.pushed some is) has) =
      All-cons (λ (x : ℕ × (Cond × Hidden)). x.0 ≡ at) (at, (cond, item.1)) [] refl (All-nil (λ (x : ℕ × (Cond × Hidden)). x.0 ≡ at))
  more-at (running.first_kept item cond whole none first (restricted.absent never is) has) = All-nil (λ (x : ℕ × (Cond × Hidden)). x.0 ≡ at)

  pub more-once : {went : Bool} (k : KeepsNext now.sets new.sets e after went) → drop 1 (of_item at (more-of k)) ≡ []
  more-once (running.nothing_kept empty is) = refl
  more-once (running.first_kept item cond whole none first (restricted.pushed some is) has) = ap (drop 1) (item-one at (cond, item.1))
  more-once (running.first_kept item cond whole none first (restricted.absent never is) has) = refl

  -- where no configuration waits nothing is kept
  pub more-idle : {went : Bool} (k : KeepsNext now.sets new.sets e after went) → ((c : List ℕ) → IsConfig old.sets.arities c → new.sets.has after.refusals.waiting.0 c ≡ false) → ((c : List ℕ) → IsConfig new.sets.arities c → IsConfig old.sets.arities c) → more-of k ≡ []
  more-idle (running.nothing_kept empty is) idle listed = refl
  more-idle (running.first_kept item cond whole none first (restricted.pushed some is) has) idle listed = absurd (some (record {
    none = λ c there.
        let here = listed c there in
        has c (IsConfig-Keeps grows.sets here) (running-apart grows r c here) ∙ and_right (now.sets.has item.0.0 c) (new.sets.has after.refusals.waiting.0 c) (idle c here);
  }))
  more-idle (running.first_kept item cond whole none first (restricted.absent never is) has) idle listed = refl

  -- who has not the token, or does not wait, keeps nothing
  pub more-lacks : {went : Bool} (k : KeepsNext now.sets new.sets e after went) (c : List ℕ) → IsConfig old.sets.arities c
      → ((item : Cond × Hidden) → e.below.items ≡ [] → e.top.calls.items ≡ [] → slice_get e.top.work 0 ≡ Some item → (now.sets.has item.0.0 c && new.sets.has after.refusals.waiting.0 c) ≡ false) → items_at new.sets (of_item at (more-of k)) c ≡ []
  more-lacks (running.nothing_kept empty is) c listed lacks = refl
  more-lacks (running.first_kept item cond whole none first (restricted.pushed some is) has) c listed lacks =
      let not : new.sets.has cond.0 c ≡ false = has c (IsConfig-Keeps grows.sets listed) (running-apart grows r c listed) ∙ lacks item whole none first in
      ap (λ l. items_at new.sets l c) (item-one at (cond, item.1)) ∙ ap (λ (b : Bool). if b then item.1 ∷ [] else []) not
  more-lacks (running.first_kept item cond whole none first (restricted.absent never is) has) c listed lacks = refl

  -- who has it and waits keeps it
  pub more-has : {went : Bool} (k : KeepsNext now.sets new.sets e after went) (c : List ℕ) → IsConfig old.sets.arities c → (item : Cond × Hidden) → e.below.items ≡ [] → e.top.calls.items ≡ [] → slice_get e.top.work 0 ≡ Some item
      → now.sets.has item.0.0 c ≡ true → new.sets.has after.refusals.waiting.0 c ≡ true → items_at new.sets (of_item at (more-of k)) c ≡ item.1 ∷ []
  more-has (running.nothing_kept empty is) c listed item whole none first has waits = absurd (empty-first e.top.work item (empty whole none) first)
  more-has (running.first_kept other cond whole none first (restricted.pushed some is) has) c listed item whole' none' first' had waits =
      let same : other ≡ item = same-slice e.top.work 0 other item first first' in
      let yes : new.sets.has cond.0 c ≡ true = has c (IsConfig-Keeps grows.sets listed) (running-apart grows r c listed) ∙ (λ i. now.sets.has (same i).0.0 c && waits i) ∙ ap (λ b. b && true) had in
      ap (λ l. items_at new.sets l c) (item-one at (cond, other.1)) ∙ (ap (λ (b : Bool). if b then other.1 ∷ [] else []) yes ∙ ap (λ (x : Cond × Hidden). x.1 ∷ []) same)
  more-has (running.first_kept other cond whole none first (restricted.absent never is) has) c listed item whole' none' first' had waits =
      let same : other ≡ item = same-slice e.top.work 0 other item first first' in
      let yes : new.sets.has cond.0 c ≡ true = has c (IsConfig-Keeps grows.sets listed) (running-apart grows r c listed) ∙ (λ i. now.sets.has (same i).0.0 c && waits i) ∙ ap (λ b. b && true) had in
      absurd (true≢false (sym yes ∙ never.none c (IsConfig-Keeps later.sets (IsConfig-Keeps grows.sets listed))))

  -- so far it is all that the item has
  pub more-first-had : {went : Bool} (k : KeepsNext now.sets new.sets e after went) (c : List ℕ) → IsConfig old.sets.arities c → new.sets.has after.refusals.waiting.0 c ≡ true → (item : Cond × Hidden) → e.below.items ≡ [] → e.top.calls.items ≡ []
      → slice_get e.top.work 0 ≡ Some item → length (if now.sets.has item.0.0 c then item.1 ∷ [] else []) ≤ length (items_at new.sets (of_item at (more-of k)) c)
  more-first-had k c listed waits item whole none first = by (now.sets.has item.0.0 c) refl
    where
      by : (b : Bool) → now.sets.has item.0.0 c ≡ b → length (if b then item.1 ∷ [] else []) ≤ length (items_at new.sets (of_item at (more-of k)) c)
      by false lacks = omega arith
      by true has = let one = ap length (more-has k c listed item whole none first has waits) in omega (arith, one)

  -- both keep it, or neither
  pub more-alike : {went : Bool} (k : KeepsNext now.sets new.sets e after went) (c d : List ℕ) → IsConfig old.sets.arities c → IsConfig old.sets.arities d
      → ((item : Cond × Hidden) → e.below.items ≡ [] → e.top.calls.items ≡ [] → slice_get e.top.work 0 ≡ Some item → now.sets.has item.0.0 c ≡ now.sets.has item.0.0 d)
      → new.sets.has after.refusals.waiting.0 c ≡ new.sets.has after.refusals.waiting.0 d → AreAlike new.sets c d (of_item at (more-of k))
  more-alike (running.nothing_kept empty is) c d p q both waits = All-nil (λ (item : Cond × Hidden). IsAlike new.sets c d item.0)
  more-alike (running.first_kept item cond whole none first (restricted.pushed some is) has) c d p q both waits =
      let P : Cond × Hidden → Type 0 = λ x. IsAlike new.sets c d x.0 in
      let same = both item whole none first in
      let alike : new.sets.has cond.0 c ≡ new.sets.has cond.0 d = has c (IsConfig-Keeps grows.sets p) (running-apart grows r c p) ∙ ((λ i. same i && waits i) ∙ sym (has d (IsConfig-Keeps grows.sets q) (running-apart grows r d q))) in
      subst (AreAlike new.sets c d) (sym (item-one at (cond, item.1))) (All-cons P (cond, item.1) [] alike (All-nil P))
  more-alike (running.first_kept item cond whole none first (restricted.absent never is) has) c d p q both waits = All-nil (λ (item : Cond × Hidden). IsAlike new.sets c d item.0)

  -- both have as much of it
  pub more-same : {went : Bool} (k : KeepsNext now.sets new.sets e after went) (c d : List ℕ) → length (items_at new.sets (of_item at (more-of k)) c) ≡ length (items_at new.sets (of_item at (more-of k)) d) → AreAlike new.sets c d (of_item at (more-of k))
  more-same (running.nothing_kept empty is) c d one = All-nil (λ (item : Cond × Hidden). IsAlike new.sets c d item.0)
  more-same (running.first_kept item cond whole none first (restricted.absent never is) has) c d one = All-nil (λ (item : Cond × Hidden). IsAlike new.sets c d item.0)
  more-same (running.first_kept item cond whole none first (restricted.pushed some is) has) c d one =
      let P : Cond × Hidden → Type 0 = λ x. IsAlike new.sets c d x.0 in
      let single = item-one at (cond, item.1) in
      subst (AreAlike new.sets c d) (sym single) (All-cons P (cond, item.1) [] (by (new.sets.has cond.0 c) (new.sets.has cond.0 d)
      (sym (ap (λ l. length (items_at new.sets l c)) single) ∙ (one ∙ ap (λ l. length (items_at new.sets l d)) single))) (All-nil P))
    where
      by : (a b : Bool) → length (if a then item.1 ∷ [] else []) ≡ length (if b then item.1 ∷ [] else []) → a ≡ b
      by true true one = refl
      by false false one = refl
      by true false one = absurd (omega (arith, one))
      by false true one = absurd (omega (arith, one))

  -- ---- the indexes of what waits, through a turn

  module _ {went : Bool} (k : KeepsNext now.sets new.sets e after went) (c : List ℕ) (listed : IsConfig old.sets.arities c) where
    abbrev more : List (ℕ × (Cond × Hidden))
    more = more-of k

    abbrev numbers-were : List ℕ
    numbers-were = behind_at now.sets (bottom e).work c

    abbrev numbers-now : List ℕ
    numbers-now = behind_at new.sets (bottom after).work c

    -- what it keeps stood first
    more-first : (long n : ℕ) → ((item : Cond × Hidden) → e.below.items ≡ [] → e.top.calls.items ≡ [] → slice_get e.top.work 0 ≡ Some item → n < length (bottom e).work)
        → map (number long n at) numbers-were ≡ indexes_in new.sets more c ++ map (number long n at) (drop (length (indexes_in new.sets more c)) numbers-were)
    more-first long n far = by k
      where
        by : {b : Bool} (k : KeepsNext now.sets new.sets e after b) → map (number long n at) numbers-were ≡ indexes_in new.sets (more-of k) c ++ map (number long n at) (drop (length (indexes_in new.sets (more-of k) c)) numbers-were)
        by (running.nothing_kept empty is) = refl
        by (running.first_kept item cond whole none first (restricted.absent never is) has) = refl
        by (running.first_kept item cond whole none first (restricted.pushed some is) has) = on (new.sets.has cond.0 c) refl
          where
            on : (b : Bool) → new.sets.has cond.0 c ≡ b → map (number long n at) numbers-were ≡ (if b then at ∷ [] else []) ++ map (number long n at) (drop (length (if b then at ∷ [] else [])) numbers-were)
            on false not = refl
            on true kept =
                let there = and_parts (now.sets.has item.0.0 c) (new.sets.has after.refusals.waiting.0 c) (sym (has c (IsConfig-Keeps grows.sets listed) (running-apart grows r c listed)) ∙ kept) in
                first-number now.sets c long n at (bottom e).work item (ap (λ bs. slice_get (bottom_by bs e.top).work 0) whole ∙ first) there.0 (far item whole none first)

    module _ (left : KeepsLeft now new e after) (waits : new.sets.has after.refusals.waiting.0 c ≡ true) where
      -- who waits has left as many tokens as before
      pub more-count : length (indexes_in new.sets more c) + length numbers-now ≡ length numbers-were
      more-count =
          let there = IsConfig-Keeps grows.sets listed in
          let kept = map (λ (x : ℕ × (Cond × Hidden)). x.1) more in
          let rest : seen_at new after.rest c ≡ seen_at now e.rest c ++ seen_at new kept c
          = ap (λ l. seen_at new l c) (more-is k) ∙ (seen_at-append new e.rest kept c ∙ ap (λ l. l ++ seen_at new kept c) (seen_at-Grows later c there e.rest r.held.rest)) in
          let all = ap length (left.left c there (running-apart grows r c listed) waits) in
          omega (
            arith,
            all,
            ap length rest,
            length-append (seen_at new after.rest c) (seen_at new (bottom after).work c),
            length-append (seen_at now e.rest c) (seen_at new kept c),
            length-append (seen_at now e.rest c) (seen_at now (bottom e).work c),
            length-map (items_at new.sets kept c) (seen_hidden new.names new.hides),
            indexes-long new.sets c more,
            length-seen new (bottom after).work c,
            length-seen now (bottom e).work c,
          )

      -- what it has left are the last of what it had
      left-drop : Rest now new e after c → numbers-now ≡ drop (length (indexes_in new.sets more c)) numbers-were
      left-drop = by
        where
          kept : ℕ
          kept = length (indexes_in new.sets more c)

          by-made : (made : List ℕ) (gone : ℕ) → numbers-now ≡ made ++ drop gone numbers-were → length made ≡ 0 → numbers-now ≡ drop kept numbers-were
          by-made made gone is none =
              let same : numbers-now ≡ drop gone numbers-were = is ∙ ap (λ l. l ++ drop gone numbers-were) (nil_from_length made none) in
              same ∙ same-drop gone kept numbers-were (let count = ap length same in let many = more-count in omega (arith, count, many, length-drop kept numbers-were))

          by : Rest now new e after c → numbers-now ≡ drop kept numbers-were
          by (put more) = by-made more.made 0 more.is (let many = more-count in let count = ap length more.is in omega (arith, many, count, length-append more.made numbers-were))
          by (took item whole none first last) = few last.few
            where
              few : (last.made ≡ []) ⊎ (last.gone ≤ length (items_at now.sets (take 1 (bottom e).work) c)) → numbers-now ≡ drop kept numbers-were
              few (inl nothing) = by-made last.made last.gone last.is (ap length nothing)
              few (inr less) =
                  let most = more-first-had k c listed waits item whole none first in
                  let same = ap (λ l. length (items_at new.sets l c)) (item-whole at more (more-at k)) in
                  let one = first-items now.sets c (bottom e).work item (ap (λ bs. slice_get (bottom_by bs e.top).work 0) whole ∙ first) in
                  by-made last.made last.gone last.is
                  (let many = more-count in let count = ap length last.is in omega (arith, many, count, most, same, indexes-long new.sets c more, less, ap length one, length-append last.made (drop last.gone numbers-were), length-drop last.gone numbers-were))

      pub waits-turned : (kept : List (ℕ × (Cond × Hidden))) → All (λ (item : Cond × Hidden). IsCond now.sets item.0.0) (map (λ x. x.1) kept) → (long n : ℕ)
          → ((item : Cond × Hidden) → e.below.items ≡ [] → e.top.calls.items ≡ [] → slice_get e.top.work 0 ≡ Some item → n < length (bottom e).work) → Rest now new e after c
          → indexes_in new.sets (kept ++ more) c ++ map (number long n at) numbers-now ≡ indexes_in now.sets kept c ++ map (number long n at) numbers-were
      waits-turned kept own long n far rest =
          let were = indexes_in now.sets kept c in
          let they = indexes_in new.sets more c in
          ap (λ l. l ++ map (number long n at) numbers-now) (indexes-append new.sets c kept more ∙ ap (λ l. l ++ they) (indexes-Keeps new.sets c later.sets (IsConfig-Keeps grows.sets listed) kept own))
          ∙ (append_assoc were they (map (number long n at) numbers-now)
          ∙ ap (λ l. were ++ l) (ap (λ l. they ++ map (number long n at) l) (left-drop rest) ∙ sym (more-first long n far)))

-- ---- tokens that are gone

module _ (s : Sets) (waiting long n at left : ℕ) where
  abbrev pub numbered : {gone kept : List (Cond × Hidden)} → IsRestricted s waiting gone kept → List (ℕ × (Cond × Hidden))
  numbered restricted.empty = []
  numbered (restricted.kept cond item list rest both some r) = (number long n at (length list + left), (cond, item.1)) ∷ numbered r
  numbered (restricted.left_out item list rest none r) = numbered r

  pub numbered-is : {gone kept : List (Cond × Hidden)} (r : IsRestricted s waiting gone kept) → map (λ x. x.1) (numbered r) ≡ kept
  numbered-is restricted.empty = refl
  numbered-is (restricted.kept cond item list rest both some r) = ap (λ l. (cond, item.1) ∷ l) (numbered-is r)
  numbered-is (restricted.left_out item list rest none r) = numbered-is r

  -- where no configuration waits nothing is kept
  pub numbered-idle : {gone kept : List (Cond × Hidden)} (r : IsRestricted s waiting gone kept) → ((c : List ℕ) → IsConfig s.arities c → s.has waiting c ≡ false) → numbered r ≡ []
  numbered-idle restricted.empty idle = refl
  numbered-idle (restricted.kept cond item list rest both some r) idle = absurd (some (record { none = λ c listed. both.at c listed ∙ and_right (s.has item.0.0 c) (s.has waiting c) (idle c listed) }))
  numbered-idle (restricted.left_out item list rest none r) idle = numbered-idle r idle

  -- at a configuration that waits what is kept are the indexes of what is gone
  pub numbered-indexes : {gone kept : List (Cond × Hidden)} (r : IsRestricted s waiting gone kept) (rest : List (Cond × Hidden)) → length rest ≡ left → (c : List ℕ) → IsConfig s.arities c → s.has waiting c ≡ true
      → map (number long n at) (behind_at s (gone ++ rest) c) ≡ indexes_in s (numbered r) c ++ map (number long n at) (behind_at s rest c)
  numbered-indexes restricted.empty rest is c p waits = refl
  numbered-indexes (restricted.kept cond item list later both some r) rest is c p waits =
      let f = number long n at in
      let count : length (list ++ rest) ≡ length list + left = length-append list rest ∙ ap (λ k. length list + k) is in
      by (s.has item.0.0 c) (s.has cond.0 c) (both.at c p ∙ (ap (λ w. s.has item.0.0 c && w) waits ∙ and-true (s.has item.0.0 c))) (ap f count) (numbered-indexes r rest is c p waits)
    where
      and-true : (b : Bool) → (b && true) ≡ b
      and-true true = refl
      and-true false = refl

      by : (a b : Bool) → b ≡ a → number long n at (length (list ++ rest)) ≡ number long n at (length list + left)
          → map (number long n at) (behind_at s (list ++ rest) c) ≡ indexes_in s (numbered r) c ++ map (number long n at) (behind_at s rest c)
          → map (number long n at) (if a then length (list ++ rest) ∷ behind_at s (list ++ rest) c else behind_at s (list ++ rest) c)
          ≡ (if b then number long n at (length list + left) ∷ indexes_in s (numbered r) c else indexes_in s (numbered r) c) ++ map (number long n at) (behind_at s rest c)
      by true true same count all = λ i. count i ∷ all i
      by false false same count all = all
      by true false same count all = absurd (true≢false (sym same))
      by false true same count all = absurd (true≢false same)
  numbered-indexes (restricted.left_out item list later none r) rest is c p waits = by (s.has item.0.0 c) (sym (ap (λ w. s.has item.0.0 c && w) waits) ∙ none c p) (numbered-indexes r rest is c p waits)
    where
      by : (a : Bool) → (a && true) ≡ false → map (number long n at) (behind_at s (list ++ rest) c) ≡ indexes_in s (numbered r) c ++ map (number long n at) (behind_at s rest c)
          → map (number long n at) (if a then length (list ++ rest) ∷ behind_at s (list ++ rest) c else behind_at s (list ++ rest) c) ≡ indexes_in s (numbered r) c ++ map (number long n at) (behind_at s rest c)
      by true not all = absurd (true≢false not)
      by false not all = all

  number-cases : (j : ℕ) → ((j < n) × (number long n at j ≡ long - suc j)) ⊎ ((n ≤ j) × (number long n at j ≡ at))
  number-cases j = elim (cases_lt j n) [ inl less ↦ inl (less, number-low long n at j less) | inr le ↦ inr (le, number-high long n at j le) ]

  -- what holds of the number of each that is gone
  numbered-all : {gone kept : List (Cond × Hidden)} (P : ℕ → Type 0) (r : IsRestricted s waiting gone kept) → ((j : ℕ) → left ≤ j → j < length gone + left → P (number long n at j)) → All (λ x. P x.0) (numbered r)
  numbered-all P restricted.empty each = All-nil (λ (x : ℕ × (Cond × Hidden)). P x.0)
  numbered-all P (restricted.kept cond item list rest both some r) each =
      let j = length list + left in
      All-cons (λ (x : ℕ × (Cond × Hidden)). P x.0) (number long n at j, (cond, item.1)) (numbered r) (each j (omega arith) (omega arith)) (numbered-all P r (λ i le less. each i le (omega (arith, less))))
  numbered-all P (restricted.left_out item list rest none r) each = numbered-all P r (λ i le less. each i le (omega (arith, less)))

  -- they are of the item, or of later ones that are gone
  pub numbered-behind : {gone kept : List (Cond × Hidden)} (bound : ℕ) (r : IsRestricted s waiting gone kept) → at < long - bound → bound ≤ n → bound ≤ left → n ≤ long → All (λ x. x.0 < long - bound) (numbered r)
  numbered-behind bound r low few less all = numbered-all (λ k. k < long - bound) r (λ j le under. elim (number-cases j) [ inl a ↦ omega (arith, a.0, a.1, less, le, all) | inr b ↦ omega (arith, b.1, low) ])

  pub numbered-later : {gone kept : List (Cond × Hidden)} (r : IsRestricted s waiting gone kept) → at < long - n → n ≤ long → All (λ x. at ≤ x.0) (numbered r)
  numbered-later r low all = numbered-all (λ k. at ≤ k) r (λ j le under. elim (number-cases j) [ inl a ↦ omega (arith, a.0, a.1, low, all) | inr b ↦ omega (arith, b.1) ])

  pub numbered-own : {gone kept : List (Cond × Hidden)} (r : IsRestricted s waiting gone kept) → All (λ x. (x.0 ≡ at) ⊎ (long - n ≤ x.0)) (numbered r)
  numbered-own r = numbered-all (λ k. (k ≡ at) ⊎ (long - n ≤ k)) r (λ j le under. elim (number-cases j) [ inl a ↦ inr (omega (arith, a.0, a.1)) | inr b ↦ inl b.1 ])

  -- those of the last items are not less than the first that is gone
  numbered-least : {gone kept : List (Cond × Hidden)} (r : IsRestricted s waiting gone kept) (high : ℕ) → length gone + left ≤ high → high ≤ n → All (λ x. long - high ≤ x.0) (numbered r)
  numbered-least r high few most = numbered-all (λ k. long - high ≤ k) r (λ j le under. elim (number-cases j) [ inl a ↦ omega (arith, a.1, few, under) | inr b ↦ omega (arith, b.0, few, most, under) ])

  -- one of each item at most, where it is not the item that is being expanded or only its own token
  pub numbered-once : {gone kept : List (Cond × Hidden)} (r : IsRestricted s waiting gone kept) (k : ℕ) → at < long - n → n ≤ long → (k ≡ at → length gone + left ≤ suc n) → length (of_item k (numbered r)) ≤ 1
  numbered-once restricted.empty k low all one = omega arith
  numbered-once (restricted.kept cond item list rest both some r) k low all one =
      by (cases_eq k (number long n at (length list + left))) (numbered-once r k low all (λ same. (let few = one same in omega (arith, few))))
    where
      by : (k ≡ number long n at (length list + left)) ⊎ (k ≡ number long n at (length list + left) → ⊥) → length (of_item k (numbered r)) ≤ 1
          → length (of_item k ((number long n at (length list + left), (cond, item.1)) ∷ numbered r)) ≤ 1
      by (inr other) later =
          let skips = ap (λ (b : Bool). length (if b then (cond, item.1) ∷ of_item k (numbered r) else of_item k (numbered r))) (ne_eqb (number long n at (length list + left)) k (λ same. other (sym same))) in
          omega (arith, skips, later)
      by (inl same) later =
          let first = ap (λ (b : Bool). length (if b then (cond, item.1) ∷ of_item k (numbered r) else of_item k (numbered r))) (eq-eqb (number long n at (length list + left)) k (sym same)) in
          let few : length list + left ≤ n = elim (number-cases (length list + left)) [ inl a ↦ omega (arith, a.0) | inr b ↦ (let own = one (same ∙ b.1) in omega (arith, own)) ] in
          let least = numbered-least r (length list + left) (omega arith) few in
          let none = ap length (item-none k (numbered r) (λ i x h is. (let le = least i x h in
          elim (number-cases (length list + left)) [ inl a ↦ omega (arith, le, is, same, a.0, a.1, all) | inr b ↦ omega (arith, le, is, same, b.0, b.1, low, few) ]))) in
          omega (arith, first, none)
  numbered-once (restricted.left_out item list rest none r) k low all one = numbered-once r k low all (λ same. (let few = one same in omega (arith, few)))

  -- where nothing is gone nothing is kept
  pub numbered-none : {gone kept : List (Cond × Hidden)} (r : IsRestricted s waiting gone kept) → gone ≡ [] → numbered r ≡ []
  numbered-none restricted.empty none = refl
  numbered-none (restricted.kept cond item list rest both some r) none = absurd (cc)
  numbered-none (restricted.left_out item list rest none' r) none = absurd (cc)

  -- ---- those of the item

  -- tokens behind which so many stand are these
  abbrev pub Fronts : (Cond × Hidden → Type 0) → List (Cond × Hidden) → Type 0
  Fronts P [] = Unit {0}
  Fronts P (item ∷ list) = (n ≤ length list + left → P item) × Fronts P list

  other-number : (j : ℕ) (x : Cond × Hidden) (xs : List (ℕ × (Cond × Hidden))) → at < long - n → n ≤ long → j < n → number long n at j ≡ long - suc j → of_item at ((number long n at j, x) ∷ xs) ≡ of_item at xs
  other-number j x xs low all less is = ap (λ (b : Bool). if b then x ∷ of_item at xs else of_item at xs) (ne_eqb (number long n at j) at (λ same. omega (arith, same, is, low, all, less)))

  same-number : (j : ℕ) (x : Cond × Hidden) (xs : List (ℕ × (Cond × Hidden))) → number long n at j ≡ at → of_item at ((number long n at j, x) ∷ xs) ≡ x ∷ of_item at xs
  same-number j x xs is = ap (λ (b : Bool). if b then x ∷ of_item at xs else of_item at xs) (eq-eqb (number long n at j) at is)

  module _ (low : at < long - n) (all : n ≤ long) where
    -- both have them, or neither
    pub numbered-alike : {gone kept : List (Cond × Hidden)} (r : IsRestricted s waiting gone kept) (c d : List ℕ) → IsConfig s.arities c → IsConfig s.arities d → s.has waiting c ≡ s.has waiting d → Fronts (λ item. IsAlike s c d item.0) gone
        → AreAlike s c d (of_item at (numbered r))
    numbered-alike restricted.empty c d p q waits fronts = All-nil (λ (item : Cond × Hidden). IsAlike s c d item.0)
    numbered-alike (restricted.kept cond item list rest both some r) c d p q waits fronts =
        let P : Cond × Hidden → Type 0 = λ x. IsAlike s c d x.0 in
        let j = length list + left in
        let later = numbered-alike r c d p q waits fronts.1 in
        elim (number-cases j) [
          | inl a ↦ subst (AreAlike s c d) (sym (other-number j (cond, item.1) (numbered r) low all a.0 a.1)) later
          | inr b ↦
              let here = fronts.0 b.0 in
              let alike : s.has cond.0 c ≡ s.has cond.0 d = both.at c p ∙ ((λ i. here i && waits i) ∙ sym (both.at d q)) in
              subst (AreAlike s c d) (sym (same-number j (cond, item.1) (numbered r) b.1)) (All-cons P (cond, item.1) (of_item at (numbered r)) alike later)
        ]
    numbered-alike (restricted.left_out item list rest none r) c d p q waits fronts = numbered-alike r c d p q waits fronts.1

    -- who has no token behind which so many stand has none
    pub numbered-lacks : {gone kept : List (Cond × Hidden)} (r : IsRestricted s waiting gone kept) (c : List ℕ) → IsConfig s.arities c → Fronts (λ item. s.has item.0.0 c ≡ false) gone → items_at s (of_item at (numbered r)) c ≡ []
    numbered-lacks restricted.empty c p fronts = refl
    numbered-lacks (restricted.kept cond item list rest both some r) c p fronts =
        let j = length list + left in
        let later = numbered-lacks r c p fronts.1 in
        elim (number-cases j) [
          | inl a ↦ ap (λ l. items_at s l c) (other-number j (cond, item.1) (numbered r) low all a.0 a.1) ∙ later
          | inr b ↦
              let not : s.has cond.0 c ≡ false = both.at c p ∙ ap (λ (h : Bool). h && s.has waiting c) (fronts.0 b.0) in
              ap (λ l. items_at s l c) (same-number j (cond, item.1) (numbered r) b.1)
              ∙ (ap (λ (h : Bool). if h then item.1 ∷ items_at s (of_item at (numbered r)) c else items_at s (of_item at (numbered r)) c) not ∙ later)
        ]
    numbered-lacks (restricted.left_out item list rest none r) c p fronts = numbered-lacks r c p fronts.1

  -- first tokens of a list that are alike up to its last ones
  pub fronts-alike : (c d : List ℕ) (bound : ℕ) (gone rest : List (Cond × Hidden)) → length rest ≡ left → bound ≤ n → AreAlike s c d (take (length (gone ++ rest) - bound) (gone ++ rest)) → Fronts (λ item. IsAlike s c d item.0) gone
  fronts-alike c d bound [] rest is few alike = tt
  fronts-alike c d bound (item ∷ gone) rest is few alike = (
    λ le. alike-first s c d bound (item ∷ (gone ++ rest)) item refl (omega (arith, le, few, is, length-append gone rest)) alike,
    fronts-alike c d bound gone rest is few (All-but-tail (λ (x : Cond × Hidden). IsAlike s c d x.0) bound item (gone ++ rest) alike),
  )

  -- and those that a configuration lacks, of which it has only the last
  pub fronts-lack : (c : List ℕ) (gone rest : List (Cond × Hidden)) → length rest ≡ left → All (λ m. m < n) (behind_at s (gone ++ rest) c) → Fronts (λ item. s.has item.0.0 c ≡ false) gone
  fronts-lack c [] rest is low = tt
  fronts-lack c (item ∷ gone) rest is low = by (s.has item.0.0 c) refl low (λ later. fronts-lack c gone rest is later)
    where
      by : (b : Bool) → s.has item.0.0 c ≡ b → All (λ m. m < n) (if b then length (gone ++ rest) ∷ behind_at s (gone ++ rest) c else behind_at s (gone ++ rest) c)
          → (All (λ m. m < n) (behind_at s (gone ++ rest) c) → Fronts (λ item. s.has item.0.0 c ≡ false) gone) → (n ≤ length gone + left → s.has item.0.0 c ≡ false) × Fronts (λ item. s.has item.0.0 c ≡ false) gone
      by true has low later =
          let first : length (gone ++ rest) < n = All-head (λ (m : ℕ). m < n) (length (gone ++ rest)) (behind_at s (gone ++ rest) c) low in (
            λ le. absurd (omega (arith, first, le, is, length-append gone rest)),
            later (All-tail (λ (m : ℕ). m < n) (length (gone ++ rest)) (behind_at s (gone ++ rest) c) low),
          )
      by false has low later = (λ le. has, later low)

-- the last of a list has no more of them
pub low-behind : (s : Sets) (c : List ℕ) (n : ℕ) (gone rest : List (Cond × Hidden)) → All (λ m. m < n) (behind_at s (gone ++ rest) c) → All (λ m. m < n) (behind_at s rest c)
low-behind s c n [] rest low = low
low-behind s c n (item ∷ gone) rest low = by (s.has item.0.0 c) low (λ later. low-behind s c n gone rest later)
  where
    by : (b : Bool) → All (λ m. m < n) (if b then length (gone ++ rest) ∷ behind_at s (gone ++ rest) c else behind_at s (gone ++ rest) c) → (All (λ m. m < n) (behind_at s (gone ++ rest) c) → All (λ m. m < n) (behind_at s rest c)) → All (λ m. m < n) (behind_at s rest c)
    by true low later = later (All-tail (λ (m : ℕ). m < n) (length (gone ++ rest)) (behind_at s (gone ++ rest) c) low)
    by false low later = later low
