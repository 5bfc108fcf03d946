-- How many items of a list stand behind each that a configuration has.
use Rattle.std.proofs.Common.{◌≡◌, ◌⊎◌, inl, inr, ℕ, ◌<◌, ◌≤◌, nat_le, Bool, true, false, min, refl, arith, if◌then◌else◌, zero, suc, ◌-◌, nat_lt, List, [], ◌∷◌, ◌++◌, All, take, drop, length, sym, ap, ◌∙◌, Some, map, slice_get, subst}
use Rattle.sc_expand.proofs.Facts.{cases_lt, leb-false, leb-true, All-head, All-tail, All-weaker, drop_all, le-ltb, length-drop, lt-ltb, All-cons, All-nil, drop_at, length-map, take-append-drop, take_all}
use Rattle.sc_expand.proofs.SeenLemmas.{seen_at-append}
use Rattle.sc_expand.proofs.Terms.{lower_of, Cond, HasLast, HasMore, Hidden, Sets, behind_at, items_at, AreAlike, IsAlike, Stores, seen_at, seen_hidden}

-- ---- the lower of two numbers

pub lower-min : (n left : ℕ) → lower_of n left ≡ min n left
lower-min n left = by (nat_le n left) refl
  where
    by : (b : Bool) → nat_le n left ≡ b → (if b then n else left) ≡ min n left
    by true is = let le = leb-true n left is in omega (arith, le)
    by false is = let less = leb-false n left is in omega (arith, less)

pub lower-all : (n left : ℕ) → left ≤ n → lower_of n left ≡ left
lower-all n left le = omega (arith, le, lower-min n left)

-- not less than the lower of two, and not more than either
pub lower-is : (n left m : ℕ) → lower_of n left ≤ m → m ≤ n → m ≤ left → m ≡ lower_of n left
lower-is n left m low one other = omega (arith, low, one, other, lower-min n left)

-- two bounds, or a third that is below both
pub lower-least : (high n : ℕ) → (lower_of high n ≡ n) ⊎ ((high ≤ lower_of high n) × (high ≤ n))
lower-least high n = by (cases_lt n high)
  where
    by : (n < high) ⊎ (high ≤ n) → (lower_of high n ≡ n) ⊎ ((high ≤ lower_of high n) × (high ≤ n))
    by (inl less) = inl (omega (arith, less, lower-min high n))
    by (inr le) = inr (omega (arith, le, lower-min high n), le)

pub lower-bounds : (bound high n : ℕ) → (lower_of bound (lower_of high n) ≡ lower_of bound n) ⊎ ((high ≤ lower_of bound (lower_of high n)) × (high ≤ lower_of bound n))
lower-bounds bound high n = by (cases_lt (lower_of bound n) high)
  where
    by : (lower_of bound n < high) ⊎ (high ≤ lower_of bound n) → (lower_of bound (lower_of high n) ≡ lower_of bound n) ⊎ ((high ≤ lower_of bound (lower_of high n)) × (high ≤ lower_of bound n))
    by (inl less) = inl (omega (arith, less, lower-min bound n, lower-min high n, lower-min bound (lower_of high n)))
    by (inr le) = inr (omega (arith, le, lower-min bound n, lower-min high n, lower-min bound (lower_of high n)), le)

-- ---- how many items of a list stand behind each that a configuration has

-- the numbers of a list that are less
abbrev pub below : ℕ → List ℕ → List ℕ
below n [] = []
below n (m ∷ ms) = if nat_lt m n then m ∷ below n ms else below n ms

-- the first is less than n, and each than the one before it
abbrev pub Fall : ℕ → List ℕ → Type 0
Fall n [] = Unit {0}
Fall n (m ∷ ms) = (m < n) × Fall m ms

-- ---- numbers that fall

pub Fall-weaker : (n m : ℕ) (ns : List ℕ) → n ≤ m → Fall n ns → Fall m ns
Fall-weaker n m [] le falls = tt
Fall-weaker n m (k ∷ ks) le falls = (omega (arith, falls.0), falls.1)

pub Fall-drop : (k n : ℕ) (ns : List ℕ) → Fall n ns → Fall n (drop k ns)
Fall-drop zero n ns falls = falls
Fall-drop (suc k) n [] falls = tt
Fall-drop (suc k) n (m ∷ ms) falls = Fall-weaker m n (drop k ms) (omega (arith, falls.0)) (Fall-drop k m ms falls.1)

pub below-has : (n m : ℕ) (ms : List ℕ) → m < n → below n (m ∷ ms) ≡ m ∷ below n ms
below-has n m ms less = ap (λ (b : Bool). if b then m ∷ below n ms else below n ms) (lt-ltb m n less)

pub below-not : (n m : ℕ) (ms : List ℕ) → n ≤ m → below n (m ∷ ms) ≡ below n ms
below-not n m ms le = ap (λ (b : Bool). if b then m ∷ below n ms else below n ms) (le-ltb m n le)

pub below-all : (n : ℕ) (ns : List ℕ) → Fall n ns → below n ns ≡ ns
below-all n [] falls = refl
below-all n (m ∷ ms) falls = below-has n m ms falls.0 ∙ ap (λ (l : List ℕ). m ∷ l) (below-all n ms (Fall-weaker m n ms (omega (arith, falls.0)) falls.1))

-- what is left of the numbers is the last of those that are less, or all that is left
below-drop : (n k : ℕ) (ms : List ℕ) → (g : ℕ) × (below n (drop k ms) ≡ drop g (below n ms))
below-drop n zero ms = (0, refl)
below-drop n (suc k) [] = (0, refl)
below-drop n (suc k) (m ∷ ms) = by (nat_lt m n) (below-drop n k ms)
  where
    by : (b : Bool) → (g : ℕ) × (below n (drop k ms) ≡ drop g (below n ms)) → (g : ℕ) × (below n (drop k ms) ≡ drop g (if b then m ∷ below n ms else below n ms))
    by true it = (suc it.0, it.1)
    by false it = it

below-left : (n k from : ℕ) (ms : List ℕ) → Fall from ms → (below n (drop k ms) ≡ below n ms) ⊎ (below n (drop k ms) ≡ drop k ms)
below-left n zero from ms falls = inl refl
below-left n (suc k) from [] falls = inl refl
below-left n (suc k) from (m ∷ ms) falls = by (cases_lt m n) (below-left n k m ms falls.1)
  where
    by : (m < n) ⊎ (n ≤ m) → (below n (drop k ms) ≡ below n ms) ⊎ (below n (drop k ms) ≡ drop k ms) → (below n (drop k ms) ≡ below n (m ∷ ms)) ⊎ (below n (drop k ms) ≡ drop k ms)
    by (inl less) it = inr (below-all n (drop k ms) (Fall-weaker m n (drop k ms) (omega arith) (Fall-drop k m ms falls.1)))
    by (inr le) (inl same) = inl (same ∙ sym (below-not n m ms le))
    by (inr le) (inr all) = inr all

-- high numbers before the others
below-high : (n high : ℕ) (made ms : List ℕ) → n < high → All (λ m. high ≤ suc m) made → below n (made ++ ms) ≡ below n ms
below-high n high [] ms less above = refl
below-high n high (m ∷ made) ms less above =
    let F : ℕ → Type 0 = λ m. high ≤ suc m in
    let first : high ≤ suc m = All-head F m made above in
    below-not n m (made ++ ms) (omega arith) ∙ below-high n high made ms less (All-tail F m made above)

module _ {T : Type 0} (s : Sets) (c : List ℕ) where
  -- a number for each item
  pub length-behind : (list : List (Cond × T)) → length (behind_at s list c) ≡ length (items_at s list c)
  length-behind [] = refl
  length-behind (item ∷ items) = by (s.has item.0.0 c) (length-behind items)
    where
      by : (b : Bool) → length (behind_at s items c) ≡ length (items_at s items c)
          → length (if b then length items ∷ behind_at s items c else behind_at s items c) ≡ length (if b then item.1 ∷ items_at s items c else items_at s items c)
      by true e = ap suc e
      by false e = e

  pub behind-falls : (list : List (Cond × T)) → Fall (length list) (behind_at s list c)
  behind-falls [] = tt
  behind-falls (item ∷ items) = by (s.has item.0.0 c) (behind-falls items)
    where
      by : (b : Bool) → Fall (length items) (behind_at s items c) → Fall (suc (length items)) (if b then length items ∷ behind_at s items c else behind_at s items c)
      by true falls = (omega arith, falls)
      by false falls = Fall-weaker (length items) (suc (length items)) (behind_at s items c) (omega arith) falls

  -- the numbers that are less are those of the end of the list
  pub below-behind : (n : ℕ) (list : List (Cond × T)) → n ≤ length list → below n (behind_at s list c) ≡ behind_at s (drop (length list - n) list) c
  below-behind n [] within = sym (ap (λ (l : List (Cond × T)). behind_at s l c) (drop_all (0 - n) [] (omega arith)))
  below-behind n (item ∷ items) within = by (cases_lt n (suc (length items))) (below-behind n items)
    where
      last : (b : Bool) → n ≤ length items → below n (if b then length items ∷ behind_at s items c else behind_at s items c) ≡ below n (behind_at s items c)
      last true le = below-not n (length items) (behind_at s items c) le
      last false le = refl

      by : (n < suc (length items)) ⊎ (suc (length items) ≤ n) → (n ≤ length items → below n (behind_at s items c) ≡ behind_at s (drop (length items - n) items) c)
          → below n (behind_at s (item ∷ items) c) ≡ behind_at s (drop (suc (length items) - n) (item ∷ items)) c
      by (inl less) rest =
          let le : n ≤ length items = omega arith in
          let count : suc (length items) - n ≡ suc (length items - n) = omega arith in
          last (s.has item.0.0 c) le ∙ (rest le ∙ sym (ap (λ (k : ℕ). behind_at s (drop k (item ∷ items)) c) count))
      by (inr le) rest =
          let count : suc (length items) - n ≡ 0 = omega arith in
          below-all n (behind_at s (item ∷ items) c) (Fall-weaker (suc (length items)) n (behind_at s (item ∷ items) c) le (behind-falls (item ∷ items)))
          ∙ sym (ap (λ (k : ℕ). behind_at s (drop k (item ∷ items)) c) count)

  pub below-items : (n : ℕ) (list : List (Cond × T)) → n ≤ length list → length (below n (behind_at s list c)) ≡ length (items_at s (drop (length list - n) list) c)
  below-items n list within = ap length (below-behind n list within) ∙ length-behind (drop (length list - n) list)

-- ---- the rest of an expansion

-- only the first item has gone
first-gone : {T : Type 0} (s : Sets) (c : List ℕ) (n gone : ℕ) (list : List (Cond × T)) → gone ≤ length (items_at s (take 1 list) c) → n < length list → below n (drop gone (behind_at s list c)) ≡ below n (behind_at s list c)
first-gone s c n gone [] few far = absurd (omega arith)
first-gone {T} s c n gone (x ∷ xs) few far = by gone (s.has x.0.0 c) few
  where
    by : (gone : ℕ) (b : Bool) → gone ≤ length (if b then x.1 ∷ items_at s [] c else items_at s [] c) → below n (drop gone (if b then length xs ∷ behind_at s xs c else behind_at s xs c)) ≡ below n (if b then length xs ∷ behind_at s xs c else behind_at s xs c)
    by zero b few = refl
    by (suc zero) true few = sym (below-not n (length xs) (behind_at s xs c) (omega (arith, far)))
    by (suc (suc gone)) true few = absurd (omega (arith, few))
    by (suc gone) false few = absurd (omega (arith, few))

module _ {old new : Sets} {before after : List (Cond × Hidden)} {c : List ℕ} where
  pub more-same : HasMore old new before after c → (n : ℕ) → n ≤ length before → below n (behind_at new after c) ≡ below n (behind_at old before c)
  more-same more n far =
      ap (below n) more.is
      ∙ below-high n (suc (length before)) more.made (behind_at old before c) (omega arith) (All-weaker (λ (n : ℕ). length before ≤ n) (λ n. suc (length before) ≤ suc n) (λ n above. omega arith) more.made more.high)

  -- what the configuration has far behind is what it had there, or all that it has
  pub last-cases : HasLast old new before after c → (n : ℕ) → n < length before
      → (below n (behind_at new after c) ≡ below n (behind_at old before c)) ⊎ (below n (behind_at new after c) ≡ behind_at new after c)
  last-cases last n far = by last.few
    where
      left : List ℕ
      left = drop last.gone (behind_at old before c)

      by : (last.made ≡ []) ⊎ (last.gone ≤ length (items_at old (take 1 before) c)) → (below n (behind_at new after c) ≡ below n (behind_at old before c)) ⊎ (below n (behind_at new after c) ≡ behind_at new after c)
      by (inl none) = at (below-left n last.gone (length before) (behind_at old before c) (behind-falls old c before))
        where
          is : behind_at new after c ≡ left
          is = last.is ∙ ap (λ (ms : List ℕ). ms ++ left) none

          at : (below n left ≡ below n (behind_at old before c)) ⊎ (below n left ≡ left) → (below n (behind_at new after c) ≡ below n (behind_at old before c)) ⊎ (below n (behind_at new after c) ≡ behind_at new after c)
          at (inl same) = inl (ap (below n) is ∙ same)
          at (inr all) = inr (ap (below n) is ∙ (all ∙ sym is))
      by (inr few) = inl (ap (below n) last.is ∙ (below-high n (length before) last.made left far last.high ∙ first-gone old c n last.gone before few far))

  pub last-below : HasLast old new before after c → (n left : ℕ) → n < length before → left ≤ length (below n (behind_at old before c))
      → lower_of (length (behind_at new after c)) left ≤ length (below n (behind_at new after c))
  last-below last n left far many = by (last-cases last n far)
    where
      low : lower_of (length (behind_at new after c)) left ≡ min (length (behind_at new after c)) left
      low = lower-min (length (behind_at new after c)) left

      by : (below n (behind_at new after c) ≡ below n (behind_at old before c)) ⊎ (below n (behind_at new after c) ≡ behind_at new after c) → lower_of (length (behind_at new after c)) left ≤ length (below n (behind_at new after c))
      by (inl same) = let count = ap length same in omega (arith, count, low, many)
      by (inr all) = let count = ap length all in omega (arith, count, low)

  pub last-suffix : HasLast old new before after c → (n : ℕ) → n < length before → (g : ℕ) × (below n (behind_at new after c) ≡ drop g (below n (behind_at old before c)))
  last-suffix last n far =
      let same = ap (below n) last.is ∙ below-high n (length before) last.made (drop last.gone (behind_at old before c)) far last.high in
      let it = below-drop n last.gone (behind_at old before c) in
      (it.0, same ∙ it.1)

  pub last-fewer : HasLast old new before after c → (b : ℕ) → b < length before → length (below b (behind_at new after c)) ≤ length (below b (behind_at old before c))
  last-fewer last b far =
      let it = last-suffix last b far in
      let count = ap length it.1 ∙ length-drop it.0 (below b (behind_at old before c)) in
      omega (arith, count)

-- ---- what is left of a list: its last items, and those of them that a configuration has

-- the end of a list is told by its length
pub same-drop : {A : Type 0} (a b : ℕ) (xs : List A) → length (drop a xs) ≡ length (drop b xs) → drop a xs ≡ drop b xs
same-drop a b xs same = by (cases_lt a (length xs))
  where
    by : (a < length xs) ⊎ (length xs ≤ a) → drop a xs ≡ drop b xs
    by (inl less) = let is : a ≡ b = omega (arith, same, length-drop a xs, length-drop b xs) in ap (λ n. drop n xs) is
    by (inr le) =
        let far : length xs ≤ b = omega (arith, same, length-drop a xs, length-drop b xs) in
        drop_all a xs le ∙ sym (drop_all b xs far)

-- two ends of one list that are as long
pub same-end : {A : Type 0} (a b : ℕ) (xs ys zs : List A) → ys ≡ drop a xs → zs ≡ drop b xs → length ys ≡ length zs → ys ≡ zs
same-end a b xs ys zs one other same = one ∙ (same-drop a b xs (sym (ap length one) ∙ (same ∙ ap length other)) ∙ sym other)

pub slice-drop : {A : Type 0} (i : ℕ) (xs : List A) (y : A) (ys : List A) → drop i xs ≡ y ∷ ys → slice_get xs i ≡ Some y
slice-drop zero [] y ys is = absurd (cc)
slice-drop zero (x ∷ xs) y ys is = cc
slice-drop (suc i) [] y ys is = absurd (cc)
slice-drop (suc i) (x ∷ xs) y ys is = slice-drop i xs y ys is

-- so many first items, as all but the others
pub take-least : {A : Type 0} (size : ℕ) (xs : List A) → take size xs ≡ take (length xs - (length xs - size)) xs
take-least size xs = elim (cases_lt size (length xs)) [
  | inl less ↦ ap (λ (k : ℕ). take k xs) (omega (arith, less))
  | inr most ↦ take_all size xs most ∙ sym (take_all (length xs - (length xs - size)) xs (omega (arith, most)))
]

-- ---- numbers that fall

-- the numbers that are less, where all are
pub below-same : (high a b : ℕ) (ns : List ℕ) → Fall high ns → (a ≡ b) ⊎ ((high ≤ a) × (high ≤ b)) → below a ns ≡ below b ns
below-same high a b ns falls (inl is) = ap (λ n. below n ns) is
below-same high a b ns falls (inr far) = below-all a ns (Fall-weaker high a ns far.0 falls) ∙ sym (below-all b ns (Fall-weaker high b ns far.1 falls))

-- those from one of them on are the ones that are no more than it
pub below-from : (high g m : ℕ) (ms ns : List ℕ) → Fall high ns → drop g ns ≡ m ∷ ms → (m < high) × (below (suc m) ns ≡ m ∷ ms) × (below m ns ≡ ms)
below-from high zero m ms [] falls is = absurd (cc)
below-from high zero m ms (n ∷ ns) falls is =
    let first : n ≡ m = cc in
    let rest : ns ≡ ms = cc in
    let less : n < high = falls.0 in
    let after : Fall m ns = subst (λ k. Fall k ns) first falls.1 in
    let all : below m ns ≡ ns = below-all m ns after in
    let more : below (suc m) ns ≡ ns = below-all (suc m) ns (Fall-weaker m (suc m) ns (omega arith) after) in
    (omega arith, below-has (suc m) n ns (omega arith) ∙ (ap (λ l. n ∷ l) more ∙ (λ i. first i ∷ rest i)), below-not m n ns (omega arith) ∙ (all ∙ rest))
below-from high (suc g) m ms [] falls is = absurd (cc)
below-from high (suc g) m ms (n ∷ ns) falls is =
    let it = below-from n g m ms ns falls.1 is in
    let less : m < n = it.0 in
    let high_is : n < high = falls.0 in
    (omega arith, below-not (suc m) n ns (omega arith) ∙ it.1, below-not m n ns (omega arith) ∙ it.2)

module _ {T : Type 0} (s : Sets) (c : List ℕ) where
  -- the configuration has the first item, where its number is that of the first
  pub first-had : (m : ℕ) (ms : List ℕ) (list : List (Cond × T)) → length list ≡ suc m → behind_at s list c ≡ m ∷ ms
      → (item : Cond × T) × (rest : List (Cond × T)) × (list ≡ item ∷ rest) × (s.has item.0.0 c ≡ true) × (behind_at s rest c ≡ ms) × (length rest ≡ m)
  first-had m ms [] long is = absurd (cc)
  first-had m ms (item ∷ rest) long is = by (s.has item.0.0 c) refl is
    where
      by : (b : Bool) → s.has item.0.0 c ≡ b → (if b then length rest ∷ behind_at s rest c else behind_at s rest c) ≡ m ∷ ms
          → (x : Cond × T) × (xs : List (Cond × T)) × (item ∷ rest ≡ x ∷ xs) × (s.has x.0.0 c ≡ true) × (behind_at s xs c ≡ ms) × (length xs ≡ m)
      by true has is = (item, rest, refl, has, cc, omega (arith, long))
      by false has is =
          let falls : Fall (length rest) (m ∷ ms) = subst (Fall (length rest)) is (behind-falls s c rest) in
          absurd (omega (arith, long, falls.0))

-- items of two lists that both configurations have at the same places
first-same : (n : ℕ) (b a : Bool) (xs ys : List ℕ) → Fall n xs → Fall n ys → (if b then n ∷ xs else xs) ≡ (if a then n ∷ ys else ys) → (b ≡ a) × (xs ≡ ys)
first-same n true true xs ys falls other same = (refl, cc)
first-same n false false xs ys falls other same = (refl, same)
first-same n true false xs ys falls other same = let less = subst (Fall n) (sym same) other in absurd (omega (arith, less.0))
first-same n false true xs ys falls other same = let less = subst (Fall n) same falls in absurd (omega (arith, less.0))

pub alike-behind : {T S : Type 0} (s t : Sets) (c d : List ℕ) (k : ℕ) (xs : List (Cond × T)) (ys : List (Cond × S)) → length xs ≡ length ys → behind_at s xs c ≡ behind_at t ys c → behind_at s xs d ≡ behind_at t ys d
    → AreAlike s c d (take k xs) → AreAlike t c d (take k ys)
alike-behind {T} {S} s t c d zero xs ys long one other alike = All-nil (λ (y : Cond × S). IsAlike t c d y.0)
alike-behind {T} {S} s t c d (suc k) xs [] long one other alike = All-nil (λ (y : Cond × S). IsAlike t c d y.0)
alike-behind s t c d (suc k) [] (y ∷ ys) long one other alike = absurd (omega (arith, long))
alike-behind {T} {S} s t c d (suc k) (x ∷ xs) (y ∷ ys) long one other alike =
    let P : Cond × T → Type 0 = λ z. IsAlike s c d z.0 in
    let as_long : length xs ≡ length ys = omega (arith, long) in
    let at : (e : List ℕ) → behind_at s (x ∷ xs) e ≡ behind_at t (y ∷ ys) e → (s.has x.0.0 e ≡ t.has y.0.0 e) × (behind_at s xs e ≡ behind_at t ys e)
    = λ e same. first-same (length xs) (s.has x.0.0 e) (t.has y.0.0 e) (behind_at s xs e) (behind_at t ys e) (behind-falls s e xs) (subst (λ n. Fall n (behind_at t ys e)) (sym as_long) (behind-falls t e ys))
    (same ∙ ap (λ n. if t.has y.0.0 e then n ∷ behind_at t ys e else behind_at t ys e) (sym as_long)) in
    let mine = at c one in
    let yours = at d other in
    All-cons (λ (z : Cond × S). IsAlike t c d z.0) y (take k ys) (sym mine.0 ∙ (All-head P x (take k xs) alike ∙ yours.0))
    (alike-behind s t c d k xs ys as_long mine.1 yours.1 (All-tail P x (take k xs) alike))

-- a token for each number
pub length-seen : (st : Stores) (list : List (Cond × Hidden)) (c : List ℕ) → length (seen_at st list c) ≡ length (behind_at st.sets list c)
length-seen st list c = length-map (items_at st.sets list c) (seen_hidden st.names st.hides) ∙ sym (length-behind st.sets c list)

-- of the end of a list a configuration has the end of what it has
pub seen-drop : (st : Stores) (n : ℕ) (list : List (Cond × Hidden)) (c : List ℕ) → (g : ℕ) × (seen_at st (drop n list) c ≡ drop g (seen_at st list c))
seen-drop st n list c =
    let whole = sym (ap (λ l. seen_at st l c) (take-append-drop n list)) ∙ seen_at-append st (take n list) (drop n list) c in
    let g = length (seen_at st (take n list) c) in
    (g, sym (ap (drop g) whole ∙ drop_at (seen_at st (take n list) c) (seen_at st (drop n list) c) g refl))

-- a configuration that has the first token has it before the others
pub seen-name : (st : Stores) (list behind : List (Cond × Hidden)) (item : Cond × Hidden) (c : List ℕ) → list ≡ item ∷ behind → st.sets.has item.0.0 c ≡ true
    → seen_at st list c ≡ seen_hidden st.names st.hides item.1 ∷ seen_at st behind c
seen-name st list behind item c is has =
    ap (λ (l : List (Cond × Hidden)). seen_at st l c) is
    ∙ ap (λ (b : Bool). map (seen_hidden st.names st.hides) (if b then item.1 ∷ items_at st.sets behind c else items_at st.sets behind c)) has
