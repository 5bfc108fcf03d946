-- The members of lists, and lists that are determined by their members.
use Rattle.std.proofs.Common.{zero, suc, ◌≡◌, ◌<◌, ◌⊎◌, ◌&&◌, Bool, true, false, ℕ, List, [], ◌∷◌, length, map, slice_get, Some, inl, inr, refl, sym, ap, ◌∙◌, subst, arith}
use Rattle.std.specs.List.{Contains, list_all}
use Rattle.std.proofs.lemmas.Bool.{true≢false}
use Rattle.std.specs.List.Sorted.{IsStrictlyIncreasing}
use Rattle.std.proofs.lemmas.Map.Keys.{below_from_sorted, sorted_from_strictly_increasing}
use Rattle.std.proofs.lemmas.Option.{get_or_from_slice_get, same_Some, slice_get-get_or, slice_get_within}
use Rattle.lr_tables.specs.Tables.{IsOrderedBy}

pub slice_some : {A : Type 0} (xs : List A) (i : ℕ) → i < length xs → (x : A) × (slice_get xs i ≡ Some x)
slice_some [] i h = absurd (omega (arith, h))
slice_some (x ∷ xs) zero h = (x, refl)
slice_some (x ∷ xs) (suc i) h = slice_some xs i (omega (arith, h))

pub no_member : {A : Type 0} (v : A) → Contains [] v → ⊥
no_member v h = omega (arith, h.1)

pub cons_cases : {A : Type 0} (x v : A) (xs : List A) → Contains (x ∷ xs) v → (x ≡ v) ⊎ Contains xs v
cons_cases x v xs (zero, h, e) = inl e
cons_cases x v xs (suc k, h, e) = inr (k, omega (arith, h), e)

pub cons_head : {A : Type 0} (x : A) (xs : List A) → Contains (x ∷ xs) x
cons_head x xs = (0, omega arith, refl)

pub cons_tail : {A : Type 0} (x v : A) (xs : List A) → Contains xs v → Contains (x ∷ xs) v
cons_tail x v xs h = (suc h.0, omega (arith, h.1), h.2)

-- the members of a list of values
pub map_member : {A B : Type 0} (f : A → B) (y : B) (xs : List A) → Contains (map f xs) y → (x : A) × Contains xs x × (f x ≡ y)
map_member f y [] h = absurd (no_member y h)
map_member f y (x ∷ xs) (zero, h, e) = (x, cons_head x xs, e)
map_member f y (x ∷ xs) (suc k, h, e) = let m = map_member f y xs (k, omega (arith, h), e) in (m.0, cons_tail x m.0 xs m.1, m.2)

pub map_has : {A B : Type 0} (f : A → B) (x : A) (xs : List A) → Contains xs x → Contains (map f xs) (f x)
map_has f x [] h = absurd (no_member x h)
map_has f x (y ∷ xs) (zero, h, e) = (0, omega arith, ap f e)
map_has f x (y ∷ xs) (suc k, h, e) = cons_tail (f y) (f x) (map f xs) (map_has f x xs (k, omega (arith, h), e))

-- ---- lists in an order
pub ordered_head : {A : Type 0} (precedes : A → A → Type 0) (x v : A) (xs : List A) → IsOrderedBy precedes (x ∷ xs) → Contains xs v → precedes x v
ordered_head precedes x v xs h w = h.before 0 (suc w.0) x v (omega arith) refl (slice_get-get_or xs w.0 v w.1 ∙ ap (λ y. Some y) w.2)

pub ordered_tail : {A : Type 0} (precedes : A → A → Type 0) (x : A) (xs : List A) → IsOrderedBy precedes (x ∷ xs) → IsOrderedBy precedes xs
ordered_tail precedes x xs h = record { before = λ i j a b lower. h.before (suc i) (suc j) a b (omega (arith, lower)) }

-- two lists in a strict order with the same members are one
pub ordered_same : {A : Type 0} (precedes : A → A → Type 0) → ((x y : A) → precedes x y → precedes y x → ⊥) → (xs ys : List A) → IsOrderedBy precedes xs → IsOrderedBy precedes ys
    → ((v : A) → Contains xs v → Contains ys v) → ((v : A) → Contains ys v → Contains xs v) → xs ≡ ys
ordered_same precedes strict [] [] p q to back = refl
ordered_same precedes strict [] (y ∷ ys) p q to back = absurd (no_member y (back y (cons_head y ys)))
ordered_same precedes strict (x ∷ xs) [] p q to back = absurd (no_member x (to x (cons_head x xs)))
ordered_same {A} precedes strict (x ∷ xs) (y ∷ ys) p q to back =
    ap (λ z. z ∷ xs) heads
    ∙ ap (λ zs. y ∷ zs) (ordered_same precedes strict xs ys (ordered_tail precedes x xs p) (ordered_tail precedes y ys q)
    (λ v w. in_tail y v ys (λ e. not_head x v xs p w (heads ∙ e)) (to v (cons_tail x v xs w)))
    (λ v w. in_tail x v xs (λ e. not_head y v ys q w (sym heads ∙ e)) (back v (cons_tail y v ys w))))
  where
    not_head : (z v : A) (zs : List A) → IsOrderedBy precedes (z ∷ zs) → Contains zs v → z ≡ v → ⊥
    not_head z v zs h w e =
        let self : precedes v v = subst (λ u. precedes u v) e (ordered_head precedes z v zs h w) in
        strict v v self self

    in_tail : (z v : A) (zs : List A) → (z ≡ v → ⊥) → Contains (z ∷ zs) v → Contains zs v
    in_tail z v zs other w = elim (cons_cases z v zs w) [ inl e ↦ absurd (other e) | inr a ↦ a ]

    heads : x ≡ y
    heads = elim (cons_cases y x ys (to x (cons_head x xs))) [
      | inl e ↦ sym e
      | inr a ↦ elim (cons_cases x y xs (back y (cons_head y ys))) [
        | inl e ↦ e
        | inr b ↦ absurd (strict x y (ordered_head precedes x y xs p b) (ordered_head precedes y x ys q a))
      ]
    ]

-- ---- rising lists
pub rising_ordered : (xs : List ℕ) → IsStrictlyIncreasing xs → IsOrderedBy (λ a b. a < b) xs
rising_ordered xs inc = record {
  before = λ i j x y lower a b.
      let below = below_from_sorted xs i j 0 (sorted_from_strictly_increasing xs inc) lower (slice_get_within xs j y b) in
      omega (arith, below, get_or_from_slice_get xs i x 0 a, get_or_from_slice_get xs j y 0 b);
}

pub head_below : (x v : ℕ) (xs : List ℕ) → IsStrictlyIncreasing (x ∷ xs) → Contains xs v → x < v
head_below x v xs inc w = ordered_head (λ a b. a < b) x v xs (rising_ordered (x ∷ xs) inc) w

pub rising_same : (xs ys : List ℕ) → IsStrictlyIncreasing xs → IsStrictlyIncreasing ys → ((v : ℕ) → Contains xs v → Contains ys v) → ((v : ℕ) → Contains ys v → Contains xs v) → xs ≡ ys
rising_same xs ys p q to back = ordered_same (λ a b. a < b) (λ x y a b. omega arith) xs ys (rising_ordered xs p) (rising_ordered ys q) to back

-- ---- tests that all items pass
pub and-left : (a b : Bool) → (a && b) ≡ true → a ≡ true
and-left true b h = refl
and-left false b h = h

pub and-right : (a b : Bool) → (a && b) ≡ true → b ≡ true
and-right true b h = h
and-right false b h = absurd (true≢false (sym h))

pub passes : {A : Type 0} (p : A → Bool) (xs : List A) (i : ℕ) (x : A) → list_all p xs ≡ true → slice_get xs i ≡ Some x → p x ≡ true
passes p [] i x all at = absurd (cc)
passes p (y ∷ xs) zero x all at = subst (λ z. p z ≡ true) (same_Some y x at) (and-left (p y) (list_all p xs) all)
passes p (y ∷ xs) (suc i) x all at = passes p xs i x (and-right (p y) (list_all p xs) all) at
