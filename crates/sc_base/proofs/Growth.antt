-- Lists that only gain items at their end, as the tables of ids do. `growth` is the set of lemmas
-- for a `using`.
use Rattle.std.proofs.Common.{◌≡◌, ℕ, zero, suc, ◌<◌, ◌≤◌, ◌⊎◌, inl, inr, Bool, true, List, [], ◌∷◌, ◌++◌, length, length-append, slice_get, Some, Contains, refl, ap, sym, ◌∙◌, arith}
use Rattle.std.specs.List.{IsDistinct}
use Rattle.std.proofs.lemmas.Bool.{cases_order, true≢false}
use Rattle.std.proofs.lemmas.Map.Keys.{apart_from_distinct}
use Rattle.std.proofs.lemmas.Option.{slice_get_within, get_or_from_slice_get, same_Some}
use Rattle.sc_model.specs.Growth.{Extends, IsOneToOne}
use Rattle.sc_model.proofs.ListLemmas.{slice_get-front}

pub Extends-refl : {A : Type 0} (xs : List A) → Extends xs xs
Extends-refl xs = record { kept = λ i h. refl; longer = omega arith }

pub Extends-trans : {A : Type 0} {xs ys zs : List A} → Extends xs ys → Extends ys zs → Extends xs zs
Extends-trans {A} {xs} {ys} {zs} a b =
    let long : length xs ≤ length ys = a.longer in
    record { kept = λ i h. b.kept i (omega arith) ∙ a.kept i h; longer = omega (arith, a.longer, b.longer) }

pub Extends-append : {A : Type 0} (xs ys : List A) → Extends xs (xs ++ ys)
Extends-append xs ys = record { kept = slice_get-front xs ys; longer = omega (arith, length-append xs ys) }

pub Extends-push : {A : Type 0} (xs : List A) (x : A) → Extends xs (xs ++ x ∷ [])
Extends-push xs x = Extends-append xs (x ∷ [])

-- an id means what it meant
pub Extends-keeps : {A : Type 0} {xs ys : List A} (i : ℕ) (x : A) → slice_get xs i ≡ Some x → Extends xs ys → slice_get ys i ≡ Some x
Extends-keeps {A} {xs} i x at e = e.kept i (slice_get_within xs i x at) ∙ at

-- an id stays one
pub Extends-within : {A : Type 0} {xs ys : List A} (i : ℕ) → i < length xs → Extends xs ys → i < length ys
Extends-within {A} {xs} {ys} i h e = omega (arith, e.longer)

-- an item that stands in a list with one more item stood there, or is that item at the end
pub push_cases : {A : Type 0} (xs : List A) (y : A) (i : ℕ) (x : A) → slice_get (xs ++ y ∷ []) i ≡ Some x → (slice_get xs i ≡ Some x) ⊎ ((i ≡ length xs) × (y ≡ x))
push_cases [] y zero x at = inr (refl, same_Some y x at)
push_cases [] y (suc i) x at = cc
push_cases (z ∷ xs) y zero x at = inl at
push_cases (z ∷ xs) y (suc i) x at = elim (push_cases xs y i x at) [ inl h ↦ inl h | inr h ↦ inr (ap suc h.0, h.1) ]

-- a new item at the end stands nowhere else
pub IsOneToOne-push : {A : Type 0} (xs : List A) (y : A) → IsOneToOne xs → (Contains xs y → ⊥) → IsOneToOne (xs ++ y ∷ [])
IsOneToOne-push {A} xs y apart lacks = record { same = λ i j x at_i at_j. by i j x (push_cases xs y i x at_i) (push_cases xs y j x at_j) }
  where
    has : (i : ℕ) (x : A) → slice_get xs i ≡ Some x → y ≡ x → ⊥
    has i x at same = lacks (i, slice_get_within xs i x at, get_or_from_slice_get xs i x y at ∙ sym same)

    by : (i j : ℕ) (x : A) → (slice_get xs i ≡ Some x) ⊎ ((i ≡ length xs) × (y ≡ x)) → (slice_get xs j ≡ Some x) ⊎ ((j ≡ length xs) × (y ≡ x)) → i ≡ j
    by i j x (inl a) (inl b) = apart.same i j x a b
    by i j x (inl a) (inr b) = absurd (has i x a b.1)
    by i j x (inr a) (inl b) = absurd (has j x b a.1)
    by i j x (inr a) (inr b) = a.0 ∙ sym b.0

-- items of which none is equal to a later one stand at one place each
pub IsOneToOne-IsDistinct : {A : Type 0} (eq : A → A → Bool) (xs : List A) → ((x : A) → eq x x ≡ true) → IsDistinct eq xs → IsOneToOne xs
IsOneToOne-IsDistinct {A} eq xs itself distinct = record { same = λ i j x at_i at_j. by i j x at_i at_j (cases_order i j) }
  where
    apart : (i j : ℕ) (x : A) → slice_get xs i ≡ Some x → slice_get xs j ≡ Some x → i < j → ⊥
    apart i j x at_i at_j before =
        let differ = apart_from_distinct eq xs i j x distinct before (slice_get_within xs j x at_j) in
        let first = get_or_from_slice_get xs i x x at_i in
        let second = get_or_from_slice_get xs j x x at_j in
        absurd (true≢false (sym (itself x) ∙ sym (λ k. eq (first k) (second k)) ∙ differ))

    by : (i j : ℕ) (x : A) → slice_get xs i ≡ Some x → slice_get xs j ≡ Some x → (i ≡ j) ⊎ ((i < j) ⊎ (j < i)) → i ≡ j
    by i j x at_i at_j (inl same) = same
    by i j x at_i at_j (inr (inl before)) = absurd (apart i j x at_i at_j before)
    by i j x at_i at_j (inr (inr after)) = absurd (apart j i x at_j at_i after)

pub ruleset growth = (Extends-refl, Extends-trans, Extends-push, Extends-keeps, Extends-within)
