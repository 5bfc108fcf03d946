-- Lists in which no item stands at two places.
use Rattle.std.proofs.Common.{◌≡◌, ℕ, zero, suc, ◌<◌, ◌≤◌, List, [], ◌∷◌, ◌++◌, Contains, length, slice_get, Some, refl, ap, ◌∙◌, inl, inr, ◌⊎◌, arith}
use Rattle.std.proofs.lemmas.Option.{slice_get-get_or}
use Rattle.sc_model.specs.Growth.{IsOneToOne}

-- where an item stands once one more stands before it
record Stands {A : Type 0} (xs ys : List A) (x : A) (i : ℕ) (a : A) : Type 0 where
  place : ℕ
  at : slice_get (xs ++ x ∷ ys) place ≡ Some a
  is : ((i < length xs) × (place ≡ i)) ⊎ ((length xs ≤ i) × (place ≡ suc i))

stands : {A : Type 0} (xs ys : List A) (x : A) (i : ℕ) (a : A) → slice_get (xs ++ ys) i ≡ Some a → Stands xs ys x i a
stands [] ys x i a at = record { place = suc i; at = at; is = inr (omega arith, refl) }
stands (z ∷ xs) ys x zero a at = record { place = 0; at = at; is = inl (omega arith, refl) }
stands (z ∷ xs) ys x (suc i) a at =
    let next = stands xs ys x i a at in
    record { place = suc next.place; at = next.at; is = elim next.is [ inl h ↦ inl (omega (arith, h.0), ap suc h.1) | inr h ↦ inr (omega (arith, h.0), ap suc h.1) ] }

seam : {A : Type 0} (xs ys : List A) (x : A) → slice_get (xs ++ x ∷ ys) (length xs) ≡ Some x
seam [] ys x = refl
seam (z ∷ xs) ys x = seam xs ys x

module _ {A : Type 0} (xs ys : List A) (x : A) (apart : IsOneToOne (xs ++ x ∷ ys)) where
  pub IsOneToOne-without : IsOneToOne (xs ++ ys)
  IsOneToOne-without = record {
    same = λ i j a at_i at_j.
        let one = stands xs ys x i a at_i in
        let two = stands xs ys x j a at_j in
        let together : one.place ≡ two.place = apart.same one.place two.place a one.at two.at in
        elim one.is [
          | inl h ↦ elim two.is [ inl k ↦ omega (arith, h.0, h.1, k.0, k.1, together) | inr k ↦ omega (arith, h.0, h.1, k.0, k.1, together) ]
          | inr h ↦ elim two.is [ inl k ↦ omega (arith, h.0, h.1, k.0, k.1, together) | inr k ↦ omega (arith, h.0, h.1, k.0, k.1, together) ]
        ];
  }

  pub lacks-without : Contains (xs ++ ys) x → ⊥
  lacks-without has =
      let at : slice_get (xs ++ ys) has.0 ≡ Some x = slice_get-get_or (xs ++ ys) has.0 x has.1 ∙ ap Some has.2 in
      let one = stands xs ys x has.0 x at in
      let here : one.place ≡ length xs = apart.same one.place (length xs) x one.at (seam xs ys x) in
      elim one.is [ inl h ↦ omega (arith, h.0, h.1, here) | inr h ↦ omega (arith, h.0, h.1, here) ]
