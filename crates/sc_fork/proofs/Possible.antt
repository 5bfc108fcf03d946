-- A condition that is not never has a configuration, since there are finitely many.
use Rattle.std.proofs.Common.{◌≡◌, ℕ, zero, suc, ◌<◌, ◌≤◌, ◌⊎◌, Bool, true, false, List, [], ◌∷◌, length, refl, sym, ap, ◌∙◌, subst, inl, inr, arith}
use Rattle.std.proofs.lemmas.Bool.{cases_lt}
use Rattle.std.specs.Prelude.{slice_index}
use Rattle.sc_model.specs.Sets.{Sets, IsConfig, IsNever}

abbrev pub Found : List ℕ → (List ℕ → Bool) → Type 0
Found arities f = (c : List ℕ) × IsConfig arities c × (f c ≡ true)

abbrev None : List ℕ → (List ℕ → Bool) → Type 0
None arities f = (c : List ℕ) → IsConfig arities c → f c ≡ false

config-nil : IsConfig [] []
config-nil = record { long = refl; each = λ v below. absurd (omega (arith, below)) }

config-cons : (a k : ℕ) (arities c : List ℕ) → k < a → IsConfig arities c → IsConfig (a ∷ arities) (k ∷ c)
config-cons a k arities c within is = record { long = ap suc is.long; each = each }
  where
    each : (v : ℕ) → v < length (a ∷ arities) → slice_index (k ∷ c) v < slice_index (a ∷ arities) v
    each zero below = within
    each (suc v) below = is.each v (omega (arith, below))

config-tail : (a k : ℕ) (arities c : List ℕ) → IsConfig (a ∷ arities) (k ∷ c) → IsConfig arities c
config-tail a k arities c is = record { long = omega (arith, is.long); each = λ v below. is.each (suc v) (omega (arith, below)) }

-- the first options
options : (a : ℕ) (arities : List ℕ) (f : List ℕ → Bool) → ((g : List ℕ → Bool) → None arities g ⊎ Found arities g) → (n : ℕ) → n ≤ a
    → ((k : ℕ) → k < n → None arities (λ c. f (k ∷ c))) ⊎ Found (a ∷ arities) f
options a arities f search_rest zero within = inl (λ k below. absurd (omega (arith, below)))
options a arities f search_rest (suc n) within = elim (options a arities f search_rest n (omega (arith, within))) [
  | inr found ↦ inr found
  | inl before ↦ elim (search_rest (λ c. f (n ∷ c))) [
    | inr found ↦ inr (n ∷ found.0, config-cons a n arities found.0 (omega (arith, within)) found.1, found.2)
    | inl now ↦ inl (λ k below. elim (cases_lt k n) [
      | inl less ↦ before k less
      | inr same ↦ let e : n ≡ k = omega (arith, same, below) in subst (λ o. None arities (λ c. f (o ∷ c))) e now
    ])
  ]
]

found_or_none : (arities : List ℕ) (f : List ℕ → Bool) → None arities f ⊎ Found arities f
found_or_none [] f = by (f []) refl
  where
    empty : (c : List ℕ) → IsConfig [] c → [] ≡ c
    empty [] is = refl
    empty (k ∷ c) is = absurd (omega (arith, is.long))

    by : (b : Bool) → f [] ≡ b → None [] f ⊎ Found [] f
    by true e = inr ([], config-nil, e)
    by false e = inl (λ c is. ap f (sym (empty c is)) ∙ e)
found_or_none (a ∷ arities) f = elim (options a arities f (found_or_none arities) a (omega arith)) [
  | inr found ↦ inr found
  | inl none ↦ inl (all none)
]
  where
    all : ((k : ℕ) → k < a → None arities (λ c. f (k ∷ c))) → None (a ∷ arities) f
    all none [] is = absurd (omega (arith, is.long))
    all none (k ∷ c) is = none k (is.each 0 (omega arith)) c (config-tail a k arities c is)

pub possible : (s : Sets) (a : ℕ) → (IsNever s a → ⊥) → Found s.arities (s.has a)
possible s a some = elim (found_or_none s.arities (s.has a)) [
  | inr found ↦ found
  | inl none ↦ absurd (some (record { none = none }))
]
