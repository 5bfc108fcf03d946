-- The directory of a file ends at the last slash of its name.
use Rattle.std.proofs.Common.{◌≡◌, ◌≢◌, ℕ, zero, suc, ◌<◌, length, false, List, [], ◌∷◌, ◌++◌, take, get_or, refl, ap, arith, eq-eqb, inl, inr}
use Rattle.std.proofs.lemmas.List.Folds.{list_any_at}
use Rattle.std.proofs.lemmas.Bool.Decides.{eqb_tells}
use Rattle.std.proofs.lemmas.Grind.{common_steps}
use Rattle.std.specs.List.{list_any, slice_range}
use Rattle.c11_headers.specs.Headers.{is_slash, directory_of}

no_slash : (bytes : List ℕ) → ((i : ℕ) → i < length bytes → get_or bytes i 0 ≢ 47) → list_any is_slash bytes ≡ false
no_slash [] none = refl
no_slash (b ∷ bs) none =
    elim (eqb_tells b 47) [
      | inl same ↦ absurd (none 0 (omega arith) same.1)
      | inr other ↦ rw other.0 (no_slash bs (λ i h. none (suc i) (omega arith)))
    ]

pub without_slash : (bytes : List ℕ) → ((i : ℕ) → i < length bytes → get_or bytes i 0 ≢ 47) → directory_of bytes ≡ []
without_slash [] none = refl
without_slash (b ∷ bs) none = rw (no_slash (b ∷ bs) none) refl

pub to_last_slash : (bytes : List ℕ) (k : ℕ) → k < length bytes → get_or bytes k 0 ≡ 47
    → ((i : ℕ) → k < i → i < length bytes → get_or bytes i 0 ≢ 47)
    → directory_of bytes ≡ take k bytes ++ 47 ∷ []
to_last_slash [] k within at last = absurd (omega arith)
to_last_slash (b ∷ bs) zero within at last =
    rw (list_any_at is_slash (b ∷ bs) 0 0 within (eq-eqb b 47 at), without_slash bs (λ i h. last (suc i) (omega arith) (omega arith))) (ap (λ c. c ∷ []) at)
to_last_slash (b ∷ bs) (suc k) within at last =
    rw (list_any_at is_slash (b ∷ bs) (suc k) 0 within (eq-eqb (get_or bs k 0) 47 at), to_last_slash bs k (omega arith) at (λ i low high. last (suc i) (omega arith) (omega arith))) refl

pub front : (bytes : List ℕ) (k : ℕ) → slice_range bytes 0 k ≡ take k bytes
front bytes k = grind (arith, common_steps)
