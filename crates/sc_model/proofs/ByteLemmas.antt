-- Bytes that are compared.
use Rattle.std.proofs.Common.{◌≡◌, ℕ, ◌==◌, true, List, [], ◌∷◌, refl, sym}
use Rattle.std.proofs.lemmas.Bool.{eq-eqb, eqb-true, true≢false, and_parts}
use Rattle.sc_model.specs.Bytes.{same_bytes}

-- the same bytes are the same list
pub same_bytes-refl : (xs : List ℕ) → same_bytes xs xs ≡ true
same_bytes-refl [] = refl
same_bytes-refl (x ∷ xs) = rw (eq-eqb x x refl) (same_bytes-refl xs)

pub same_bytes-true : (xs ys : List ℕ) → same_bytes xs ys ≡ true → xs ≡ ys
same_bytes-true [] [] h = refl
same_bytes-true [] (y ∷ ys) h = absurd (true≢false (sym h))
same_bytes-true (x ∷ xs) [] h = absurd (true≢false (sym h))
same_bytes-true (x ∷ xs) (y ∷ ys) h =
    let parts = and_parts (x == y) (same_bytes xs ys) h in
    let first : x ≡ y = eqb-true x y parts.0 in
    let others : xs ≡ ys = same_bytes-true xs ys parts.1 in
    cc
