-- The texts of the macros at the start.
use Rattle.std.proofs.Common.{◌≡◌, ℕ, ◌<◌, ◌==◌, nat_lt, false, List, [], ◌∷◌, refl, sym, subst, ◌∙◌, arith}
use Rattle.std.proofs.lemmas.Bool.Decides.{nat_tests}
use Rattle.std.proofs.lemmas.Bool.{true≢false, lt-ltb}
use Rattle.std.specs.Char.{digit_value}
use Rattle.std.specs.Str.Parse.{IsNumeral}
use Rattle.sc_model.specs.Token.{name_of}

is_other : (x n : ℕ) → (x ≡ n → ⊥) → (x == n) ≡ false
is_other x n differs = grind (arith, nat_tests)

-- a text that begins like no digraph stands for itself
pub plain_text : (x : ℕ) (xs : List ℕ) → (x ≡ 60 → ⊥) → (x ≡ 58 → ⊥) → (x ≡ 37 → ⊥) → name_of (x ∷ xs) ≡ x ∷ xs
plain_text x xs less colon percent = rw (is_other x 60 less, is_other x 58 colon, is_other x 37 percent) refl

pub plain_digits : (ds : List ℕ) → IsNumeral 10 ds → name_of ds ≡ ds
plain_digits [] is = absurd (omega (arith, is.0))
plain_digits (x ∷ xs) is = plain_text x xs (λ e. no_digit 60 (subst P e is.1.0) refl) (λ e. no_digit 58 (subst P e is.1.0) refl) (λ e. no_digit 37 (subst P e is.1.0) refl)
  where
    P : ℕ → Type 0
    P n = digit_value n < 10

    no_digit : (n : ℕ) → digit_value n < 10 → nat_lt (digit_value n) 10 ≡ false → ⊥
    no_digit n low e = true≢false (sym (lt-ltb (digit_value n) 10 low) ∙ e)

pub plain_quoted : (xs : List ℕ) → name_of (34 ∷ xs) ≡ 34 ∷ xs
plain_quoted xs = plain_text 34 xs (λ e. cc) (λ e. cc) (λ e. cc)
