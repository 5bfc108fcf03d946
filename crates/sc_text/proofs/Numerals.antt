-- The digits of a number, and the number back.
use Rattle.std.proofs.Common.{◌≡◌, ℕ, zero, suc, ◌+◌, ◌-◌, ◌*◌, ◌/◌, ◌%◌, ◌<◌, not, Bool, true, false, List, [], ◌∷◌, refl, sym, ap, ◌∙◌, arith, append-nil, ◌^◌, ◌≤◌}
use Rattle.std.proofs.lemmas.Bool.{eqb-true, eqb-false, lt-ltb, le-leb, and_from, or_from, not_from_true, eq-eqb, ne_eqb}
use Rattle.std.proofs.lemmas.Fmt.{decimal_from_prepends_wide, length-decimal-le_succ}
use Rattle.std.specs.Fmt.{digits_onto, digit_glyph, decimal}
use Rattle.std.specs.List.{list_any}
use Rattle.std.specs.Prelude.{◌==◌, nat_le, if◌then◌else◌}
use Rattle.sc_model.specs.Bytes.{is_digit}
use Rattle.sc_text.specs.Text.{numeral}

-- what digits behind a number make of it
abbrev read : ℕ → List ℕ → ℕ
read n [] = n
read n (b ∷ bs) = read (n * 10 + (b - 48)) bs

glyph-is : (n : ℕ) → digit_glyph false (n % 10) ≡ 48 + n % 10
glyph-is n = rw (lt-ltb (n % 10) 10 (omega arith)) refl

glyph-digit : (n : ℕ) → is_digit (digit_glyph false (n % 10)) ≡ true
glyph-digit n = rw (glyph-is n) (and_from (nat_le 48 (48 + n % 10)) (nat_le (48 + n % 10) 57) (le-leb _ _ (omega arith)) (le-leb _ _ (omega arith)))

read-digits_onto : (k n : ℕ) (acc : List ℕ) → n < k → read 0 (digits_onto k 10 false n acc) ≡ read n acc
read-digits_onto zero n acc h = absurd (omega arith)
read-digits_onto (suc k) n acc h = go (n / 10 == 0) refl (read-digits_onto k (n / 10) (digit_glyph false (n % 10) ∷ acc))
  where
    go : (b : Bool) → (n / 10 == 0) ≡ b → (n / 10 < k → read 0 (digits_onto k 10 false (n / 10) (digit_glyph false (n % 10) ∷ acc)) ≡ read (n / 10) (digit_glyph false (n % 10) ∷ acc))
        → read 0 (if b then digit_glyph false (n % 10) ∷ acc else digits_onto k 10 false (n / 10) (digit_glyph false (n % 10) ∷ acc)) ≡ read n acc
    go true e more =
        let last : n / 10 ≡ 0 = eqb-true (n / 10) 0 e in
        ap (λ m. read m acc) (let g = glyph-is n in omega arith)
    go false e more =
        let rest = eqb-false (n / 10) 0 e in
        more (omega arith) ∙ ap (λ m. read m acc) (let g = glyph-is n in omega arith)

read-numeral : (n : ℕ) → read 0 (numeral n) ≡ n
unfolding numeral
read-numeral n = read-digits_onto (suc n) n [] (omega arith)

pub numeral-injective : (m n : ℕ) → numeral m ≡ numeral n → m ≡ n
numeral-injective m n e = sym (read-numeral m) ∙ (ap (read 0) e ∙ read-numeral n)

abbrev pub is_no_digit : ℕ → Bool
is_no_digit b = not (is_digit b)

digits-digits_onto : (k n : ℕ) (acc : List ℕ) → list_any is_no_digit acc ≡ false → list_any is_no_digit (digits_onto k 10 false n acc) ≡ false
digits-digits_onto zero n acc h = h
digits-digits_onto (suc k) n acc h = go (n / 10 == 0) (digits-digits_onto k (n / 10) (digit_glyph false (n % 10) ∷ acc))
  where
    first : list_any is_no_digit (digit_glyph false (n % 10) ∷ acc) ≡ false
    first = or_from (is_no_digit (digit_glyph false (n % 10))) (list_any is_no_digit acc) (not_from_true _ (glyph-digit n)) h

    go : (b : Bool) → (list_any is_no_digit (digit_glyph false (n % 10) ∷ acc) ≡ false → list_any is_no_digit (digits_onto k 10 false (n / 10) (digit_glyph false (n % 10) ∷ acc)) ≡ false)
        → list_any is_no_digit (if b then digit_glyph false (n % 10) ∷ acc else digits_onto k 10 false (n / 10) (digit_glyph false (n % 10) ∷ acc)) ≡ false
    go true more = first
    go false more = more first

pub numeral-digits : (n : ℕ) → list_any is_no_digit (numeral n) ≡ false
unfolding numeral
numeral-digits n = digits-digits_onto (suc n) n [] refl

-- as the numbers of the machine are written
pub numeral_is : (n : ℕ) → n < 2 ^ 64 → numeral n ≡ decimal n
unfolding numeral
numeral_is n small =
    decimal_from_prepends_wide (λ k m acc. digits_onto k 10 false m acc) (record { one = one; more = more }) (suc n) n [] (omega arith) (omega (arith, length-decimal-le_succ n small)) ∙ append-nil (decimal n)
  where
    one : (k m : ℕ) (acc : List ℕ) → m < 10 → digits_onto (suc k) 10 false m acc ≡ (48 + m) ∷ acc
    one k m acc h = rw (eq-eqb (m / 10) 0 (omega arith), glyph-is m) (ap (λ d. d ∷ acc) (let one_digit : 48 + m % 10 ≡ 48 + m = omega arith in one_digit))

    more : (k m : ℕ) (acc : List ℕ) → 10 ≤ m → digits_onto (suc k) 10 false m acc ≡ digits_onto k 10 false (m / 10) ((48 + m % 10) ∷ acc)
    more k m acc h = rw (ne_eqb (m / 10) 0 (λ e. omega arith), glyph-is m) refl
