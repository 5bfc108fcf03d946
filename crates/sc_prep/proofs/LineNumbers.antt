-- The number of a line, digit by digit.
use Rattle.std.proofs.Common.{◌≡◌, ℕ, ◌+◌, ◌-◌, ◌*◌, ◌<◌, ◌≤◌, ◌&&◌, Bool, true, false, List, [], ◌∷◌, drop, length, get_or, refl, ap, ◌∙◌, arith, if◌then◌else◌, nat_le}
use Rattle.c11_expressions.specs.Constants.{digit_value, number_behind, number_of}
use Rattle.c11_tokens.specs.declared.base.Base.TheVariants.{Decimal}
use Rattle.sc_prep.proofs.Facts.{and-true, and_parts, drop_all, drop_more, le-leb, lt-leb}
use Rattle.sc_prep.proofs.Terms.{greatest_line, is_digit, is_line_number, list_all}

behind_end : (n : ℕ) → number_behind Decimal n [] ≡ n
unfolding number_behind
behind_end n = refl

behind_digit : (n b : ℕ) (bs : List ℕ) → is_digit b ≡ true → number_behind Decimal n (b ∷ bs) ≡ number_behind Decimal (n * 10 + digit_value b) bs
unfolding number_behind
behind_digit n b bs e = rw e refl

behind_more : (n : ℕ) (bs : List ℕ) → n ≤ number_behind Decimal n bs
unfolding number_behind
behind_more n [] = omega arith
behind_more n (b ∷ bs) = by (is_digit b) (behind_more (n * 10 + digit_value b) bs)
  where
    by : (t : Bool) → n * 10 + digit_value b ≤ number_behind Decimal (n * 10 + digit_value b) bs
        → n ≤ (if t then number_behind Decimal (n * 10 + digit_value b) bs else n)
    by true lower = omega (arith, lower)
    by false lower = omega arith

value_is : (b : ℕ) → is_digit b ≡ true → digit_value b ≡ b - 48
value_is b e = ap (λ t. if t then b - 48 else (if nat_le b 70 then b - 55 else b - 87)) (and_parts (nat_le 48 b) (nat_le b 57) e).1

-- the digits before the rest are those of the number
pub record IsRead (bs : List ℕ) (n : ℕ) (rest : List ℕ) : Type 0 where
  pub digits : list_all is_digit bs ≡ list_all is_digit rest
  pub number : number_of Decimal bs ≡ number_behind Decimal n rest

module _ (bs : List ℕ) (n i : ℕ) where
  pub one-read : i < length bs → is_digit (get_or bs i 0) ≡ true → IsRead bs n (drop i bs) → IsRead bs (n * 10 + (get_or bs i 0 - 48)) (drop (i + 1) bs)
  one-read within digit read =
      let b : ℕ = get_or bs i 0 in
      let rest : List ℕ = drop (i + 1) bs in
      record {
        digits = read.digits ∙ (ap (list_all is_digit) (drop_more bs i 0 within) ∙ ap (λ t. t && list_all is_digit rest) digit);
        number = read.number
            ∙ (ap (number_behind Decimal n) (drop_more bs i 0 within)
            ∙ (behind_digit n b rest digit ∙ ap (λ d. number_behind Decimal (n * 10 + d) rest) (value_is b digit)));
      }

  -- nothing is left
  pub all-read : length bs ≤ i → n ≤ greatest_line → IsRead bs n (drop i bs) → is_line_number bs ≡ nat_le 1 n
  all-read end small read =
      let number : number_of Decimal bs ≡ n = read.number ∙ (ap (number_behind Decimal n) (drop_all i bs end) ∙ behind_end n) in
      let digits : list_all is_digit bs ≡ true = read.digits ∙ ap (list_all is_digit) (drop_all i bs end) in
      ap (λ t. t && (nat_le 1 (number_of Decimal bs) && nat_le (number_of Decimal bs) greatest_line)) digits
      ∙ (ap (λ m. nat_le 1 m && nat_le m greatest_line) number
      ∙ (ap (λ t. nat_le 1 n && t) (le-leb n greatest_line small) ∙ and-true (nat_le 1 n)))

-- the number is already too great
pub great-read : (bs : List ℕ) (n : ℕ) (rest : List ℕ) → greatest_line < n → IsRead bs n rest → is_line_number bs ≡ false
great-read bs n rest great read =
    let lower : n ≤ number_of Decimal bs = omega (arith, read.number, behind_more n rest) in
    ap (λ t. list_all is_digit bs && (nat_le 1 (number_of Decimal bs) && t)) (lt-leb (number_of Decimal bs) greatest_line (omega (arith, lower, great)))
    ∙ none (list_all is_digit bs) (nat_le 1 (number_of Decimal bs))
  where
    none : (a b : Bool) → (a && (b && false)) ≡ false
    none true true = refl
    none true false = refl
    none false b = refl
