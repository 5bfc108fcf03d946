-- The numbers that digits stand for.
use Rattle.std.proofs.Common.{◌≡◌, ℕ, ◌+◌, ◌*◌, ◌<◌, ◌≤◌, Bool, true, false, List, [], ◌∷◌, drop, length, get_or, refl, ap, ◌∙◌, arith}
use Rattle.std.proofs.lemmas.List.{drop_all, drop_more}
use Rattle.c11_expressions.specs.Constants.{digit_value, number_behind, radix}
use Rattle.c11_tokens.specs.Constants.{is_digit_in}
use Rattle.c11_tokens.specs.declared.base.Base.{Base}
use Rattle.c11_tokens.specs.declared.base.Base.TheVariants.{Binary, Octal, Decimal, Hexadecimal}

pub behind_end : (base : Base) (n : ℕ) → number_behind base n [] ≡ n
unfolding number_behind
behind_end base n = refl

pub behind_digit : (base : Base) (n b : ℕ) (bs : List ℕ) → is_digit_in base b ≡ true → number_behind base n (b ∷ bs) ≡ number_behind base (n * radix base + digit_value b) bs
unfolding number_behind
behind_digit base n b bs e = rw e refl

pub behind_other : (base : Base) (n b : ℕ) (bs : List ℕ) → is_digit_in base b ≡ false → number_behind base n (b ∷ bs) ≡ n
unfolding number_behind
behind_other base n b bs e = rw e refl

more : (base : Base) (n d : ℕ) → n ≤ n * radix base + d
more Binary n d = omega arith
more Octal n d = omega arith
more Decimal n d = omega arith
more Hexadecimal n d = omega arith

pub behind_more : (base : Base) (n : ℕ) (bs : List ℕ) → n ≤ number_behind base n bs
behind_more base n [] = omega (arith, behind_end base n)
behind_more base n (b ∷ bs) = by (is_digit_in base b) refl (behind_more base (n * radix base + digit_value b) bs)
  where
    by : (t : Bool) → is_digit_in base b ≡ t → n * radix base + digit_value b ≤ number_behind base (n * radix base + digit_value b) bs → n ≤ number_behind base n (b ∷ bs)
    by true e lower = omega (arith, behind_digit base n b bs e, more base n (digit_value b), lower)
    by false e lower = omega (arith, behind_other base n b bs e)

pub at_digit : (base : Base) (n : ℕ) (bs : List ℕ) (i : ℕ) → i < length bs → is_digit_in base (get_or bs i 0) ≡ true
    → number_behind base n (drop i bs) ≡ number_behind base (n * radix base + digit_value (get_or bs i 0)) (drop (i + 1) bs)
at_digit base n bs i h e = ap (number_behind base n) (drop_more bs i 0 h) ∙ behind_digit base n (get_or bs i 0) (drop (i + 1) bs) e

pub at_other : (base : Base) (n : ℕ) (bs : List ℕ) (i : ℕ) → i < length bs → is_digit_in base (get_or bs i 0) ≡ false → number_behind base n (drop i bs) ≡ n
at_other base n bs i h e = ap (number_behind base n) (drop_more bs i 0 h) ∙ behind_other base n (get_or bs i 0) (drop (i + 1) bs) e

pub at_end : (base : Base) (n : ℕ) (bs : List ℕ) (i : ℕ) → length bs ≤ i → number_behind base n (drop i bs) ≡ n
at_end base n bs i h = ap (number_behind base n) (drop_all i bs h) ∙ behind_end base n
