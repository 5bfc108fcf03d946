-- Quotients and remainders of signed numbers, which may not fit.
use Rattle.std.proofs.Common.{◌≡◌, ◌<◌, ◌||◌, ℤ, pos, negsuc, Bool, true, false, Option, Some, None, Result, Ok, ok_or, int_div, int_rem, FitsSigned, ◌^◌, refl, ap, ◌∙◌, arith}
use Rattle.std.specs.Int.{w64, CanDivide, cast_unsigned}
use Rattle.std.specs.Option.{SomeIff}
use Rattle.std.proofs.lemmas.Bool.{ltb-true, lt-ltb}
use Rattle.std.proofs.lemmas.Bool.Decides.{nat_tests}
use Rattle.c11_expressions.specs.Arithmetic.{Typed, typed, in_common, is_signed, is_zero, quotient, remainder}
use Rattle.c11_macros.specs.Results.{result_map}
use Rattle.sc_if.specs.Seen.{IsPairOf, first_number, is_unsigned_pair, second_number}
use Rattle.sc_if.specs.declared.pair.Pair.{Pair}
use Rattle.sc_model.specs.declared.cause.Cause.{Cause}
use Rattle.sc_model.specs.declared.cause.Cause.TheVariants.{IfOverflow}

-- an operation in the common type is that on the pair
pub in_pair : (f : Bool → ℤ → ℤ → Result ℤ Cause) (x y : Typed) (p : Pair) → IsPairOf x y p
    → result_map (typed (x.unsigned || y.unsigned)) (in_common f x y) ≡ result_map (typed (is_unsigned_pair p)) (f (is_unsigned_pair p) (first_number p) (second_number p))
in_pair f x y p is = cc (is.unsigned, is.first, is.second)

-- the second number of a pair that is signed
pub second-zero : (x y : Typed) (p : Pair) → IsPairOf x y p → is_zero y.number ≡ false → is_unsigned_pair p ≡ false → is_zero (second_number p) ≡ false
second-zero x y p is nonzero signed = let e : (x.unsigned || y.unsigned) ≡ false = is.unsigned ∙ signed in cc (is.second, e)

not_zero : (y : ℤ) → is_zero y ≡ false → FitsSigned w64 y → 0 < cast_unsigned w64 y
not_zero (pos n) e fits = grind (arith, nat_tests)
not_zero (negsuc n) e fits = omega (arith, fits.sfits)

fits-signed : (z : ℤ) → FitsSigned w64 z → is_signed z ≡ true
fits-signed (pos n) h = lt-ltb n (2 ^ 63) h.sfits
fits-signed (negsuc n) h = lt-ltb n (2 ^ 63) h.sfits

signed-fits : (z : ℤ) → is_signed z ≡ true → FitsSigned w64 z
signed-fits (pos n) h = record { sfits = ltb-true n (2 ^ 63) h }
signed-fits (negsuc n) h = record { sfits = ltb-true n (2 ^ 63) h }

-- where the quotient does not fit, none is found
fits_none : (x y : ℤ) (b : Bool) → is_signed (int_div x y) ≡ b → is_zero y ≡ false → FitsSigned w64 y → (CanDivide w64 x y → ⊥) → b ≡ false
fits_none x y true e nonzero fits h = absurd (h (not_zero y nonzero fits, signed-fits (int_div x y) e))
fits_none x y false e nonzero fits h = refl

pub divides : (o : Option ℤ) (x y : ℤ) → is_zero y ≡ false → FitsSigned w64 y → SomeIff o (CanDivide w64 x y) (int_div x y) → ok_or o IfOverflow ≡ quotient false x y
divides None x y nonzero fits h = let e = fits_none x y (is_signed (int_div x y)) refl nonzero fits h in rw (nonzero, e) refl
divides (Some z) x y nonzero fits h = let e = fits-signed (int_div x y) h.0.1 in rw (nonzero, e) (ap Ok h.1)

pub remains : (o : Option ℤ) (x y : ℤ) → is_zero y ≡ false → FitsSigned w64 y → SomeIff o (CanDivide w64 x y) (int_rem x y) → ok_or o IfOverflow ≡ remainder false x y
remains None x y nonzero fits h = let e = fits_none x y (is_signed (int_div x y)) refl nonzero fits h in rw (nonzero, e) refl
remains (Some z) x y nonzero fits h = let e = fits-signed (int_div x y) h.0.1 in rw (nonzero, e) (ap Ok h.1)
