-- The integers of #if and its operators on them (C11 6.5). All signed types are intmax_t and all
-- unsigned ones uintmax_t (6.10.1p4), of 64 bits in two's complement.
use Rattle.std.specs.Prelude.{ℕ, ◌==◌, ◌-◌, ◌^◌, nat_lt, ℤ, pos, negsuc, ◌+ℤ◌, ◌-ℤ◌, ◌*ℤ◌, neg_ℤ, int_lt, int_div, int_rem, unsigned_abs, bit_and, bit_or, bit_xor, ◌&&◌, ◌||◌, not, Bool, true, false, Result, Ok, Err, if◌then◌else◌}
use Rattle.std.specs.Int.{w64, cast_signed, int_rem_euclid, int_shr}
use Rattle.c11_expressions.specs.declared.binary.Binary.{Binary}
use Rattle.c11_expressions.specs.declared.binary.Binary.TheVariants.{Multiply, Divide, Remainder, Add, Subtract, ShiftLeft, ShiftRight, Less, LessOrEqual, Greater, GreaterOrEqual, Equal, NotEqual, BitAnd, BitXor, BitOr, And, Or}
use Rattle.c11_expressions.specs.declared.unary.Unary.{Unary}
use Rattle.c11_expressions.specs.declared.unary.Unary.TheVariants.{Plus, Minus, Complement, Not}
use Rattle.c11_macros.specs.Results.{result_map}
use Rattle.sc_model.specs.declared.cause.Cause.{Cause}
use Rattle.sc_model.specs.declared.cause.Cause.TheVariants.{IfDivision, IfOverflow, IfShift}

-- a number with the signedness of its type
pub record Typed : Type 0 where
  pub unsigned : Bool
  pub number : ℤ

abbrev pub typed : Bool → ℤ → Typed
typed unsigned number = record { unsigned = unsigned; number = number }

-- ---- numbers

abbrev pub is_zero : ℤ → Bool
is_zero (pos n) = n == 0
is_zero (negsuc n) = false

abbrev pub is_same : ℤ → ℤ → Bool
is_same (pos m) (pos n) = m == n
is_same (pos m) (negsuc n) = false
is_same (negsuc m) (pos n) = false
is_same (negsuc m) (negsuc n) = m == n

-- what a comparison gives
abbrev pub truth : Bool → ℤ
truth true = pos 1
truth false = pos 0

-- the 64 bits of a number, which are the number modulo 2 ^ 64
abbrev pub bits_of : ℤ → ℕ
bits_of n = unsigned_abs (int_rem_euclid n (pos (2 ^ 64)))

-- the number of a type that has these bits
abbrev pub with_bits : Bool → ℕ → ℤ
with_bits true bits = pos bits
with_bits false bits = cast_signed w64 bits

-- a signed number fits in 64 bits
abbrev pub is_signed : ℤ → Bool
is_signed (pos n) = nat_lt n (2 ^ 63)
is_signed (negsuc n) = nat_lt n (2 ^ 63)

-- a number converted to a type (6.3.1.3), where a signed type has it
abbrev pub converted : Bool → ℤ → ℤ
converted true n = pos (bits_of n)
converted false n = n

-- the result of an operation in a type: modulo 2 ^ 64 where unsigned (6.2.5p9), else it has to fit
-- (6.5p5)
abbrev pub fitted : Bool → ℤ → Result ℤ Cause
fitted true n = Ok (pos (bits_of n))
fitted false n = if is_signed n then Ok n else Err IfOverflow

-- ---- unary operators (6.5.3.3)

abbrev pub unary_unsigned : Unary → Bool → Bool
unary_unsigned Not unsigned = false
unary_unsigned Plus unsigned = unsigned
unary_unsigned Minus unsigned = unsigned
unary_unsigned Complement unsigned = unsigned

abbrev pub unary_number : Unary → Bool → ℤ → Result ℤ Cause
unary_number Plus unsigned x = Ok x
unary_number Minus unsigned x = fitted unsigned (neg_ℤ x)
unary_number Complement unsigned x = Ok (with_bits unsigned (2 ^ 64 - 1 - bits_of x))
unary_number Not unsigned x = Ok (truth (is_zero x))

-- ---- binary operators

-- 6.5.5p6: where the quotient can be represented
abbrev pub quotient : Bool → ℤ → ℤ → Result ℤ Cause
quotient unsigned x y = if is_zero y then Err IfDivision else fitted unsigned (int_div x y)

abbrev pub remainder : Bool → ℤ → ℤ → Result ℤ Cause
remainder unsigned x y = result_map (λ _. int_rem x y) (quotient unsigned x y)

-- both operands in one type, which is unsigned where that of either is (6.3.1.8)
abbrev pub in_common : (Bool → ℤ → ℤ → Result ℤ Cause) → Typed → Typed → Result ℤ Cause
in_common f x y = let unsigned = x.unsigned || y.unsigned in f unsigned (converted unsigned x.number) (converted unsigned y.number)

abbrev pub compared : (ℤ → ℤ → Bool) → Typed → Typed → Result ℤ Cause
compared test x y = in_common (λ unsigned m n. Ok (truth (test m n))) x y

abbrev pub bitwise : (ℕ → ℕ → ℕ) → Typed → Typed → Result ℤ Cause
bitwise f x y = Ok (with_bits (x.unsigned || y.unsigned) (f (bits_of x.number) (bits_of y.number)))

-- a shift is in the type of the left operand, by 0 to 63 (6.5.7)
abbrev pub is_shift_count : ℤ → Bool
is_shift_count (pos n) = nat_lt n 64
is_shift_count (negsuc n) = false

abbrev pub shifted : (ℕ → Result ℤ Cause) → ℤ → Result ℤ Cause
shifted f count = if is_shift_count count then f (unsigned_abs count) else Err IfShift

-- 6.5.5 to 6.5.14, where both operands are evaluated
abbrev pub binary_number : Binary → Typed → Typed → Result ℤ Cause
binary_number Multiply x y = in_common (λ unsigned m n. fitted unsigned (m *ℤ n)) x y
binary_number Divide x y = in_common quotient x y
binary_number Remainder x y = in_common remainder x y
binary_number Add x y = in_common (λ unsigned m n. fitted unsigned (m +ℤ n)) x y
binary_number Subtract x y = in_common (λ unsigned m n. fitted unsigned (m -ℤ n)) x y
binary_number ShiftLeft x y = shifted (λ k. fitted x.unsigned (x.number *ℤ pos (2 ^ k))) y.number
binary_number ShiftRight x y = shifted (λ k. Ok (int_shr x.number k)) y.number
binary_number Less x y = compared int_lt x y
binary_number LessOrEqual x y = compared (λ m n. not (int_lt n m)) x y
binary_number Greater x y = compared (λ m n. int_lt n m) x y
binary_number GreaterOrEqual x y = compared (λ m n. not (int_lt m n)) x y
binary_number Equal x y = compared is_same x y
binary_number NotEqual x y = compared (λ m n. not (is_same m n)) x y
binary_number BitAnd x y = bitwise bit_and x y
binary_number BitXor x y = bitwise bit_xor x y
binary_number BitOr x y = bitwise bit_or x y
binary_number And x y = Ok (truth (not (is_zero x.number) && not (is_zero y.number)))
binary_number Or x y = Ok (truth (not (is_zero x.number) || not (is_zero y.number)))

-- the type of the result, by those of the operands
abbrev pub binary_unsigned : Binary → Bool → Bool → Bool
binary_unsigned Multiply x y = x || y
binary_unsigned Divide x y = x || y
binary_unsigned Remainder x y = x || y
binary_unsigned Add x y = x || y
binary_unsigned Subtract x y = x || y
binary_unsigned ShiftLeft x y = x
binary_unsigned ShiftRight x y = x
binary_unsigned BitAnd x y = x || y
binary_unsigned BitXor x y = x || y
binary_unsigned BitOr x y = x || y
binary_unsigned _ x y = false

-- ---- operators with the type of their result

abbrev pub unary_value : Unary → Typed → Result Typed Cause
unary_value op x = result_map (typed (unary_unsigned op x.unsigned)) (unary_number op x.unsigned x.number)

abbrev pub binary_value : Binary → Typed → Typed → Result Typed Cause
binary_value op x y = result_map (typed (binary_unsigned op x.unsigned y.unsigned)) (binary_number op x y)
