-- Values as the definitions see them.
use Rattle.std.specs.Prelude.{◌≡◌, ◌||◌, Bool, true, false, ℤ, pos, Result}
use Rattle.c11_expressions.specs.Arithmetic.{Typed, typed, converted}
use Rattle.c11_macros.specs.Results.{result_map}
use Rattle.sc_if.specs.declared.pair.Pair.{Pair}
use Rattle.sc_if.specs.declared.pair.Pair.TheVariants as pair
use Rattle.sc_if.specs.declared.value.Value.{Value}
use Rattle.sc_if.specs.declared.value.Value.TheVariants as value
use Rattle.sc_model.specs.declared.cause.Cause.{Cause}

abbrev pub seen_value : Value → Typed
seen_value (value.Signed n) = typed false n
seen_value (value.Unsigned n) = typed true (pos n)

abbrev pub seen_result : Result Value Cause → Result Typed Cause
seen_result r = result_map seen_value r

abbrev pub is_unsigned_pair : Pair → Bool
is_unsigned_pair (pair.Signed x y) = false
is_unsigned_pair (pair.Unsigned x y) = true

abbrev pub first_number : Pair → ℤ
first_number (pair.Signed x y) = x
first_number (pair.Unsigned x y) = pos x

abbrev pub second_number : Pair → ℤ
second_number (pair.Signed x y) = y
second_number (pair.Unsigned x y) = pos y

-- the pair has both numbers in their common type
pub record IsPairOf (x y : Typed) (p : Pair) : Type 0 where
  pub unsigned : (x.unsigned || y.unsigned) ≡ is_unsigned_pair p
  pub first : converted (x.unsigned || y.unsigned) x.number ≡ first_number p
  pub second : converted (x.unsigned || y.unsigned) y.number ≡ second_number p
