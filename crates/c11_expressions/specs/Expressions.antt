-- What evaluating an expression gives (C11 6.5, 6.10.1p4).
use Rattle.std.specs.Prelude.{ℤ, Bool, false, not, ◌||◌, Result, Ok, if◌then◌else◌}
use Rattle.c11_expressions.specs.Arithmetic.{Typed, typed, is_zero, truth, converted, unary_unsigned, unary_number, binary_unsigned, binary_number}
use Rattle.c11_expressions.specs.declared.binary.Binary.{Binary}
use Rattle.c11_expressions.specs.declared.binary.Binary.TheVariants.{And, Or}
use Rattle.c11_expressions.specs.declared.unary.Unary.{Unary}
use Rattle.c11_macros.specs.Results.{result_map, result_and_then}
use Rattle.sc_model.specs.declared.cause.Cause.{Cause}

pub data Expression : Type 0 where
  constant : Typed → Expression
  unary : Unary → Expression → Expression
  binary : Binary → Expression → Expression → Expression
  conditional : Expression → Expression → Expression → Expression

-- An expression's type, which does not hang on its evaluation, and the number that evaluating it
-- gives or the cause of the first fault.
pub record Outcome : Type 0 where
  pub unsigned : Bool
  pub number : Result ℤ Cause

abbrev pub constant_outcome : Typed → Outcome
constant_outcome v = record { unsigned = v.unsigned; number = Ok v.number }

abbrev pub unary_outcome : Unary → Outcome → Outcome
unary_outcome op x = record { unsigned = unary_unsigned op x.unsigned; number = result_and_then (unary_number op x.unsigned) x.number }

-- the left operand of && or || leaves the right one unevaluated (6.5.13p4, 6.5.14p4)
abbrev pub is_decided : Binary → ℤ → Bool
is_decided And m = is_zero m
is_decided Or m = not (is_zero m)
is_decided _ m = false

-- behind the left operand
abbrev pub number_behind : Binary → Bool → Outcome → ℤ → Result ℤ Cause
number_behind op unsigned y m =
    if is_decided op m then Ok (truth (not (is_zero m)))
    else result_and_then (λ n. binary_number op (typed unsigned m) (typed y.unsigned n)) y.number

abbrev pub binary_outcome : Binary → Outcome → Outcome → Outcome
binary_outcome op x y = record { unsigned = binary_unsigned op x.unsigned y.unsigned; number = result_and_then (number_behind op x.unsigned y) x.number }

-- one branch is evaluated, and converted to the type of both (6.5.15p4, p5)
abbrev pub conditional_outcome : Outcome → Outcome → Outcome → Outcome
conditional_outcome c x y = let unsigned = x.unsigned || y.unsigned in
    record { unsigned = unsigned; number = result_and_then (λ m. result_map (converted unsigned) (if is_zero m then y.number else x.number)) c.number }

abbrev pub outcome : Expression → Outcome
outcome (constant v) = constant_outcome v
outcome (unary op a) = unary_outcome op (outcome a)
outcome (binary op a b) = binary_outcome op (outcome a) (outcome b)
outcome (conditional c a b) = conditional_outcome (outcome c) (outcome a) (outcome b)

-- the value, or the cause
abbrev pub result_of : Outcome → Result Typed Cause
result_of o = result_map (typed o.unsigned) o.number
