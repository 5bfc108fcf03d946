-- What operators make of operands that are evaluated or not.
use Rattle.std.proofs.Common.{◌≡◌, ℤ, Bool, true, false, ◌||◌, not, Result, Ok, Err, List, ◌∷◌, refl, if◌then◌else◌}
use Rattle.c11_expressions.specs.Arithmetic.{typed, truth, is_zero, binary_unsigned}
use Rattle.c11_expressions.specs.declared.binary.Binary.{Binary}
use Rattle.c11_expressions.specs.declared.binary.Binary.TheVariants.{And, Or}
use Rattle.c11_expressions.specs.declared.unary.Unary.{Unary}
use Rattle.c11_expressions.specs.Expressions.{Outcome, binary_outcome, conditional_outcome, is_decided, result_of, unary_outcome}
use Rattle.c11_expressions.specs.Waiting.{Waiting, value, operand_of, is_evaluated, left, condition, branch}
use Rattle.c11_expressions.proofs.Reader.{binary_operand, conditional_operand, operand_behind, converted_operand, is_unsigned, result_of_operand, unary_operand}
use Rattle.sc_model.specs.declared.cause.Cause.{Cause}

abbrev pub outcome_of : Bool → Result ℤ Cause → Outcome
outcome_of unsigned number = record { unsigned = unsigned; number = number }

pub result-evaluated : (x : Outcome) → result_of_operand (operand_of true x) ≡ result_of x
result-evaluated x = by x.unsigned x.number
  where
    by : (u : Bool) (n : Result ℤ Cause) → result_of_operand (operand_of true (outcome_of u n)) ≡ result_of (outcome_of u n)
    by u (Ok n) = refl
    by u (Err cause) = refl

pub closed-unary : (op : Unary) (b : Bool) (x : Outcome) → unary_operand op (operand_of b x) ≡ operand_of b (unary_outcome op x)
closed-unary op false x = refl
closed-unary op true x = by x.unsigned x.number
  where
    by : (u : Bool) (n : Result ℤ Cause) → unary_operand op (operand_of true (outcome_of u n)) ≡ operand_of true (unary_outcome op (outcome_of u n))
    by u (Ok n) = refl
    by u (Err cause) = refl

-- the result of && and || is signed
pub decided-signed : (op : Binary) (m : ℤ) (x y : Bool) → is_decided op m ≡ true → binary_unsigned op x y ≡ false
decided-signed And m x y e = refl
decided-signed Or m x y e = refl
decided-signed _ m x y e = absurd (cc)

pub closed-binary : (op : Binary) (ws : List Waiting) (b : Bool) (x y : Outcome)
    → binary_operand op (operand_of b x) (operand_of (is_evaluated (left op (operand_of b x) ∷ ws)) y) ≡ operand_of b (binary_outcome op x y)
closed-binary op ws false x y = refl
closed-binary op ws true x y = by x.unsigned x.number y.unsigned y.number
  where
    undecided : (u v : Bool) (m : ℤ) (n : Result ℤ Cause) → is_decided op m ≡ false → operand_behind op (typed u m) (operand_of true (outcome_of v n)) ≡ operand_of true (binary_outcome op (outcome_of u (Ok m)) (outcome_of v n))
    undecided u v m (Ok n) e = rw e refl
    undecided u v m (Err cause) e = rw e refl

    value-by : (u v : Bool) (m : ℤ) (n : Result ℤ Cause) (d : Bool) → is_decided op m ≡ d
        → (if d then value (typed false (truth (not (is_zero m)))) else operand_behind op (typed u m) (operand_of (not d) (outcome_of v n))) ≡ operand_of true (binary_outcome op (outcome_of u (Ok m)) (outcome_of v n))
    value-by u v m n true e = let s = decided-signed op m u v e in rw (e, s) refl
    value-by u v m n false e = undecided u v m n e

    by : (u : Bool) (m : Result ℤ Cause) (v : Bool) (n : Result ℤ Cause)
        → binary_operand op (operand_of true (outcome_of u m)) (operand_of (is_evaluated (left op (operand_of true (outcome_of u m)) ∷ ws)) (outcome_of v n)) ≡ operand_of true (binary_outcome op (outcome_of u m) (outcome_of v n))
    by u (Ok m) v n = value-by u v m n (is_decided op m) refl
    by u (Err cause) v n = refl

or-swap : (a b : Bool) → (a || b) ≡ (b || a)
or-swap true true = refl
or-swap true false = refl
or-swap false true = refl
or-swap false false = refl

pub closed-conditional : (ws : List Waiting) (b : Bool) (c x y : Outcome)
    → conditional_operand (operand_of b c) (operand_of (is_evaluated (condition (operand_of b c) ∷ ws)) x)
    (operand_of (is_evaluated (branch (operand_of b c) (operand_of (is_evaluated (condition (operand_of b c) ∷ ws)) x) ∷ ws)) y) ≡ operand_of b (conditional_outcome c x y)
closed-conditional ws false c x y = refl
closed-conditional ws true c x y = by c.unsigned c.number x.unsigned x.number y.unsigned y.number
  where
    second : (u v : Bool) (n : Result ℤ Cause) (m : ℤ) (w : Bool) (k : Result ℤ Cause) → is_zero m ≡ true
        → converted_operand u (operand_of true (outcome_of v n)) ≡ operand_of true (conditional_outcome (outcome_of w (Ok m)) (outcome_of u k) (outcome_of v n))
    second u v (Ok n) m w k e = let s = or-swap u v in rw (e, s) refl
    second u v (Err cause) m w k e = rw e refl

    first : (u v : Bool) (n : Result ℤ Cause) (m : ℤ) (w : Bool) (k : Result ℤ Cause) → is_zero m ≡ false
        → converted_operand v (operand_of true (outcome_of u n)) ≡ operand_of true (conditional_outcome (outcome_of w (Ok m)) (outcome_of u n) (outcome_of v k))
    first u v (Ok n) m w k e = rw e refl
    first u v (Err cause) m w k e = rw e refl

    value-by : (w : Bool) (m : ℤ) (u : Bool) (n : Result ℤ Cause) (v : Bool) (k : Result ℤ Cause) (z : Bool) → is_zero m ≡ z
        → (if z then converted_operand (is_unsigned (operand_of (not z) (outcome_of u n))) (operand_of z (outcome_of v k)) else converted_operand (is_unsigned (operand_of z (outcome_of v k))) (operand_of (not z) (outcome_of u n)))
        ≡ operand_of true (conditional_outcome (outcome_of w (Ok m)) (outcome_of u n) (outcome_of v k))
    value-by w m u n v k true e = second u v k m w n e
    value-by w m u n v k false e = first u v n m w k e

    by : (w : Bool) (m : Result ℤ Cause) (u : Bool) (n : Result ℤ Cause) (v : Bool) (k : Result ℤ Cause)
        → conditional_operand (operand_of true (outcome_of w m)) (operand_of (is_evaluated (condition (operand_of true (outcome_of w m)) ∷ ws)) (outcome_of u n))
        (operand_of (is_evaluated (branch (operand_of true (outcome_of w m)) (operand_of (is_evaluated (condition (operand_of true (outcome_of w m)) ∷ ws)) (outcome_of u n)) ∷ ws)) (outcome_of v k))
        ≡ operand_of true (conditional_outcome (outcome_of w m) (outcome_of u n) (outcome_of v k))
    by w (Ok m) u n v k = value-by w m u n v k (is_zero m) refl
    by w (Err cause) u n v k = refl
