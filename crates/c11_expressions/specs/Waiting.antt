-- What waits at a place of an expression of #if, where it is read from left to right: operands,
-- operators and open parentheses (C11 6.5, 6.6).
use Rattle.std.specs.Prelude.{◌≡◌, ℕ, suc, ◌≤◌, ℤ, Bool, true, false, not, List, [], ◌∷◌, ◌++◌, Some, Result, Ok, Err}
use Rattle.c11_expressions.specs.Arithmetic.{Typed, is_zero}
use Rattle.c11_expressions.specs.declared.binary.Binary.{Binary}
use Rattle.c11_expressions.specs.declared.punctuator.Punctuator.{Punctuator}
use Rattle.c11_expressions.specs.declared.punctuator.Punctuator.TheVariants.{Open, Question, Colon, Binary as Infix}
use Rattle.c11_expressions.specs.declared.unary.Unary.{Unary}
use Rattle.c11_expressions.specs.Expressions.{Expression, Outcome, outcome, is_decided, result_of}
use Rattle.c11_expressions.specs.Grammar.{Symbol, mark, as_unary, level_of, Phrase}
use Rattle.sc_model.specs.declared.cause.Cause.{Cause}

-- An operand that was read: its value, or the cause that evaluating it gave. Of one that is not
-- evaluated the type alone counts: whether it is unsigned.
pub data Operand : Type 0 where
  value : Typed → Operand
  fault : Cause → Operand
  unevaluated : Bool → Operand

abbrev pub evaluated : Result Typed Cause → Operand
evaluated (Ok v) = value v
evaluated (Err cause) = fault cause

-- what is kept of an outcome
abbrev pub operand_of : Bool → Outcome → Operand
operand_of true x = evaluated (result_of x)
operand_of false x = unevaluated x.unsigned

-- What waits for an operand: a parenthesis, an operator before it, a left operand with its
-- operator, what stands before `?`, and that with what stands before `:`.
pub data Waiting : Type 0 where
  parenthesis : Waiting
  prefix : Unary → Waiting
  left : Binary → Operand → Waiting
  condition : Operand → Waiting
  branch : Operand → Operand → Waiting

abbrev pub passes : (ℤ → Bool) → Operand → Bool
passes test (value v) = test v.number
passes test (fault cause) = false
passes test (unevaluated unsigned) = false

-- Whether the operand behind these is evaluated (6.5.13p4, 6.5.14p4, 6.5.15p4), the innermost
-- first. Behind a fault none is.
abbrev pub is_evaluated : List Waiting → Bool
is_evaluated [] = true
is_evaluated (parenthesis ∷ ws) = is_evaluated ws
is_evaluated (prefix op ∷ ws) = is_evaluated ws
is_evaluated (left op x ∷ ws) = passes (λ m. not (is_decided op m)) x
is_evaluated (condition c ∷ ws) = passes (λ m. not (is_zero m)) c
is_evaluated (branch c x ∷ ws) = passes is_zero c

-- the loosest level of an operand that they take next
abbrev pub needed : List Waiting → ℕ
needed [] = 0
needed (parenthesis ∷ ws) = 0
needed (prefix op ∷ ws) = 11
needed (left op x ∷ ws) = suc (level_of op)
needed (condition c ∷ ws) = 0
needed (branch c x ∷ ws) = 0

-- the symbols are those of what waits, the innermost last
pub data AreWaiting : List Waiting → List Symbol → Type 0 where
  start : AreWaiting [] []
  opened : (ws : List Waiting) (ts : List Symbol) → AreWaiting ws ts → AreWaiting (parenthesis ∷ ws) (ts ++ mark Open ∷ [])
  before : (ws : List Waiting) (ts : List Symbol) (p : Punctuator) (op : Unary) → AreWaiting ws ts → as_unary p ≡ Some op → AreWaiting (prefix op ∷ ws) (ts ++ mark p ∷ [])
  infixed : (ws : List Waiting) (ts xs : List Symbol) (op : Binary) (x : Operand) (a : Expression) → AreWaiting ws ts → needed ws ≤ level_of op → Phrase (level_of op) xs a
      → x ≡ operand_of (is_evaluated ws) (outcome a) → AreWaiting (left op x ∷ ws) (ts ++ (xs ++ mark (Infix op) ∷ []))
  asked : (ws : List Waiting) (ts cs : List Symbol) (x : Operand) (c : Expression) → AreWaiting ws ts → needed ws ≡ 0 → Phrase 1 cs c
      → x ≡ operand_of (is_evaluated ws) (outcome c) → AreWaiting (condition x ∷ ws) (ts ++ (cs ++ mark Question ∷ []))
  parted : (ws : List Waiting) (ts cs xs : List Symbol) (x y : Operand) (c a : Expression) → AreWaiting ws ts → needed ws ≡ 0 → Phrase 1 cs c → Phrase 0 xs a
      → x ≡ operand_of (is_evaluated ws) (outcome c) → y ≡ operand_of (is_evaluated (condition x ∷ ws)) (outcome a)
      → AreWaiting (branch x y ∷ ws) (ts ++ (cs ++ mark Question ∷ (xs ++ mark Colon ∷ [])))
