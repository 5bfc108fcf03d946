-- The grammar of the expressions of #if: that of 6.5.15 with constants for operands, without the
-- comma and assignment (6.6p3), casts, sizeof, ++ and --.
use Rattle.std.specs.Prelude.{ℕ, suc, List, [], ◌∷◌, ◌++◌, Option, Some, None, ◌≡◌}
use Rattle.c11_expressions.specs.Arithmetic.{Typed}
use Rattle.c11_expressions.specs.declared.binary.Binary.{Binary}
use Rattle.c11_expressions.specs.declared.binary.Binary.TheVariants as binary
use Rattle.c11_expressions.specs.declared.punctuator.Punctuator.{Punctuator}
use Rattle.c11_expressions.specs.declared.punctuator.Punctuator.TheVariants.{Open, Close, Question, Colon, Unary, Binary as Infix}
use Rattle.c11_expressions.specs.declared.unary.Unary as declared
use Rattle.c11_expressions.specs.declared.unary.Unary.TheVariants as sign
use Rattle.c11_expressions.specs.Expressions.{Expression, constant, unary, binary, conditional}

-- what a token is in an expression
pub data Symbol : Type 0 where
  operand : Typed → Symbol
  mark : Punctuator → Symbol

-- how tightly an operator binds: each level is a production of 6.5.5 to 6.5.14
abbrev pub level_of : Binary → ℕ
level_of binary.Or = 1
level_of binary.And = 2
level_of binary.BitOr = 3
level_of binary.BitXor = 4
level_of binary.BitAnd = 5
level_of binary.Equal = 6
level_of binary.NotEqual = 6
level_of binary.Less = 7
level_of binary.LessOrEqual = 7
level_of binary.Greater = 7
level_of binary.GreaterOrEqual = 7
level_of binary.ShiftLeft = 8
level_of binary.ShiftRight = 8
level_of binary.Add = 9
level_of binary.Subtract = 9
level_of binary.Multiply = 10
level_of binary.Divide = 10
level_of binary.Remainder = 10

-- a punctuator before an operand (6.5.3)
abbrev pub as_unary : Punctuator → Option declared.Unary
as_unary (Unary op) = Some op
as_unary (Infix binary.Add) = Some sign.Plus
as_unary (Infix binary.Subtract) = Some sign.Minus
as_unary _ = None

-- the symbols are an expression of this level: 0 conditional (6.5.15), then those of the operators,
-- 11 unary (6.5.3), 12 primary (6.5.1)
pub data Phrase : ℕ → List Symbol → Expression → Type 0 where
  number : (v : Typed) → Phrase 12 (operand v ∷ []) (constant v)
  parenthesized : (ts : List Symbol) (e : Expression) → Phrase 0 ts e → Phrase 12 (mark Open ∷ (ts ++ mark Close ∷ [])) e
  prefixed : (p : Punctuator) (op : declared.Unary) (ts : List Symbol) (e : Expression) → as_unary p ≡ Some op → Phrase 11 ts e → Phrase 11 (mark p ∷ ts) (unary op e)
  joined : (op : Binary) (xs ys : List Symbol) (a b : Expression) → Phrase (level_of op) xs a → Phrase (suc (level_of op)) ys b
      → Phrase (level_of op) (xs ++ mark (Infix op) ∷ ys) (binary op a b)
  chosen : (cs xs ys : List Symbol) (c a b : Expression) → Phrase 1 cs c → Phrase 0 xs a → Phrase 0 ys b
      → Phrase 0 (cs ++ mark Question ∷ (xs ++ mark Colon ∷ ys)) (conditional c a b)
  tighter : (n : ℕ) (ts : List Symbol) (e : Expression) → Phrase (suc n) ts e → Phrase n ts e
