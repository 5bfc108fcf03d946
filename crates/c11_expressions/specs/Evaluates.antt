-- What the tokens of an #if come to, once macros are expanded (C11 6.10.1p4).
use Rattle.std.specs.Prelude.{◌≡◌, List, Option, Some, Result, Err, map}
use Rattle.c11_expressions.specs.Arithmetic.{Typed}
use Rattle.c11_expressions.specs.Expressions.{Expression, outcome, result_of}
use Rattle.c11_expressions.specs.Grammar.{Symbol, Phrase}
use Rattle.sc_model.specs.declared.cause.Cause.{Cause}
use Rattle.sc_model.specs.declared.cause.Cause.TheVariants.{BadIf}

-- tokens as an expression knows them: the symbol that each is, if it is one
abbrev pub Symbols : Type 0
Symbols = List (Option Symbol)

-- each token is a symbol, and they are an expression
pub record IsExpression (ts : Symbols) (e : Expression) : Type 0 where
  pub symbols : List Symbol
  pub each : ts ≡ map Some symbols
  pub form : Phrase 0 symbols e

-- the value of the expression that they are, or the cause of its first fault; where they are none,
-- that is the cause
pub data Evaluates (ts : Symbols) : Result Typed Cause → Type 0 where
  evaluated : (e : Expression) → IsExpression ts e → Evaluates ts (result_of (outcome e))
  refused : ((e : Expression) → IsExpression ts e → ⊥) → Evaluates ts (Err BadIf)
