-- What tokens are in an expression of #if, once macros are expanded (C11 6.10.1p4).
use Rattle.std.specs.Prelude.{ℕ, pos, false, List, [], ◌∷◌, codes, Option, Some, None, option_map, if◌then◌else◌}
use Rattle.c11_expressions.specs.Arithmetic.{typed}
use Rattle.c11_expressions.specs.Constants.{integer_value, character_value}
use Rattle.c11_expressions.specs.declared.binary.Binary.TheVariants as binary
use Rattle.c11_expressions.specs.declared.punctuator.Punctuator.{Punctuator}
use Rattle.c11_expressions.specs.declared.punctuator.Punctuator.TheVariants.{Open, Close, Question, Colon, Unary, Binary}
use Rattle.c11_expressions.specs.declared.unary.Unary.TheVariants.{Complement, Not}
use Rattle.c11_expressions.specs.Grammar.{Symbol, operand, mark}
use Rattle.sc_model.specs.Bytes.{same_bytes}
use Rattle.sc_model.specs.declared.kind.Kind.{Kind}
use Rattle.sc_model.specs.declared.kind.Kind.TheVariants as kind
use Rattle.sc_model.specs.declared.standard.Standard.{Standard}

abbrev pub punctuators : List (List ℕ × Punctuator)
punctuators =
    (codes "(", Open)
    ∷ (codes ")", Close)
    ∷ (codes "?", Question)
    ∷ (codes ":", Colon)
    ∷ (codes "~", Unary Complement)
    ∷ (codes "!", Unary Not)
    ∷ (codes "*", Binary binary.Multiply)
    ∷ (codes "/", Binary binary.Divide)
    ∷ (codes "%", Binary binary.Remainder)
    ∷ (codes "+", Binary binary.Add)
    ∷ (codes "-", Binary binary.Subtract)
    ∷ (codes "<<", Binary binary.ShiftLeft)
    ∷ (codes ">>", Binary binary.ShiftRight)
    ∷ (codes "<", Binary binary.Less)
    ∷ (codes "<=", Binary binary.LessOrEqual)
    ∷ (codes ">", Binary binary.Greater)
    ∷ (codes ">=", Binary binary.GreaterOrEqual)
    ∷ (codes "==", Binary binary.Equal)
    ∷ (codes "!=", Binary binary.NotEqual)
    ∷ (codes "&", Binary binary.BitAnd)
    ∷ (codes "^", Binary binary.BitXor)
    ∷ (codes "|", Binary binary.BitOr)
    ∷ (codes "&&", Binary binary.And)
    ∷ (codes "||", Binary binary.Or)
    ∷ []

abbrev pub named : List (List ℕ × Punctuator) → List ℕ → Option Punctuator
named [] text = None
named (p ∷ ps) text = if same_bytes text p.0 then Some p.1 else named ps text

-- an identifier is 0, also where it is a keyword
abbrev pub symbol_of : Standard → Kind → List ℕ → Option Symbol
symbol_of standard kind.Number text = option_map operand (integer_value standard text)
symbol_of standard kind.Character text = option_map operand (character_value text)
symbol_of standard kind.Identifier text = Some (operand (typed false (pos 0)))
symbol_of standard kind.Punctuator text = option_map mark (named punctuators text)
symbol_of standard _ text = None
