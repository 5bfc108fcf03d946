-- Symbols as the definitions see them.
use Rattle.std.specs.Prelude.{ℕ, List, Option}
use Rattle.c11_expressions.specs.Grammar as grammar
use Rattle.c11_expressions.specs.Symbols.{symbol_of}
use Rattle.sc_base.specs.declared.token.Token.{Token}
use Rattle.sc_base.specs.Seen.{text_at}
use Rattle.sc_if.specs.declared.symbol.Symbol.{Symbol}
use Rattle.sc_if.specs.declared.symbol.Symbol.TheVariants.{Operand, Mark}
use Rattle.sc_if.specs.Seen.{seen_value}
use Rattle.sc_model.specs.declared.standard.Standard.{Standard}

abbrev pub seen_symbol : Symbol → grammar.Symbol
seen_symbol (Operand v) = grammar.operand (seen_value v)
seen_symbol (Mark p) = grammar.mark p

-- the symbol that a token is, if it is one
abbrev pub symbol_at : Standard → List (List ℕ) → Token → Option grammar.Symbol
symbol_at standard names t = symbol_of standard t.kind (text_at names t.spelling.0)
