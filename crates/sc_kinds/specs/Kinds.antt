-- The terminal that a preprocessing token is converted to (C11 6.4p2).
use Rattle.std.specs.Prelude.{ℕ, ◌||◌, Bool, List, take, drop, Option, Some, None, is_some, unwrap_or, if◌then◌else◌}
use Rattle.std.specs.List.{position_from}
use Rattle.c11_tokens.specs.Constants.{integer_form, is_floating}
use Rattle.sc_grammar.specs.Terminals.{terminal_names}
use Rattle.sc_model.specs.declared.kind.Kind.{Kind}
use Rattle.sc_model.specs.declared.kind.Kind.TheVariants.{Identifier, Number, Character, Text, Punctuator}
use Rattle.sc_model.specs.Bytes.{same_bytes}
use Rattle.sc_model.specs.Token.{name_of}
use Rattle.sc_model.specs.declared.standard.Standard.{Standard}

-- Among so many terminals from the first on, the number of the one that is written so.
unfoldable pub terminal_written : ℕ → ℕ → List ℕ → Option ℕ
terminal_written first count spelling = position_from (λ name. same_bytes name spelling) first (take count (drop first terminal_names))

-- the keywords (6.4.1)
abbrev pub keyword : List ℕ → Option ℕ
keyword = terminal_written 5 44

-- the punctuators (6.4.6) without `#` and `##`
abbrev pub punctuator : List ℕ → Option ℕ
punctuator = terminal_written 49 46

-- a number that is a constant (6.4.4)
abbrev pub is_constant : Standard → List ℕ → Bool
is_constant standard spelling = is_some (integer_form standard spelling) || is_floating spelling

-- An identifier that is no keyword is NAME first (0), a constant is CONSTANT (3), a string literal
-- STRING (4).
unfoldable pub terminal_of : Standard → Kind → List ℕ → Option ℕ
terminal_of standard Identifier spelling = Some (unwrap_or (keyword spelling) 0)
terminal_of standard Number spelling = if is_constant standard spelling then Some 3 else None
terminal_of standard Character spelling = Some 3
terminal_of standard Text spelling = Some 4
terminal_of standard Punctuator spelling = punctuator (name_of spelling)
terminal_of standard _ spelling = None
