-- What the lines of #include and #line say behind the name of the directive.
use Rattle.std.specs.Prelude.{◌≡◌, ℕ, ◌&&◌, nat_le, Bool, true, false, List, [], ◌∷◌, drop, Result, Ok}
use Rattle.std.specs.List.{list_all}
use Rattle.c11_expressions.specs.Constants.{number_of}
use Rattle.c11_tokens.specs.declared.base.Base.TheVariants.{Decimal}
use Rattle.c11_directives.specs.Lines.{Line}
use Rattle.c11_macros.specs.Macros.{Macros}
use Rattle.c11_macros.specs.Text.{TextExpands}
use Rattle.sc_model.specs.Bytes.{begins_with, is_digit}
use Rattle.sc_model.specs.declared.kind.Kind.{Kind}
use Rattle.sc_model.specs.declared.kind.Kind.TheVariants as kind
use Rattle.sc_model.specs.Fault.{Fault}
use Rattle.sc_model.specs.Token.{Token}

-- what a line says behind the name of its directive
abbrev pub behind_name : Line → List Token
behind_name line = drop 2 line.tokens

abbrev pub is_header_kind : Kind → Bool
is_header_kind kind.Header = true
is_header_kind _ = false

-- a header name stands first (6.4.7)
abbrev pub begins_with_header : List Token → Bool
begins_with_header [] = false
begins_with_header (t ∷ ts) = is_header_kind t.kind

-- What stands there, or where that is no header name, what it expands to (6.10.2p4, 6.10.4p5).
pub data Says (macros : Macros) (line : Line) : Result (List Token) Fault → Type 0 where
  as_it_stands : begins_with_header (behind_name line) ≡ true → Says macros line (Ok (behind_name line))
  expanded : {r : Result (List Token) Fault} → begins_with_header (behind_name line) ≡ false → TextExpands macros (behind_name line) r → Says macros line r

-- the greatest number of a line (6.10.4p3)
abbrev pub greatest_line : ℕ
greatest_line = 2147483647

-- digits alone, of a number that a line can have
abbrev pub is_line_number : List ℕ → Bool
is_line_number digits = list_all is_digit digits && (nat_le 1 (number_of Decimal digits) && nat_le (number_of Decimal digits) greatest_line)

abbrev pub is_number_of_line : Kind → List ℕ → Bool
is_number_of_line kind.Number spelling = is_line_number spelling
is_number_of_line _ spelling = false

-- a string literal without prefix
abbrev pub is_file_text : Kind → List ℕ → Bool
is_file_text kind.Text spelling = begins_with (34 ∷ []) spelling
is_file_text _ spelling = false

-- the number of a line, and the name of a file or nothing (6.10.4p3, p4)
abbrev pub is_numbering : List Token → Bool
is_numbering (n ∷ []) = is_number_of_line n.kind n.spelling
is_numbering (n ∷ t ∷ []) = is_number_of_line n.kind n.spelling && is_file_text t.kind t.spelling
is_numbering _ = false
