-- From the bytes of a file to its tokens (C11 5.1.1.2, 6.4).
use Rattle.std.specs.Prelude.{◌≡◌, ℕ, zero, suc, ◌+◌, ◌<◌, ◌≤◌, ◌==◌, ◌&&◌, ◌||◌, not, Bool, true, false, List, [], ◌∷◌, ◌++◌, length, map, take, drop, codes, Option, Some, None, Result, Ok, Err, if◌then◌else◌}
use Rattle.std.specs.List.{list_all, list_any, count_by}
use Rattle.sc_model.specs.declared.kind.Kind.{Kind}
use Rattle.sc_model.specs.declared.kind.Kind.TheVariants.{Identifier, Number, Character, Text, Header, Punctuator, Other, Newline}
use Rattle.sc_model.specs.Bytes.{same_bytes, begins_with, is_digit, is_hex_digit, is_letter, has_no_newline}
use Rattle.sc_model.specs.Token.{Position, Lexeme, name_of}

-- a byte with its physical line and column, both from 1
pub record Marked : Type 0 where
  pub byte : ℕ
  pub position : Position

abbrev pub marked_from : ℕ → ℕ → List ℕ → List Marked
marked_from line column [] = []
marked_from line column (b ∷ bs) =
    record { byte = b; position = record { line = line; column = column } }
    ∷ (if b == 10 then marked_from (line + 1) 1 bs else marked_from line (column + 1) bs)

abbrev pub bytes_of : List Marked → List ℕ
bytes_of ms = map (λ m. m.byte) ms

-- Phase 1. The byte order mark at a file's start is skipped.
abbrev pub without_order_mark : List Marked → List Marked
without_order_mark ms = if begins_with (239 ∷ 187 ∷ 191 ∷ []) (bytes_of ms) then drop 3 ms else ms

-- a carriage return directly before a newline is dropped
abbrev pub without_returns : List Marked → List Marked
without_returns [] = []
without_returns (m ∷ ms) =
    if (m.byte == 13) && begins_with (10 ∷ []) (bytes_of ms) then without_returns ms else m ∷ without_returns ms

-- a text that isn't empty and lacks a last newline gets one
abbrev pub with_last_newline : List Marked → List Marked
with_last_newline [] = []
with_last_newline (m ∷ []) =
    if m.byte == 10 then m ∷ []
    else m ∷ record { byte = 10; position = record { line = m.position.line; column = m.position.column + 1 } } ∷ []
with_last_newline (m ∷ n ∷ ms) = m ∷ with_last_newline (n ∷ ms)

-- the byte that `??` stands for with the byte after it (5.2.1.1)
abbrev pub trigraph_end : ℕ → Option ℕ
trigraph_end c =
    if c == 61 then Some 35
    else (if c == 40 then Some 91
    else (if c == 47 then Some 92
    else (if c == 41 then Some 93
    else (if c == 39 then Some 94
    else (if c == 60 then Some 123
    else (if c == 33 then Some 124
    else (if c == 62 then Some 125
    else (if c == 45 then Some 126 else None))))))))

abbrev pub trigraph : ℕ → ℕ → ℕ → Option ℕ
trigraph a b c = if (a == 63) && (b == 63) then trigraph_end c else None

-- a trigraph sequence is replaced by one byte, which stands where the sequence begins
abbrev pub replaced : Marked → Option ℕ → List Marked → List Marked → List Marked
replaced m (Some byte) kept rest = record { byte = byte; position = m.position } ∷ rest
replaced m None kept rest = m ∷ kept

abbrev pub without_trigraphs : List Marked → List Marked
without_trigraphs [] = []
without_trigraphs (m ∷ []) = m ∷ []
without_trigraphs (m ∷ n ∷ []) = m ∷ n ∷ []
without_trigraphs (m ∷ n ∷ o ∷ ms) =
    replaced m (trigraph m.byte n.byte o.byte) (without_trigraphs (n ∷ o ∷ ms)) (without_trigraphs ms)

abbrev pub phase_1 : List ℕ → List Marked
phase_1 bytes = without_trigraphs (with_last_newline (without_returns (without_order_mark (marked_from 1 1 bytes))))

-- Phase 2. A backslash directly before a newline is deleted with it.
abbrev pub is_splice : Marked → Marked → Bool
is_splice m n = (m.byte == 92) && (n.byte == 10)

-- a last newline that is so lost is supplied where it stood
abbrev pub without_splices : List Marked → List Marked
without_splices [] = []
without_splices (m ∷ []) = m ∷ []
without_splices (m ∷ n ∷ []) = if is_splice m n then n ∷ [] else m ∷ n ∷ []
without_splices (m ∷ n ∷ o ∷ ms) =
    if is_splice m n then without_splices (o ∷ ms) else m ∷ without_splices (n ∷ o ∷ ms)

abbrev pub phase_2 : List ℕ → List Marked
phase_2 bytes = without_splices (phase_1 bytes)

-- where a file ends: the line after the last newline that phase 1 leaves or supplies
abbrev pub end_position : List ℕ → Position
end_position bytes = record { line = 1 + count_by (λ m. m.byte == 10) (phase_1 bytes); column = 1 }

-- Phase 3. What a piece of the text can be: white space (6.4p3), or a token.
pub data PieceKind : Type 0 where
  blank : PieceKind
  comment : PieceKind
  token : Kind → PieceKind

abbrev pub is_blank : ℕ → Bool
is_blank b = b == 9 || b == 11 || b == 12 || b == 13 || b == 32

-- Letters, digits and universal character names (6.4.2, 6.4.3), as many hexadecimal digits first as
-- a name that began still wants.
abbrev mutual
  pub goes_on : ℕ → List ℕ → Bool
  goes_on zero [] = true
  goes_on (suc due) [] = false
  goes_on (suc due) (b ∷ bs) = is_hex_digit b && goes_on due bs
  goes_on zero (b ∷ bs) = ((is_letter b || is_digit b) && goes_on zero bs) || (b == 92 && is_named bs)

  -- after the backslash
  pub is_named : List ℕ → Bool
  is_named [] = false
  is_named (b ∷ bs) = (b == 117 && goes_on 4 bs) || (b == 85 && goes_on 8 bs)

abbrev pub is_identifier : List ℕ → Bool
is_identifier [] = false
is_identifier (b ∷ bs) = (is_letter b || b == 92) && goes_on 0 (b ∷ bs)

-- e, E, p or P
abbrev pub is_exponent : ℕ → Bool
is_exponent b = b == 101 || b == 69 || b == 112 || b == 80

-- The rest of a preprocessing number (6.4.8): after an exponent letter a sign may stand.
abbrev mutual
  pub number_goes_on : Bool → ℕ → List ℕ → Bool
  number_goes_on exponent zero [] = true
  number_goes_on exponent (suc due) [] = false
  number_goes_on exponent (suc due) (b ∷ bs) = is_hex_digit b && number_goes_on false due bs
  number_goes_on exponent zero (b ∷ bs) =
      ((is_letter b || is_digit b || b == 46) && number_goes_on (is_exponent b) zero bs)
      || (exponent && (b == 43 || b == 45) && number_goes_on false zero bs)
      || (b == 92 && number_is_named bs)

  pub number_is_named : List ℕ → Bool
  number_is_named [] = false
  number_is_named (b ∷ bs) = (b == 117 && number_goes_on false 4 bs) || (b == 85 && number_goes_on false 8 bs)

abbrev pub begins_with_digit : List ℕ → Bool
begins_with_digit [] = false
begins_with_digit (b ∷ bs) = is_digit b

abbrev pub is_number : List ℕ → Bool
is_number [] = false
is_number (b ∷ bs) = (is_digit b || (b == 46 && begins_with_digit bs)) && number_goes_on false 0 bs

-- Up to the closing quote, which is the last byte (6.4.4.4, 6.4.5); a backslash takes the byte
-- after it along.
abbrev mutual
  pub closes : ℕ → List ℕ → Bool
  closes quote [] = false
  closes quote (b ∷ bs) =
      if b == quote then same_bytes bs []
      else (if b == 92 then escapes quote bs else not (b == 10) && closes quote bs)

  pub escapes : ℕ → List ℕ → Bool
  escapes quote [] = false
  escapes quote (b ∷ bs) = not (b == 10) && closes quote bs

-- from the opening quote on, with something between the quotes where that is asked for
abbrev pub is_quoted : ℕ → Bool → List ℕ → Bool
is_quoted quote filled bs =
    begins_with (quote ∷ []) bs && closes quote (drop 1 bs) && not (filled && begins_with (quote ∷ []) (drop 1 bs))

-- behind one of these prefixes
abbrev pub is_prefixed : (List ℕ → Bool) → List (List ℕ) → List ℕ → Bool
is_prefixed test prefixes bs = list_any (λ prefix. begins_with prefix bs && test (drop (length prefix) bs)) prefixes

abbrev pub is_character : List ℕ → Bool
is_character = is_prefixed (is_quoted 39 true) ([] ∷ codes "L" ∷ codes "u" ∷ codes "U" ∷ [])

abbrev pub is_text : List ℕ → Bool
is_text = is_prefixed (is_quoted 34 false) ([] ∷ codes "u8" ∷ codes "u" ∷ codes "U" ∷ codes "L" ∷ [])

-- up to the closing byte, which is the last one
abbrev pub header_closes : ℕ → List ℕ → Bool
header_closes end [] = false
header_closes end (b ∷ bs) = if b == end then same_bytes bs [] else not (b == 10) && header_closes end bs

abbrev pub is_delimited : ℕ → ℕ → List ℕ → Bool
is_delimited start end bs =
    begins_with (start ∷ []) bs && header_closes end (drop 1 bs) && not (begins_with (end ∷ []) (drop 1 bs))

-- a header name (6.4.7)
abbrev pub is_header : List ℕ → Bool
is_header bs = is_delimited 60 62 bs || is_delimited 34 34 bs

-- 6.4.6
abbrev pub punctuators : List (List ℕ)
punctuators =
    codes "[" ∷ codes "]" ∷ codes "(" ∷ codes ")" ∷ codes "{" ∷ codes "}" ∷ codes "." ∷ codes "->"
    ∷ codes "++" ∷ codes "--" ∷ codes "&" ∷ codes "*" ∷ codes "+" ∷ codes "-" ∷ codes "~" ∷ codes "!"
    ∷ codes "/" ∷ codes "%" ∷ codes "<<" ∷ codes ">>" ∷ codes "<" ∷ codes ">" ∷ codes "<=" ∷ codes ">=" ∷ codes "==" ∷ codes "!=" ∷ codes "^" ∷ codes "|" ∷ codes "&&" ∷ codes "||"
    ∷ codes "?" ∷ codes ":" ∷ codes ";" ∷ codes "..."
    ∷ codes "=" ∷ codes "*=" ∷ codes "/=" ∷ codes "%=" ∷ codes "+=" ∷ codes "-=" ∷ codes "<<=" ∷ codes ">>=" ∷ codes "&=" ∷ codes "^=" ∷ codes "|="
    ∷ codes "," ∷ codes "#" ∷ codes "##"
    ∷ codes "<:" ∷ codes ":>" ∷ codes "<%" ∷ codes "%>" ∷ codes "%:" ∷ codes "%:%:" ∷ []

abbrev pub is_punctuator : List ℕ → Bool
is_punctuator bs = list_any (same_bytes bs) punctuators

-- up to the first end of a comment, which is the last two bytes
abbrev pub comment_closes : List ℕ → Bool
comment_closes [] = false
comment_closes (b ∷ bs) =
    if (b == 42) && begins_with (47 ∷ []) bs then same_bytes bs (47 ∷ []) else comment_closes bs

-- 6.4.9
abbrev pub is_comment : List ℕ → Bool
is_comment bs =
    (begins_with (47 ∷ 42 ∷ []) bs && comment_closes (drop 2 bs))
    || (begins_with (47 ∷ 47 ∷ []) bs && has_no_newline bs)

-- white-space characters other than newlines, which go together (5.1.1.2p1, phase 3)
abbrev pub is_white_space : List ℕ → Bool
is_white_space [] = false
is_white_space (b ∷ bs) = is_blank b && list_all is_blank bs

-- any single byte (6.4p1, the last form of a preprocessing token), where no kind above fits
abbrev pub is_one_byte : List ℕ → Bool
is_one_byte [] = false
is_one_byte (b ∷ bs) = same_bytes bs []

abbrev pub fits : PieceKind → List ℕ → Bool
fits blank bs = is_white_space bs
fits comment bs = is_comment bs
fits (token Identifier) bs = is_identifier bs
fits (token Number) bs = is_number bs
fits (token Character) bs = is_character bs
fits (token Text) bs = is_text bs
fits (token Header) bs = is_header bs
fits (token Punctuator) bs = is_punctuator bs
fits (token Other) bs = is_one_byte bs
fits (token Newline) bs = same_bytes bs (10 ∷ [])

-- A header name is a token directly after the two tokens # and include at a line's start alone.
-- These are the spellings of the line so far.
abbrev pub expects_header : List (List ℕ) → Bool
expects_header (hash ∷ word ∷ []) = same_bytes (name_of hash) (codes "#") && same_bytes word (codes "include")
expects_header _ = false

abbrev pub is_header_name : PieceKind → Bool
is_header_name (token Header) = true
is_header_name _ = false

-- The kinds in order. Where two fit the same bytes the first counts, so a header name goes before a
-- string literal.
abbrev pub rank : PieceKind → ℕ
rank (token Header) = 0
rank blank = 1
rank comment = 2
rank (token Newline) = 3
rank (token Identifier) = 4
rank (token Number) = 5
rank (token Character) = 6
rank (token Text) = 7
rank (token Punctuator) = 8
rank (token Other) = 9

-- the kind can fit where the line so far has these spellings
abbrev pub fits_here : List (List ℕ) → PieceKind → List ℕ → Bool
fits_here line kind bs = fits kind bs && (expects_header line || not (is_header_name kind))

-- a comment begins that has no end
pub record IsUnended (bytes : List ℕ) : Type 0 where
  pub begins : begins_with (47 ∷ 42 ∷ []) bytes ≡ true
  pub no_end : (n : ℕ) → is_comment (take n bytes) ≡ false

-- The first n bytes are the longest prefix that fits a kind, this is the first kind that they fit,
-- and no comment without an end begins here.
pub record IsLongest (line : List (List ℕ)) (bytes : List ℕ) (kind : PieceKind) (n : ℕ) : Type 0 where
  pub positive : 0 < n
  pub within : n ≤ length bytes
  pub fit : fits_here line kind (take n bytes) ≡ true
  pub longest : (m : ℕ) (other : PieceKind) → n < m → m ≤ length bytes → fits_here line other (take m bytes) ≡ false
  pub first : (other : PieceKind) → rank other < rank kind → fits_here line other (take n bytes) ≡ false
  pub ended : IsUnended bytes → ⊥

-- what is dropped
abbrev pub is_white : PieceKind → Bool
is_white blank = true
is_white comment = true
is_white (token kind) = false

abbrev pub is_identifier_kind : Kind → Bool
is_identifier_kind Identifier = true
is_identifier_kind _ = false

abbrev pub is_newline : Kind → Bool
is_newline Newline = true
is_newline _ = false

-- the spellings of the line after one more token
abbrev pub line_after : List (List ℕ) → Kind → List ℕ → List (List ℕ)
line_after line kind spelling = if is_newline kind then [] else line ++ spelling ∷ []

abbrev pub with_first : {E : Type 0} → Lexeme → Result (List Lexeme) E → Result (List Lexeme) E
with_first t (Ok ts) = Ok (t ∷ ts)
with_first t (Err e) = Err e

-- the token of this kind and spelling that begins at a byte
abbrev pub lexeme : Bool → Marked → List ℕ → Kind → Lexeme
lexeme space m spelling kind = record { kind = kind; spelling = spelling; space = space; position = m.position }

-- the text from here on is these tokens, or has its first comment without an end at this position
pub data Lexes : List (List ℕ) → Bool → List Marked → Result (List Lexeme) Position → Type 0 where
  nothing : {line : List (List ℕ)} {space : Bool} → Lexes line space [] (Ok [])
  white : {line : List (List ℕ)} {space : Bool} {m : Marked} {ms : List Marked} {r : Result (List Lexeme) Position} (n : ℕ) (kind : PieceKind)
      → is_white kind ≡ true → IsLongest line (bytes_of (m ∷ ms)) kind n
      → Lexes line true (drop n (m ∷ ms)) r → Lexes line space (m ∷ ms) r
  piece : {line : List (List ℕ)} {space : Bool} {m : Marked} {ms : List Marked} {r rest : Result (List Lexeme) Position} (n : ℕ) (kind : Kind)
      → IsLongest line (bytes_of (m ∷ ms)) (token kind) n
      → Lexes (line_after line kind (take n (bytes_of (m ∷ ms)))) (is_newline kind) (drop n (m ∷ ms)) rest
      → r ≡ with_first (lexeme space m (take n (bytes_of (m ∷ ms))) kind) rest
      → Lexes line space (m ∷ ms) r
  unended : {line : List (List ℕ)} {space : Bool} {m : Marked} {ms : List Marked}
      → IsUnended (bytes_of (m ∷ ms)) → Lexes line space (m ∷ ms) (Err m.position)

-- the tokens of a file, or the position of its first comment without an end
abbrev pub Lexed : List ℕ → Result (List Lexeme) Position → Type 0
Lexed bytes r = Lexes [] false (phase_2 bytes) r
