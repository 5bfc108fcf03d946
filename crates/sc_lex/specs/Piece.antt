-- The longest piece at the front of a text, found kind by kind.
use Rattle.std.specs.Prelude.{◌≡◌, ℕ, ◌<◌, ◌≤◌, ◌==◌, ◌&&◌, not, Bool, List, [], ◌∷◌, length, take, codes, true, false}
use Rattle.std.specs.List.{list_any}
use Rattle.sc_model.specs.declared.kind.Kind.TheVariants as token_kind
use Rattle.sc_model.specs.Bytes.{is_letter}
use Rattle.c11_tokens.specs.Lex as lex
use Rattle.c11_tokens.specs.Lex.{rank, fits, fits_here}
use Rattle.sc_lex.specs.declared.piece.PieceKind.{PieceKind}
use Rattle.sc_lex.specs.declared.piece.PieceKind.TheVariants.{Blank, Comment, Token}

abbrev pub kind_of : PieceKind → lex.PieceKind
kind_of Blank = lex.blank
kind_of Comment = lex.comment
kind_of (Token kind) = lex.token kind

-- Of the kinds before this rank, the first one whose longest prefix is the longest of all. It has n
-- bytes, or where n is 0 none fits.
pub record IsBestBefore (bound : ℕ) (line : List (List ℕ)) (bytes : List ℕ) (kind : lex.PieceKind) (n : ℕ) : Type 0 where
  pub within : n ≤ length bytes
  pub fit : 0 < n → fits_here line kind (take n bytes) ≡ true
  pub longest : (other : lex.PieceKind) (m : ℕ) → rank other < bound → n < m → m ≤ length bytes → fits_here line other (take m bytes) ≡ false
  pub first : (other : lex.PieceKind) → rank other < rank kind → 0 < n → fits_here line other (take n bytes) ≡ false

-- The byte is a piece of this kind, and it begins none of another kind, but for a byte that is no
-- other token.
pub record BeginsOnly (byte : ℕ) (kind : lex.PieceKind) : Type 0 where
  pub fit : fits kind (byte ∷ []) ≡ true
  pub alone : (other : lex.PieceKind) (bytes : List ℕ) → (other ≡ kind → ⊥) → (other ≡ lex.token token_kind.Other → ⊥) → fits other (byte ∷ bytes) ≡ false

-- a letter with which no prefix of a quoted text begins (6.4.4.4, 6.4.5)
abbrev pub begins_identifier : ℕ → Bool
begins_identifier b = is_letter b && not (list_any (λ prefix. b == prefix) (codes "LUu"))

-- a byte that begins punctuators and nothing else: a comment, a number and a header name begin with
-- others
abbrev pub begins_punctuator : ℕ → Bool
begins_punctuator b = list_any (λ first. b == first) (codes "()[]{};,=+-*&|!~^?:>#%")
