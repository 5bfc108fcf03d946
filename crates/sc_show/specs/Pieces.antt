-- A text as pieces, each a line.
use Rattle.std.specs.Prelude.{◌≡◌, ℕ, ◌==◌, true, List, [], ◌∷◌, ◌++◌, if◌then◌else◌}
use Rattle.sc_model.specs.Bytes.{has_no_newline}

-- a newline ends the piece, and no other one stands in it
pub record IsLine (piece : List ℕ) : Type 0 where
  pub front : List ℕ
  pub one_line : has_no_newline front ≡ true
  pub whole : piece ≡ front ++ 10 ∷ []

-- the byte at the front of the first piece
abbrev pub byte_before : ℕ → List (List ℕ) → List (List ℕ)
byte_before byte [] = (byte ∷ []) ∷ []
byte_before byte (piece ∷ pieces) = (byte ∷ piece) ∷ pieces

-- the pieces of a text that is cut after each newline
abbrev pub split_lines_after : List ℕ → List (List ℕ)
split_lines_after [] = []
split_lines_after (byte ∷ bytes) = if byte == 10 then (byte ∷ []) ∷ split_lines_after bytes else byte_before byte (split_lines_after bytes)
