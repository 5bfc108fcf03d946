-- Tokens as the tables of texts and of files let them be seen.
use Rattle.std.specs.Prelude.{◌≡◌, ℕ, ◌<◌, List, [], length, unwrap_or, slice_get}
use Rattle.sc_base.specs.declared.place.Place as declared_place
use Rattle.sc_base.specs.declared.token.Token as declared_token
use Rattle.sc_model.specs.Token.{Position, Place, Token, name_of}

-- the text of an id, or none
abbrev pub text_at : List (List ℕ) → ℕ → List ℕ
text_at texts id = unwrap_or (slice_get texts id) []

abbrev pub position_of : declared_place.Place → Position
position_of p = record { line = p.line; column = p.column }

abbrev pub seen_place : List (List ℕ) → declared_place.Place → Place
seen_place files p = record { file = text_at files p.file.0; position = position_of p }

abbrev pub seen : List (List ℕ) → List (List ℕ) → declared_token.Token → Token
seen names files t = record { kind = t.kind; spelling = text_at names t.spelling.0; space = t.space; place = seen_place files t.place }

-- the table holds the token's texts
pub record IsHeld (names : List (List ℕ)) (t : declared_token.Token) : Type 0 where
  pub spelling : t.spelling.0 < length names
  pub name : t.name.0 < length names
  pub stands_for : text_at names t.name.0 ≡ name_of (text_at names t.spelling.0)
