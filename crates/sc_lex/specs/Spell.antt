-- What tokens say of a file, through the table that holds their texts.
use Rattle.std.specs.Prelude.{◌≡◌, ℕ, List, map, Some, Option, slice_get, All, Ok, Err}
use Rattle.std.specs.Option.{option_map}
use Rattle.sc_base.specs.declared.id.FileId.{FileId}
use Rattle.sc_base.specs.declared.place.Place.{Place}
use Rattle.sc_base.specs.Seen.{position_of}
use Rattle.sc_base.specs.declared.token.Token.{Token}
use Rattle.sc_lex.specs.declared.stop.LexStop.{LexStop}
use Rattle.sc_lex.specs.declared.stop.LexStop.TheVariants.{Comment, OutOfMemory}
use Rattle.sc_model.specs.Token.{Lexeme, name_of}
use Rattle.c11_tokens.specs.Lex.{Lexed}

-- what the token is, if the table holds its spelling
abbrev pub lexeme_at : List (List ℕ) → Token → Option Lexeme
lexeme_at names t =
    option_map (λ s. record { kind = t.kind; spelling = s; space = t.space; position = position_of t.place }) (slice_get names t.spelling.0)

-- the tokens of a file are these
pub record Spell (names : List (List ℕ)) (file : FileId) (ls : List Lexeme) (ts : List Token) : Type 0 where
  pub each : map (lexeme_at names) ts ≡ map Some ls
  pub named : All (λ t. slice_get names t.name.0 ≡ option_map name_of (slice_get names t.spelling.0)) ts
  pub placed : All (λ t. t.place.file ≡ file) ts

-- the file has these tokens
pub record AreTokensOf (names : List (List ℕ)) (file : FileId) (bytes : List ℕ) (ts : List Token) : Type 0 where
  pub lexemes : List Lexeme
  pub lexed : Lexed bytes (Ok lexemes)
  pub spell : Spell names file lexemes ts

-- the place is in the file, where its first comment without an end begins
pub record IsUnendedAt (file : FileId) (bytes : List ℕ) (p : Place) : Type 0 where
  pub lexed : Lexed bytes (Err (position_of p))
  pub in_file : p.file ≡ file

-- what a refusal says
abbrev pub Refuses : FileId → List ℕ → LexStop → Type 0
Refuses file bytes (Comment p) = IsUnendedAt file bytes p
Refuses file bytes OutOfMemory = Unit {0}
