-- Tokens and places, seen through the tables of texts and of files.
use Rattle.std.proofs.Common.{◌≡◌, ℕ, List, [], ◌∷◌, map, Option, Some, None, refl, ap, ◌∙◌}
use Rattle.std.proofs.lemmas.List.Elements.{All-head, All-tail}
use Rattle.std.specs.Option.{option_map}
use Rattle.std.specs.Prelude.{All, slice_get, unwrap_or}
use Rattle.sc_base.specs.declared.id.FileId.{FileId}
use Rattle.sc_base.specs.declared.place.Place as declared_place
use Rattle.sc_base.specs.declared.token.Token as declared_token
use Rattle.sc_base.specs.Seen.{text_at, seen, seen_place}
use Rattle.sc_base.specs.Seen.{position_of}
use Rattle.sc_lex.specs.Spell.{lexeme_at, AreTokensOf}
use Rattle.sc_model.specs.Token.{Lexeme, in_file}

-- a place of the file
pub place-seen : (files : List (List ℕ)) (file : FileId) (main : List ℕ) (place : declared_place.Place) → slice_get files file.0 ≡ Some main → place.file ≡ file
    → seen_place files place ≡ record { file = main; position = position_of place }
place-seen files file main place named placed =
    ap (λ (f : List ℕ). record { file = f; position = position_of place }) (ap (λ (f : FileId). text_at files f.0) placed ∙ ap (λ (o : Option (List ℕ)). unwrap_or o []) named)

seen_by : (main : List ℕ) (t : declared_token.Token) (l : Lexeme) (s : Option (List ℕ))
    → option_map (λ s. record { kind = t.kind; spelling = s; space = t.space; position = position_of t.place }) s ≡ Some l
    → record { kind = t.kind; spelling = unwrap_or s []; space = t.space; place = record { file = main; position = position_of t.place } } ≡ in_file main l
seen_by main t l None e = cc
seen_by main t l (Some s) e = ap (λ o. in_file main (unwrap_or o l)) e

module _ (names files : List (List ℕ)) (file : FileId) (main : List ℕ) (named : slice_get files file.0 ≡ Some main) where
  seen_one : (t : declared_token.Token) (l : Lexeme) → lexeme_at names t ≡ Some l → t.place.file ≡ file → seen names files t ≡ in_file main l
  seen_one t l e placed =
      ap (λ place. record { kind = t.kind; spelling = text_at names t.spelling.0; space = t.space; place = place }) (place-seen files file main t.place named placed)
      ∙ seen_by main t l (slice_get names t.spelling.0) e

  seen_all : (ls : List Lexeme) (ts : List declared_token.Token) → map (lexeme_at names) ts ≡ map Some ls → All (λ (t : declared_token.Token). t.place.file ≡ file) ts
      → map (seen names files) ts ≡ map (in_file main) ls
  seen_all [] [] e placed = refl
  seen_all [] (t ∷ ts) e placed = cc
  seen_all (l ∷ ls) [] e placed = cc
  seen_all (l ∷ ls) (t ∷ ts) e placed =
      let P : declared_token.Token → Type 0 = λ t. t.place.file ≡ file in
      let first : lexeme_at names t ≡ Some l = cc in
      let others : map (lexeme_at names) ts ≡ map Some ls = cc in
      ap (λ u. u ∷ map (seen names files) ts) (seen_one t l first (All-head P t ts placed)) ∙ ap (λ us. in_file main l ∷ us) (seen_all ls ts others (All-tail P t ts placed))

-- the file's tokens are those of the definition
pub tokens-seen : (names files : List (List ℕ)) (file : FileId) (main bytes : List ℕ) (ts : List declared_token.Token) (are : AreTokensOf names file bytes ts)
    → slice_get files file.0 ≡ Some main → map (seen names files) ts ≡ map (in_file main) are.lexemes
tokens-seen names files file main bytes ts are named = seen_all names files file main named are.lexemes ts are.spell.each are.spell.placed
