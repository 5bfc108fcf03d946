-- Tokens spell the same in a table that has grown.
use Rattle.std.proofs.Common.{◌≡◌, ℕ, List, [], ◌∷◌, ◌++◌, map, Option, Some, None, slice_get, refl, sym, ap, ◌∙◌}
use Rattle.std.specs.Prelude.{All, unwrap_or}
use Rattle.std.proofs.lemmas.Option.{slice_get_within}
use Rattle.std.specs.Option.{option_map}
use Rattle.std.specs.List.{AllByRecursion}
use Rattle.std.proofs.lemmas.List.{map-append}
use Rattle.std.proofs.lemmas.List.Elements.{All-push, recursion_from_All, All-from_recursion}
use Rattle.sc_base.specs.declared.id.FileId.{FileId}
use Rattle.sc_model.specs.Token.{Lexeme, name_of}
use Rattle.sc_model.specs.Growth.{Extends}
use Rattle.sc_base.proofs.Growth.{Extends-keeps}
use Rattle.sc_base.specs.declared.token.Token.{Token}
use Rattle.sc_base.specs.Seen.{IsHeld, position_of}
use Rattle.sc_lex.specs.Spell.{lexeme_at, Spell}

-- what one token is
abbrev lexeme_of : Token → List ℕ → Lexeme
lexeme_of t s = record { kind = t.kind; spelling = s; space = t.space; position = position_of t.place }

some_spelling : (names : List (List ℕ)) (t : Token) (o : Option (List ℕ)) (x : Lexeme) → option_map (lexeme_of t) o ≡ Some x → (s : List ℕ) × (o ≡ Some s)
some_spelling names t (Some s) x e = (s, refl)
some_spelling names t None x e = cc

pub lexeme_at-Extends : {old new : List (List ℕ)} (t : Token) (x : Lexeme) → Extends old new → lexeme_at old t ≡ Some x → lexeme_at new t ≡ Some x
lexeme_at-Extends {old} {new} t x grown e =
    let s = some_spelling old t (slice_get old t.spelling.0) x e in
    ap (option_map (lexeme_of t)) (Extends-keeps t.spelling.0 s.0 s.1 grown ∙ sym s.1) ∙ e

abbrev IsNamed : List (List ℕ) → Token → Type 0
IsNamed names t = slice_get names t.name.0 ≡ option_map name_of (slice_get names t.spelling.0)

named-Extends : {old new : List (List ℕ)} (t : Token) (x : Lexeme) → Extends old new → lexeme_at old t ≡ Some x → IsNamed old t → IsNamed new t
named-Extends {old} {new} t x grown e named =
    let s = some_spelling old t (slice_get old t.spelling.0) x e in
    Extends-keeps t.name.0 (name_of s.0) (named ∙ ap (option_map name_of) s.1) grown ∙ ap (option_map name_of) (sym (Extends-keeps t.spelling.0 s.0 s.1 grown))

module _ {old new : List (List ℕ)} (grown : Extends old new) where
  each-Extends : (ts : List Token) (ls : List Lexeme) → map (lexeme_at old) ts ≡ map (λ x. Some x) ls → map (lexeme_at new) ts ≡ map (λ x. Some x) ls
  each-Extends [] [] e = refl
  each-Extends [] (l ∷ ls) e = cc
  each-Extends (t ∷ ts) [] e = cc
  each-Extends (t ∷ ts) (l ∷ ls) e =
      let head : lexeme_at old t ≡ Some l = cc in
      let tail : map (lexeme_at old) ts ≡ map (λ x. Some x) ls = cc in
      let first = lexeme_at-Extends t l grown head in
      let rest = each-Extends ts ls tail in
      ap (λ x. x ∷ map (lexeme_at new) ts) first ∙ ap (λ xs. Some l ∷ xs) rest

  all-Extends : (ts : List Token) (ls : List Lexeme) → map (lexeme_at old) ts ≡ map (λ x. Some x) ls → AllByRecursion (IsNamed old) ts → AllByRecursion (IsNamed new) ts
  all-Extends [] ls e all = tt
  all-Extends (t ∷ ts) [] e all = cc
  all-Extends (t ∷ ts) (l ∷ ls) e all =
      let head : lexeme_at old t ≡ Some l = cc in
      let tail : map (lexeme_at old) ts ≡ map (λ x. Some x) ls = cc in
      (named-Extends t l grown head all.0, all-Extends ts ls tail all.1)

-- a table that has grown spells the same
pub Spell-Extends : {old new : List (List ℕ)} {file : FileId} {ls : List Lexeme} {ts : List Token} → Spell old file ls ts → Extends old new → Spell new file ls ts
Spell-Extends {old} {new} {file} {ls} {ts} spell grown = record {
  each = each-Extends grown ts ls spell.each;
  named = All-from_recursion (IsNamed new) ts (all-Extends grown ts ls spell.each (recursion_from_All (IsNamed old) ts spell.named));
  placed = spell.placed;
}

pub Spell-none : (names : List (List ℕ)) (file : FileId) → Spell names file [] []
Spell-none names file = record { each = refl; named = All-from_recursion (IsNamed names) [] tt; placed = All-from_recursion (λ t. t.place.file ≡ file) [] tt }

pub Spell-push : {names : List (List ℕ)} {file : FileId} {ls : List Lexeme} {ts : List Token} (l : Lexeme) (t : Token) → Spell names file ls ts
    → lexeme_at names t ≡ Some l → slice_get names t.name.0 ≡ option_map name_of (slice_get names t.spelling.0) → t.place.file ≡ file → Spell names file (ls ++ l ∷ []) (ts ++ t ∷ [])
Spell-push {names} {file} {ls} {ts} l t spell is named placed = record {
  each = map-append (lexeme_at names) ts (t ∷ []) ∙ ap (λ xs. xs ++ lexeme_at names t ∷ []) spell.each ∙ ap (λ x. map (λ x. Some x) ls ++ x ∷ []) is ∙ sym (map-append (λ x. Some x) ls (l ∷ []));
  named = All-push (IsNamed names) ts t spell.named named;
  placed = All-push (λ t. t.place.file ≡ file) ts t spell.placed placed;
}

held : (names : List (List ℕ)) (ts : List Token) (ls : List Lexeme) → map (lexeme_at names) ts ≡ map (λ x. Some x) ls → AllByRecursion (IsNamed names) ts → AllByRecursion (IsHeld names) ts
held names [] ls e all = tt
held names (t ∷ ts) [] e all = cc
held names (t ∷ ts) (l ∷ ls) e all =
    let head : lexeme_at names t ≡ Some l = cc in
    let tail : map (lexeme_at names) ts ≡ map (λ x. Some x) ls = cc in
    let s = some_spelling names t (slice_get names t.spelling.0) l head in
    let text : Option (List ℕ) → List ℕ = λ o. unwrap_or o [] in (
      record {
        name = slice_get_within names t.name.0 (name_of s.0) (all.0 ∙ ap (option_map name_of) s.1);
        spelling = slice_get_within names t.spelling.0 s.0 s.1;
        stands_for = ap text (all.0 ∙ ap (option_map name_of) s.1) ∙ ap name_of (sym (ap text s.1));
      },
      held names ts ls tail all.1,
    )

-- the table holds what the tokens are spelled with
pub Spell-held : {names : List (List ℕ)} {file : FileId} {ls : List Lexeme} {ts : List Token} → Spell names file ls ts → All (IsHeld names) ts
Spell-held {names} {file} {ls} {ts} spell = All-from_recursion (IsHeld names) ts (held names ts ls spell.each (recursion_from_All (IsNamed names) ts spell.named))
