-- The line of an #if whose `defined` are replaced, under all configurations at once.
use Rattle.std.specs.Prelude.{◌≡◌, ℕ, ◌<◌, List, [], ◌∷◌, ◌++◌, All, AllPairs, Result, Ok, Err, length, codes, if◌then◌else◌, is_some}
use Rattle.c11_expressions.specs.Lines.{definedness, failure}
use Rattle.c11_macros.specs.Hidden.{Failure, Hidden, no_names}
use Rattle.c11_macros.specs.Macros.{Macros}
use Rattle.sc_base.specs.declared.fault.Fault.{Fault}
use Rattle.sc_base.specs.declared.id.Cond.{Cond}
use Rattle.sc_base.specs.declared.id.Name.{Name}
use Rattle.sc_base.specs.declared.place.Place.{Place}
use Rattle.sc_base.specs.declared.token.Token.{Token}
use Rattle.sc_base.specs.Seen.{IsHeld, text_at}
use Rattle.sc_if.specs.declared.piece.Piece.{Piece}
use Rattle.sc_if.specs.declared.piece.Piece.TheVariants as piece
use Rattle.sc_model.specs.declared.cause.Cause.{Cause}
use Rattle.sc_model.specs.declared.kind.Kind.TheVariants.{Number}
use Rattle.sc_model.specs.Sets.{Sets, IsCond, IsConfig, IsNever}
use Rattle.sc_table.specs.declared.table.MacroTable.{MacroTable}
use Rattle.sc_table.specs.Table.{macros_at}

-- a token that hides no name, through the table of texts
abbrev pub unhidden : List (List ℕ) → Token → Hidden Place
unhidden names t = record { kind = t.kind; spelling = text_at names t.spelling.0; space = t.space; place = t.place; hide = no_names }

-- a fault, without its condition
abbrev pub seen_failure : Fault → Failure Place
seen_failure f = record { cause = f.cause; place = f.place }

-- An answer stands in the lists of a configuration: its tokens and no fault, or no token and one
-- fault of its cause at the place.
abbrev pub Stands : Place → Result (List (Hidden Place)) Cause → List (Hidden Place) → List (Failure Place) → Type 0
Stands hash (Ok tokens) items failures = (items ≡ tokens) × (failures ≡ [])
Stands hash (Err cause) items failures = (items ≡ []) × (failures ≡ failure cause hash ∷ [])

-- each configuration has the macros that it had, the stores having grown
abbrev pub IsKeptTable : Sets → Sets → List (List ℕ) → List (List ℕ) → MacroTable → MacroTable → Type 0
IsKeptTable old new names later was table = (config text : List ℕ) → IsConfig old.arities config → macros_at new later table config text ≡ macros_at old names was config text

-- The store made the conditions of the items, each has a configuration, and the table of texts
-- holds the tokens.
pub record IsHeldList (s : Sets) (names : List (List ℕ)) (list : List (Cond × Token)) : Type 0 where
  pub own : All (λ item. IsCond s item.0.0) list
  pub some : All (λ item. IsNever s item.0.0 → ⊥) list
  pub held : All (λ item. IsHeld names item.1) list

-- ---- the pieces of a line

-- what is left of a list behind some items
pub record IsEnd (rest list : List Token) : Type 0 where
  pub front : List Token
  pub is : list ≡ front ++ rest

-- what a piece is replaced by
abbrev pub seen_piece : Macros → List (List ℕ) → Piece → Hidden Place
seen_piece macros names (piece.Token t) = unhidden names t
seen_piece macros names (piece.Defined t name) = definedness macros (unhidden names t) (unhidden names name)

abbrev pub IsHeldPiece : List (List ℕ) → Piece → Type 0
IsHeldPiece names (piece.Token t) = IsHeld names t
IsHeldPiece names (piece.Defined t name) = IsHeld names t × IsHeld names name

-- where its first token stands
abbrev pub place_of : Piece → Place
place_of (piece.Token t) = t.place
place_of (piece.Defined t name) = t.place

abbrev pub IsPlacedPiece : ℕ → Piece → Type 0
IsPlacedPiece files (piece.Token t) = t.place.file.0 < files
IsPlacedPiece files (piece.Defined t name) = t.place.file.0 < files

-- the names of the texts 1 and 0
pub record AreDigits (names : List (List ℕ)) (one zero : Name) : Type 0 where
  pub one_held : one.0 < length names
  pub zero_held : zero.0 < length names
  pub one_is : text_at names one.0 ≡ codes "1"
  pub zero_is : text_at names zero.0 ≡ codes "0"

-- the token as a number
abbrev pub as_number : Token → Name → Token
as_number t digit = record { kind = Number; name = digit; spelling = digit; space = t.space; place = t.place }

-- the token that replaces a piece
abbrev pub token_for : Name → Name → Macros → List (List ℕ) → Piece → Token
token_for one zero macros names (piece.Token t) = t
token_for one zero macros names (piece.Defined t name) = as_number t (if is_some (macros (text_at names name.spelling.0)) then one else zero)

-- One list has the items of another, and then some that stand at this place and are spelled
-- differently.
pub record Adds (names : List (List ℕ)) (place : Place) (list longer : List (Cond × Token)) : Type 0 where
  pub more : List (Cond × Token)
  pub is : longer ≡ list ++ more
  pub here : All (λ item. item.1.place ≡ place) more
  pub different : AllPairs (λ a b. text_at names a.1.spelling.0 ≡ text_at names b.1.spelling.0 → ⊥) more
