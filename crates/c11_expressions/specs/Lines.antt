-- The line of an #if or #elif (C11 6.10.1): `defined` is replaced, macros are expanded, and what is
-- left is evaluated.
use Rattle.std.specs.Prelude.{◌≡◌, ◌&&◌, not, Bool, true, false, List, [], ◌∷◌, map, codes, Option, is_some, Result, Ok, Err, if◌then◌else◌}
use Rattle.std.specs.List.{list_any}
use Rattle.c11_expressions.specs.Arithmetic.{Typed, is_zero}
use Rattle.c11_expressions.specs.Evaluates.{Evaluates}
use Rattle.c11_expressions.specs.Grammar.{Symbol}
use Rattle.c11_expressions.specs.Symbols.{symbol_of}
use Rattle.c11_macros.specs.Expansion.{Expands}
use Rattle.c11_macros.specs.Hidden.{Hidden, Provenance, Failure, no_names}
use Rattle.c11_macros.specs.Macros.{Macros}
use Rattle.c11_macros.specs.Results.{result_map}
use Rattle.c11_tokens.specs.Lex.{is_identifier_kind}
use Rattle.sc_model.specs.declared.cause.Cause.{Cause}
use Rattle.sc_model.specs.declared.cause.Cause.TheVariants.{BadIf, DefinedFromMacro}
use Rattle.sc_model.specs.declared.kind.Kind.TheVariants.{Number}
use Rattle.sc_model.specs.Bytes.{same_bytes}
use Rattle.sc_model.specs.declared.standard.Standard.{Standard}

abbrev pub is_identifier : {P : Type 0} → Hidden P → Bool
is_identifier t = is_identifier_kind t.kind

abbrev pub is_defined : {P : Type 0} → Hidden P → Bool
is_defined t = is_identifier t && same_bytes t.spelling (codes "defined")

-- 1 where the name is a macro's, else 0, in the place of `defined`
abbrev pub definedness : {P : Type 0} → Macros → Hidden P → Hidden P → Hidden P
definedness macros t name = record {
  kind = Number;
  spelling = if is_some (macros name.spelling) then codes "1" else codes "0";
  space = t.space;
  place = t.place;
  hide = no_names;
}

abbrev pub before : {P : Type 0} → Hidden P → Result (List (Hidden P)) Cause → Result (List (Hidden P)) Cause
before t r = result_map (λ ts. t ∷ ts) r

-- the list with each `defined NAME` and each `defined ( NAME )` replaced; no other `defined` may
-- stand there
module _ {P : Type 0} (macros : Macros) where
  abbrev mutual
    pub without_defined : List (Hidden P) → Result (List (Hidden P)) Cause
    without_defined [] = Ok []
    without_defined (t ∷ []) = if is_defined t then Err BadIf else Ok (t ∷ [])
    without_defined (t ∷ (u ∷ ts)) =
        if not (is_defined t) then before t (without_defined (u ∷ ts))
        else (if is_identifier u then before (definedness macros t u) (without_defined ts)
        else (if same_bytes u.spelling (codes "(") then in_parentheses t ts
        else Err BadIf))

    -- behind the opening parenthesis
    pub in_parentheses : Hidden P → List (Hidden P) → Result (List (Hidden P)) Cause
    in_parentheses t (name ∷ (u ∷ ts)) =
        if is_identifier name && same_bytes u.spelling (codes ")") then before (definedness macros t name) (without_defined ts)
        else Err BadIf
    in_parentheses t _ = Err BadIf

-- the symbol that a token is, if it is one
abbrev pub symbol_at : {P : Type 0} → Standard → Hidden P → Option Symbol
symbol_at standard t = symbol_of standard t.kind t.spelling

abbrev pub failure : {P : Type 0} → Cause → P → Failure P
failure cause place = record { cause = cause; place = place }

-- what the value says, or its cause at the # of the line
abbrev pub verdict : {P : Type 0} → P → Result Typed Cause → Result Bool (Failure P)
verdict hash (Ok v) = Ok (not (is_zero v.number))
verdict hash (Err cause) = Err (failure cause hash)

-- what an expansion comes to: its own refusal, or one at the # of the line where `defined` is left,
-- or the verdict
pub data Comes {P : Type 0} (standard : Standard) (hash : P) : Result (List (Hidden P)) (Failure P) → Result Bool (Failure P) → Type 0 where
  unexpanded : (refusal : Failure P) → Comes standard hash (Err refusal) (Err refusal)
  left_over : (ts : List (Hidden P)) → list_any is_defined ts ≡ true → Comes standard hash (Ok ts) (Err (failure DefinedFromMacro hash))
  evaluated : (ts : List (Hidden P)) (r : Result Typed Cause) → list_any is_defined ts ≡ false → Evaluates (map (symbol_at standard) ts) r → Comes standard hash (Ok ts) (verdict hash r)

-- whether the line with these tokens takes its group, or why it is refused
pub data Decides {P : Type 0} (standard : Standard) (provenance : Provenance P) (macros : Macros) (hash : P) (ts : List (Hidden P)) : Result Bool (Failure P) → Type 0 where
  malformed : (cause : Cause) → without_defined macros ts ≡ Err cause → Decides standard provenance macros hash ts (Err (failure cause hash))
  expanded : (us : List (Hidden P)) (x : Result (List (Hidden P)) (Failure P)) (r : Result Bool (Failure P)) → without_defined macros ts ≡ Ok us
      → Expands provenance macros us x → Comes standard hash x r → Decides standard provenance macros hash ts r
