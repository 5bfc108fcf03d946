-- Macro expansion (C11 6.10.3 and 6.10.3.4), by Prosser's algorithm.
use Rattle.std.specs.Prelude.{◌≡◌, ℕ, zero, not, ◌&&◌, Bool, true, false, List, [], ◌∷◌, ◌++◌, map, length, codes, Option, Some, None, Result, Ok, Err, is_ok, is_some, slice_set, if◌then◌else◌}
use Rattle.c11_macros.specs.Call.{Call, call_of, arguments_for}
use Rattle.c11_macros.specs.Hidden.{Hidden, Provenance, Failure, failure_at, with_name, meet}
use Rattle.c11_macros.specs.Macros.{Form, object_like, function_like, Definition, list_at, Macros}
use Rattle.sc_model.specs.Token.{Item}
use Rattle.c11_macros.specs.Results.{result_map, result_and_then}
use Rattle.c11_macros.specs.Substitution.{argument, substituted, list_slots, wanted_of}
use Rattle.sc_model.specs.declared.cause.Cause.TheVariants.{UnterminatedCall, WrongArguments}
use Rattle.c11_tokens.specs.Lex.{is_identifier_kind}
use Rattle.std.specs.List.{list_any}
use Rattle.sc_model.specs.Bytes.{same_bytes}

-- ---- what is to be done at a token, told by the token and what follows it

pub data Case (P : Type 0) : Type 0 where
  -- it is no macro's name, or is hidden, or is that of a function-like macro without a call
  stays : Case P
  -- an object-like macro's name
  replaced : Definition → Case P
  -- a call that no parenthesis closes
  unclosed : Case P
  -- a call with another number of arguments, and what follows it
  misfit : List (Hidden P) → Case P
  -- a call: its arguments, its closing parenthesis, and what follows it
  called : Definition → List (List (Hidden P)) → Hidden P → List (Hidden P) → Case P

-- a name that is hidden is not looked up
abbrev pub is_looked_up : {P : Type 0} → Hidden P → Bool
is_looked_up t = is_identifier_kind t.kind && not (t.hide t.spelling)

abbrev pub fitted_case : {P : Type 0} → Definition → Hidden P → List (Hidden P) → Option (List (List (Hidden P))) → Case P
fitted_case d close rest None = misfit rest
fitted_case d close rest (Some arguments) = called d arguments close rest

abbrev pub call_case : {P : Type 0} → Definition → List (List ℕ) → Bool → Option (Call P) → Case P
call_case d parameters variadic None = unclosed
call_case d parameters variadic (Some call) = fitted_case d call.close call.rest (arguments_for parameters variadic call.arguments)

abbrev pub form_case : {P : Type 0} → Definition → Form → List (Hidden P) → Case P
form_case d object_like rest = replaced d
form_case d (function_like parameters more) [] = stays
form_case d (function_like parameters more) (t ∷ ts) =
    if same_bytes t.spelling (codes "(") then call_case d parameters (is_some more) (call_of (length parameters) zero ts) else stays

abbrev pub defined_case : {P : Type 0} → Option Definition → List (Hidden P) → Case P
defined_case None rest = stays
defined_case (Some d) rest = form_case d d.form rest

abbrev pub looked_up_case : {P : Type 0} → Macros → Bool → List ℕ → List (Hidden P) → Case P
looked_up_case macros true name rest = defined_case (macros name) rest
looked_up_case macros false name rest = stays

abbrev pub case_of : {P : Type 0} → Macros → Hidden P → List (Hidden P) → Case P
case_of macros t rest = looked_up_case macros (is_looked_up t) t.spelling rest

-- ---- the relation

-- the list that a macro's name at this token is replaced by
abbrev pub list_of : {P : Type 0} → Provenance P → Definition → Hidden P → List Item
list_of provenance d head = list_at d.replacement (provenance.place head.place)

-- The arguments that are expanded alone, each with its parameter, in the order in which the list
-- wants them. Where a # fails there are none, since the call fails before any expands.
abbrev pub asked : {P : Type 0} → Provenance P → Definition → Hidden P → List (List (Hidden P)) → List (ℕ × List (Hidden P))
asked provenance d head arguments =
    if is_ok (list_slots head arguments d.form (list_of provenance d head)) then map (λ n. (n, argument arguments n)) (wanted_of d.form (list_of provenance d head)) else []

-- an object-like macro's replacement
abbrev pub object_result : {P : Type 0} → Provenance P → Definition → Hidden P → Result (List (Hidden P)) (Failure P)
object_result provenance d head = substituted provenance d.form (list_of provenance d head) head [] [] (with_name head.hide head.spelling)

-- a call's replacement, or the failure of an argument
abbrev pub call_result : {P : Type 0} → Provenance P → Definition → Hidden P → List (List (Hidden P)) → Hidden P → Result (List (List (Hidden P))) (Failure P) → Result (List (Hidden P)) (Failure P)
call_result provenance d head arguments close expanded =
    result_and_then (λ lists. substituted provenance d.form (list_of provenance d head) head arguments lists (with_name (meet head.hide close.hide) head.spelling)) expanded

-- the token before what the rest becomes
abbrev pub with_first : {P : Type 0} → Hidden P → Result (List (Hidden P)) (Failure P) → Result (List (Hidden P)) (Failure P)
with_first t r = result_map (λ ts. t ∷ ts) r

mutual
  -- the list expands to this list, or has this first cause
  pub data Expands {P : Type 0} (provenance : Provenance P) (macros : Macros) : List (Hidden P) → Result (List (Hidden P)) (Failure P) → Type 0 where
    empty : Expands provenance macros [] (Ok [])
    stay : {t : Hidden P} {rest : List (Hidden P)} {r : Result (List (Hidden P)) (Failure P)}
        → case_of macros t rest ≡ stays → Expands provenance macros rest r → Expands provenance macros (t ∷ rest) (with_first t r)
    object : {t : Hidden P} {rest : List (Hidden P)} {r : Result (List (Hidden P)) (Failure P)} (d : Definition)
        → case_of macros t rest ≡ replaced d → Rescans provenance macros (object_result provenance d t) rest r → Expands provenance macros (t ∷ rest) r
    unterminated : {t : Hidden P} {rest : List (Hidden P)}
        → case_of macros t rest ≡ unclosed → Expands provenance macros (t ∷ rest) (Err (failure_at UnterminatedCall t))
    miscounted : {t : Hidden P} {rest : List (Hidden P)} (after : List (Hidden P))
        → case_of macros t rest ≡ misfit after → Expands provenance macros (t ∷ rest) (Err (failure_at WrongArguments t))
    call : {t : Hidden P} {rest : List (Hidden P)} {r : Result (List (Hidden P)) (Failure P)} (d : Definition) (arguments : List (List (Hidden P))) (close : Hidden P)
        (after : List (Hidden P)) (expanded : Result (List (List (Hidden P))) (Failure P))
        → case_of macros t rest ≡ called d arguments close after → Each provenance macros (asked provenance d t arguments) (map (λ a. []) arguments) expanded
        → Rescans provenance macros (call_result provenance d t arguments close expanded) after r → Expands provenance macros (t ∷ rest) r

  -- The arguments that are asked for expand alone, one after the other, up to the first cause
  -- (6.10.3.1). There is a list for each parameter, which becomes what its argument expands to.
  pub data Each {P : Type 0} (provenance : Provenance P) (macros : Macros) : List (ℕ × List (Hidden P)) → List (List (Hidden P)) → Result (List (List (Hidden P))) (Failure P) → Type 0 where
    none : {lists : List (List (Hidden P))} → Each provenance macros [] lists (Ok lists)
    next : {ask : ℕ × List (Hidden P)} {asks : List (ℕ × List (Hidden P))} {lists : List (List (Hidden P))} {r : Result (List (List (Hidden P))) (Failure P)} (list : List (Hidden P))
        → Expands provenance macros ask.1 (Ok list) → Each provenance macros asks (slice_set lists ask.0 list) r → Each provenance macros (ask ∷ asks) lists r
    stops : {ask : ℕ × List (Hidden P)} {asks : List (ℕ × List (Hidden P))} {lists : List (List (Hidden P))} (failure : Failure P)
        → Expands provenance macros ask.1 (Err failure) → Each provenance macros (ask ∷ asks) lists (Err failure)

  -- a replacement is scanned again together with the rest (6.10.3.4); its cause is the cause of the
  -- whole
  pub data Rescans {P : Type 0} (provenance : Provenance P) (macros : Macros) : Result (List (Hidden P)) (Failure P) → List (Hidden P) → Result (List (Hidden P)) (Failure P) → Type 0 where
    on : {body rest : List (Hidden P)} {r : Result (List (Hidden P)) (Failure P)} → Expands provenance macros (body ++ rest) r → Rescans provenance macros (Ok body) rest r
    refused : {rest : List (Hidden P)} (failure : Failure P) → Rescans provenance macros (Err failure) rest (Err failure)

-- no names but these are defined
pub record IsWithin (names : List (List ℕ)) (macros : Macros) : Type 0 where
  pub each : (name : List ℕ) (d : Definition) → macros name ≡ Some d → list_any (same_bytes name) names ≡ true
