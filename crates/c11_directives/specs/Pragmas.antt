-- What a run becomes: it is expanded, and its `_Pragma` operators are carried out (C11 6.10.9).
use Rattle.std.specs.Prelude.{◌≡◌, ◌&&◌, Bool, true, false, List, [], ◌∷◌, Option, Some, None, Result, Ok, Err, codes, if◌then◌else◌}
use Rattle.c11_macros.specs.Macros.{Macros}
use Rattle.c11_macros.specs.Results.{result_map}
use Rattle.c11_macros.specs.Text.{TextExpands}
use Rattle.c11_tokens.specs.Lex.{is_identifier_kind}
use Rattle.sc_model.specs.Bytes.{same_bytes}
use Rattle.sc_model.specs.declared.cause.Cause.TheVariants.{BadPragma}
use Rattle.sc_model.specs.declared.kind.Kind.{Kind}
use Rattle.sc_model.specs.declared.kind.Kind.TheVariants.{Text}
use Rattle.sc_model.specs.Fault.{Fault, fault_at}
use Rattle.sc_model.specs.Token.{Token}

abbrev pub is_pragma : Token → Bool
is_pragma t = is_identifier_kind t.kind && same_bytes t.spelling (codes "_Pragma")

abbrev pub is_opening : Token → Bool
is_opening t = same_bytes t.spelling (codes "(")

abbrev pub is_text_kind : Kind → Bool
is_text_kind Text = true
is_text_kind _ = false

abbrev pub is_text : Token → Bool
is_text t = is_text_kind t.kind

abbrev pub is_closing : Token → Bool
is_closing t = same_bytes t.spelling (codes ")")

-- what follows a parenthesis, one text and a parenthesis, where these tokens begin so
abbrev pub behind_operand : List Token → Option (List Token)
behind_operand (opening ∷ text ∷ closing ∷ rest) = if is_opening opening && is_text text && is_closing closing then Some rest else None
behind_operand _ = None

-- The tokens without the operators among them, which have no other effect, or the fault of the
-- first that has no operand.
pub data CarriesOutPragmas : List Token → Result (List Token) Fault → Type 0 where
  no_token : CarriesOutPragmas [] (Ok [])
  token : {t : Token} {ts : List Token} {r : Result (List Token) Fault} → is_pragma t ≡ false → CarriesOutPragmas ts r
      → CarriesOutPragmas (t ∷ ts) (result_map (λ us. t ∷ us) r)
  operator : {t : Token} {ts : List Token} {r : Result (List Token) Fault} (rest : List Token) → is_pragma t ≡ true → behind_operand ts ≡ Some rest
      → CarriesOutPragmas rest r → CarriesOutPragmas (t ∷ ts) r
  no_operand : {t : Token} {ts : List Token} → is_pragma t ≡ true → behind_operand ts ≡ None
      → CarriesOutPragmas (t ∷ ts) (Err (fault_at BadPragma t.place))

-- What the tokens of a run become with these macros.
pub data RunBecomes (macros : Macros) (run : List Token) : Result (List Token) Fault → Type 0 where
  expanded : {r : Result (List Token) Fault} (ts : List Token) → TextExpands macros run (Ok ts) → CarriesOutPragmas ts r → RunBecomes macros run r
  not_expanded : (fault : Fault) → TextExpands macros run (Err fault) → RunBecomes macros run (Err fault)
