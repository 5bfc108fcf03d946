-- A list of tokens becomes one list without its `_Pragma` operators, or has one fault.
use Rattle.std.proofs.Common.{◌≡◌, ◌&&◌, Bool, true, false, true≢false, List, [], ◌∷◌, Option, Some, None, Result, Ok, Err, refl, sym, ap, ◌∙◌, subst, if◌then◌else◌}
use Rattle.c11_directives.specs.Pragmas.{CarriesOutPragmas, behind_operand, is_closing, is_opening, is_pragma, is_text, no_operand, no_token, operator, token}
use Rattle.c11_macros.specs.Results.{result_map}
use Rattle.sc_model.specs.declared.cause.Cause.TheVariants.{BadPragma}
use Rattle.sc_model.specs.Fault.{Fault, fault_at}
use Rattle.sc_model.specs.Token.{Token}

abbrev HasAnswer : List Token → Type 0
HasAnswer ts = (r : Result (List Token) Fault) × CarriesOutPragmas ts r

-- a token before a list that has an answer, or before an operand
first-some : (t : Token) (ts : List Token) → HasAnswer ts → ((rest : List Token) → behind_operand ts ≡ Some rest → HasAnswer rest) → HasAnswer (t ∷ ts)
first-some t ts later behind = by (is_pragma t) refl (behind_operand ts) refl
  where
    by : (b : Bool) → is_pragma t ≡ b → (o : Option (List Token)) → behind_operand ts ≡ o → HasAnswer (t ∷ ts)
    by false is o at = (result_map (λ us. t ∷ us) later.0, token is later.1)
    by true is None at = (Err (fault_at BadPragma t.place), no_operand is at)
    by true is (Some rest) at = let x = behind rest at in (x.0, operator rest is at x.1)

-- nothing but what stands behind three tokens stands behind an operand
pub operand-rest : (a b c : Token) (ts rest : List Token) → behind_operand (a ∷ b ∷ c ∷ ts) ≡ Some rest → ts ≡ rest
operand-rest a b c ts rest = by (is_opening a && is_text b && is_closing c)
  where
    by : (has : Bool) → (if has then Some ts else None) ≡ Some rest → ts ≡ rest
    by true e = cc
    by false e = absurd (cc)

-- of each list
pub pragmas-some : (ts : List Token) → HasAnswer ts
pragmas-some [] = (Ok [], no_token)
pragmas-some (t ∷ []) = first-some t [] (Ok [], no_token) (λ rest e. absurd (cc))
pragmas-some (t ∷ (a ∷ [])) = first-some t (a ∷ []) (pragmas-some (a ∷ [])) (λ rest e. absurd (cc))
pragmas-some (t ∷ (a ∷ (b ∷ []))) = first-some t (a ∷ b ∷ []) (pragmas-some (a ∷ b ∷ [])) (λ rest e. absurd (cc))
pragmas-some (t ∷ (a ∷ (b ∷ (c ∷ ts)))) = first-some t (a ∷ b ∷ c ∷ ts) (pragmas-some (a ∷ b ∷ c ∷ ts)) (λ rest e. subst HasAnswer (operand-rest a b c ts rest e) (pragmas-some ts))

-- and it is one
pub pragmas-sole : {ts : List Token} {r : Result (List Token) Fault} → CarriesOutPragmas ts r → (s : Result (List Token) Fault) → CarriesOutPragmas ts s → r ≡ s
pragmas-sole no_token _ no_token = refl
pragmas-sole (token {t} is d) _ (token other e) = ap (result_map (λ us. t ∷ us)) (pragmas-sole d _ e)
pragmas-sole (token is d) _ (operator rest other at e) = absurd (true≢false (sym other ∙ is))
pragmas-sole (token is d) _ (no_operand other at) = absurd (true≢false (sym other ∙ is))
pragmas-sole (operator rest is at d) _ (token other e) = absurd (true≢false (sym is ∙ other))
pragmas-sole (operator rest is at d) s (operator last other also e) =
    let both : Some rest ≡ Some last = sym at ∙ also in
    let same : rest ≡ last = cc in
    pragmas-sole d s (subst (λ us. CarriesOutPragmas us s) (sym same) e)
pragmas-sole (operator rest is at d) _ (no_operand other also) = let both = sym at ∙ also in cc
pragmas-sole (no_operand is at) _ (token other e) = absurd (true≢false (sym is ∙ other))
pragmas-sole (no_operand is at) _ (operator rest other also e) = let both = sym at ∙ also in cc
pragmas-sole (no_operand is at) _ (no_operand other also) = refl
