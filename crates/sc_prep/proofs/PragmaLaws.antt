-- What the operators of a run leave of it (C11 6.10.9), from its tokens in their order.
use Rattle.std.proofs.Common.{◌≡◌, ◌&&◌, not, Bool, true, false, List, [], ◌∷◌, Option, Some, None, Result, Ok, Err, refl, sym, ap, subst, ◌∙◌, if◌then◌else◌}
use Rattle.c11_directives.specs.Pragmas.{CarriesOutPragmas, behind_operand, is_closing, is_opening, is_pragma, is_text, no_operand, no_token, operator, token}
use Rattle.c11_macros.specs.Results.{result_map}
use Rattle.sc_model.specs.declared.cause.Cause.TheVariants.{BadPragma}
use Rattle.sc_model.specs.Fault.{Fault, fault_at}
use Rattle.sc_model.specs.Token.{Place, Token}
use Rattle.sc_prep.specs.Pragmas.{Awaited, awaits, closing, no_operator, nothing, opening, outside, text, fault_awaiting}

-- the tokens outside of operators, or the fault of one that hasn't come to its end
abbrev pub carried : List Token → Option Fault → Result (List Token) Fault
carried ts None = Ok ts
carried ts (Some fault) = Err fault

abbrev behind : Awaited → List Token → Result (List Token) Fault
behind a ts = carried (outside a ts) (fault_awaiting (awaits a ts))

abbrev bad : Place → Fault
bad p = fault_at BadPragma p

-- an operator that has no operand
bad-stays : (p : Place) (ts : List Token) → fault_awaiting (awaits (nothing p) ts) ≡ Some (bad p)
bad-stays p [] = refl
bad-stays p (t ∷ ts) = bad-stays p ts

bad-behind : (p : Place) (ts : List Token) → behind (nothing p) ts ≡ Err (bad p)
bad-behind p ts = ap (carried (outside (nothing p) ts)) (bad-stays p ts)

-- the three tokens behind a name
module _ (p : Place) where
  closes : (z : Bool) (ts : List Token) → behind (if z then no_operator else nothing p) ts ≡ (if z then behind no_operator ts else Err (bad p))
  closes true ts = refl
  closes false ts = bad-behind p ts

  names : (y : Bool) (c : Token) (ts : List Token) → behind (if y then closing p else nothing p) (c ∷ ts) ≡ (if y && is_closing c then behind no_operator ts else Err (bad p))
  names true c ts = closes (is_closing c) ts
  names false c ts = bad-behind p ts

  opens : (x : Bool) (b c : Token) (ts : List Token) → behind (if x then text p else nothing p) (b ∷ c ∷ ts) ≡ (if x && is_text b && is_closing c then behind no_operator ts else Err (bad p))
  opens true b c ts = names (is_text b) c ts
  opens false b c ts = bad-behind p ts

  no-end : (y : Bool) → fault_awaiting (if y then closing p else nothing p) ≡ Some (bad p)
  no-end true = refl
  no-end false = refl

  no-text : (x : Bool) (b : Token) → fault_awaiting (awaits (if x then text p else nothing p) (b ∷ [])) ≡ Some (bad p)
  no-text true b = no-end (is_text b)
  no-text false b = refl

  no-opening : (x : Bool) → fault_awaiting (if x then text p else nothing p) ≡ Some (bad p)
  no-opening true = refl
  no-opening false = refl

map-carried : (t : Token) (ts : List Token) (o : Option Fault) → result_map (λ us. t ∷ us) (carried ts o) ≡ carried (t ∷ ts) o
map-carried t ts None = refl
map-carried t ts (Some fault) = refl

abbrev Left : List Token → Type 0
Left ts = CarriesOutPragmas ts (behind no_operator ts)

module _ (t : Token) (ts : List Token) where
  -- what is left, where this is whether a name stands first
  abbrev by-name : Bool → Result (List Token) Fault
  by-name b = carried (if not b then t ∷ outside (if b then opening t.place else no_operator) ts else outside (if b then opening t.place else no_operator) ts) (fault_awaiting (awaits (if b then opening t.place else no_operator) ts))

  plain-left : is_pragma t ≡ false → Left ts → Left (t ∷ ts)
  plain-left is d = subst (CarriesOutPragmas (t ∷ ts)) (map-carried t (outside no_operator ts) (fault_awaiting (awaits no_operator ts)) ∙ ap by-name (sym is)) (token is d)

  bad-left : is_pragma t ≡ true → behind_operand ts ≡ None → behind (opening t.place) ts ≡ Err (bad t.place) → Left (t ∷ ts)
  bad-left is none e = subst (CarriesOutPragmas (t ∷ ts)) (sym e ∙ ap by-name (sym is)) (no_operand is none)

  whole-left : (rest : List Token) → is_pragma t ≡ true → behind_operand ts ≡ Some rest → behind (opening t.place) ts ≡ behind no_operator rest → Left rest → Left (t ∷ ts)
  whole-left rest is some e d = subst (CarriesOutPragmas (t ∷ ts)) (sym e ∙ ap by-name (sym is)) (operator rest is some d)

  first-left : Left ts → (is_pragma t ≡ true → Left (t ∷ ts)) → Left (t ∷ ts)
  first-left d named = by (is_pragma t) refl
    where
      by : (b : Bool) → is_pragma t ≡ b → Left (t ∷ ts)
      by true is = named is
      by false is = plain-left is d

operand-left : (t a b c : Token) (ts : List Token) → is_pragma t ≡ true → Left ts → Left (t ∷ (a ∷ (b ∷ (c ∷ ts))))
operand-left t a b c ts is d = by (is_opening a && is_text b && is_closing c) refl
  where
    by : (has : Bool) → (is_opening a && is_text b && is_closing c) ≡ has → Left (t ∷ (a ∷ (b ∷ (c ∷ ts))))
    by true e = whole-left t (a ∷ b ∷ c ∷ ts) ts is (ap (λ h. if h then Some ts else None) e) (opens t.place (is_opening a) b c ts ∙ ap (λ h. if h then behind no_operator ts else Err (bad t.place)) e) d
    by false e = bad-left t (a ∷ b ∷ c ∷ ts) is (ap (λ h. if h then Some ts else None) e) (opens t.place (is_opening a) b c ts ∙ ap (λ h. if h then behind no_operator ts else Err (bad t.place)) e)

-- the operators of a text are carried out
pub carries-out : (ts : List Token) → Left ts
carries-out [] = no_token
carries-out (t ∷ []) = first-left t [] no_token (λ is. bad-left t [] is refl refl)
carries-out (t ∷ (a ∷ [])) =
    first-left t (a ∷ []) (carries-out (a ∷ [])) (λ is. bad-left t (a ∷ []) is refl (ap (carried (outside (opening t.place) (a ∷ []))) (no-opening t.place (is_opening a))))
carries-out (t ∷ (a ∷ (b ∷ []))) =
    first-left t (a ∷ b ∷ []) (carries-out (a ∷ b ∷ [])) (λ is. bad-left t (a ∷ b ∷ []) is refl (ap (carried (outside (opening t.place) (a ∷ b ∷ []))) (no-text t.place (is_opening a) b)))
carries-out (t ∷ (a ∷ (b ∷ (c ∷ ts)))) = first-left t (a ∷ b ∷ c ∷ ts) (carries-out (a ∷ b ∷ c ∷ ts)) (λ is. operand-left t a b c ts is (carries-out ts))
