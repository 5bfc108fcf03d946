-- What a call leaves is the end of its list.
use Rattle.std.proofs.Common.{◌≡◌, ℕ, zero, suc, Bool, true, false, List, [], ◌∷◌, ◌++◌, length, codes, Option, Some, None, refl, ap, subst, if◌then◌else◌, is_some}
use Rattle.c11_macros.specs.Call.{Call, Role, apart, arguments_for, call_of, call_step, closing, comma, onto, onto_argument, opening, other, role_of}
use Rattle.c11_macros.specs.Expansion.{Case, call_case, called, case_of, defined_case, fitted_case, form_case, is_looked_up, looked_up_case, misfit, replaced, stays, unclosed}
use Rattle.c11_macros.specs.Hidden.{Hidden}
use Rattle.c11_macros.specs.Macros.{Definition, Form, Macros, function_like, object_like}
use Rattle.sc_model.specs.Bytes.{same_bytes}

-- a list ends with this, and with something before it
pub record EndsWith {A : Type 0} (list after : List A) : Type 0 where
  pub before : List A
  pub is : list ≡ before ++ after
  pub some : before ≡ [] → ⊥

pub cons-some : {A : Type 0} (x : A) (xs : List A) → x ∷ xs ≡ [] → ⊥
cons-some x xs is = cc

-- a call that begins with the list, where one does, ends in it
pub data Ends {P : Type 0} (ts : List (Hidden P)) : Option (Call P) → Type 0 where
  no_call : Ends ts None
  a_call : (c : Call P) → EndsWith ts c.rest → Ends ts (Some c)

module _ {P : Type 0} where
  in-onto : (t : Hidden P) (ts : List (Hidden P)) (o : Option (Call P)) → Ends ts o → Ends (t ∷ ts) (onto t o)
  in-onto t ts _ no_call = no_call
  in-onto t ts _ (a_call c e) = a_call (record c { arguments = onto_argument t c.arguments }) (record { before = t ∷ e.before; is = ap (λ l. t ∷ l) e.is; some = cons-some t e.before })

  in-apart : (t : Hidden P) (ts : List (Hidden P)) (o : Option (Call P)) → Ends ts o → Ends (t ∷ ts) (apart o)
  in-apart t ts _ no_call = no_call
  in-apart t ts _ (a_call c e) = a_call (record c { arguments = [] ∷ c.arguments }) (record { before = t ∷ e.before; is = ap (λ l. t ∷ l) e.is; some = cons-some t e.before })

  in-step : (role : Role) (commas depth : ℕ) (t : Hidden P) (ts : List (Hidden P)) (go : ℕ → ℕ → Option (Call P)) → ((k d : ℕ) → Ends ts (go k d)) → Ends (t ∷ ts) (call_step role commas depth t ts go)
  in-step closing commas zero t ts go all = a_call (record { arguments = [] ∷ []; close = t; rest = ts }) (record { before = t ∷ []; is = refl; some = cons-some t [] })
  in-step closing commas (suc depth) t ts go all = in-onto t ts (go commas depth) (all commas depth)
  in-step opening commas depth t ts go all = in-onto t ts (go commas (suc depth)) (all commas (suc depth))
  in-step comma (suc commas) zero t ts go all = in-apart t ts (go commas zero) (all commas zero)
  in-step comma zero zero t ts go all = in-onto t ts (go zero zero) (all zero zero)
  in-step comma zero (suc depth) t ts go all = in-onto t ts (go zero (suc depth)) (all zero (suc depth))
  in-step comma (suc commas) (suc depth) t ts go all = in-onto t ts (go (suc commas) (suc depth)) (all (suc commas) (suc depth))
  in-step other commas depth t ts go all = in-onto t ts (go commas depth) (all commas depth)

  pub in-call : (commas depth : ℕ) (ts : List (Hidden P)) → Ends ts (call_of commas depth ts)
  in-call commas depth [] = no_call
  in-call commas depth (t ∷ ts) = in-step (role_of t.spelling) commas depth t ts (λ k d. call_of k d ts) (λ k d. in-call k d ts)

  -- what the case leaves: all but a call's
  pub data CaseIn (rest : List (Hidden P)) : Case P → Type 0 where
    in_stays : CaseIn rest stays
    in_replaced : (d : Definition) → CaseIn rest (replaced d)
    in_unclosed : CaseIn rest unclosed
    in_misfit : (after : List (Hidden P)) → EndsWith rest after → CaseIn rest (misfit after)
    in_called : (d : Definition) (arguments : List (List (Hidden P))) (close : Hidden P) (after : List (Hidden P)) → EndsWith rest after → CaseIn rest (called d arguments close after)

  ends-more : {u : Hidden P} {us after : List (Hidden P)} → EndsWith us after → EndsWith (u ∷ us) after
  ends-more {u} e = record { before = u ∷ e.before; is = ap (λ l. u ∷ l) e.is; some = cons-some u e.before }

  fitted-in : (d : Definition) (u : Hidden P) (us : List (Hidden P)) (call : Call P) (o : Option (List (List (Hidden P)))) → EndsWith us call.rest → CaseIn (u ∷ us) (fitted_case d call.close call.rest o)
  fitted-in d u us call None e = in_misfit call.rest (ends-more e)
  fitted-in d u us call (Some arguments) e = in_called d arguments call.close call.rest (ends-more e)

  opened-in : (d : Definition) (ps : List (List ℕ)) (v : Bool) (u : Hidden P) (us : List (Hidden P)) → CaseIn (u ∷ us) (call_case d ps v (call_of (length ps) zero us))
  opened-in d ps v u us = by (call_of (length ps) zero us) (in-call (length ps) zero us)
    where
      by : (o : Option (Call P)) → Ends us o → CaseIn (u ∷ us) (call_case d ps v o)
      by _ no_call = in_unclosed
      by _ (a_call call e) = fitted-in d u us call (arguments_for ps v call.arguments) e

  form-in : (d : Definition) (f : Form) (rest : List (Hidden P)) → CaseIn rest (form_case d f rest)
  form-in d object_like rest = in_replaced d
  form-in d (function_like ps v) [] = in_stays
  form-in d (function_like ps v) (u ∷ us) = by (same_bytes u.spelling (codes "("))
    where
      by : (b : Bool) → CaseIn (u ∷ us) (if b then call_case d ps (is_some v) (call_of (length ps) zero us) else stays)
      by true = opened-in d ps (is_some v) u us
      by false = in_stays

  defined-in : (o : Option Definition) (rest : List (Hidden P)) → CaseIn rest (defined_case o rest)
  defined-in None rest = in_stays
  defined-in (Some d) rest = form-in d d.form rest

  looked-in : (macros : Macros) (b : Bool) (name : List ℕ) (rest : List (Hidden P)) → CaseIn rest (looked_up_case macros b name rest)
  looked-in macros true name rest = defined-in (macros name) rest
  looked-in macros false name rest = in_stays

  pub case-in : (macros : Macros) (t : Hidden P) (rest : List (Hidden P)) (k : Case P) → case_of macros t rest ≡ k → CaseIn rest k
  case-in macros t rest k is = subst (CaseIn rest) is (looked-in macros (is_looked_up t) t.spelling rest)

  pub called-ends : (rest : List (Hidden P)) (d : Definition) (arguments : List (List (Hidden P))) (close : Hidden P) (after : List (Hidden P)) → CaseIn rest (called d arguments close after) → EndsWith rest after
  called-ends rest d arguments close after (in_called _ _ _ _ e) = e

  pub misfit-ends : (rest after : List (Hidden P)) → CaseIn rest (misfit after) → EndsWith rest after
  misfit-ends rest after (in_misfit _ e) = e
