-- The case at a token, as more follows the list.
use Rattle.std.proofs.Common.{◌≡◌, ℕ, zero, suc, ◌&&◌, Bool, true, false, List, [], ◌∷◌, ◌++◌, length, codes, Option, Some, None, refl, subst, if◌then◌else◌, is_some}
use Rattle.c11_macros.proofs.CallEnds.{EndsWith, Ends, no_call, a_call, in-call}
use Rattle.c11_macros.specs.Call.{Call, Role, apart, arguments_for, call_of, call_step, closing, comma, onto, onto_argument, opening, other, role_of}
use Rattle.c11_macros.specs.Defines.{is_function_like}
use Rattle.c11_macros.specs.Expansion.{Case, call_case, called, case_of, defined_case, fitted_case, form_case, is_looked_up, looked_up_case, misfit, replaced, stays, unclosed}
use Rattle.c11_macros.specs.Hidden.{Hidden}
use Rattle.c11_macros.specs.Macros.{Definition, Form, Macros, function_like, object_like}
use Rattle.c11_macros.specs.Runs.{is_function_named, is_last_name}
use Rattle.sc_model.specs.Bytes.{same_bytes}

-- ---- the case at a token, as more follows

pub data CallMore {P : Type 0} (more : List (Hidden P)) : Option (Call P) → Option (Call P) → Type 0 where
  -- an open call ends in what follows, or not yet
  open_so_far : (o : Option (Call P)) → Ends more o → CallMore more None o
  closed : (call : Call P) → CallMore more (Some call) (Some (record call { rest = call.rest ++ more }))

-- what an open call may become
pub data Opened {P : Type 0} (more : List (Hidden P)) : Case P → Type 0 where
  open_still : Opened more unclosed
  open_misfit : (after : List (Hidden P)) → EndsWith more after → Opened more (misfit after)
  open_called : (d : Definition) (arguments : List (List (Hidden P))) (close : Hidden P) (after : List (Hidden P)) → EndsWith more after → Opened more (called d arguments close after)

-- A case stays what it is, but for that of an open call, and of a name that is the last token.
pub data CaseMore {P : Type 0} (more : List (Hidden P)) : List (Hidden P) → Case P → Case P → Type 0 where
  same_stays : (rest : List (Hidden P)) → CaseMore more rest stays stays
  same_replaced : (rest : List (Hidden P)) (d : Definition) → CaseMore more rest (replaced d) (replaced d)
  same_misfit : (rest after : List (Hidden P)) → CaseMore more rest (misfit after) (misfit (after ++ more))
  same_called : (rest : List (Hidden P)) (d : Definition) (arguments : List (List (Hidden P))) (close : Hidden P) (after : List (Hidden P)) → CaseMore more rest (called d arguments close after) (called d arguments close (after ++ more))
  not_closed : (rest : List (Hidden P)) (k : Case P) → Opened more k → CaseMore more rest unclosed k
  at_end : (k : Case P) → CaseMore more [] stays k

module _ {P : Type 0} (more : List (Hidden P)) where
  onto-more : (t : Hidden P) (o p : Option (Call P)) → CallMore more o p → CallMore more (onto t o) (onto t p)
  onto-more t _ _ (open_so_far _ no_call) = open_so_far None no_call
  onto-more t _ _ (open_so_far _ (a_call c e)) = open_so_far (onto t (Some c)) (a_call (record c { arguments = onto_argument t c.arguments }) e)
  onto-more t _ _ (closed call) = closed (record call { arguments = onto_argument t call.arguments })

  apart-more : (o p : Option (Call P)) → CallMore more o p → CallMore more (apart o) (apart p)
  apart-more _ _ (open_so_far _ no_call) = open_so_far None no_call
  apart-more _ _ (open_so_far _ (a_call c e)) = open_so_far (apart (Some c)) (a_call (record c { arguments = [] ∷ c.arguments }) e)
  apart-more _ _ (closed call) = closed (record call { arguments = [] ∷ call.arguments })

  step-more : (role : Role) (commas depth : ℕ) (t : Hidden P) (ts : List (Hidden P)) (go later : ℕ → ℕ → Option (Call P)) → ((k d : ℕ) → CallMore more (go k d) (later k d))
      → CallMore more (call_step role commas depth t ts go) (call_step role commas depth t (ts ++ more) later)
  step-more closing commas zero t ts go later same = closed (record { arguments = [] ∷ []; close = t; rest = ts })
  step-more closing commas (suc depth) t ts go later same = onto-more t (go commas depth) (later commas depth) (same commas depth)
  step-more opening commas depth t ts go later same = onto-more t (go commas (suc depth)) (later commas (suc depth)) (same commas (suc depth))
  step-more comma (suc commas) zero t ts go later same = apart-more (go commas zero) (later commas zero) (same commas zero)
  step-more comma zero zero t ts go later same = onto-more t (go zero zero) (later zero zero) (same zero zero)
  step-more comma zero (suc depth) t ts go later same = onto-more t (go zero (suc depth)) (later zero (suc depth)) (same zero (suc depth))
  step-more comma (suc commas) (suc depth) t ts go later same = onto-more t (go (suc commas) (suc depth)) (later (suc commas) (suc depth)) (same (suc commas) (suc depth))
  step-more other commas depth t ts go later same = onto-more t (go commas depth) (later commas depth) (same commas depth)

  call-more : (commas depth : ℕ) (ts : List (Hidden P)) → CallMore more (call_of commas depth ts) (call_of commas depth (ts ++ more))
  call-more commas depth [] = open_so_far (call_of commas depth more) (in-call commas depth more)
  call-more commas depth (t ∷ ts) = step-more (role_of t.spelling) commas depth t ts (λ k d. call_of k d ts) (λ k d. call_of k d (ts ++ more)) (λ k d. call-more k d ts)

  module _ (d : Definition) where
    fitted-more : (rest after : List (Hidden P)) (close : Hidden P) (o : Option (List (List (Hidden P)))) → CaseMore more rest (fitted_case d close after o) (fitted_case d close (after ++ more) o)
    fitted-more rest after close None = same_misfit rest after
    fitted-more rest after close (Some arguments) = same_called rest d arguments close after

    fitted-opened : (c : Call P) (o : Option (List (List (Hidden P)))) → EndsWith more c.rest → Opened more (fitted_case d c.close c.rest o)
    fitted-opened c None e = open_misfit c.rest e
    fitted-opened c (Some arguments) e = open_called d arguments c.close c.rest e

    call_case-more : (rest : List (Hidden P)) (ps : List (List ℕ)) (variadic : Bool) (o p : Option (Call P)) → CallMore more o p → CaseMore more rest (call_case d ps variadic o) (call_case d ps variadic p)
    call_case-more rest ps variadic _ _ (open_so_far _ no_call) = not_closed rest unclosed open_still
    call_case-more rest ps variadic _ _ (open_so_far _ (a_call c e)) = not_closed rest (call_case d ps variadic (Some c)) (fitted-opened c (arguments_for ps variadic c.arguments) e)
    call_case-more rest ps variadic _ _ (closed call) = fitted-more rest call.rest call.close (arguments_for ps variadic call.arguments)

    form-more : (form : Form) (rest : List (Hidden P)) → CaseMore more rest (form_case d form rest) (form_case d form (rest ++ more))
    form-more object_like rest = same_replaced rest d
    form-more (function_like ps variadic) [] = at_end (form_case d (function_like ps variadic) more)
    form-more (function_like ps variadic) (u ∷ us) = by (same_bytes u.spelling (codes "("))
      where
        by : (b : Bool) → CaseMore more (u ∷ us) (if b then call_case d ps (is_some variadic) (call_of (length ps) zero us) else stays) (if b then call_case d ps (is_some variadic) (call_of (length ps) zero (us ++ more)) else stays)
        by true = call_case-more (u ∷ us) ps (is_some variadic) (call_of (length ps) zero us) (call_of (length ps) zero (us ++ more)) (call-more (length ps) zero us)
        by false = same_stays (u ∷ us)

  case-more : (macros : Macros) (t : Hidden P) (rest : List (Hidden P)) → CaseMore more rest (case_of macros t rest) (case_of macros t (rest ++ more))
  case-more macros t rest = by (is_looked_up t)
    where
      defined : (o : Option Definition) → CaseMore more rest (defined_case o rest) (defined_case o (rest ++ more))
      defined None = same_stays rest
      defined (Some d) = form-more d d.form rest

      by : (b : Bool) → CaseMore more rest (looked_up_case macros b t.spelling rest) (looked_up_case macros b t.spelling (rest ++ more))
      by true = defined (macros t.spelling)
      by false = same_stays rest

  module _ (macros : Macros) (t : Hidden P) (rest : List (Hidden P)) where
    known-more : (k : Case P) → case_of macros t rest ≡ k → CaseMore more rest k (case_of macros t (rest ++ more))
    known-more k is = subst (λ k. CaseMore more rest k (case_of macros t (rest ++ more))) is (case-more macros t rest)

    pub replaced-more : (d : Definition) → case_of macros t rest ≡ replaced d → case_of macros t (rest ++ more) ≡ replaced d
    replaced-more d is = by rest (case_of macros t (rest ++ more)) (known-more (replaced d) is)
      where
        by : (rest : List (Hidden P)) (k : Case P) → CaseMore more rest (replaced d) k → k ≡ replaced d
        by _ _ (same_replaced r e) = refl

    pub misfit-more : (after : List (Hidden P)) → case_of macros t rest ≡ misfit after → case_of macros t (rest ++ more) ≡ misfit (after ++ more)
    misfit-more after is = by rest (case_of macros t (rest ++ more)) (known-more (misfit after) is)
      where
        by : (rest : List (Hidden P)) (k : Case P) → CaseMore more rest (misfit after) k → k ≡ misfit (after ++ more)
        by _ _ (same_misfit r a) = refl

    pub called-more : (d : Definition) (arguments : List (List (Hidden P))) (close : Hidden P) (after : List (Hidden P)) → case_of macros t rest ≡ called d arguments close after
        → case_of macros t (rest ++ more) ≡ called d arguments close (after ++ more)
    called-more d arguments close after is = by rest (case_of macros t (rest ++ more)) (known-more (called d arguments close after) is)
      where
        by : (rest : List (Hidden P)) (k : Case P) → CaseMore more rest (called d arguments close after) k → k ≡ called d arguments close (after ++ more)
        by _ _ (same_called r e a c f) = refl

    -- an open call
    pub opened : (k : Case P) → case_of macros t rest ≡ unclosed → case_of macros t (rest ++ more) ≡ k → Opened more k
    opened k is at = subst (Opened more) at (by rest (case_of macros t (rest ++ more)) (known-more unclosed is))
      where
        by : (rest : List (Hidden P)) (k : Case P) → CaseMore more rest unclosed k → Opened more k
        by _ _ (not_closed r k o) = o

  pub opened-stays : Opened more stays → ⊥
  opened-stays o = elim o [ ]

  pub opened-replaced : (d : Definition) → Opened more (replaced d) → ⊥
  opened-replaced d o = elim o [ ]

  pub opened-called : (d : Definition) (arguments : List (List (Hidden P))) (close : Hidden P) (after : List (Hidden P)) → Opened more (called d arguments close after) → EndsWith more after
  opened-called d arguments close after (open_called _ _ _ _ e) = e

  pub opened-misfit : (after : List (Hidden P)) → Opened more (misfit after) → EndsWith more after
  opened-misfit after (open_misfit _ e) = e

  -- a name before another token
  pub stays-more : (macros : Macros) (t u : Hidden P) (us : List (Hidden P)) → case_of macros t (u ∷ us) ≡ stays → case_of macros t (u ∷ us ++ more) ≡ stays
  stays-more macros t u us is = by (case_of macros t (u ∷ us ++ more)) (known-more macros t (u ∷ us) stays is)
    where
      by : (k : Case P) → CaseMore more (u ∷ us) stays k → k ≡ stays
      by k (same_stays r) = refl

-- ---- a token that waits for nothing

module _ {P : Type 0} (d : Definition) (more : List (Hidden P)) where
  form-last : (f : Form) → form_case {P = P} d f [] ≡ stays → is_function_like f ≡ false → form_case {P = P} d f more ≡ stays
  form-last object_like is free = absurd (cc)
  form-last (function_like ps v) is free = absurd (cc)

defined-last : {P : Type 0} (o : Option Definition) (more : List (Hidden P)) → defined_case {P = P} o [] ≡ stays → is_function_named o ≡ false → defined_case o more ≡ stays
defined-last None more is free = refl
defined-last (Some d) more is free = form-last d more d.form is free

looked-last : {P : Type 0} (macros : Macros) (b : Bool) (name : List ℕ) (more : List (Hidden P)) → looked_up_case {P = P} macros b name [] ≡ stays → (b && is_function_named (macros name)) ≡ false
    → looked_up_case macros b name more ≡ stays
looked-last macros true name more is free = defined-last (macros name) more is free
looked-last macros false name more is free = refl

free-last : {P : Type 0} (macros : Macros) (t : Hidden P) (more : List (Hidden P)) → is_last_name macros t [] ≡ false → is_last_name macros t more ≡ false
free-last macros t [] free = free
free-last macros t (u ∷ us) free = refl

-- it stays whatever follows
pub lasting : {P : Type 0} (macros : Macros) (t : Hidden P) (rest more : List (Hidden P)) → case_of macros t rest ≡ stays → is_last_name macros t rest ≡ false
    → (case_of macros t (rest ++ more) ≡ stays) × (is_last_name macros t (rest ++ more) ≡ false)
lasting macros t [] more is free = (looked-last macros (is_looked_up t) t.spelling more is free, free-last macros t more free)
lasting macros t (u ∷ us) more is free = (stays-more more macros t u us is, refl)

-- a function-like macro's name that stands last stays
last-form : {P : Type 0} (d : Definition) (f : Form) → is_function_like f ≡ true → form_case {P = P} d f [] ≡ stays
last-form d object_like is = absurd (cc)
last-form d (function_like ps v) is = refl

last-defined : {P : Type 0} (o : Option Definition) → is_function_named o ≡ true → defined_case {P = P} o [] ≡ stays
last-defined None is = absurd (cc)
last-defined (Some d) is = last-form d d.form is

last-looked : {P : Type 0} (macros : Macros) (b : Bool) (name : List ℕ) → (b && is_function_named (macros name)) ≡ true → looked_up_case {P = P} macros b name [] ≡ stays
last-looked macros true name is = last-defined (macros name) is
last-looked macros false name is = refl

pub last-stays : {P : Type 0} (macros : Macros) (t : Hidden P) (rest : List (Hidden P)) → is_last_name macros t rest ≡ true → case_of macros t rest ≡ stays
last-stays macros t [] last = last-looked macros (is_looked_up t) t.spelling last
last-stays macros t (u ∷ us) last = absurd (cc)
