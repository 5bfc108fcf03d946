-- What a settled list expands to where nothing follows it.
use Rattle.std.proofs.Common.{◌≡◌, ℕ, Bool, true, false, List, [], ◌∷◌, ◌++◌, Option, Some, None, Ok, Err, refl, subst}
use Rattle.c11_macros.specs.Expansion as expansion
use Rattle.c11_macros.specs.Runs.{IsHeld, Runs, Settles, Uses, after_these, alone, call, held, is_last_name, object, open_call, open_end, stay, waits, whole}
use Rattle.sc_expand.proofs.Facts.{last-stays, passes-expand, runs-expand, these-both}
use Rattle.sc_expand.proofs.Terms.{Definition, Expands, Failure, Form, HiddenToken as Hidden, Macros, Provenance, case_of, defined_case, form_case, function_like, is_looked_up, looked_up_case, object_like, unclosed}
use Rattle.sc_expand.specs.Open.{closed}

-- ---- a name with nothing behind it is no open call

form-alone : {P : Type 0} (d : Definition) (f : Form) → form_case {P = P} d f [] ≡ unclosed → ⊥
form-alone d object_like is = cc
form-alone d (function_like parameters variadic) is = cc

defined-alone : {P : Type 0} (o : Option Definition) → defined_case {P = P} o [] ≡ unclosed → ⊥
defined-alone None is = cc
defined-alone (Some d) is = form-alone d d.form is

looked-alone : {P : Type 0} (macros : Macros) (b : Bool) (name : List ℕ) → looked_up_case {P = P} macros b name [] ≡ unclosed → ⊥
looked-alone macros true name is = defined-alone (macros name) is
looked-alone macros false name is = cc

module _ {P : Type 0} (provenance : Provenance P) (macros : Macros) where
  alone-closed : (t : Hidden P) (rest : List (Hidden P)) → is_last_name macros t rest ≡ true → Expands provenance macros (t ∷ rest) (closed (t ∷ rest))
  alone-closed t [] last = expansion.stay (last-stays macros t [] last) expansion.empty
  alone-closed t (u ∷ us) last = absurd (cc)

  open-closed : (t : Hidden P) (rest : List (Hidden P)) → case_of macros t rest ≡ unclosed → Expands provenance macros (t ∷ rest) (closed (t ∷ rest))
  open-closed t [] is = absurd (looked-alone macros (is_looked_up t) t.spelling is)
  open-closed t (u ∷ us) is = expansion.unterminated is

  waits-closed : {front source done rest : List (Hidden P)} {name : Hidden P} {u : Uses P} → Runs provenance macros front source done (waits name rest) u → Expands provenance macros (name ∷ rest) (closed (name ∷ rest))
  waits-closed (stay is free run) = waits-closed run
  waits-closed (alone {t} {front} {source} is) = alone-closed t (front ++ source) is
  waits-closed (open_call {t} {front} {source} is) = open-closed t (front ++ source) is
  waits-closed (object d body is made run) = waits-closed run
  waits-closed (call d arguments close after left rest taken body results is leaves each made run) = waits-closed run

  pub settles-closed : {ts done rest : List (Hidden P)} → Settles provenance macros ts done rest → Expands provenance macros ts (after_these done (closed rest))
  settles-closed (whole p) = passes-expand provenance macros p (Ok []) expansion.empty
  settles-closed {ts} (open_end {out} {done} {rest = rest} {name = name} u p run) =
      subst (Expands provenance macros ts) (these-both out done (closed (name ∷ rest)))
      (passes-expand provenance macros p (after_these done (closed (name ∷ rest))) (runs-expand provenance macros run (closed (name ∷ rest)) (waits-closed run)))

  pub held-closed : {ts : List (Hidden P)} {failure : Failure P} → IsHeld provenance macros ts failure → Expands provenance macros ts (Err failure)
  held-closed {failure = failure} (held u p run) = passes-expand provenance macros p (Err failure) (runs-expand provenance macros run (Err failure) refl)
