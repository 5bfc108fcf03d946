-- Tables that define the names alike that a run looked up have the same run.
use Rattle.std.proofs.Common.{◌≡◌, ℕ, ◌&&◌, Bool, true, false, List, [], ◌∷◌, ◌++◌, sym, ap, ◌∙◌, refl, subst, if◌then◌else◌}
use Rattle.c11_macros.proofs.Agreement.{agree-back, agree-front, agrees-each, case-agrees}
use Rattle.c11_macros.specs.Expansion.{is_looked_up}
use Rattle.c11_macros.specs.Hidden.{Hidden, Provenance}
use Rattle.c11_macros.specs.Macros.{Macros}
use Rattle.c11_macros.specs.Runs.{Uses, using, then_uses, End, fails, is_function_named, is_last_name, Runs, used_up, stay, alone, open_call, object, call, bad_object, bad_count, bad_call}
use Rattle.c11_macros.specs.Trace.{Trace, Agree, looked_up_at, trace_each}

module _ (one two : Macros) where
  last-by : (b : Bool) (name : List ℕ) → Agree one two (if b then name ∷ [] else []) → (b && is_function_named (one name)) ≡ (b && is_function_named (two name))
  last-by true name agree = ap is_function_named agree.0
  last-by false name agree = refl

  last-agrees : {P : Type 0} (t : Hidden P) (rest : List (Hidden P)) → Agree one two (looked_up_at t) → is_last_name one t rest ≡ is_last_name two t rest
  last-agrees t [] agree = last-by (is_looked_up t) t.spelling agree
  last-agrees t (u ∷ us) agree = refl

  pub runs-agree : {P : Type 0} {provenance : Provenance P} {front source done : List (Hidden P)} {end : End P} {u : Uses P} → Runs provenance one front source done end u → Agree one two u.looked_up → Runs provenance two front source done end u
  runs-agree used_up agree = used_up
  runs-agree (stay {t} {front} {source} {u = u} is free run) agree =
      let first = agree-front one two (looked_up_at t) u.looked_up agree in
      stay (sym (case-agrees one two t (front ++ source) first) ∙ is) (sym (last-agrees t (front ++ source) first) ∙ free) (runs-agree run (agree-back one two (looked_up_at t) u.looked_up agree))
  runs-agree (alone {t} {front} {source} is) agree = alone (sym (last-agrees t (front ++ source) agree) ∙ is)
  runs-agree (open_call {t} {front} {source} is) agree = open_call (sym (case-agrees one two t (front ++ source) agree) ∙ is)
  runs-agree (object {t} {front} {source} {u = u} d body is made run) agree =
      object d body (sym (case-agrees one two t (front ++ source) (agree-front one two (looked_up_at t) u.looked_up agree)) ∙ is) made (runs-agree run (agree-back one two (looked_up_at t) u.looked_up agree))
  runs-agree {provenance = provenance} (call {t} {front} {source} {done} {end} {u} d arguments close after left rest taken body results is leaves each made run) agree =
      let names = (trace_each each).looked_up in
      let first = agree-front one two (looked_up_at t ++ names) u.looked_up agree in
      let other = agrees-each one two each (agree-back one two (looked_up_at t) names first) in
      subst (λ (x : Trace). Runs provenance two (t ∷ front) source done end (then_uses (using taken (looked_up_at t ++ x.looked_up)) u)) other.by
      (call d arguments close after left rest taken body results (sym (case-agrees one two t (front ++ source) (agree-front one two (looked_up_at t) names first)) ∙ is) leaves other.each made
      (runs-agree run (agree-back one two (looked_up_at t ++ names) u.looked_up agree)))
  runs-agree (bad_object {t} {front} {source} d failure is made) agree = bad_object d failure (sym (case-agrees one two t (front ++ source) agree) ∙ is) made
  runs-agree (bad_count {t} {front} {source} after left rest taken is leaves) agree = bad_count after left rest taken (sym (case-agrees one two t (front ++ source) agree) ∙ is) leaves
  runs-agree {provenance = provenance} (bad_call {t} {front} {source} d arguments close after left rest taken results failure is leaves each made) agree =
      let names = (trace_each each).looked_up in
      let other = agrees-each one two each (agree-back one two (looked_up_at t) names agree) in
      subst (λ (x : Trace). Runs provenance two (t ∷ front) source [] (fails failure) (using taken (looked_up_at t ++ x.looked_up))) other.by
      (bad_call d arguments close after left rest taken results failure (sym (case-agrees one two t (front ++ source) (agree-front one two (looked_up_at t) names agree)) ∙ is) leaves other.each made)
