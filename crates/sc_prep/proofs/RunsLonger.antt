-- A run that is over is the same where more follows its list.
use Rattle.std.proofs.Common.{◌≡◌, List, ◌++◌, append_assoc, sym, ap, ◌∙◌}
use Rattle.c11_macros.proofs.LongerLists.{called-more, lasting, replaced-more}
use Rattle.c11_macros.specs.Expansion.{called, case_of, replaced, stays}
use Rattle.c11_macros.specs.Hidden.{Hidden, Provenance}
use Rattle.c11_macros.specs.Macros.{Macros}
use Rattle.c11_macros.specs.Runs.{Leaves, Runs, Uses, beyond, call, is_last_name, object, over, stay, used_up, within}

module _ {P : Type 0} (provenance : Provenance P) (macros : Macros) (more : List (Hidden P)) where
  leaves-longer : {source after left rest taken : List (Hidden P)} → Leaves source after left rest taken
      → Leaves (source ++ more) (after ++ more) left (rest ++ more) taken
  leaves-longer (within {front} is) = within (ap (λ l. l ++ more) is ∙ append_assoc front _ more)
  leaves-longer (beyond {taken} is some) = beyond (ap (λ l. l ++ more) is ∙ append_assoc taken _ more) some

  list-longer : {A : Type 0} (f : List (Hidden P) → A) (front source : List (Hidden P)) (x : A) → f ((front ++ source) ++ more) ≡ x
      → f (front ++ (source ++ more)) ≡ x
  list-longer f front source x is = ap f (sym (append_assoc front source more)) ∙ is

  -- it uses the same
  pub runs-longer : {front source done after : List (Hidden P)} {u : Uses P} → Runs provenance macros front source done (over after) u
      → Runs provenance macros front (source ++ more) done (over (after ++ more)) u
  runs-longer used_up = used_up
  runs-longer (stay {t} {front} {source} is free run) =
      let last = lasting macros t (front ++ source) more is free in
      stay (list-longer (case_of macros t) front source stays last.0) (list-longer (is_last_name macros t) front source _ last.1) (runs-longer run)
  runs-longer (object {t} {front} {source} d body is made run) =
      object d body (list-longer (case_of macros t) front source (replaced d) (replaced-more more macros t (front ++ source) d is)) made (runs-longer run)
  runs-longer (call {t} {front} {source} d arguments close after left rest taken body results is leaves each made run) =
      call d arguments close (after ++ more) left (rest ++ more) taken body results
      (list-longer (case_of macros t) front source (called d arguments close (after ++ more)) (called-more more macros t (front ++ source) d arguments close after is))
      (leaves-longer leaves) each made (runs-longer run)
