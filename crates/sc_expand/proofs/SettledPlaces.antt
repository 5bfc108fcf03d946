-- Settling commutes with a map of what is kept of the places of tokens.
use Rattle.std.proofs.Common.{◌≡◌, Bool, List, [], ◌∷◌, ◌++◌, map, refl, sym, ap, subst, ◌∙◌}
use Rattle.c11_macros.specs.Runs.{End, IsHeld, Leaves, Passes, Runs, Settles, Uses, alone, bad_call, bad_count, bad_object, begins, beyond, call, fails, goes_on, held, is_last_name, object, open_call, open_end, over, stay, used_up, waits, whole, within}
use Rattle.sc_expand.proofs.Facts.{map-append}
use Rattle.sc_expand.proofs.PlainPlaces.{all, call_result-moved, called-each-moved, carried, case_of-moved, moved_case, object_result-moved}
use Rattle.sc_expand.proofs.Terms.{Case, Failure, HiddenToken as Hidden, IsKept, Macros, Provenance, case_of, moved, moved_answer, moved_failure}

module _ {P Q : Type 0} (f : P → Q) where
  abbrev moved_end : End P → End Q
  moved_end (over after) = over (all f after)
  moved_end (waits name rest) = waits (moved f name) (all f rest)
  moved_end (fails failure) = fails (moved_failure f failure)

  none-moved : (xs : List (Hidden P)) → all f xs ≡ [] → xs ≡ []
  none-moved [] is = refl
  none-moved (x ∷ xs) is = absurd (cc)

  leaves-moved : {source after left rest taken : List (Hidden P)} → Leaves source after left rest taken → Leaves (all f source) (all f after) (all f left) (all f rest) (all f taken)
  leaves-moved {source} (within {front} is) = within (ap (all f) is ∙ map-append (moved f) front source)
  leaves-moved {after = after} (beyond {taken} is some) = beyond (ap (all f) is ∙ map-append (moved f) taken after) (λ none. some (none-moved taken none))

  last-moved : (macros : Macros) (t : Hidden P) (rest : List (Hidden P)) → is_last_name macros (moved f t) (all f rest) ≡ is_last_name macros t rest
  last-moved macros t [] = refl
  last-moved macros t (u ∷ us) = refl

module _ {P Q : Type 0} (f : P → Q) {one : Provenance P} {two : Provenance Q} (kept : IsKept one two f) (macros : Macros) where
  case-moved : (t : Hidden P) (front source : List (Hidden P)) {k : Case P} → case_of macros t (front ++ source) ≡ k → case_of macros (moved f t) (all f front ++ all f source) ≡ moved_case f k
  case-moved t front source is = ap (case_of macros (moved f t)) (sym (map-append (moved f) front source)) ∙ (case_of-moved f macros t (front ++ source) ∙ ap (moved_case f) is)

  name-moved : (t : Hidden P) (front source : List (Hidden P)) {b : Bool} → is_last_name macros t (front ++ source) ≡ b → is_last_name macros (moved f t) (all f front ++ all f source) ≡ b
  name-moved t front source is = ap (is_last_name macros (moved f t)) (sym (map-append (moved f) front source)) ∙ (last-moved f macros t (front ++ source) ∙ is)

  abbrev Moved : (front source done : List (Hidden P)) → End P → Type 0
  Moved front source done end = (v : Uses Q) × Runs two macros (all f front) (all f source) (all f done) (moved_end f end) v

  waits-moved : {t : Hidden P} (front source : List (Hidden P)) → ({v : Uses Q} → Runs two macros (moved f t ∷ all f front) (all f source) [] (waits (moved f t) (all f front ++ all f source)) v → Moved (t ∷ front) source [] (waits t (front ++ source)))
  waits-moved {t} front source {v} run = (v, subst (λ l. Runs two macros (moved f t ∷ all f front) (all f source) [] (waits (moved f t) l) v) (sym (map-append (moved f) front source)) run)

  runs-moved : {front source done : List (Hidden P)} {end : End P} {u : Uses P} → Runs one macros front source done end u → Moved front source done end
  runs-moved used_up = (_, used_up)
  runs-moved (stay {t} {front} {source} is free run) = let r = runs-moved run in (_, stay (case-moved t front source is) (name-moved t front source free) r.1)
  runs-moved (alone {t} {front} {source} is) = waits-moved front source (alone (name-moved t front source is))
  runs-moved (open_call {t} {front} {source} is) = waits-moved front source (open_call (case-moved t front source is))
  runs-moved (object {t} {front} {source} {done} {end} d body is made run) =
      let r = runs-moved run in
      let more = subst (λ l. Runs two macros l (all f source) (all f done) (moved_end f end) r.0) (map-append (moved f) body front) r.1 in
      (_, object d (all f body) (case-moved t front source is) (object_result-moved f kept d t ∙ ap (moved_answer f) made) more)
  runs-moved (call {t} {front} {source} {done} {end} d arguments close after left rest taken body results is leaves each made run) =
      let r = runs-moved run in
      let more = subst (λ l. Runs two macros l (all f rest) (all f done) (moved_end f end) r.0) (map-append (moved f) body left) r.1 in (
        _,
        call d (map (all f) arguments) (moved f close) (all f after) (all f left) (all f rest) (all f taken) (all f body) (carried (map (all f)) (moved_failure f) results) (case-moved t front source is) (leaves-moved f leaves)
            (called-each-moved f kept macros d t arguments each) (call_result-moved f kept d t arguments close results ∙ ap (moved_answer f) made) more,
      )
  runs-moved (bad_object {t} {front} {source} d failure is made) = (_, bad_object d (moved_failure f failure) (case-moved t front source is) (object_result-moved f kept d t ∙ ap (moved_answer f) made))
  runs-moved (bad_count {t} {front} {source} after left rest taken is leaves) = (_, bad_count (all f after) (all f left) (all f rest) (all f taken) (case-moved t front source is) (leaves-moved f leaves))
  runs-moved (bad_call {t} {front} {source} d arguments close after left rest taken results failure is leaves each made) = (
    _,
    bad_call d (map (all f) arguments) (moved f close) (all f after) (all f left) (all f rest) (all f taken) (carried (map (all f)) (moved_failure f) results) (moved_failure f failure) (case-moved t front source is) (leaves-moved f leaves)
        (called-each-moved f kept macros d t arguments each) (call_result-moved f kept d t arguments close results ∙ ap (moved_answer f) made),
  )

  passes-moved : {ts done left : List (Hidden P)} → Passes one macros ts done left → Passes two macros (all f ts) (all f done) (all f left)
  passes-moved begins = begins
  passes-moved {ts} {left = left} (goes_on {out} {done} u before run) =
      let r = runs-moved run in
      subst (λ l. Passes two macros (all f ts) l (all f left)) (sym (map-append (moved f) out done)) (goes_on r.0 (passes-moved before) r.1)

  pub settles-moved : {ts done rest : List (Hidden P)} → Settles one macros ts done rest → Settles two macros (all f ts) (all f done) (all f rest)
  settles-moved (whole p) = whole (passes-moved p)
  settles-moved {ts} {rest = left} (open_end {out} {done} u p run) =
      let r = runs-moved run in
      subst (λ l. Settles two macros (all f ts) l (all f left)) (sym (map-append (moved f) out done)) (open_end r.0 (passes-moved p) r.1)

  pub held-moved : {ts : List (Hidden P)} {failure : Failure P} → IsHeld one macros ts failure → IsHeld two macros (all f ts) (moved_failure f failure)
  held-moved (held u p run) = let r = runs-moved run in held r.0 (passes-moved p) r.1
