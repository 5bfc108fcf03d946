-- A run where more follows the list: it goes on as it went, and from where it waited.
use Rattle.std.proofs.Common.{◌≡◌, ℕ, true, false, List, [], ◌∷◌, ◌++◌, append_assoc, append-nil, refl, sym, ap, ◌∙◌, subst}
use Rattle.std.proofs.lemmas.List.{append_cancel_right}
use Rattle.c11_macros.proofs.Agreement.{agree-back, agree-front}
use Rattle.c11_macros.proofs.LongerLists.{Opened, opened, opened-called, opened-misfit, opened-replaced, opened-stays, lasting, last-stays, replaced-more, misfit-more, called-more}
use Rattle.c11_macros.proofs.OneRun.{more-than}
use Rattle.c11_macros.proofs.CallEnds.{EndsWith}
use Rattle.c11_macros.specs.Expansion.{Case, stays, replaced, unclosed, misfit, called, case_of}
use Rattle.c11_macros.specs.Hidden.{Hidden, Provenance, failure_at}
use Rattle.c11_macros.specs.Macros.{Macros}
use Rattle.c11_macros.specs.Resumed.{Continues, from_over, from_failure, from_waiting, StandBehind, TakesBehind, nothing, all_made, Resumed}
use Rattle.c11_macros.specs.Runs.{Uses, no_uses, then_uses, using, End, over, waits, fails, is_last_name, Leaves, within, beyond, Runs, used_up, stay, alone, open_call, object, call, bad_object, bad_count, bad_call}
use Rattle.c11_macros.specs.Trace.{Agree, looked_up_at, trace_each}
use Rattle.sc_model.specs.declared.cause.Cause.TheVariants.{WrongArguments}

agree-both : (one two : Macros) (xs ys : List (List ℕ)) → Agree one two xs → Agree one two ys → Agree one two (xs ++ ys)
agree-both one two [] ys a b = b
agree-both one two (x ∷ xs) ys a b = (a.0, agree-both one two xs ys a.1 b)

-- all of the list that was not taken stands behind what was made
stand-first : {P : Type 0} (end : End P) (whole source taken later made : List (Hidden P)) → whole ≡ taken ++ source → StandBehind end source later made → StandBehind end whole (taken ++ later) made
stand-first (over after) whole source taken later made is stand = stand
stand-first (waits name rest) whole source taken later made is stand = (stand.0, is ∙ (ap (λ l. taken ++ l) stand.1 ∙ sym (append_assoc taken later stand.0)), stand.2)
stand-first (fails failure) whole source taken later made is stand = stand

pub leaves-source : {P : Type 0} {source after left rest taken : List (Hidden P)} → Leaves source after left rest taken → source ≡ taken ++ rest
leaves-source (within is) = refl
leaves-source (beyond is some) = is

module _ {P : Type 0} (provenance : Provenance P) (macros : Macros) (more : List (Hidden P)) where
  leaves-more : {source after left rest taken : List (Hidden P)} → Leaves source after left rest taken → Leaves (source ++ more) (after ++ more) left (rest ++ more) taken
  leaves-more (within {front} is) = within (ap (λ l. l ++ more) is ∙ append_assoc front _ more)
  leaves-more (beyond {taken} is some) = beyond (ap (λ l. l ++ more) is ∙ append_assoc taken _ more) some

  list-more : {A : Type 0} (f : List (Hidden P) → A) (front source : List (Hidden P)) (x : A) → f ((front ++ source) ++ more) ≡ x → f (front ++ (source ++ more)) ≡ x
  list-more f front source x is = ap f (sym (append_assoc front source more)) ∙ is

  step-first : {front source done : List (Hidden P)} {end last : End P} (first u v : Uses P) {ahead behind made : List (Hidden P)} → behind ≡ first.taken ++ source → (s : Resumed provenance macros more front source done end last u v)
      → (Runs provenance macros front (source ++ more) done last s.uses → Runs provenance macros ahead (behind ++ more) made last (then_uses first s.uses))
      → Resumed provenance macros more ahead behind made end last (then_uses first u) v
  step-first {source = source} {end = end} first u v {behind = behind} is s step = record {
    uses = then_uses first s.uses;
    runs = step s.runs;
    made = s.made;
    own = s.own;
    stand = stand-first end behind source first.taken u.taken s.made is s.stand;
    behind = s.behind;
    taken = ap (λ l. first.taken ++ l) s.taken ∙ sym (append_assoc first.taken u.taken s.own);
    looked_up = λ one two agree.
        let rest = s.looked_up one two (agree-back one two first.looked_up s.uses.looked_up agree) in
        (agree-both one two first.looked_up u.looked_up (agree-front one two first.looked_up s.uses.looked_up agree) rest.0, rest.1);
  }

  ended : {front source done : List (Hidden P)} {end : End P} (first : End P) (u : Uses P) → StandBehind first source u.taken [] → Runs provenance macros front (source ++ more) done end u → Resumed provenance macros more front source done first end u no_uses
  ended first u stand run = record { uses = u; runs = run; made = []; own = []; stand = stand; behind = nothing; taken = sym (append-nil u.taken); looked_up = λ one two agree. (agree, tt) }

  -- ---- the name that waited is looked up again

  first-looks : {t : Hidden P} {front source done : List (Hidden P)} {end : End P} {v : Uses P} → Runs provenance macros (t ∷ front) source done end v → (one two : Macros) → Agree one two v.looked_up → Agree one two (looked_up_at t)
  first-looks (stay {t} {u = u} is free run) one two agree = agree-front one two (looked_up_at t) u.looked_up agree
  first-looks (alone is) one two agree = agree
  first-looks (open_call is) one two agree = agree
  first-looks (object {t} {u = u} d body is made run) one two agree = agree-front one two (looked_up_at t) u.looked_up agree
  first-looks (call {t} {u = u} d arguments close after left rest taken body results is leaves each made run) one two agree =
      agree-front one two (looked_up_at t) (trace_each each).looked_up (agree-front one two (looked_up_at t ++ (trace_each each).looked_up) u.looked_up agree)
  first-looks (bad_object d failure is made) one two agree = agree
  first-looks (bad_count after left rest taken is leaves) one two agree = agree
  first-looks (bad_call {t} d arguments close after left rest taken results failure is leaves each made) one two agree = agree-front one two (looked_up_at t) (trace_each each).looked_up agree

  -- a name alone: all that follows it is new
  was-last : {t : Hidden P} {front source done : List (Hidden P)} {end : End P} {v : Uses P} → is_last_name macros t (front ++ source) ≡ true → Runs provenance macros (t ∷ []) ((front ++ source) ++ more) done end v
      → Resumed provenance macros more (t ∷ front) source done (waits t (front ++ source)) end (using [] (looked_up_at t)) v
  was-last {front = []} {source} {v = v} last run =
      record { uses = v; runs = run; made = []; own = v.taken; stand = (source, refl, refl); behind = all_made; taken = refl; looked_up = λ one two agree. (first-looks run one two agree, agree) }
  was-last {front = x ∷ xs} last run = absurd (cc)

  -- An open call: what closes it stands behind the made tokens.
  module _ (t : Hidden P) (front source : List (Hidden P)) (is-open : case_of macros t (front ++ source) ≡ unclosed) where
    at : {A : Type 0} (f : List (Hidden P) → A) (x : A) → f ((front ++ source) ++ more) ≡ x → f (front ++ (source ++ more)) ≡ x
    at f x is = list-more f front source x is

    -- the call in the longer list, behind the name alone and behind what was made
    one-list : {after left rest taken : List (Hidden P)} → EndsWith more after → Leaves ((front ++ source) ++ more) after left rest taken → (left ≡ []) × (rest ≡ after) × (own : List (Hidden P)) × (taken ≡ front ++ own) × Leaves (source ++ more) after [] after own
    one-list {after} e (within {front = f} is) = absurd (e.some (longer e.before (f ++ (front ++ source)) after e.is (is ∙ sym (append_assoc f (front ++ source) more))))
      where
        longer : (b g a : List (Hidden P)) → more ≡ b ++ a → a ≡ g ++ more → b ≡ []
        longer b g a x y = more-than b g x y
    one-list {after} e (beyond {taken} is some) = (
      refl,
      refl,
      source ++ e.before,
      append_cancel_right taken (front ++ (source ++ e.before)) after (sym is ∙ whole),
      beyond (ap (λ l. source ++ l) e.is ∙ sym (append_assoc source e.before after)) (λ none. e.some (no-end source e.before none)),
    )
      where
        no-end : (xs ys : List (Hidden P)) → xs ++ ys ≡ [] → ys ≡ []
        no-end [] ys none = none
        no-end (x ∷ xs) ys none = absurd (cc)

        whole : (front ++ source) ++ more ≡ (front ++ (source ++ e.before)) ++ after
        whole = ap (λ l. (front ++ source) ++ l) e.is ∙ (sym (append_assoc (front ++ source) e.before after) ∙ ap (λ l. l ++ after) (append_assoc front source e.before))

    becomes : (k : Case P) → case_of macros t ((front ++ source) ++ more) ≡ k → Opened more k
    becomes k at = opened more macros t (front ++ source) k is-open at

    was-open : {done : List (Hidden P)} {end : End P} {v : Uses P} → Runs provenance macros (t ∷ []) ((front ++ source) ++ more) done end v → Resumed provenance macros more (t ∷ front) source done (waits t (front ++ source)) end (using [] (looked_up_at t)) v
    was-open (stay is free run) = absurd (opened-stays more (becomes stays is))
    was-open (object d body is made run) = absurd (opened-replaced more d (becomes (replaced d) is))
    was-open (bad_object d failure is made) = absurd (opened-replaced more d (becomes (replaced d) is))
    was-open (alone is) = absurd (opened-stays more (becomes stays (last-stays macros t ((front ++ source) ++ more) is)))
    was-open (open_call is) = record {
      uses = using [] (looked_up_at t);
      runs = subst (λ l. Runs provenance macros (t ∷ front) (source ++ more) [] (waits t l) (using [] (looked_up_at t))) (sym (append_assoc front source more)) (open_call (at (case_of macros t) unclosed is));
      made = front;
      stand = (source, refl, refl);
      own = [];
      behind = nothing;
      taken = refl;
      looked_up = λ one two agree. (agree, agree);
    }
    was-open (call {done} {end} {u} d arguments close after left rest taken body results is leaves each made run) =
        let e = opened-called more d arguments close after (becomes (called d arguments close after) is) in
        let o = one-list e leaves in
        record {
          uses = then_uses (using o.2 (looked_up_at t ++ (trace_each each).looked_up)) u;
          runs = call d arguments close after [] after o.2 body results (at (case_of macros t) (called d arguments close after) is) o.4 each made
              (subst (λ (p : List (Hidden P) × List (Hidden P)). Runs provenance macros (body ++ p.0) p.1 done end u) (λ i. (o.0 i, o.1 i)) run);
          made = front;
          stand = (source, refl, refl);
          own = o.2 ++ u.taken;
          behind = subst (λ l. TakesBehind front l (o.2 ++ u.taken)) (sym (ap (λ l. l ++ u.taken) o.3 ∙ append_assoc front o.2 u.taken)) all_made;
          taken = refl;
          looked_up = λ one two agree. (agree-front one two (looked_up_at t) (trace_each each).looked_up (agree-front one two (looked_up_at t ++ (trace_each each).looked_up) u.looked_up agree), agree);
        }
    was-open (bad_count after left rest taken is leaves) =
        let e = opened-misfit more after (becomes (misfit after) is) in
        let o = one-list e leaves in
        record {
          uses = using o.2 (looked_up_at t);
          runs = bad_count after [] after o.2 (at (case_of macros t) (misfit after) is) o.4;
          made = front;
          stand = (source, refl, refl);
          own = o.2;
          behind = subst (λ l. TakesBehind front l o.2) (sym o.3) all_made;
          taken = refl;
          looked_up = λ one two agree. (agree, agree);
        }
    was-open (bad_call d arguments close after left rest taken results failure is leaves each made) =
        let e = opened-called more d arguments close after (becomes (called d arguments close after) is) in
        let o = one-list e leaves in
        record {
          uses = using o.2 (looked_up_at t ++ (trace_each each).looked_up);
          runs = bad_call d arguments close after [] after o.2 results failure (at (case_of macros t) (called d arguments close after) is) o.4 each made;
          made = front;
          stand = (source, refl, refl);
          own = o.2;
          behind = subst (λ l. TakesBehind front l o.2) (sym o.3) all_made;
          taken = refl;
          looked_up = λ one two agree. (agree-front one two (looked_up_at t) (trace_each each).looked_up agree, agree);
        }

  pub resume : {front source done later : List (Hidden P)} {end last : End P} {u v : Uses P} → Runs provenance macros front source done end u → Continues provenance macros more end later last v → Resumed provenance macros more front source (done ++ later) end last u v
  resume (used_up {source}) from_over = ended (over source) no_uses refl used_up
  resume {v} (stay {t} {front} {source} {u = u} is free run) next =
      let last = lasting macros t (front ++ source) more is free in
      step-first (using [] (looked_up_at t)) u v refl (resume run next)
      (stay (list-more (case_of macros t) front source stays last.0) (list-more (is_last_name macros t) front source false last.1))
  resume (alone {t} {front} {source} is) (from_waiting run) = was-last is run
  resume (open_call {t} {front} {source} is) (from_waiting run) = was-open t front source is run
  resume {v} (object {t} {front} {source} {u = u} d body is made run) next =
      step-first (using [] (looked_up_at t)) u v refl (resume run next) (object d body (list-more (case_of macros t) front source (replaced d) (replaced-more more macros t (front ++ source) d is)) made)
  resume {v} (call {t} {front} {source} {u = u} d arguments close after left rest taken body results is leaves each made run) next =
      step-first (using taken (looked_up_at t ++ (trace_each each).looked_up)) u v (leaves-source leaves) (resume run next)
      (call d arguments close (after ++ more) left (rest ++ more) taken body results
      (list-more (case_of macros t) front source (called d arguments close (after ++ more)) (called-more more macros t (front ++ source) d arguments close after is)) (leaves-more leaves) each made)
  resume (bad_object {t} {front} {source} d failure is made) from_failure =
      ended (fails failure) (using [] (looked_up_at t)) refl (bad_object d failure (list-more (case_of macros t) front source (replaced d) (replaced-more more macros t (front ++ source) d is)) made)
  resume (bad_count {t} {front} {source} after left rest taken is leaves) from_failure =
      ended (fails (failure_at WrongArguments t)) (using taken (looked_up_at t)) refl (bad_count (after ++ more) left (rest ++ more) taken
      (list-more (case_of macros t) front source (misfit (after ++ more)) (misfit-more more macros t (front ++ source) after is)) (leaves-more leaves))
  resume (bad_call {t} {front} {source} d arguments close after left rest taken results failure is leaves each made) from_failure =
      ended (fails failure) (using taken (looked_up_at t ++ (trace_each each).looked_up)) refl (bad_call d arguments close (after ++ more) left (rest ++ more) taken results failure
      (list-more (case_of macros t) front source (called d arguments close (after ++ more)) (called-more more macros t (front ++ source) d arguments close after is)) (leaves-more leaves) each made)
