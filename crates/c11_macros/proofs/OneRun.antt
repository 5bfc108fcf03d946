-- What stands in front runs in one way.
use Rattle.std.proofs.Common.{◌≡◌, Bool, true, false, List, [], ◌∷◌, ◌++◌, ◌+◌, length, length-append, Result, Ok, Err, refl, sym, ap, ◌∙◌, subst, arith, map, ℕ}
use Rattle.std.proofs.lemmas.List.{append_cancel_right}
use Rattle.c11_macros.proofs.LongerLists.{last-stays}
use Rattle.c11_macros.proofs.OneAnswer.{one-each}
use Rattle.c11_macros.specs.Expansion.{Case, called, case_of, misfit, replaced, stays, unclosed, asked, object_result, call_result, Each}
use Rattle.c11_macros.specs.Hidden.{Hidden, Provenance, Failure, failure_at}
use Rattle.c11_macros.specs.Macros.{Definition, Macros}
use Rattle.c11_macros.specs.Runs.{Uses, no_uses, then_uses, using, End, over, waits, fails, is_last_name, Leaves, within, beyond, Runs, used_up, stay, alone, open_call, object, call, bad_object, bad_count, bad_call}
use Rattle.c11_macros.specs.Trace.{looked_up_at, trace_each}
use Rattle.sc_model.specs.declared.cause.Cause.TheVariants.{WrongArguments}

-- ---- where a call ends

pub record SameLeft {P : Type 0} (a b c x y z : List (Hidden P)) : Type 0 where
  pub left : a ≡ x
  pub rest : b ≡ y
  pub taken : c ≡ z

module _ {P : Type 0} {source after : List (Hidden P)} where
  pub more-than : (taken front : List (Hidden P)) → source ≡ taken ++ after → after ≡ front ++ source → taken ≡ []
  more-than taken front is at = by taken (ap length is ∙ length-append taken after) (ap length at ∙ length-append front source)
    where
      by : (ts : List (Hidden P)) → length source ≡ length ts + length after → length after ≡ length front + length source → ts ≡ []
      by [] a b = refl
      by (t ∷ ts) a b = absurd (omega (arith, a, b))

  pub one-left : {left rest taken left2 rest2 taken2 : List (Hidden P)} → Leaves source after left rest taken → Leaves source after left2 rest2 taken2 → SameLeft left rest taken left2 rest2 taken2
  one-left (within {front = f} is) (within {front = g} at) = record { left = append_cancel_right f g source (sym is ∙ at); rest = refl; taken = refl }
  one-left (beyond {taken = k} is some) (beyond {taken = l} at more) = record { left = refl; rest = refl; taken = append_cancel_right k l after (sym is ∙ at) }
  one-left (within {front = f} is) (beyond {taken = l} at more) = absurd (more (more-than l f at is))
  one-left (beyond {taken = k} is some) (within {front = g} at) = absurd (some (more-than k g is at))

-- ---- a run, by the case of its first token

data Did {P : Type 0} (provenance : Provenance P) (macros : Macros) (t : Hidden P) (front source : List (Hidden P)) : Case P → Bool → (done : List (Hidden P)) → End P → Uses P → Type 0 where
  did_stay : {done : List (Hidden P)} {end : End P} {u : Uses P} → Runs provenance macros front source done end u → Did provenance macros t front source stays false (t ∷ done) end (then_uses (using [] (looked_up_at t)) u)
  did_alone : Did provenance macros t front source stays true [] (waits t (front ++ source)) (using [] (looked_up_at t))
  did_open : {b : Bool} → Did provenance macros t front source unclosed b [] (waits t (front ++ source)) (using [] (looked_up_at t))
  did_object : {b : Bool} {d : Definition} {done : List (Hidden P)} {end : End P} {u : Uses P} (body : List (Hidden P)) → object_result provenance d t ≡ Ok body → Runs provenance macros (body ++ front) source done end u
      → Did provenance macros t front source (replaced d) b done end (then_uses (using [] (looked_up_at t)) u)
  did_bad_object : {b : Bool} {d : Definition} (failure : Failure P) → object_result provenance d t ≡ Err failure → Did provenance macros t front source (replaced d) b [] (fails failure) (using [] (looked_up_at t))
  did_count : {b : Bool} {after left rest taken : List (Hidden P)} → Leaves source after left rest taken
      → Did provenance macros t front source (misfit after) b [] (fails (failure_at WrongArguments t)) (using taken (looked_up_at t))
  did_call : {b : Bool} {d : Definition} {arguments : List (List (Hidden P))} {close : Hidden P} {after left rest taken : List (Hidden P)} {done : List (Hidden P)} {end : End P} {u : Uses P} (body : List (Hidden P))
      (results : Result (List (List (Hidden P))) (Failure P)) → Leaves source after left rest taken → (each : Each provenance macros (asked provenance d t arguments) (map (λ a. []) arguments) results)
      → call_result provenance d t arguments close results ≡ Ok body → Runs provenance macros (body ++ left) rest done end u
      → Did provenance macros t front source (called d arguments close after) b done end (then_uses (using taken (looked_up_at t ++ (trace_each each).looked_up)) u)
  did_bad_call : {b : Bool} {d : Definition} {arguments : List (List (Hidden P))} {close : Hidden P} {after left rest taken : List (Hidden P)} (failure : Failure P)
      (results : Result (List (List (Hidden P))) (Failure P)) → Leaves source after left rest taken → (each : Each provenance macros (asked provenance d t arguments) (map (λ a. []) arguments) results)
      → call_result provenance d t arguments close results ≡ Err failure
      → Did provenance macros t front source (called d arguments close after) b [] (fails failure) (using taken (looked_up_at t ++ (trace_each each).looked_up))

pub record SameRun {P : Type 0} (d e : List (Hidden P)) (x y : End P) (u v : Uses P) : Type 0 where
  pub done : d ≡ e
  pub end : x ≡ y
  pub uses : u ≡ v

module _ {P : Type 0} where
  ok-err : (m : Result (List (Hidden P)) (Failure P)) (body : List (Hidden P)) (failure : Failure P) → m ≡ Ok body → m ≡ Err failure → ⊥
  ok-err m body failure a b = cc

  same-body : (m : Result (List (Hidden P)) (Failure P)) (body body2 : List (Hidden P)) → m ≡ Ok body → m ≡ Ok body2 → body ≡ body2
  same-body m body body2 a b = cc

  same-failure : (m : Result (List (Hidden P)) (Failure P)) (x y : Failure P) → m ≡ Err x → m ≡ Err y → x ≡ y
  same-failure m x y a b = cc

  after-first : {done done2 : List (Hidden P)} {end end2 : End P} {u u2 : Uses P} (first : Uses P) → SameRun done done2 end end2 u u2 → SameRun done done2 end end2 (then_uses first u) (then_uses first u2)
  after-first first s = record { done = s.done; end = s.end; uses = ap (then_uses first) s.uses }

module _ {P : Type 0} (provenance : Provenance P) (macros : Macros) where
  at-case : {t : Hidden P} {front source done : List (Hidden P)} {end : End P} {u : Uses P} (k : Case P) → case_of macros t (front ++ source) ≡ k
      → Did provenance macros t front source k (is_last_name macros t (front ++ source)) done end u → Did provenance macros t front source (case_of macros t (front ++ source)) (is_last_name macros t (front ++ source)) done end u
  at-case {t} {front} {source} {done} {end} {u} k is d = subst (λ k. Did provenance macros t front source k (is_last_name macros t (front ++ source)) done end u) (sym is) d

  did : {t : Hidden P} {front source done : List (Hidden P)} {end : End P} {u : Uses P} → Runs provenance macros (t ∷ front) source done end u
      → Did provenance macros t front source (case_of macros t (front ++ source)) (is_last_name macros t (front ++ source)) done end u
  did (stay {t} {front} {source} {done} {end} {u} is free run) = at-case stays is (subst (λ b. Did provenance macros t front source stays b (t ∷ done) end (then_uses (using [] (looked_up_at t)) u)) (sym free) (did_stay run))
  did (alone {t} {front} {source} last) =
      at-case stays (last-stays macros t (front ++ source) last) (subst (λ b. Did provenance macros t front source stays b [] (waits t (front ++ source)) (using [] (looked_up_at t))) (sym last) did_alone)
  did (open_call is) = at-case unclosed is did_open
  did (object d body is made run) = at-case (replaced d) is (did_object body made run)
  did (call d arguments close after left rest taken body results is leaves each made run) = at-case (called d arguments close after) is (did_call body results leaves each made run)
  did (bad_object d failure is made) = at-case (replaced d) is (did_bad_object failure made)
  did (bad_count after left rest taken is leaves) = at-case (misfit after) is (did_count leaves)
  did (bad_call d arguments close after left rest taken results failure is leaves each made) = at-case (called d arguments close after) is (did_bad_call failure results leaves each made)

  -- each run of the same front is this
  abbrev Only : (front source done : List (Hidden P)) → End P → Uses P → Type 0
  Only front source done end u = (done2 : List (Hidden P)) (end2 : End P) (u2 : Uses P) → Runs provenance macros front source done2 end2 u2 → SameRun done done2 end end2 u u2

  only-stay : (t : Hidden P) (front source done : List (Hidden P)) (end : End P) (u : Uses P) → Only front source done end u → (done2 : List (Hidden P)) (end2 : End P) (u2 : Uses P) → Did provenance macros t front source stays false done2 end2 u2
      → SameRun (t ∷ done) done2 end end2 (then_uses (using [] (looked_up_at t)) u) u2
  only-stay t front source done end u only _ end2 _ (did_stay {done = e} {u = v} run) = let s = only e end2 v run in record { done = ap (λ l. t ∷ l) s.done; end = s.end; uses = ap (then_uses (using [] (looked_up_at t))) s.uses }

  only-alone : (t : Hidden P) (front source done2 : List (Hidden P)) (end2 : End P) (u2 : Uses P) → Did provenance macros t front source stays true done2 end2 u2 → SameRun [] done2 (waits t (front ++ source)) end2 (using [] (looked_up_at t)) u2
  only-alone t front source _ _ _ did_alone = record { done = refl; end = refl; uses = refl }

  only-open : (t : Hidden P) (front source : List (Hidden P)) (b : Bool) (done2 : List (Hidden P)) (end2 : End P) (u2 : Uses P) → Did provenance macros t front source unclosed b done2 end2 u2 → SameRun [] done2 (waits t (front ++ source)) end2 (using [] (looked_up_at t)) u2
  only-open t front source _ _ _ _ did_open = record { done = refl; end = refl; uses = refl }

  only-object : (t : Hidden P) (front source body done : List (Hidden P)) (d : Definition) (b : Bool) (end : End P) (u : Uses P) → object_result provenance d t ≡ Ok body → Only (body ++ front) source done end u
      → (done2 : List (Hidden P)) (end2 : End P) (u2 : Uses P) → Did provenance macros t front source (replaced d) b done2 end2 u2 → SameRun done done2 end end2 (then_uses (using [] (looked_up_at t)) u) u2
  only-object t front source body done d b end u made only done2 end2 _ (did_object {u = v} body2 made2 run) =
      after-first (using [] (looked_up_at t)) (only done2 end2 v (subst (λ l. Runs provenance macros (l ++ front) source done2 end2 v) (sym (same-body (object_result provenance d t) body body2 made made2)) run))
  only-object t front source body done d b end u made only _ _ _ (did_bad_object failure bad) = absurd (ok-err (object_result provenance d t) body failure made bad)

  only-bad-object : (t : Hidden P) (front source : List (Hidden P)) (d : Definition) (b : Bool) (failure : Failure P) → object_result provenance d t ≡ Err failure
      → (done2 : List (Hidden P)) (end2 : End P) (u2 : Uses P) → Did provenance macros t front source (replaced d) b done2 end2 u2 → SameRun [] done2 (fails failure) end2 (using [] (looked_up_at t)) u2
  only-bad-object t front source d b failure bad _ _ _ (did_object body2 made2 run) = absurd (ok-err (object_result provenance d t) body2 failure made2 bad)
  only-bad-object t front source d b failure bad _ _ _ (did_bad_object failure2 bad2) = record { done = refl; end = ap fails (same-failure (object_result provenance d t) failure failure2 bad bad2); uses = refl }

  only-count : (t : Hidden P) (front source after left rest taken : List (Hidden P)) (b : Bool) → Leaves source after left rest taken
      → (done2 : List (Hidden P)) (end2 : End P) (u2 : Uses P) → Did provenance macros t front source (misfit after) b done2 end2 u2 → SameRun [] done2 (fails (failure_at WrongArguments t)) end2 (using taken (looked_up_at t)) u2
  only-count t front source after left rest taken b leaves _ _ _ (did_count leaves2) = record { done = refl; end = refl; uses = ap (λ l. using l (looked_up_at t)) (one-left leaves leaves2).taken }

  call-uses : (t : Hidden P) {asks : List (ℕ × List (Hidden P))} {taken taken2 : List (Hidden P)} {lists : List (List (Hidden P))} {results results2 : Result (List (List (Hidden P))) (Failure P)} (each : Each provenance macros asks lists results) (each2 : Each provenance macros asks lists results2) → taken ≡ taken2
      → using taken (looked_up_at t ++ (trace_each each).looked_up) ≡ using taken2 (looked_up_at t ++ (trace_each each2).looked_up)
  call-uses t {results2 = rs} each each2 same = λ i. using (same i) (looked_up_at t ++ ((one-each each rs each2).trace i).looked_up)

  only-call : (t : Hidden P) (front source : List (Hidden P)) (d : Definition) (arguments : List (List (Hidden P))) (close : Hidden P) (after left rest taken body : List (Hidden P)) (results : Result (List (List (Hidden P))) (Failure P))
      (b : Bool) (done : List (Hidden P)) (end : End P) (u : Uses P) → Leaves source after left rest taken → (each : Each provenance macros (asked provenance d t arguments) (map (λ a. []) arguments) results)
      → call_result provenance d t arguments close results ≡ Ok body → Only (body ++ left) rest done end u
      → (done2 : List (Hidden P)) (end2 : End P) (u2 : Uses P) → Did provenance macros t front source (called d arguments close after) b done2 end2 u2
      → SameRun done done2 end end2 (then_uses (using taken (looked_up_at t ++ (trace_each each).looked_up)) u) u2
  only-call t front source d arguments close after left rest taken body results b done end u leaves each made only done2 end2 _ (did_call {left = l2} {rest = r2} {taken = t2} {u = v} body2 results2 leaves2 each2 made2 run) =
      let at = one-left leaves leaves2 in
      let same = (one-each each results2 each2).answer in
      let bodies = same-body (call_result provenance d t arguments close results2) body body2 (ap (call_result provenance d t arguments close) (sym same) ∙ made) made2 in
      let s = only done2 end2 v (subst (λ (p : List (Hidden P) × List (Hidden P)). Runs provenance macros p.0 p.1 done2 end2 v) (λ i. (sym bodies i ++ sym at.left i, sym at.rest i)) run) in
      record { done = s.done; end = s.end; uses = λ i. then_uses (call-uses t each each2 at.taken i) (s.uses i) }
  only-call t front source d arguments close after left rest taken body results b done end u leaves each made only _ _ _ (did_bad_call failure results2 leaves2 each2 bad) =
      absurd (ok-err (call_result provenance d t arguments close results2) body failure (ap (call_result provenance d t arguments close) (sym (one-each each results2 each2).answer) ∙ made) bad)

  only-bad-call : (t : Hidden P) (front source : List (Hidden P)) (d : Definition) (arguments : List (List (Hidden P))) (close : Hidden P) (after left rest taken : List (Hidden P)) (results : Result (List (List (Hidden P))) (Failure P))
      (b : Bool) (failure : Failure P) → Leaves source after left rest taken → (each : Each provenance macros (asked provenance d t arguments) (map (λ a. []) arguments) results)
      → call_result provenance d t arguments close results ≡ Err failure
      → (done2 : List (Hidden P)) (end2 : End P) (u2 : Uses P) → Did provenance macros t front source (called d arguments close after) b done2 end2 u2
      → SameRun [] done2 (fails failure) end2 (using taken (looked_up_at t ++ (trace_each each).looked_up)) u2
  only-bad-call t front source d arguments close after left rest taken results b failure leaves each bad _ _ _ (did_call body2 results2 leaves2 each2 made2 run) =
      absurd (ok-err (call_result provenance d t arguments close results2) body2 failure made2 (ap (call_result provenance d t arguments close) (sym (one-each each results2 each2).answer) ∙ bad))
  only-bad-call t front source d arguments close after left rest taken results b failure leaves each bad _ _ _ (did_bad_call failure2 results2 leaves2 each2 bad2) =
      let at = one-left leaves leaves2 in
      record {
        done = refl;
        end = ap fails (same-failure (call_result provenance d t arguments close results2) failure failure2 (ap (call_result provenance d t arguments close) (sym (one-each each results2 each2).answer) ∙ bad) bad2);
        uses = call-uses t each each2 at.taken;
      }

  known : {t : Hidden P} {front source done : List (Hidden P)} {end : End P} {u : Uses P} (k : Case P) (b : Bool) → case_of macros t (front ++ source) ≡ k → is_last_name macros t (front ++ source) ≡ b → Runs provenance macros (t ∷ front) source done end u
      → Did provenance macros t front source k b done end u
  known {t} {front} {source} {done} {end} {u} k b is last run = subst (λ (p : Case P × Bool). Did provenance macros t front source p.0 p.1 done end u) (λ i. (is i, last i)) (did run)

  pub one-run : {front source done : List (Hidden P)} {end : End P} {u : Uses P} → Runs provenance macros front source done end u → Only front source done end u
  one-run used_up = λ _ _ _ r. nothing-more r
    where
      nothing-more : {source done2 : List (Hidden P)} {end2 : End P} {u2 : Uses P} → Runs provenance macros [] source done2 end2 u2 → SameRun [] done2 (over source) end2 no_uses u2
      nothing-more used_up = record { done = refl; end = refl; uses = refl }
  one-run (stay {t} {front} {source} {done} {end} {u} is free run) = λ e f v r. only-stay t front source done end u (one-run run) e f v (known stays false is free r)
  one-run (alone {t} {front} {source} last) = λ e f v r. only-alone t front source e f v (known stays true (last-stays macros t (front ++ source) last) last r)
  one-run (open_call {t} {front} {source} is) = λ e f v r. only-open t front source (is_last_name macros t (front ++ source)) e f v (known unclosed (is_last_name macros t (front ++ source)) is refl r)
  one-run (object {t} {front} {source} {done} {end} {u} d body is made run) =
      λ e f v r. only-object t front source body done d (is_last_name macros t (front ++ source)) end u made (one-run run) e f v (known (replaced d) (is_last_name macros t (front ++ source)) is refl r)
  one-run (call {t} {front} {source} {done} {end} {u} d arguments close after left rest taken body results is leaves each made run) =
      λ e f v r. only-call t front source d arguments close after left rest taken body results (is_last_name macros t (front ++ source)) done end u leaves each made (one-run run) e f v
      (known (called d arguments close after) (is_last_name macros t (front ++ source)) is refl r)
  one-run (bad_object {t} {front} {source} d failure is bad) =
      λ e f v r. only-bad-object t front source d (is_last_name macros t (front ++ source)) failure bad e f v (known (replaced d) (is_last_name macros t (front ++ source)) is refl r)
  one-run (bad_count {t} {front} {source} after left rest taken is leaves) =
      λ e f v r. only-count t front source after left rest taken (is_last_name macros t (front ++ source)) leaves e f v (known (misfit after) (is_last_name macros t (front ++ source)) is refl r)
  one-run (bad_call {t} {front} {source} d arguments close after left rest taken results failure is leaves each bad) =
      λ e f v r. only-bad-call t front source d arguments close after left rest taken results (is_last_name macros t (front ++ source)) failure leaves each bad e f v
      (known (called d arguments close after) (is_last_name macros t (front ++ source)) is refl r)
