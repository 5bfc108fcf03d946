-- What a state still uses of the name that is expanded: each state runs, looks its next token up
-- first, and takes what its next call takes.
use Rattle.std.proofs.Common.{◌≡◌, ℕ, ◌+◌, ◌≤◌, List, [], ◌∷◌, ◌++◌, length, length-append, Result, Ok, Err, refl, sym, ap, ◌∙◌, subst, arith}
use Rattle.c11_macros.proofs.Splitting.{split}
use Rattle.c11_macros.specs.Runs as run
use Rattle.sc_expand.proofs.Facts.{append_cancel_right, halts, last-stays, leaves-source, leaves-split}
use Rattle.sc_expand.proofs.NameRuns.{IsInFront, RescanRuns, StateRuns, on, refused, refuses, replaces, resumes, scans_on}
use Rattle.sc_expand.proofs.AlikeRunning.{head-taken}
use Rattle.sc_expand.proofs.PlainArguments.{replaced_with, supplied}
use Rattle.sc_expand.proofs.PlainCompletes as completes
use Rattle.sc_expand.proofs.PlainCompletes.{Completes, Ends, ends, looked, scanned, Covers, covers-front, covers-same, covers-then}
use Rattle.sc_expand.proofs.PlainTurns.{Pending, under}
use Rattle.sc_expand.proofs.Terms.{Case, End, Failure, HiddenToken as Hidden, IsWithin, Leaves, Macros, Provenance, Runs, State, Uses, Waiting, called, case_of, expanding, fails, looked_up_at, misfit, no_uses, replaced, scanning, stays, then_uses, trace_each, unclosed, using, waiting, with_expanded}
use Rattle.sc_expand.specs.FootprintSteps.{bottom}

module _ {P : Type 0} (provenance : Provenance P) (macros : Macros) where
  abbrev Answer : Type 0
  Answer = Result (List (Hidden P)) (Failure P)

  -- ---- each state runs, where finitely many names are defined

  pub record SomeRun (source : List (Hidden P)) (s : State P) : Type 0 where
    pub done : List (Hidden P)
    pub end : End P
    pub uses : Uses P
    pub runs : StateRuns provenance macros source s done end uses

  module _ (names : List (List ℕ)) (within : IsWithin names macros) where
    scanning-runs : (source front out work : List (Hidden P)) → work ≡ front ++ source → SomeRun source (scanning out work)
    scanning-runs source front out work is =
        let b = split provenance macros (halts provenance macros names within (front ++ source)).1 front source refl in
        record { done = out ++ b.done; end = b.end; uses = b.uses; runs = scans_on out work front is b.runs }

    rescan-runs : (source front : List (Hidden P)) (made : Answer) → (done : List (Hidden P)) × (end : End P) × (u : Uses P) × RescanRuns provenance macros front source made done end u
    rescan-runs source front (Ok body) =
        let b = split provenance macros (halts provenance macros names within ((body ++ front) ++ source)).1 (body ++ front) source refl in
        (b.done, b.end, b.uses, on b.runs)
    rescan-runs source front (Err failure) = ([], fails failure, no_uses, refused failure)

    waiting-runs : (source front out work : List (Hidden P)) (w : Waiting P) → work ≡ front ++ source → SomeRun source (waiting out work w)
    waiting-runs source front out work w is =
        let c = ends provenance macros names within (waiting out work w) in
        let s = supplied provenance macros out work w.wanted w c.0 refl c.1 in
        let r = rescan-runs source front (replaced_with provenance macros w s.results) in
        record { done = out ++ r.0; end = r.1; uses = then_uses (using [] (trace_each s.each).looked_up) r.2; runs = replaces out work front w s.results is s.each r.3 }

    pub state-runs : (source front : List (Hidden P)) (s : State P) → bottom s ≡ front ++ source → SomeRun source s
    state-runs source front (scanning out work) is = scanning-runs source front out work is
    state-runs source front (waiting out work w) is = waiting-runs source front out work w is
    state-runs source front (expanding out work w n s) is = by (ends provenance macros names within s)
      where
        by : Ends provenance macros s → SomeRun source (expanding out work w n s)
        by (Ok list, c) =
            let r = waiting-runs source front out work (with_expanded w n list) is in
            record { done = r.done; end = r.end; uses = then_uses (using [] (looked c)) r.uses; runs = resumes out work w n s list c r.runs }
        by (Err failure, c) = record { done = out ++ []; end = fails failure; uses = using [] (looked c); runs = refuses out work front w n s failure is c }

  -- ---- the next token is looked up first

  completes-looks : (ps : List (Pending P)) (out rest : List (Hidden P)) (t : Hidden P) (r : Answer) (c : Completes provenance macros (under ps (scanning out (t ∷ rest))) r) → Covers (looked c) (looked_up_at t)
  completes-looks [] out rest t r c = let s = scanned c in covers-then (covers-same s.named) (head-taken s.expands)
  completes-looks (p ∷ ps) out rest t r (completes.resumes _ _ _ _ _ list _ c d) = covers-then (covers-front (looked c) (looked d)) (completes-looks ps out rest t (Ok list) c)
  completes-looks (p ∷ ps) out rest t _ (completes.refuses _ _ _ _ _ failure c) = completes-looks ps out rest t (Err failure) c

  runs-looks : (t : Hidden P) (front source done : List (Hidden P)) (end : End P) (u : Uses P) → Runs provenance macros (t ∷ front) source done end u → Covers u.looked_up (looked_up_at t)
  runs-looks t front source _ end _ (run.stay {u = u} is free r) = covers-front (looked_up_at t) u.looked_up
  runs-looks t front source _ _ _ (run.alone is) = covers-same refl
  runs-looks t front source _ _ _ (run.open_call is) = covers-same refl
  runs-looks t front source done end _ (run.object {u = u} d body is made r) = covers-front (looked_up_at t) u.looked_up
  runs-looks t front source done end _ (run.call {u = u} d arguments close after left rest taken body results is leaves each made r) =
      covers-then (covers-front (looked_up_at t ++ (trace_each each).looked_up) u.looked_up) (covers-front (looked_up_at t) (trace_each each).looked_up)
  runs-looks t front source _ _ _ (run.bad_object d failure is made) = covers-same refl
  runs-looks t front source _ _ _ (run.bad_count after left rest taken is leaves) = covers-same refl
  runs-looks t front source _ _ _ (run.bad_call d arguments close after left rest taken results failure is leaves each made) = covers-front (looked_up_at t) (trace_each each).looked_up

  -- ---- a call that is closed takes what stands before its end

  takes-long : {source after left rest taken : List (Hidden P)} → Leaves source after left rest taken → length source ≤ length after + length taken
  takes-long {source} {after} {left} {rest} {taken} leaves = omega (arith, ap length (leaves-source leaves), length-append taken rest, ap length (leaves-split leaves), length-append left rest)

  abbrev pub Closes : Case P → (source taken : List (Hidden P)) → Type 0
  Closes stays source taken = Unit {0}
  Closes (replaced d) source taken = Unit {0}
  Closes unclosed source taken = Unit {0}
  Closes (misfit after) source taken = length source ≤ length after + length taken
  Closes (called d arguments close after) source taken = length source ≤ length after + length taken

  -- so many tokens of the list at least
  pub runs-closes : (t : Hidden P) (front source done : List (Hidden P)) (end : End P) (u : Uses P) → Runs provenance macros (t ∷ front) source done end u → Closes (case_of macros t (front ++ source)) source u.taken
  runs-closes t front source _ end _ (run.stay {u = u} is free r) = subst (λ k. Closes k source u.taken) (sym is) tt
  runs-closes t front source _ _ _ (run.alone is) = subst (λ k. Closes k source []) (sym (last-stays macros t (front ++ source) is)) tt
  runs-closes t front source _ _ _ (run.open_call is) = subst (λ k. Closes k source []) (sym is) tt
  runs-closes t front source done end _ (run.object {u = u} d body is made r) = subst (λ k. Closes k source u.taken) (sym is) tt
  runs-closes t front source done end _ (run.call {u = u} d arguments close after left rest taken body results is leaves each made r) =
      let long : length source ≤ length after + length (taken ++ u.taken) = omega (arith, takes-long leaves, length-append taken u.taken) in
      subst (λ k. Closes k source (taken ++ u.taken)) (sym is) long
  runs-closes t front source _ _ _ (run.bad_object d failure is made) = subst (λ k. Closes k source []) (sym is) tt
  runs-closes t front source _ _ _ (run.bad_count after left rest taken is leaves) = subst (λ k. Closes k source taken) (sym is) (takes-long leaves)
  runs-closes t front source _ _ _ (run.bad_call d arguments close after left rest taken results failure is leaves each made) = subst (λ k. Closes k source taken) (sym is) (takes-long leaves)

  -- ---- the state

  -- what stands in front, where the state runs from its first token
  record FromFirst (t : Hidden P) (rest source done : List (Hidden P)) (end : End P) (u : Uses P) : Type 0 where
    tail : List (Hidden P)
    rest_is : rest ≡ tail ++ source
    later : List (Hidden P)
    runs : Runs provenance macros (t ∷ tail) source later end u

  from-first : (source front out rest : List (Hidden P)) (t : Hidden P) {done : List (Hidden P)} {end : End P} {u : Uses P} → t ∷ rest ≡ front ++ source → (front ≡ [] → ⊥) → StateRuns provenance macros source (scanning out (t ∷ rest)) done end u
      → FromFirst t rest source done end u
  from-first source [] out rest t is some s = absurd (some refl)
  from-first source (x ∷ xs) out rest t is some (scans_on _ _ front {done = later} {end} {u} at r) =
      let first : x ≡ t = cc in
      let same = append_cancel_right front (t ∷ xs) source (sym at ∙ (is ∙ ap (λ y. y ∷ (xs ++ source)) first)) in
      record { tail = xs; rest_is = cc; later = later; runs = subst (λ l. Runs provenance macros l source later end u) same r }

  -- the next token of the innermost list is looked up
  pub state-looks : (ps : List (Pending P)) (source front out rest : List (Hidden P)) (t : Hidden P) {done : List (Hidden P)} {end : End P} {u : Uses P} → bottom (under ps (scanning out (t ∷ rest))) ≡ front ++ source
      → IsInFront (under ps (scanning out (t ∷ rest))) front → StateRuns provenance macros source (under ps (scanning out (t ∷ rest))) done end u → Covers u.looked_up (looked_up_at t)
  state-looks [] source front out rest t {done} {end} {u} is some s = let f = from-first source front out rest t is some s in runs-looks t f.tail source f.later end u f.runs
  state-looks (p ∷ ps) source front out rest t is some (resumes _ _ _ _ _ list {u = u} c d) = covers-then (covers-front (looked c) u.looked_up) (completes-looks ps out rest t (Ok list) c)
  state-looks (p ∷ ps) source front out rest t is some (refuses _ _ _ _ _ _ failure at c) = completes-looks ps out rest t (Err failure) c

  -- and its call, where one is closed, takes what stands before its end
  pub state-closes : (source front out rest : List (Hidden P)) (t : Hidden P) {done : List (Hidden P)} {end : End P} {u : Uses P} → t ∷ rest ≡ front ++ source → (front ≡ [] → ⊥) → StateRuns provenance macros source (scanning out (t ∷ rest)) done end u
      → Closes (case_of macros t rest) source u.taken
  state-closes source front out rest t {done} {end} {u} is some s =
      let f = from-first source front out rest t is some s in subst (λ l. Closes (case_of macros t l) source u.taken) (sym f.rest_is) (runs-closes t f.tail source f.later end u f.runs)
