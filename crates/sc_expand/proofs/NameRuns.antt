-- The run of a name, by the steps of its expansion: what a state still makes of what stands in
-- front of the list, the state before it does as well.
use Rattle.std.proofs.Common.{◌≡◌, ◌⊎◌, inl, inr, ℕ, false, List, [], ◌∷◌, ◌++◌, append_assoc, append-nil, length, length-append, map, Result, Ok, Err, refl, sym, ap, ◌∙◌, subst, arith}
use Rattle.c11_macros.specs.Expansion as expansion
use Rattle.c11_macros.specs.Runs as run
use Rattle.sc_expand.proofs.Facts.{append_cancel_right, called-ends, case-in, cons-some, false_from_ne_true, leaves-source, leaves-split, misfit-ends, these-none}
use Rattle.sc_expand.proofs.Behind.{lower-all, lower-min}
use Rattle.sc_expand.proofs.PlainArguments.{replaced_with}
use Rattle.sc_expand.proofs.PlainCompletes.{Completes, looked, scanned, scans, Covers, covers-back, covers-both, covers-front, covers-same, covers-then}
use Rattle.sc_expand.proofs.PlainMoves.{asked-each, fails-by, move-back, none-asked}
use Rattle.sc_expand.proofs.Terms.{Definition, Each, End, Expands, Fails, Failure, HiddenToken as Hidden, IsTemplate, Leaves, Macros, Moves, Provenance, Runs, Slot, State, Uses, Waiting, Waits, asked, beyond, call_result, called, case_of, expanding, fails, gathered, is_last_name, looked_up_at, meet, misfit, next, no_uses, none, object_result, over, put_together, replaced, replacement_of, result_and_then, scanning, stays, stops, then_uses, trace, trace_each, using, waiting, waits, with_expanded, with_name, within, without_first}
use Rattle.sc_expand.specs.FootprintSteps.{IsPending, bottom, lower_of}
use Rattle.sc_expand.specs.Open as opened
use Rattle.sc_expand.specs.Plain as plain

module _ {P : Type 0} where
  -- the end of two lists together lies in the second, or begins in the first
  pub record SomeLeaves (source after : List (Hidden P)) : Type 0 where
    pub left : List (Hidden P)
    pub rest : List (Hidden P)
    pub taken : List (Hidden P)
    pub leaves : Leaves source after left rest taken

  pub divide : (before after front source : List (Hidden P)) → before ++ after ≡ front ++ source → SomeLeaves source after
  divide [] after front source is = record { left = front; rest = source; taken = []; leaves = within is }
  divide (x ∷ xs) after [] source is = record { left = []; rest = after; taken = x ∷ xs; leaves = beyond (sym is) (cons-some x xs) }
  divide (x ∷ xs) after (y ∷ ys) source is = let tail : xs ++ after ≡ ys ++ source = cc in divide xs after ys source tail

  -- nothing is taken of the second, or nothing of the first is left
  pub leaves-one : {source after left rest taken : List (Hidden P)} → Leaves source after left rest taken → (taken ≡ []) ⊎ (left ≡ [])
  leaves-one (within is) = inl refl
  leaves-one (beyond is some) = inr refl

  -- something stands in front of the list, or a call waits
  abbrev pub IsInFront : State P → List (Hidden P) → Type 0
  IsInFront (scanning out work) front = front ≡ [] → ⊥
  IsInFront (waiting out work w) front = Unit {0}
  IsInFront (expanding out work w n s) front = Unit {0}

covers-assoc : (xs ys zs : List (List ℕ)) → Covers ((xs ++ ys) ++ zs) (ys ++ zs)
covers-assoc xs ys zs = covers-then (covers-same (append_assoc xs ys zs)) (covers-back xs (ys ++ zs))

module _ {P : Type 0} (provenance : Provenance P) (macros : Macros) where
  abbrev Answer : Type 0
  Answer = Result (List (Hidden P)) (Failure P)

  -- a replacement runs with what stands in front, or its failure ends the run
  pub data RescanRuns (front source : List (Hidden P)) : Answer → (done : List (Hidden P)) → End P → Uses P → Type 0 where
    on : {body done : List (Hidden P)} {end : End P} {u : Uses P} → Runs provenance macros (body ++ front) source done end u → RescanRuns front source (Ok body) done end u
    refused : (failure : Failure P) → RescanRuns front source (Err failure) [] (fails failure) no_uses

  -- What the state makes of what stands in front of the list: what was put out, and then what that
  -- runs to.
  pub data StateRuns (source : List (Hidden P)) : State P → (done : List (Hidden P)) → End P → Uses P → Type 0 where
    scans_on : (out work front : List (Hidden P)) {done : List (Hidden P)} {end : End P} {u : Uses P} → work ≡ front ++ source → Runs provenance macros front source done end u → StateRuns source (scanning out work) (out ++ done) end u
    replaces : (out work front : List (Hidden P)) (w : Waiting P) (results : Result (List (List (Hidden P))) (Failure P)) {done : List (Hidden P)} {end : End P} {u : Uses P} → work ≡ front ++ source
        → (each : Each provenance macros w.wanted w.expanded results) → RescanRuns front source (replaced_with provenance macros w results) done end u
        → StateRuns source (waiting out work w) (out ++ done) end (then_uses (using [] (trace_each each).looked_up) u)
    resumes : (out work : List (Hidden P)) (w : Waiting P) (n : ℕ) (s : State P) (list : List (Hidden P)) {done : List (Hidden P)} {end : End P} {u : Uses P} (c : Completes provenance macros s (Ok list))
        → StateRuns source (waiting out work (with_expanded w n list)) done end u → StateRuns source (expanding out work w n s) done end (then_uses (using [] (looked c)) u)
    refuses : (out work front : List (Hidden P)) (w : Waiting P) (n : ℕ) (s : State P) (failure : Failure P) → work ≡ front ++ source → (c : Completes provenance macros s (Err failure))
        → StateRuns source (expanding out work w n s) (out ++ []) (fails failure) (using [] (looked c))

  -- The state runs so, takes these tokens and then those, and looks up all those names.
  pub record Before (source : List (Hidden P)) (s : State P) (done : List (Hidden P)) (end : End P) (taken : List (Hidden P)) (u : Uses P) : Type 0 where
    pub uses : Uses P
    pub runs : StateRuns source s done end uses
    pub taken_is : uses.taken ≡ taken ++ u.taken
    pub covers : Covers uses.looked_up u.looked_up

  -- ---- a step back

  stay-back : (out rest : List (Hidden P)) (t : Hidden P) {source done : List (Hidden P)} {end : End P} {u : Uses P} → case_of macros t rest ≡ stays → is_last_name macros t rest ≡ false
      → StateRuns source (scanning (out ++ t ∷ []) rest) done end u → Before source (scanning out (t ∷ rest)) done end [] u
  stay-back out rest t {source} is free (scans_on _ _ front {done} {end} {u} at r) = record {
    uses = then_uses (using [] (looked_up_at t)) u;
    runs = subst (λ l. StateRuns source (scanning out (t ∷ rest)) l end (then_uses (using [] (looked_up_at t)) u)) (sym (append_assoc out (t ∷ []) done))
        (scans_on out (t ∷ rest) (t ∷ front) (ap (λ l. t ∷ l) at) (run.stay (ap (case_of macros t) (sym at) ∙ is) (ap (is_last_name macros t) (sym at) ∙ free) r));
    taken_is = refl;
    covers = covers-back (looked_up_at t) u.looked_up;
  }

  -- what stands in front of the list behind a replacement
  front-is : (body rest front front2 source : List (Hidden P)) → rest ≡ front ++ source → body ++ rest ≡ front2 ++ source → front2 ≡ body ++ front
  front-is body rest front front2 source at is = append_cancel_right front2 (body ++ front) source (sym is ∙ (ap (λ l. body ++ l) at ∙ sym (append_assoc body front source)))

  object-back : (out rest body front : List (Hidden P)) (t : Hidden P) (d : Definition) {source done : List (Hidden P)} {end : End P} {u : Uses P} → rest ≡ front ++ source → case_of macros t rest ≡ replaced d → object_result provenance d t ≡ Ok body
      → StateRuns source (scanning out (body ++ rest)) done end u → Before source (scanning out (t ∷ rest)) done end [] u
  object-back out rest body front t d {source} at is made (scans_on _ _ front2 {done} {end} {u} there r) = record {
    uses = then_uses (using [] (looked_up_at t)) u;
    runs = scans_on out (t ∷ rest) (t ∷ front) (ap (λ l. t ∷ l) at)
        (run.object d body (ap (case_of macros t) (sym at) ∙ is) made (subst (λ l. Runs provenance macros l source done end u) (front-is body rest front front2 source at there) r));
    taken_is = refl;
    covers = covers-back (looked_up_at t) u.looked_up;
  }

  gather-back : (out rest after front left later taken : List (Hidden P)) (t close : Hidden P) (d : Definition) (arguments : List (List (Hidden P))) (template : Result (List (Slot P)) (Failure P)) {source done : List (Hidden P)} {end : End P} {u : Uses P} → rest ≡ front ++ source
      → case_of macros t rest ≡ called d arguments close after → Leaves source after left later taken → IsTemplate provenance d t arguments template
      → StateRuns later (waiting out after (gathered provenance d t arguments close template)) done end u → Before source (scanning out (t ∷ rest)) done end taken u
  gather-back out rest after front left later taken t close d arguments template {source} at is leaves stands (replaces _ _ front2 w results there each rescans) =
      by (asked-each provenance macros d t arguments results stands.stringized each) (λ i. result_and_then (λ lists. stands.completes lists w.names i) results) rescans
    where
      names_in : List (List ℕ)
      names_in = (trace_each each).looked_up

      left_is : front2 ≡ left
      left_is = append_cancel_right front2 left later (sym there ∙ leaves-split leaves)

      case_is : case_of macros t (front ++ source) ≡ called d arguments close after
      case_is = ap (case_of macros t) (sym at) ∙ is

      by : {made : Answer} {done : List (Hidden P)} {end : End P} {u : Uses P} → (e : Each provenance macros (asked provenance d t arguments) (map (λ a. []) arguments) results) × (trace_each e ≡ trace_each each)
          → call_result provenance d t arguments close results ≡ made → RescanRuns front2 later made done end u → Before source (scanning out (t ∷ rest)) (out ++ done) end taken (then_uses (using [] names_in) u)
      by e made (on {body} {done} {end} {u} r) = record {
        uses = then_uses (using taken (looked_up_at t ++ (trace_each e.0).looked_up)) u;
        runs = scans_on out (t ∷ rest) (t ∷ front) (ap (λ l. t ∷ l) at)
            (run.call d arguments close after left later taken body results case_is leaves e.0 made (subst (λ l. Runs provenance macros (body ++ l) later done end u) left_is r));
        taken_is = refl;
        covers = covers-then (covers-assoc (looked_up_at t) (trace_each e.0).looked_up u.looked_up) (covers-same (ap (λ x. x.looked_up ++ u.looked_up) e.1));
      }
      by e made (refused failure) = record {
        uses = using taken (looked_up_at t ++ (trace_each e.0).looked_up);
        runs = scans_on out (t ∷ rest) (t ∷ front) (ap (λ l. t ∷ l) at) (run.bad_call d arguments close after left later taken results failure case_is leaves e.0 made);
        taken_is = sym (append-nil taken);
        covers = covers-then (covers-back (looked_up_at t) (trace_each e.0).looked_up) (covers-same (ap (λ x. x.looked_up) e.1 ∙ sym (append-nil names_in)));
      }

  -- the arguments that are asked for are these
  each-as : {asks others : List (ℕ × List (Hidden P))} {lists : List (List (Hidden P))} {results : Result (List (List (Hidden P))) (Failure P)} → asks ≡ others → (e : Each provenance macros others lists results)
      → (f : Each provenance macros asks lists results) × (trace_each f ≡ trace_each e)
  each-as {lists = lists} {results} same e = subst (λ l. (f : Each provenance macros l lists results) × (trace_each f ≡ trace_each e)) (sym same) (e, refl)

  -- an argument expands alone, by the names that its state looks up
  record Alone (ts : List (Hidden P)) (r : Answer) (names : List (List ℕ)) : Type 0 where
    expands : Expands provenance macros ts r
    named : names ≡ (trace expands).looked_up

  alone-by : (ts : List (Hidden P)) (r : Answer) (c : Completes provenance macros (scanning [] ts) r) → Alone ts r (looked c)
  alone-by ts r c = let s = scanned c in subst (λ a. Alone ts a (looked c)) (these-none s.answer ∙ sym s.is) (record { expands = s.expands; named = s.named })

  argued : (out work list expanded : List (Hidden P)) (w : Waiting P) (n : ℕ) (others : List (ℕ × List (Hidden P))) (names : List (List ℕ)) {source done : List (Hidden P)} {end : End P} {u : Uses P} → w.wanted ≡ (n, list) ∷ others
      → Alone list (Ok expanded) names → StateRuns source (waiting out work (with_expanded (without_first w others) n expanded)) done end u → Before source (waiting out work w) done end [] (then_uses (using [] names) u)
  argued out work list expanded w n others names is first (replaces _ _ front _ results {u = u} at each rescans) =
      let e = each-as is (next expanded first.expands each) in record {
        uses = then_uses (using [] (trace_each e.0).looked_up) u;
        runs = replaces out work front w results at e.0 rescans;
        taken_is = refl;
        covers = covers-same (ap (λ x. x.looked_up ++ u.looked_up) e.1 ∙ (append_assoc (trace first.expands).looked_up (trace_each each).looked_up u.looked_up ∙ ap (λ l. l ++ ((trace_each each).looked_up ++ u.looked_up)) (sym first.named)));
      }

  refused-first : (out work front list : List (Hidden P)) (w : Waiting P) (n : ℕ) (others : List (ℕ × List (Hidden P))) (names : List (List ℕ)) (failure : Failure P) {source : List (Hidden P)} → w.wanted ≡ (n, list) ∷ others → work ≡ front ++ source
      → Alone list (Err failure) names → Before source (waiting out work w) (out ++ []) (fails failure) [] (using [] names)
  refused-first out work front list w n others names failure is at first =
      let e = each-as is (stops failure first.expands) in record {
        uses = then_uses (using [] (trace_each e.0).looked_up) no_uses;
        runs = replaces out work front w (Err failure) at e.0 (refused failure);
        taken_is = refl;
        covers = covers-then (covers-front (trace_each e.0).looked_up []) (covers-same (ap (λ x. x.looked_up) e.1 ∙ sym first.named));
      }

  enter-back : (out work list : List (Hidden P)) (w : Waiting P) (n : ℕ) (others : List (ℕ × List (Hidden P))) {source done : List (Hidden P)} {end : End P} {u : Uses P} → w.wanted ≡ (n, list) ∷ others
      → StateRuns source (expanding out work (without_first w others) n (scanning [] list)) done end u → Before source (waiting out work w) done end [] u
  enter-back out work list w n others is (resumes _ _ _ _ _ expanded c d) = argued out work list expanded w n others (looked c) is (alone-by list (Ok expanded) c) d
  enter-back out work list w n others is (refuses _ _ front _ _ _ failure at c) = refused-first out work front list w n others (looked c) failure is at (alone-by list (Err failure) c)

  leave-back : (out work list : List (Hidden P)) (w : Waiting P) (n : ℕ) {source done : List (Hidden P)} {end : End P} {u : Uses P} → StateRuns source (waiting out work (with_expanded w n list)) done end u
      → Before source (expanding out work w n (scanning list [])) done end [] u
  leave-back out work list w n {u = u} d =
      let inner = subst (λ l. Completes provenance macros (scanning list []) (Ok l)) (append-nil list) (scans list [] (Ok []) expansion.empty) in
      record { uses = then_uses (using [] (looked inner)) u; runs = resumes out work w n (scanning list []) list inner d; taken_is = refl; covers = covers-back (looked inner) u.looked_up }

  replace-back : (out work body front : List (Hidden P)) (w : Waiting P) {source done : List (Hidden P)} {end : End P} {u : Uses P} → work ≡ front ++ source → w.wanted ≡ [] → replacement_of provenance w ≡ Ok body
      → StateRuns source (scanning out (body ++ work)) done end u → Before source (waiting out work w) done end [] u
  replace-back out work body front w {source} at all made (scans_on _ _ front2 {done} {end} {u} there r) =
      let e = each-as {lists = w.expanded} {results = Ok w.expanded} all none in record {
        uses = then_uses (using [] (trace_each e.0).looked_up) u;
        runs = replaces out work front w (Ok w.expanded) at e.0
            (subst (λ m. RescanRuns front source m done end u) (sym made) (on {body = body} (subst (λ l. Runs provenance macros l source done end u) (front-is body work front front2 source at there) r)));
        taken_is = refl;
        covers = covers-back (trace_each e.0).looked_up u.looked_up;
      }

  inside-back : (out work : List (Hidden P)) (w : Waiting P) (n : ℕ) (s t : State P) {source done : List (Hidden P)} {end : End P} {u : Uses P} → Moves provenance macros s t → StateRuns source (expanding out work w n t) done end u
      → Before source (expanding out work w n s) done end [] u
  inside-back out work w n s t m (resumes _ _ _ _ _ list {u = u} c d) =
      let e = move-back provenance macros s t m (Ok list) c in record {
        uses = then_uses (using [] (looked e.completes)) u;
        runs = resumes out work w n s list e.completes d;
        taken_is = refl;
        covers = covers-both (covers-then (covers-front (looked e.completes) u.looked_up) e.covers) (covers-back (looked e.completes) u.looked_up);
      }
  inside-back out work w n s t m (refuses _ _ front _ _ _ failure at c) =
      let e = move-back provenance macros s t m (Err failure) c in record { uses = using [] (looked e.completes); runs = refuses out work front w n s failure at e.completes; taken_is = refl; covers = e.covers }

  -- ---- a step

  -- what a step takes of the list and leaves; as the state behind it runs, so does the one before
  -- it
  pub record Onward (source : List (Hidden P)) (s t : State P) : Type 0 where
    pub taken : List (Hidden P)
    pub later : List (Hidden P)
    pub is : source ≡ taken ++ later
    pub front : List (Hidden P)
    pub bottom_is : bottom t ≡ front ++ later
    pub one : (taken ≡ []) ⊎ (front ≡ [])
    pub back : (done : List (Hidden P)) (end : End P) (u : Uses P) → StateRuns later t done end u → Before source s done end taken u

  pub tail-is : (t : Hidden P) (rest front source : List (Hidden P)) → t ∷ rest ≡ front ++ source → (front ≡ [] → ⊥) → (tail : List (Hidden P)) × (rest ≡ tail ++ source) × (front ≡ t ∷ tail)
  tail-is t rest [] source is some = absurd (some refl)
  tail-is t rest (u ∷ us) source is some = (us, cc, cc)

  body-first : (body rest front source : List (Hidden P)) → rest ≡ front ++ source → body ++ rest ≡ (body ++ front) ++ source
  body-first body rest front source is = ap (λ l. body ++ l) is ∙ sym (append_assoc body front source)

  pub onward : (source front : List (Hidden P)) (s t : State P) → Moves provenance macros s t → (Waits macros s → ⊥) → bottom s ≡ front ++ source → IsInFront s front → Onward source s t
  onward source front _ _ (plain.stay out rest t is) free at some =
      let r = tail-is t rest front source at some in record {
        taken = [];
        later = source;
        is = refl;
        front = r.0;
        bottom_is = r.1;
        one = inl refl;
        back = λ done end u q. stay-back out rest t is (false_from_ne_true (is_last_name macros t rest) (λ last. free (opened.alone out rest t last))) q;
      }
  onward source front _ _ (plain.object out rest body t d is made) free at some =
      let r = tail-is t rest front source at some in record {
        taken = [];
        later = source;
        is = refl;
        front = body ++ r.0;
        bottom_is = body-first body rest r.0 source r.1;
        one = inl refl;
        back = λ done end u q. object-back out rest body r.0 t d r.1 is made q;
      }
  onward source front _ _ (plain.gather out rest after t close d arguments template is stands) free at some =
      let r = tail-is t rest front source at some in
      let e = called-ends rest d arguments close after (case-in macros t rest (called d arguments close after) is) in
      let s = divide e.before after r.0 source (sym e.is ∙ r.1) in record {
        taken = s.taken;
        later = s.rest;
        is = leaves-source s.leaves;
        front = s.left;
        bottom_is = leaves-split s.leaves;
        one = leaves-one s.leaves;
        back = λ done end u q. gather-back out rest after r.0 s.left s.rest s.taken t close d arguments template r.1 is s.leaves stands q;
      }
  onward source front _ _ (plain.enter out work list w n others is) free at some =
      record { taken = []; later = source; is = refl; front = front; bottom_is = at; one = inl refl; back = λ done end u q. enter-back out work list w n others is q }
  onward source front _ _ (plain.leave out work list w n) free at some =
      record { taken = []; later = source; is = refl; front = front; bottom_is = at; one = inl refl; back = λ done end u q. leave-back out work list w n q }
  onward source front _ _ (plain.replace out work body w all made) free at some =
      record { taken = []; later = source; is = refl; front = body ++ front; bottom_is = body-first body work front source at; one = inl refl; back = λ done end u q. replace-back out work body front w at all made q }
  onward source front _ _ (plain.inside out work w n {s} {t} m) free at some =
      record { taken = []; later = source; is = refl; front = front; bottom_is = at; one = inl refl; back = λ done end u q. inside-back out work w n s t m q }

  -- what fails is a run that fails
  pub fails-runs : (source front : List (Hidden P)) (s : State P) (failure : Failure P) → Fails provenance macros s failure → (Waits macros s → ⊥) → bottom s ≡ front ++ source → IsInFront s front
      → (done : List (Hidden P)) × (u : Uses P) × StateRuns source s done (fails failure) u
  fails-runs source front _ failure (plain.bad_object out rest t d _ is made) free at some =
      let r = tail-is t rest front source at some in
      (_, _, scans_on out (t ∷ rest) (t ∷ r.0) (ap (λ l. t ∷ l) r.1) (run.bad_object d failure (ap (case_of macros t) (sym r.1) ∙ is) made))
  fails-runs source front _ _ (plain.open_call out rest t is) free at some = absurd (free (opened.open_call out rest t is))
  fails-runs source front _ _ (plain.miscounted out rest after t is) free at some =
      let r = tail-is t rest front source at some in
      let e = misfit-ends rest after (case-in macros t rest (misfit after) is) in
      let s = divide e.before after r.0 source (sym e.is ∙ r.1) in
      (_, _, scans_on out (t ∷ rest) (t ∷ r.0) (ap (λ l. t ∷ l) r.1) (run.bad_count after s.left s.rest s.taken (ap (case_of macros t) (sym r.1) ∙ is) s.leaves))
  fails-runs source front _ failure (plain.bad_stringize out rest after t close d arguments _ is hash) free at some =
      let r = tail-is t rest front source at some in
      let e = called-ends rest d arguments close after (case-in macros t rest (called d arguments close after) is) in
      let s = divide e.before after r.0 source (sym e.is ∙ r.1) in
      let lists = map (λ (a : List (Hidden P)). []) arguments in (
        _,
        _,
        scans_on out (t ∷ rest) (t ∷ r.0) (ap (λ l. t ∷ l) r.1)
            (run.bad_call d arguments close after s.left s.rest s.taken (Ok lists) failure (ap (case_of macros t) (sym r.1) ∙ is) s.leaves (none-asked provenance macros d t arguments failure hash).0
            (ap (result_and_then (put_together provenance t arguments lists (with_name (meet t.hide close.hide) t.spelling))) hash)),
      )
  fails-runs source front _ failure (plain.bad_paste out work w _ all made) free at some =
      (_, _, replaces out work front w (Ok w.expanded) at (each-as {lists = w.expanded} {results = Ok w.expanded} all none).0 (subst (λ m. RescanRuns front source m [] (fails failure) no_uses) (sym made) (refused failure)))
  fails-runs source front _ failure (plain.inside_fails out work w n {s} inner) free at some = (_, _, refuses out work front w n s failure at (fails-by provenance macros s failure inner))

  -- ---- from the name on

  -- the name's run, as that of a state behind it
  pub record Named (t : Hidden P) (behind out done : List (Hidden P)) (end : End P) (taken : List (Hidden P)) (u : Uses P) : Type 0 where
    pub later : List (Hidden P)
    pub uses : Uses P
    pub runs : Runs provenance macros (t ∷ []) behind later end uses
    pub done_is : done ≡ out ++ later
    pub taken_is : uses.taken ≡ taken ++ u.taken
    pub covers : Covers uses.looked_up u.looked_up

  -- The expansion of the name has come to this state: it has taken these of the tokens behind it,
  -- and as the state runs, so does the name.
  pub record NameReaches (t : Hidden P) (behind out : List (Hidden P)) (s : State P) (source : List (Hidden P)) : Type 0 where
    pub taken : List (Hidden P)
    pub stands : behind ≡ taken ++ source
    pub front : List (Hidden P)
    pub bottom_is : bottom s ≡ front ++ source
    -- the name still stands first, or it is replaced or called, or nothing is left of it
    pub named : ((s ≡ scanning out (t ∷ behind)) × (source ≡ behind)) ⊎ ((case_of macros t behind ≡ stays → ⊥) ⊎ (IsInFront s front → ⊥))
    pub back : (done : List (Hidden P)) (end : End P) (u : Uses P) → StateRuns source s done end u → Named t behind out done end taken u

  pub name-start : (t : Hidden P) (behind out : List (Hidden P)) → NameReaches t behind out (scanning out (t ∷ behind)) behind
  name-start t behind out = record { taken = []; stands = refl; front = t ∷ []; bottom_is = refl; named = inl (refl, refl); back = by }
    where
      by : (done : List (Hidden P)) (end : End P) (u : Uses P) → StateRuns behind (scanning out (t ∷ behind)) done end u → Named t behind out done end [] u
      by _ end u (scans_on _ _ front {done} at r) = record {
        later = done;
        uses = u;
        runs = subst (λ l. Runs provenance macros l behind done end u) (append_cancel_right front (t ∷ []) behind (sym at)) r;
        done_is = refl;
        taken_is = refl;
        covers = covers-same refl;
      }

  -- a name that stays leaves nothing but what stands behind it
  named-on : (t : Hidden P) (behind out source : List (Hidden P)) (s after : State P) → Moves provenance macros s after → s ≡ scanning out (t ∷ behind) → source ≡ behind → (o : Onward source s after)
      → (case_of macros t behind ≡ stays → ⊥) ⊎ (IsInFront after o.front → ⊥)
  named-on t behind out source _ _ (plain.stay _ rest u is) e whole o = inr (λ some. some (by o.one))
    where
      none-more : (xs ys : List (Hidden P)) → ys ≡ xs ++ ys → xs ≡ []
      none-more [] ys is = refl
      none-more (x ∷ xs) ys is = absurd (omega (arith, ap length is, length-append xs ys))

      by : (o.taken ≡ []) ⊎ (o.front ≡ []) → o.front ≡ []
      by (inr empty) = empty
      by (inl gone) =
          let later : rest ≡ o.later = cc (e, whole, o.is ∙ ap (λ l. l ++ o.later) gone) in
          none-more o.front o.later (sym later ∙ o.bottom_is)
  named-on t behind out source _ _ (plain.object _ rest body u d is made) e whole o = inl (λ stay.
      let first : u ≡ t = cc in
      let same : rest ≡ behind = cc in
      let both : replaced d ≡ stays = sym is ∙ ((λ i. case_of macros (first i) (same i)) ∙ stay) in
      cc)
  named-on t behind out source _ _ (plain.gather _ rest after u close d arguments template is stands) e whole o = inl (λ stay.
      let first : u ≡ t = cc in
      let same : rest ≡ behind = cc in
      let both : called d arguments close after ≡ stays = sym is ∙ ((λ i. case_of macros (first i) (same i)) ∙ stay) in
      cc)
  named-on t behind out source _ _ (plain.enter _ work list w n others is) e whole o = absurd (cc)
  named-on t behind out source _ _ (plain.leave _ work list w n) e whole o = absurd (cc)
  named-on t behind out source _ _ (plain.replace _ work body w all made) e whole o = absurd (cc)
  named-on t behind out source _ _ (plain.inside _ work w n m) e whole o = absurd (cc)

  onward-reaches : (t : Hidden P) (behind out source : List (Hidden P)) (s after : State P) (r : NameReaches t behind out s source) → Moves provenance macros s after → IsInFront s r.front → (o : Onward source s after)
      → NameReaches t behind out after o.later
  onward-reaches t behind out source s after r m some o = record {
    taken = r.taken ++ o.taken;
    stands = r.stands ∙ (ap (λ l. r.taken ++ l) o.is ∙ sym (append_assoc r.taken o.taken o.later));
    front = o.front;
    bottom_is = o.bottom_is;
    named = elim r.named [
      | inl first ↦ inr (named-on t behind out source s after m first.0 first.1 o)
      | inr later ↦ inr (elim later [ inl another ↦ inl another | inr empty ↦ absurd (empty some) ])
    ];
    back = λ done end u q.
        let b = o.back done end u q in
        let n = r.back done end b.uses b.runs in record {
          later = n.later;
          uses = n.uses;
          runs = n.runs;
          done_is = n.done_is;
          taken_is = n.taken_is ∙ (ap (λ l. r.taken ++ l) b.taken_is ∙ sym (append_assoc r.taken o.taken u.taken));
          covers = covers-then n.covers b.covers;
        };
  }

  pub name-move : (t : Hidden P) (behind out source : List (Hidden P)) (s after : State P) (r : NameReaches t behind out s source) → Moves provenance macros s after → (Waits macros s → ⊥) → IsInFront s r.front
      → (later : List (Hidden P)) × NameReaches t behind out after later
  name-move t behind out source s after r m free some = let o = onward source r.front s after m free r.bottom_is some in (o.later, onward-reaches t behind out source s after r m some o)

  -- ---- how many tokens of the list are left

  pub pending-front : (s : State P) (front source : List (Hidden P)) → bottom s ≡ front ++ source → IsPending s (length source) → IsInFront s front
  pending-front (scanning out work) front source is more = λ none. let same = is ∙ ap (λ l. l ++ source) none in omega (arith, more, ap length same)
  pending-front (waiting out work w) front source is more = tt
  pending-front (expanding out work w n s) front source is more = tt

  pub front-pending : (s : State P) (front source : List (Hidden P)) → bottom s ≡ front ++ source → IsInFront s front → IsPending s (length source)
  front-pending (scanning out work) [] source is some = absurd (some refl)
  front-pending (scanning out work) (x ∷ xs) source is some = omega (arith, ap length is, length-append xs source)
  front-pending (waiting out work w) front source is some = tt
  front-pending (expanding out work w n s) front source is some = tt

  later-count : (all taken later front source : List (Hidden P)) → all ≡ front ++ later → source ≡ taken ++ later → (taken ≡ []) ⊎ (front ≡ []) → lower_of (length all) (length source) ≡ length later
  later-count all taken later front source is stands (inl gone) =
      let same = stands ∙ ap (λ l. l ++ later) gone in
      lower-all (length all) (length source) (omega (arith, ap length is, length-append front later, ap length same)) ∙ ap length same
  later-count all taken later front source is stands (inr gone) =
      let same = is ∙ ap (λ l. l ++ later) gone in
      ap (λ n. lower_of n (length source)) (ap length same) ∙ omega (arith, ap length stands, length-append taken later, lower-min (length later) (length source))

  -- a step of who has more than the tokens of the list leaves the last of these, or all that it
  -- leaves
  pub name-steps : (t : Hidden P) (behind out source : List (Hidden P)) (s after : State P) (r : NameReaches t behind out s source) → Moves provenance macros s after → (Waits macros s → ⊥) → IsPending s (length source)
      → (later : List (Hidden P)) × NameReaches t behind out after later × (length later ≡ lower_of (length (bottom after)) (length source))
  name-steps t behind out source s after r m free more =
      let some = pending-front s r.front source r.bottom_is more in
      let o = onward source r.front s after m free r.bottom_is some in
      (o.later, onward-reaches t behind out source s after r m some o, sym (later-count (bottom after) o.taken o.later o.front source o.bottom_is o.is o.one))

  -- ---- the end of the name's expansion

  pub name-over : (t : Hidden P) (behind before out work source : List (Hidden P)) (r : NameReaches t behind before (scanning out work) source) → work ≡ source → Named t behind before (out ++ []) (over source) r.taken no_uses
  name-over t behind before out work source r is = r.back (out ++ []) (over source) no_uses (scans_on out work [] is run.used_up)

  pub name-waits : (t g : Hidden P) (behind before out rest source : List (Hidden P)) (r : NameReaches t behind before (scanning out (g ∷ rest)) source) → (r.front ≡ [] → ⊥) → Waits macros (scanning out (g ∷ rest))
      → Named t behind before (out ++ []) (waits g rest) r.taken (using [] (looked_up_at g))
  name-waits t g behind before out rest source r some w =
      let f = tail-is g rest r.front source r.bottom_is some in
      r.back (out ++ []) (waits g rest) (using [] (looked_up_at g)) (scans_on out (g ∷ rest) (g ∷ f.0) (ap (λ l. g ∷ l) f.1)
      (subst (λ l. Runs provenance macros (g ∷ f.0) source [] (waits g l) (using [] (looked_up_at g))) (sym f.1) (ends w f.0 f.1)))
    where
      ends : Waits macros (scanning out (g ∷ rest)) → (front : List (Hidden P)) → rest ≡ front ++ source → Runs provenance macros (g ∷ front) source [] (waits g (front ++ source)) (using [] (looked_up_at g))
      ends (opened.alone _ _ _ is) front at = run.alone (ap (is_last_name macros g) (sym at) ∙ is)
      ends (opened.open_call _ _ _ is) front at = run.open_call (ap (case_of macros g) (sym at) ∙ is)
