-- The footprint of a name is what its run took of the list and looked up.
use Rattle.std.proofs.Common.{◌≡◌, ℕ, suc, ◌+◌, ◌-◌, ◌<◌, nat_le, Bool, true, false, List, [], ◌∷◌, ◌++◌, append_assoc, append-nil, drop, length, length-append, map, Result, Ok, Err, refl, sym, ap, ◌∙◌, subst, arith, if◌then◌else◌, inl, inr}
use Rattle.c11_macros.specs.Expansion as expansion
use Rattle.c11_macros.specs.Footprint as arriving
use Rattle.c11_macros.specs.Runs as run
use Rattle.c11_macros.specs.Trace as used
use Rattle.sc_expand.proofs.Facts.{drop_at, halts, last-stays, leaves-source, leaves-split, leb-false, leb-true}
use Rattle.sc_expand.proofs.Behind.{lower-min}
use Rattle.sc_expand.proofs.NameRuns.{leaves-one}
use Rattle.sc_expand.proofs.PassesLaws.{over-source}
use Rattle.sc_expand.proofs.PlainCompletes.{Covers, covers-back, covers-both, covers-front, covers-same, covers-then}
use Rattle.sc_expand.proofs.Terms.{Arrives, Definition, Each, End, Expands, Failure, Footprint, HiddenToken as Hidden, IsWithin, Leaves, Macros, Passes, Provenance, Rescans, Runs, Use, Uses, asked, call_result, called, case_of, fails, footprint, footprint_from, is_last_name, looked_up_at, lower_of, next, no_uses, none, object_result, on, over, refused, replaced, stops, then_uses, trace, trace_each, trace_rescan, using, waits, with_names}

-- ---- footprints of what was used

-- the first token is looked at where more are left
past-first : (left n : ℕ) (names : List (List ℕ)) (uses : List Use) → left < suc n → footprint_from left (used.stands (suc n) ∷ used.looks_up names ∷ uses) ≡ with_names names (footprint_from left uses)
past-first left n names uses below = by (nat_le (suc n) left) refl
  where
    by : (b : Bool) → nat_le (suc n) left ≡ b → (if b then record { left = left; looked_up = []; fails = false } else with_names names (footprint_from left uses)) ≡ with_names names (footprint_from left uses)
    by true is = let less = leb-true (suc n) left is in absurd (omega (arith, less))
    by false is = refl

-- nothing is used where no more is left
at-first : (n : ℕ) (uses : List Use) → footprint_from n (used.stands n ∷ uses) ≡ record { left = n; looked_up = []; fails = false }
at-first n uses = by (nat_le n n) refl
  where
    by : (b : Bool) → nat_le n n ≡ b → (if b then record { left = n; looked_up = []; fails = false } else footprint_from n uses) ≡ record { left = n; looked_up = []; fails = false }
    by true is = refl
    by false is = let more : n < n = leb-false n n is in absurd (omega arith)

-- the arguments use names, and nothing of the whole list
past-each : {P : Type 0} {provenance : Provenance P} {macros : Macros} {asks : List (ℕ × List (Hidden P))} {lists : List (List (Hidden P))} {rs : Result (List (List (Hidden P))) (Failure P)} (left : ℕ) (uses : List Use) (e : Each provenance macros asks lists rs)
    → footprint_from left ((trace_each e).uses ++ uses) ≡ with_names (trace_each e).looked_up (footprint_from left uses)
past-each left uses none = refl
past-each left uses (next list d e) =
    ap (with_names (trace d).looked_up) (past-each left uses e) ∙ ap (λ names. record (footprint_from left uses) { looked_up = names }) (sym (append_assoc (trace d).looked_up (trace_each e).looked_up (footprint_from left uses).looked_up))
past-each left uses (stops failure d) = refl

covers-after : (names : List (List ℕ)) {xs ys : List (List ℕ)} → Covers xs ys → Covers (names ++ xs) (names ++ ys)
covers-after names {xs} c = covers-both (covers-front names xs) (covers-then (covers-back names xs) c)

module _ {P : Type 0} (provenance : Provenance P) (macros : Macros) where
  abbrev Answer : Type 0
  Answer = Result (List (Hidden P)) (Failure P)

  -- the footprint of a run that ends so has failed, or has not
  abbrev pub FailsWith : End P → Bool → Type 0
  FailsWith (over after) failed = failed ≡ false
  FailsWith (waits name rest) failed = Unit {0}
  FailsWith (fails failure) failed = failed ≡ true

  -- the footprint leaves what the run didn't take, and has looked up what the run did
  pub record Prints (f : Footprint) (source : List (Hidden P)) (end : End P) (u : Uses P) : Type 0 where
    pub left : f.left + length u.taken ≡ length source
    pub covers : Covers f.looked_up u.looked_up
    pub answers : FailsWith end f.fails

  -- ---- what is used first

  prints-first : (t : Hidden P) (front source : List (Hidden P)) (uses : List Use) {end : End P} {u : Uses P} → Prints (footprint_from (length source) uses) source end u
      → Prints (footprint_from (length source) (used.stands (suc (length (front ++ source))) ∷ used.looks_up (looked_up_at t) ∷ uses)) source end (then_uses (using [] (looked_up_at t)) u)
  prints-first t front source uses {end} {u} p =
      subst (λ f. Prints f source end (then_uses (using [] (looked_up_at t)) u)) (sym (past-first (length source) (length (front ++ source)) (looked_up_at t) uses (omega (arith, length-append front source))))
      (record { left = p.left; covers = covers-after (looked_up_at t) p.covers; answers = p.answers })

  left-behind : {source after left rest taken : List (Hidden P)} → Leaves source after left rest taken → lower_of (length after) (length source) ≡ length rest
  left-behind {source} {after} {left} {rest} {taken} leaves =
      let one = ap length (leaves-source leaves) ∙ length-append taken rest in
      let two = ap length (leaves-split leaves) ∙ length-append left rest in
      let low = lower-min (length after) (length source) in
      elim (leaves-one leaves) [ inl empty ↦ omega (arith, one, two, low, ap length empty) | inr empty ↦ omega (arith, one, two, low, ap length empty) ]

  prints-taken : {source after left rest taken : List (Hidden P)} → Leaves source after left rest taken → (uses : List Use) {end : End P} {u : Uses P} → Prints (footprint_from (length rest) uses) rest end u
      → Prints (footprint_from (length source) (used.takes (length after) ∷ uses)) source end (then_uses (using taken []) u)
  prints-taken {source} {after} {left} {rest} {taken} leaves uses {end} {u} p =
      subst (λ n. Prints (footprint_from n uses) source end (then_uses (using taken []) u)) (sym (left-behind leaves))
      (record { left = omega (arith, p.left, length-append taken u.taken, ap length (leaves-source leaves), length-append taken rest); covers = p.covers; answers = p.answers })

  prints-each : {asks : List (ℕ × List (Hidden P))} {lists : List (List (Hidden P))} {rs : Result (List (List (Hidden P))) (Failure P)} (each : Each provenance macros asks lists rs) (rest : List (Hidden P)) (uses : List Use) {end : End P} {u : Uses P}
      → Prints (footprint_from (length rest) uses) rest end u → Prints (footprint_from (length rest) ((trace_each each).uses ++ uses)) rest end (then_uses (using [] (trace_each each).looked_up) u)
  prints-each each rest uses {end} {u} p =
      subst (λ f. Prints f rest end (then_uses (using [] (trace_each each).looked_up) u)) (sym (past-each (length rest) uses each))
      (record { left = p.left; covers = covers-after (trace_each each).looked_up p.covers; answers = p.answers })

  prints-nothing : (source : List (Hidden P)) (end : End P) (failed : Bool) → FailsWith end failed → Prints (record { left = length source; looked_up = []; fails = failed }) source end no_uses
  prints-nothing source end failed answers = record { left = omega arith; covers = covers-same refl; answers = answers }

  -- ---- a list expands, with such a footprint

  pub record RunPrint (ts source : List (Hidden P)) (end : End P) (u : Uses P) : Type 0 where
    pub answer : Answer
    pub expands : Expands provenance macros ts answer
    pub prints : Prints (footprint_from (length source) (trace expands).uses) source end u

  record RescanPrint (made : Answer) (rest source : List (Hidden P)) (end : End P) (u : Uses P) : Type 0 where
    answer : Answer
    rescans : Rescans provenance macros made rest answer
    prints : Prints (footprint_from (length source) (trace_rescan rescans).uses) source end u

  print-as : {ts source : List (Hidden P)} {end : End P} {u v : Uses P} → u ≡ v → RunPrint ts source end u → RunPrint ts source end v
  print-as {ts} {source} {end} same p = subst (RunPrint ts source end) same p

  rescan-on : {body rest source : List (Hidden P)} {end : End P} {u : Uses P} (made : Answer) → made ≡ Ok body → RunPrint (body ++ rest) source end u → RescanPrint made rest source end u
  rescan-on {rest = rest} {source} {end} {u} made is p = subst (λ m. RescanPrint m rest source end u) (sym is) (record { answer = p.answer; rescans = on p.expands; prints = p.prints })

  rescan-fails : (rest source : List (Hidden P)) (made : Answer) (failure : Failure P) → made ≡ Err failure → RescanPrint made rest source (fails failure) no_uses
  rescan-fails rest source made failure is =
      subst (λ m. RescanPrint m rest source (fails failure) no_uses) (sym is) (record { answer = Err failure; rescans = refused failure; prints = prints-nothing source (fails failure) true refl })

  print-object : (t : Hidden P) (front source : List (Hidden P)) (d : Definition) {end : End P} {u : Uses P} → case_of macros t (front ++ source) ≡ replaced d → RescanPrint (object_result provenance d t) (front ++ source) source end u
      → RunPrint (t ∷ front ++ source) source end (then_uses (using [] (looked_up_at t)) u)
  print-object t front source d is g = record { answer = g.answer; expands = expansion.object d is g.rescans; prints = prints-first t front source (trace_rescan g.rescans).uses g.prints }

  print-call : (t : Hidden P) (front source : List (Hidden P)) (d : Definition) (arguments : List (List (Hidden P))) (close : Hidden P) (after left rest taken : List (Hidden P)) (results : Result (List (List (Hidden P))) (Failure P)) {end : End P} {u : Uses P}
      → case_of macros t (front ++ source) ≡ called d arguments close after → Leaves source after left rest taken → (each : Each provenance macros (asked provenance d t arguments) (map (λ a. []) arguments) results)
      → RescanPrint (call_result provenance d t arguments close results) after rest end u → RunPrint (t ∷ front ++ source) source end (then_uses (using taken (looked_up_at t ++ (trace_each each).looked_up)) u)
  print-call t front source d arguments close after left rest taken results {end} {u} is leaves each g =
      print-as (ap (using (taken ++ u.taken)) (sym (append_assoc (looked_up_at t) (trace_each each).looked_up u.looked_up)))
      (record {
        answer = g.answer;
        expands = expansion.call d arguments close after results is each g.rescans;
        prints = prints-first t front source (used.takes (length after) ∷ ((trace_each each).uses ++ (trace_rescan g.rescans).uses))
            (prints-taken leaves ((trace_each each).uses ++ (trace_rescan g.rescans).uses) (prints-each each rest (trace_rescan g.rescans).uses g.prints));
      })

  print-alone : (t : Hidden P) (front source : List (Hidden P)) → is_last_name macros t (front ++ source) ≡ true → RunPrint (t ∷ front ++ source) source (waits t (front ++ source)) (using [] (looked_up_at t))
  print-alone t (x ∷ xs) source is = absurd (cc)
  print-alone t [] (x ∷ xs) is = absurd (cc)
  print-alone t [] [] is = print-as (ap (using []) (append-nil (looked_up_at t))) (record {
    answer = _;
    expands = expansion.stay (last-stays macros t [] is) expansion.empty;
    prints = prints-first t [] [] [] (prints-nothing [] (waits t []) false tt);
  })

  module _ (names : List (List ℕ)) (within : IsWithin names macros) where
    -- what is left is looked at first
    print-end : (source : List (Hidden P)) (r : Answer) (d : Expands provenance macros source r) → footprint_from (length source) (trace d).uses ≡ record { left = length source; looked_up = []; fails = false }
    print-end [] r expansion.empty = refl
    print-end (t ∷ rest) r (expansion.stay is d) = at-first (suc (length rest)) (used.looks_up (looked_up_at t) ∷ (trace d).uses)
    print-end (t ∷ rest) r (expansion.object d is more) = at-first (suc (length rest)) (used.looks_up (looked_up_at t) ∷ (trace_rescan more).uses)
    print-end (t ∷ rest) r (expansion.unterminated is) = at-first (suc (length rest)) (used.looks_up (looked_up_at t) ∷ used.fails ∷ [])
    print-end (t ∷ rest) r (expansion.miscounted after is) = at-first (suc (length rest)) (used.looks_up (looked_up_at t) ∷ used.takes (length after) ∷ used.fails ∷ [])
    print-end (t ∷ rest) r (expansion.call d arguments close after results is each more) =
        at-first (suc (length rest)) (used.looks_up (looked_up_at t) ∷ used.takes (length after) ∷ ((trace_each each).uses ++ (trace_rescan more).uses))

    pub run-prints : {front source done : List (Hidden P)} {end : End P} {u : Uses P} → Runs provenance macros front source done end u → RunPrint (front ++ source) source end u
    run-prints (run.used_up {source}) =
        let h = halts provenance macros names within source in
        record { answer = h.0; expands = h.1; prints = subst (λ f. Prints f source (over source) no_uses) (sym (print-end source h.0 h.1)) (prints-nothing source (over source) false refl) }
    run-prints (run.stay {t} {front} {source} is free r) =
        let p = run-prints r in
        record { answer = _; expands = expansion.stay is p.expands; prints = prints-first t front source (trace p.expands).uses p.prints }
    run-prints (run.alone {t} {front} {source} is) = print-alone t front source is
    run-prints (run.open_call {t} {front} {source} is) = print-as (ap (using []) (append-nil (looked_up_at t))) (record {
      answer = _;
      expands = expansion.unterminated is;
      prints = prints-first t front source (used.fails ∷ []) (prints-nothing source (waits t (front ++ source)) true tt);
    })
    run-prints (run.object {t} {front} {source} {end = end} {u} d body is made r) =
        print-object t front source d is (rescan-on (object_result provenance d t) made (subst (λ l. RunPrint l source end u) (append_assoc body front source) (run-prints r)))
    run-prints (run.call {t} {front} {source} {end = end} {u} d arguments close after left rest taken body results is leaves each made r) =
        print-call t front source d arguments close after left rest taken results is leaves each
        (rescan-on (call_result provenance d t arguments close results) made (subst (λ l. RunPrint l rest end u) (append_assoc body left rest ∙ ap (λ l. body ++ l) (sym (leaves-split leaves))) (run-prints r)))
    run-prints (run.bad_object {t} {front} {source} d failure is made) =
        print-as (ap (using []) (append-nil (looked_up_at t))) (print-object t front source d is (rescan-fails (front ++ source) source (object_result provenance d t) failure made))
    run-prints (run.bad_count {t} {front} {source} after left rest taken is leaves) = print-as (λ i. using (append-nil taken i) (append-nil (looked_up_at t) i)) (record {
      answer = _;
      expands = expansion.miscounted after is;
      prints = prints-first t front source (used.takes (length after) ∷ used.fails ∷ []) (prints-taken leaves (used.fails ∷ []) (prints-nothing rest (fails _) true refl));
    })
    run-prints (run.bad_call {t} {front} {source} d arguments close after left rest taken results failure is leaves each made) =
        print-as (λ i. using (append-nil taken i) (append-nil (looked_up_at t ++ (trace_each each).looked_up) i))
        (print-call t front source d arguments close after left rest taken results is leaves each (rescan-fails after rest (call_result provenance d t arguments close results) failure made))

    -- what is left behind names that were passed
    pub passes-arrives : {ts done left : List (Hidden P)} → Passes provenance macros ts done left → Arrives provenance macros ts left
    passes-arrives run.begins = arriving.begins
    passes-arrives {ts} (run.goes_on {after = after} {rest} {t} u p r) =
        let x = run-prints r in
        let took = over-source provenance macros r in
        let took_all : (footprint x.expands).left + length u.taken ≡ length rest = x.prints.left in
        let count : length rest - (footprint x.expands).left ≡ length u.taken = omega (arith, took_all) in
        subst (Arrives provenance macros ts) (ap (λ n. drop n rest) count ∙ (ap (drop (length u.taken)) took ∙ drop_at u.taken after (length u.taken) refl))
        (arriving.goes_on (passes-arrives p) x.expands x.prints.answers)
