-- A list settles or is held, in one way.
use Rattle.std.proofs.Common.{◌≡◌, ◌⊎◌, inl, inr, ℕ, zero, suc, ◌+◌, ◌≤◌, List, [], ◌∷◌, ◌++◌, append_assoc, append-nil, length, length-append, Result, Ok, Err, refl, sym, ap, ◌∙◌, subst, arith}
use Rattle.c11_macros.proofs.Halting.{halts}
use Rattle.c11_macros.proofs.OneRun.{one-run}
use Rattle.c11_macros.proofs.Resuming.{leaves-source}
use Rattle.c11_macros.proofs.Settling.{First, none_passed, first_passed, passes-first}
use Rattle.c11_macros.proofs.Splitting.{split}
use Rattle.c11_macros.specs.Expansion.{IsWithin}
use Rattle.c11_macros.specs.Hidden.{Hidden, Provenance, Failure}
use Rattle.c11_macros.specs.Macros.{Macros}
use Rattle.c11_macros.specs.Runs.{Uses, End, over, waits, fails, Runs, used_up, stay, object, call, Passes, begins, goes_on, Settles, whole, open_end, IsHeld, held, SettlesTo}

module _ {P : Type 0} (provenance : Provenance P) (macros : Macros) where
  abbrev Settled : Type 0
  Settled = Result (List (Hidden P) × List (Hidden P)) (Failure P)

  -- ---- there is an answer

  -- a run that is over took what stood before what is left
  over-source : {front source done after : List (Hidden P)} {u : Uses P} → Runs provenance macros front source done (over after) u → source ≡ u.taken ++ after
  over-source used_up = refl
  over-source (stay is free run) = over-source run
  over-source (object d body is made run) = over-source run
  over-source {after = end} (call {u = u} d arguments close after left rest taken body results is leaves each made run) =
      leaves-source leaves ∙ (ap (λ l. taken ++ l) (over-source run) ∙ sym (append_assoc taken u.taken end))

  module _ (names : List (List ℕ)) (within : IsWithin names macros) (ts : List (Hidden P)) where
    onward : (n : ℕ) (left out : List (Hidden P)) → length left ≤ n → Passes provenance macros ts out left → (r : Settled) × SettlesTo provenance macros ts r
    onward n [] out short p = (Ok (out, []), whole p)
    onward zero (t ∷ rest) out short p = absurd (omega (arith, short))
    onward (suc n) (t ∷ rest) out short p =
        let s = split provenance macros (halts provenance macros names within (t ∷ rest)).1 (t ∷ []) rest refl in
        by s.end s.runs (onward n)
      where
        by : {done : List (Hidden P)} {u : Uses P} (end : End P) → Runs provenance macros (t ∷ []) rest done end u
            → ((left out : List (Hidden P)) → length left ≤ n → Passes provenance macros ts out left → (r : Settled) × SettlesTo provenance macros ts r) → (r : Settled) × SettlesTo provenance macros ts r
        by {done} {u} (over after) run go =
            let long = ap length (over-source run) ∙ length-append u.taken after in
            go after (out ++ done) (omega (arith, short, long)) (goes_on u p run)
        by {done} {u} (waits name behind) run go = (Ok (out ++ done, name ∷ behind), open_end u p run)
        by {u = u} (fails failure) run go = (Err failure, held u p run)

    pub some-settled : (r : Settled) × SettlesTo provenance macros ts r
    some-settled = onward (length ts) ts [] (omega arith) begins

  -- ---- and one

  -- names that were passed go on to where others were passed
  record GoesOn (out left done behind : List (Hidden P)) : Type 0 where
    more : List (Hidden P)
    passes : Passes provenance macros left more behind
    is : done ≡ out ++ more

  compare-first : {ts out done left end behind more rest : List (Hidden P)} {t : Hidden P} (u : Uses P) → Runs provenance macros (t ∷ []) rest done (over left) u → Passes provenance macros ts out (t ∷ rest)
      → end ≡ out ++ more → First provenance macros t rest more behind → GoesOn (out ++ done) left end behind ⊎ GoesOn end behind (out ++ done) left
  compare-first {out = out} {done} u run p is none_passed = inr (record { more = done; passes = goes_on u begins run; is = ap (λ l. l ++ done) (sym (append-nil out) ∙ sym is) })
  compare-first {out = out} {done} {left} {behind = behind} u run p is (first_passed {mid} {one} {two} v r next) =
      let same = one-run provenance macros run one (over mid) v r in
      let lefts : left ≡ mid = same-over left mid same.end in
      inl (record { more = two; passes = subst (λ l. Passes provenance macros l two behind) (sym lefts) next; is = is ∙ (ap (λ l. out ++ (l ++ two)) (sym same.done) ∙ sym (append_assoc out done two)) })
    where
      same-over : (x y : List (Hidden P)) → over x ≡ over y → x ≡ y
      same-over x y e = cc

  compare : {ts out left done behind : List (Hidden P)} → Passes provenance macros ts out left → Passes provenance macros ts done behind → GoesOn out left done behind ⊎ GoesOn done behind out left
  compare {done} begins q = inl (record { more = done; passes = q; is = refl })
  compare {left} {done = end} {behind} (goes_on {out} {done} {rest = rest} {t} u p run) q = by (compare p q)
    where
      by : GoesOn out (t ∷ rest) end behind ⊎ GoesOn end behind out (t ∷ rest) → GoesOn (out ++ done) left end behind ⊎ GoesOn end behind (out ++ done) left
      by (inl g) = compare-first u run p g.is (passes-first provenance macros g.passes)
      by (inr g) = inr (record { more = g.more ++ done; passes = goes_on u g.passes run; is = ap (λ l. l ++ done) g.is ∙ append_assoc end g.more done })

  -- what is left has no name that could be passed
  data Stops : (left done : List (Hidden P)) → End P → Type 0 where
    nothing_left : Stops [] [] (over [])
    name_waits : {t name : Hidden P} {rest done behind : List (Hidden P)} {u : Uses P} → Runs provenance macros (t ∷ []) rest done (waits name behind) u → Stops (t ∷ rest) done (waits name behind)
    name_fails : {t : Hidden P} {rest done : List (Hidden P)} {failure : Failure P} {u : Uses P} → Runs provenance macros (t ∷ []) rest done (fails failure) u → Stops (t ∷ rest) done (fails failure)

  record SameStop (one two : List (Hidden P)) (x y : End P) : Type 0 where
    done : one ≡ two
    end : x ≡ y

  passes-none : {done left : List (Hidden P)} → Passes provenance macros [] done left → (done ≡ []) × (left ≡ [])
  passes-none begins = (refl, refl)
  passes-none (goes_on u p run) = let none = passes-none p in absurd (cc (none.1))

  name-stops : {t : Hidden P} {rest done more left two : List (Hidden P)} {end last : End P} {u : Uses P} → Runs provenance macros (t ∷ []) rest done end u → ((after : List (Hidden P)) → end ≡ over after → ⊥)
      → First provenance macros t rest more left → Stops left two last → SameStop done (more ++ two) end last
  name-stops run differs none_passed (name_waits {name} {done = e} {behind} {u = v} r) = let s = one-run provenance macros run e (waits name behind) v r in record { done = s.done; end = s.end }
  name-stops run differs none_passed (name_fails {done = e} {failure} {u = v} r) = let s = one-run provenance macros run e (fails failure) v r in record { done = s.done; end = s.end }
  name-stops run differs (first_passed {mid} {one} v r p) stop = absurd (differs mid (one-run provenance macros run one (over mid) v r).end)

  stops-same : {left one more behind two : List (Hidden P)} {end last : End P} → Stops left one end → Passes provenance macros left more behind → Stops behind two last → SameStop one (more ++ two) end last
  stops-same nothing_left p stop = by (passes-none p) stop
    where
      by : {more behind two : List (Hidden P)} {last : End P} → (more ≡ []) × (behind ≡ []) → Stops behind two last → SameStop [] (more ++ two) (over []) last
      by none nothing_left = record { done = sym (append-nil _ ∙ none.0); end = refl }
      by none (name_waits r) = absurd (cc (none.1))
      by none (name_fails r) = absurd (cc (none.1))
  stops-same (name_waits run) p stop = name-stops run (λ after is. cc) (passes-first provenance macros p) stop
  stops-same (name_fails run) p stop = name-stops run (λ after is. cc) (passes-first provenance macros p) stop

  one-stop : {ts out left one done behind two : List (Hidden P)} {end last : End P} → Passes provenance macros ts out left → Stops left one end → Passes provenance macros ts done behind → Stops behind two last
      → SameStop (out ++ one) (done ++ two) end last
  one-stop {out} {left} {one} {done} {behind} {two} {end} {last} p x q y = by (compare p q)
    where
      by : GoesOn out left done behind ⊎ GoesOn done behind out left → SameStop (out ++ one) (done ++ two) end last
      by (inl g) = let s = stops-same x g.passes y in record { done = ap (λ l. out ++ l) s.done ∙ (sym (append_assoc out g.more two) ∙ ap (λ l. l ++ two) (sym g.is)); end = s.end }
      by (inr g) = let s = stops-same y g.passes x in record { done = ap (λ l. l ++ one) g.is ∙ (append_assoc done g.more one ∙ ap (λ l. done ++ l) (sym s.done)); end = sym s.end }

  abbrev settled_as : List (Hidden P) → End P → Settled
  settled_as done (over after) = Ok (done, [])
  settled_as done (waits name rest) = Ok (done, name ∷ rest)
  settled_as done (fails failure) = Err failure

  record Way (ts : List (Hidden P)) (r : Settled) : Type 0 where
    out : List (Hidden P)
    left : List (Hidden P)
    done : List (Hidden P)
    end : End P
    passes : Passes provenance macros ts out left
    stops : Stops left done end
    is : r ≡ settled_as (out ++ done) end

  settles-way : {ts done rest : List (Hidden P)} → Settles provenance macros ts done rest → Way ts (Ok (done, rest))
  settles-way (whole {done} p) = record { out = done; left = []; done = []; end = over []; passes = p; stops = nothing_left; is = ap (λ l. Ok (l, [])) (sym (append-nil done)) }
  settles-way (open_end {out} {done} {behind} {rest} {t} {name} u p run) = record { out = out; left = t ∷ behind; done = done; end = waits name rest; passes = p; stops = name_waits run; is = refl }

  held-way : {ts : List (Hidden P)} {failure : Failure P} → IsHeld provenance macros ts failure → Way ts (Err failure)
  held-way {failure = failure} (held {out} {done} {behind} {t} u p run) = record { out = out; left = t ∷ behind; done = done; end = fails failure; passes = p; stops = name_fails run; is = refl }

  way : {ts : List (Hidden P)} (r : Settled) → SettlesTo provenance macros ts r → Way ts r
  way (Ok settled) s = settles-way s
  way (Err failure) s = held-way s

  pub one-settled : (ts : List (Hidden P)) (r s : Settled) → SettlesTo provenance macros ts r → SettlesTo provenance macros ts s → r ≡ s
  one-settled ts r s x y =
      let a = way r x in
      let b = way s y in
      let same = one-stop a.passes a.stops b.passes b.stops in
      a.is ∙ ((λ i. settled_as (same.done i) (same.end i)) ∙ sym b.is)
