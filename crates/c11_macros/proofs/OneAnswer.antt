-- A list has one expansion, by one trace.
use Rattle.std.proofs.Common.{◌≡◌, ℕ, List, [], ◌∷◌, ◌++◌, map, length, slice_set, Result, Ok, Err, refl, sym, ap, subst}
use Rattle.c11_macros.specs.Expansion.{Case, stays, replaced, unclosed, misfit, called, case_of, asked, object_result, call_result, with_first, Expands, empty, stay, object, unterminated, miscounted, call, Each, none, next, stops, Rescans, on, refused}
use Rattle.c11_macros.specs.Footprint.{footprint, footprint_from}
use Rattle.c11_macros.specs.Hidden.{Hidden, Provenance, Failure, failure_at}
use Rattle.c11_macros.specs.Macros.{Macros, Definition}
use Rattle.c11_macros.specs.Trace.{Trace, no_trace, failing, after_step, both, taking, taking_call, trace, trace_each, trace_rescan, Same}
use Rattle.sc_model.specs.declared.cause.Cause.TheVariants.{UnterminatedCall, WrongArguments}

module _ {P : Type 0} (provenance : Provenance P) (macros : Macros) where
  abbrev Answer : Type 0
  Answer = Result (List (Hidden P)) (Failure P)

  abbrev Lists : Type 0
  Lists = Result (List (List (Hidden P))) (Failure P)

  -- each expansion of the list has this answer and this trace
  abbrev pub Only : List (Hidden P) → Answer → Trace → Type 0
  Only ts r x = (s : Answer) (e : Expands provenance macros ts s) → Same r s x (trace e)

  abbrev pub OnlyEach : List (ℕ × List (Hidden P)) → List (List (Hidden P)) → Lists → Trace → Type 0
  OnlyEach asks lists r x = (s : Lists) (e : Each provenance macros asks lists s) → Same r s x (trace_each e)

  abbrev pub OnlyRescan : Answer → List (Hidden P) → Answer → Trace → Type 0
  OnlyRescan made rest r x = (s : Answer) (e : Rescans provenance macros made rest s) → Same r s x (trace_rescan e)

-- an expansion of a list that is not empty, by the case of its first token
data Did {P : Type 0} (provenance : Provenance P) (macros : Macros) (t : Hidden P) (rest : List (Hidden P)) : Case P → Result (List (Hidden P)) (Failure P) → Trace → Type 0 where
  did_stay : (r : Result (List (Hidden P)) (Failure P)) (d : Expands provenance macros rest r) → Did provenance macros t rest stays (with_first t r) (both (taking t rest) (trace d))
  did_object : (r : Result (List (Hidden P)) (Failure P)) (d : Definition) (g : Rescans provenance macros (object_result provenance d t) rest r)
      → Did provenance macros t rest (replaced d) r (both (taking t rest) (trace_rescan g))
  did_unterminated : Did provenance macros t rest unclosed (Err (failure_at UnterminatedCall t)) (both (taking t rest) failing)
  did_miscounted : {after : List (Hidden P)} → Did provenance macros t rest (misfit after) (Err (failure_at WrongArguments t)) (both (taking t rest) (both (taking_call after) failing))
  did_call : (r : Result (List (Hidden P)) (Failure P)) (d : Definition) (arguments : List (List (Hidden P))) (close : Hidden P) (after : List (Hidden P)) (results : Result (List (List (Hidden P))) (Failure P))
      (each : Each provenance macros (asked provenance d t arguments) (map (λ a. []) arguments) results) (g : Rescans provenance macros (call_result provenance d t arguments close results) after r)
      → Did provenance macros t rest (called d arguments close after) r (both (both (taking t rest) (taking_call after)) (both (trace_each each) (trace_rescan g)))

module _ {P : Type 0} {provenance : Provenance P} {macros : Macros} where
  did : {t : Hidden P} {rest : List (Hidden P)} {s : Result (List (Hidden P)) (Failure P)} (e : Expands provenance macros (t ∷ rest) s) → Did provenance macros t rest (case_of macros t rest) s (trace e)
  did {t} {rest} (stay {r = r} is d) = subst (λ c. Did provenance macros t rest c (with_first t r) (both (taking t rest) (trace d))) (sym is) (did_stay r d)
  did {t} {rest} (object {r = r} d is g) = subst (λ c. Did provenance macros t rest c r (both (taking t rest) (trace_rescan g))) (sym is) (did_object r d g)
  did {t} {rest} (unterminated is) = subst (λ c. Did provenance macros t rest c (Err (failure_at UnterminatedCall t)) (both (taking t rest) failing)) (sym is) did_unterminated
  did {t} {rest} (miscounted after is) = subst (λ c. Did provenance macros t rest c (Err (failure_at WrongArguments t)) (both (taking t rest) (both (taking_call after) failing))) (sym is) did_miscounted
  did {t} {rest} (call {r = r} d arguments close after results is each g) =
      subst (λ c. Did provenance macros t rest c r (both (both (taking t rest) (taking_call after)) (both (trace_each each) (trace_rescan g)))) (sym is) (did_call r d arguments close after results each g)

  only-empty : Only provenance macros [] (Ok []) no_trace
  only-empty s empty = record { answer = refl; trace = refl }

  stayed : (t : Hidden P) (rest : List (Hidden P)) (r s : Result (List (Hidden P)) (Failure P)) (x y : Trace) → Only provenance macros rest r x → Did provenance macros t rest stays s y → Same (with_first t r) s (both (taking t rest) x) y
  stayed t rest r s x y only (did_stay u d) = let o = only u d in record { answer = ap (with_first t) o.answer; trace = ap (both (taking t rest)) o.trace }

  replaced-by : (t : Hidden P) (rest : List (Hidden P)) (d : Definition) (r s : Result (List (Hidden P)) (Failure P)) (x y : Trace) → OnlyRescan provenance macros (object_result provenance d t) rest r x → Did provenance macros t rest (replaced d) s y → Same r s (both (taking t rest) x) y
  replaced-by t rest d r s x y only (did_object u e g) = let o = only u g in record { answer = o.answer; trace = ap (both (taking t rest)) o.trace }

  was-unclosed : (t : Hidden P) (rest : List (Hidden P)) (s : Result (List (Hidden P)) (Failure P)) (y : Trace) → Did provenance macros t rest unclosed s y → Same (Err (failure_at UnterminatedCall t)) s (both (taking t rest) failing) y
  was-unclosed t rest s y did_unterminated = record { answer = refl; trace = refl }

  was-misfit : (t : Hidden P) (rest after : List (Hidden P)) (s : Result (List (Hidden P)) (Failure P)) (y : Trace) → Did provenance macros t rest (misfit after) s y → Same (Err (failure_at WrongArguments t)) s (both (taking t rest) (both (taking_call after) failing)) y
  was-misfit t rest after s y did_miscounted = record { answer = refl; trace = refl }

  was-called : (t : Hidden P) (rest : List (Hidden P)) (d : Definition) (arguments : List (List (Hidden P))) (close : Hidden P) (after : List (Hidden P)) (results : Result (List (List (Hidden P))) (Failure P))
      (r s : Result (List (Hidden P)) (Failure P)) (x y z : Trace) → OnlyEach provenance macros (asked provenance d t arguments) (map (λ a. []) arguments) results x → OnlyRescan provenance macros (call_result provenance d t arguments close results) after r z
      → Did provenance macros t rest (called d arguments close after) s y → Same r s (both (both (taking t rest) (taking_call after)) (both x z)) y
  was-called t rest d arguments close after results r s x y z only-each only-rescan (did_call u e lists c more others each g) =
      let same = only-each others each in
      let o = subst (λ rs. OnlyRescan provenance macros (call_result provenance d t arguments close rs) after r z) same.answer only-rescan u g in
      record { answer = o.answer; trace = ap (λ (p : Trace × Trace). both (both (taking t rest) (taking_call after)) (both p.0 p.1)) (λ i. (same.trace i, o.trace i)) }

  only-next : {ask : ℕ × List (Hidden P)} {asks : List (ℕ × List (Hidden P))} {lists : List (List (Hidden P))} {r : Result (List (List (Hidden P))) (Failure P)} {x y : Trace} (list : List (Hidden P))
      → Only provenance macros ask.1 (Ok list) x → OnlyEach provenance macros asks (slice_set lists ask.0 list) r y → OnlyEach provenance macros (ask ∷ asks) lists r (both (after_step x) y)
  only-next {ask} {asks} {lists} {r} {y = y} list first others s (next other d e) =
      let o = first (Ok other) d in
      let same : list ≡ other = cc (o.answer) in
      let p = subst (λ l. OnlyEach provenance macros asks (slice_set lists ask.0 l) r y) same others s e in
      record { answer = p.answer; trace = λ i. both (after_step (o.trace i)) (p.trace i) }
  only-next list first others s (stops failure d) = absurd (cc ((first (Err failure) d).answer))

  only-stop : {ask : ℕ × List (Hidden P)} {asks : List (ℕ × List (Hidden P))} {lists : List (List (Hidden P))} {x : Trace} (failure : Failure P)
      → Only provenance macros ask.1 (Err failure) x → OnlyEach provenance macros (ask ∷ asks) lists (Err failure) (after_step x)
  only-stop failure only s (next list d e) = absurd (cc ((only (Ok list) d).answer))
  only-stop failure only s (stops other d) =
      let o = only (Err other) d in
      let same : failure ≡ other = cc (o.answer) in
      record { answer = ap Err same; trace = ap after_step o.trace }

  only-none : {lists : List (List (Hidden P))} → OnlyEach provenance macros [] lists (Ok lists) no_trace
  only-none ss none = record { answer = refl; trace = refl }

  only-rescan : {body rest : List (Hidden P)} {r : Result (List (Hidden P)) (Failure P)} {x : Trace} → Only provenance macros (body ++ rest) r x → OnlyRescan provenance macros (Ok body) rest r x
  only-rescan only s (on d) = only s d

  only-refused : {rest : List (Hidden P)} (failure : Failure P) → OnlyRescan provenance macros (Err failure) rest (Err failure) failing
  only-refused failure s (refused f) = record { answer = refl; trace = refl }

  mutual
    pub one : {ts : List (Hidden P)} {r : Result (List (Hidden P)) (Failure P)} (d : Expands provenance macros ts r) → Only provenance macros ts r (trace d)
    one empty = only-empty
    one (stay {t} {rest} {r} is d) = λ s e. stayed t rest r s (trace d) (trace e) (one d) (subst (λ c. Did provenance macros t rest c s (trace e)) is (did e))
    one (object {t} {rest} {r} d is g) = λ s e. replaced-by t rest d r s (trace_rescan g) (trace e) (one-rescan g) (subst (λ c. Did provenance macros t rest c s (trace e)) is (did e))
    one (unterminated {t} {rest} is) = λ s e. was-unclosed t rest s (trace e) (subst (λ c. Did provenance macros t rest c s (trace e)) is (did e))
    one (miscounted {t} {rest} after is) = λ s e. was-misfit t rest after s (trace e) (subst (λ c. Did provenance macros t rest c s (trace e)) is (did e))
    one (call {t} {rest} {r} d arguments close after results is each g) =
        λ s e. was-called t rest d arguments close after results r s (trace_each each) (trace e) (trace_rescan g) (one-each each) (one-rescan g) (subst (λ c. Did provenance macros t rest c s (trace e)) is (did e))

    pub one-each : {asks : List (ℕ × List (Hidden P))} {lists : List (List (Hidden P))} {r : Result (List (List (Hidden P))) (Failure P)} (e : Each provenance macros asks lists r) → OnlyEach provenance macros asks lists r (trace_each e)
    one-each none = only-none
    one-each (next list d e) = only-next list (one d) (one-each e)
    one-each (stops failure d) = only-stop failure (one d)

    one-rescan : {made : Result (List (Hidden P)) (Failure P)} {rest : List (Hidden P)} {r : Result (List (Hidden P)) (Failure P)} (g : Rescans provenance macros made rest r) → OnlyRescan provenance macros made rest r (trace_rescan g)
    one-rescan (on d) = only-rescan (one d)
    one-rescan (refused failure) = only-refused failure

  -- two expansions of a list have the same footprint of its first token
  pub one_footprint : {t : Hidden P} {rest : List (Hidden P)} {r s : Result (List (Hidden P)) (Failure P)} (d : Expands provenance macros (t ∷ rest) r) (e : Expands provenance macros (t ∷ rest) s) → footprint d ≡ footprint e
  one_footprint {rest} {s} d e = ap (λ (x : Trace). footprint_from (length rest) x.uses) (one d s e).trace
