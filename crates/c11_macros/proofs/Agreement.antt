-- Tables that define the names alike that an expansion looked up give it the same answer, by the
-- same trace.
use Rattle.std.proofs.Common.{◌≡◌, ℕ, Bool, true, false, List, [], ◌∷◌, ◌++◌, Result, refl, sym, ap, ◌∙◌, if◌then◌else◌}
use Rattle.c11_macros.specs.Expansion.{is_looked_up, looked_up_case, defined_case, case_of, Expands, empty, stay, object, unterminated, miscounted, call, Each, none, next, stops, Rescans, on, refused}
use Rattle.c11_macros.specs.Hidden.{Hidden, Provenance, Failure}
use Rattle.c11_macros.specs.Macros.{Macros}
use Rattle.c11_macros.specs.Trace.{Trace, after_step, both, failing, looked_up_at, taking, taking_call, trace, trace_each, trace_rescan, Agree, ExpandsBy}

pub agree-front : (one two : Macros) (xs ys : List (List ℕ)) → Agree one two (xs ++ ys) → Agree one two xs
agree-front one two [] ys agree = tt
agree-front one two (x ∷ xs) ys agree = (agree.0, agree-front one two xs ys agree.1)

pub agree-back : (one two : Macros) (xs ys : List (List ℕ)) → Agree one two (xs ++ ys) → Agree one two ys
agree-back one two [] ys agree = agree
agree-back one two (x ∷ xs) ys agree = agree-back one two xs ys agree.1

case-by : {P : Type 0} (one two : Macros) (looked : Bool) (name : List ℕ) (rest : List (Hidden P)) → Agree one two (if looked then name ∷ [] else []) → looked_up_case {P = P} one looked name rest ≡ looked_up_case two looked name rest
case-by one two true name rest agree = ap (λ d. defined_case d rest) agree.0
case-by one two false name rest agree = refl

pub case-agrees : {P : Type 0} (one two : Macros) (t : Hidden P) (rest : List (Hidden P)) → Agree one two (looked_up_at t) → case_of one t rest ≡ case_of two t rest
case-agrees one two t rest agree = case-by one two (is_looked_up t) t.spelling rest agree

pub record EachBy {P : Type 0} (provenance : Provenance P) (macros : Macros) (asks : List (ℕ × List (Hidden P))) (lists : List (List (Hidden P))) (r : Result (List (List (Hidden P))) (Failure P)) (x : Trace) : Type 0 where
  pub each : Each provenance macros asks lists r
  pub by : trace_each each ≡ x

pub record RescansBy {P : Type 0} (provenance : Provenance P) (macros : Macros) (made : Result (List (Hidden P)) (Failure P)) (rest : List (Hidden P)) (r : Result (List (Hidden P)) (Failure P)) (x : Trace) : Type 0 where
  pub goes : Rescans provenance macros made rest r
  pub by : trace_rescan goes ≡ x

-- what is known of the names of a whole is known of those of its parts
head-of : (one two : Macros) (x y : Trace) → Agree one two (both x y).looked_up → Agree one two x.looked_up
head-of one two x y agree = agree-front one two x.looked_up y.looked_up agree

tail-of : (one two : Macros) (x y : Trace) → Agree one two (both x y).looked_up → Agree one two y.looked_up
tail-of one two x y agree = agree-back one two x.looked_up y.looked_up agree

both-same : {x y u v : Trace} → x ≡ u → y ≡ v → both x y ≡ both u v
both-same p q = λ i. both (p i) (q i)

module _ {P : Type 0} {provenance : Provenance P} (one two : Macros) where
  mutual
    pub agrees : {ts : List (Hidden P)} {r : Result (List (Hidden P)) (Failure P)} (d : Expands provenance one ts r) → Agree one two (trace d).looked_up → ExpandsBy provenance two ts r (trace d)
    agrees empty agree = record { expands = empty; by = refl }
    agrees (stay {t} {rest} is d) agree =
        let more = agrees d (tail-of one two (taking t rest) (trace d) agree) in
        record { expands = stay (sym (case-agrees one two t rest (head-of one two (taking t rest) (trace d) agree)) ∙ is) more.expands; by = ap (both (taking t rest)) more.by }
    agrees (object {t} {rest} d is g) agree =
        let more = agrees-rescan g (tail-of one two (taking t rest) (trace_rescan g) agree) in
        record { expands = object d (sym (case-agrees one two t rest (head-of one two (taking t rest) (trace_rescan g) agree)) ∙ is) more.goes; by = ap (both (taking t rest)) more.by }
    agrees (unterminated {t} {rest} is) agree = record { expands = unterminated (sym (case-agrees one two t rest (head-of one two (taking t rest) failing agree)) ∙ is); by = refl }
    agrees (miscounted {t} {rest} after is) agree = record { expands = miscounted after (sym (case-agrees one two t rest (head-of one two (taking t rest) (both (taking_call after) failing) agree)) ∙ is); by = refl }
    agrees (call {t} {rest} d arguments close after results is each g) agree =
        let front = both (taking t rest) (taking_call after) in
        let back = both (trace_each each) (trace_rescan g) in
        let head = head-of one two (taking t rest) (taking_call after) (head-of one two front back agree) in
        let args = agrees-each each (head-of one two (trace_each each) (trace_rescan g) (tail-of one two front back agree)) in
        let more = agrees-rescan g (tail-of one two (trace_each each) (trace_rescan g) (tail-of one two front back agree)) in
        record {
          expands = call d arguments close after results (sym (case-agrees one two t rest head) ∙ is) args.each more.goes;
          by = ap (both front) (both-same args.by more.by);
        }

    pub agrees-each : {asks : List (ℕ × List (Hidden P))} {lists : List (List (Hidden P))} {r : Result (List (List (Hidden P))) (Failure P)} (e : Each provenance one asks lists r) → Agree one two (trace_each e).looked_up
        → EachBy provenance two asks lists r (trace_each e)
    agrees-each none agree = record { each = none; by = refl }
    agrees-each (next list d e) agree =
        let first = agrees d (head-of one two (after_step (trace d)) (trace_each e) agree) in
        let more = agrees-each e (tail-of one two (after_step (trace d)) (trace_each e) agree) in
        record { each = next list first.expands more.each; by = both-same (ap after_step first.by) more.by }
    agrees-each (stops failure d) agree = let first = agrees d agree in record { each = stops failure first.expands; by = ap after_step first.by }

    agrees-rescan : {made : Result (List (Hidden P)) (Failure P)} {rest : List (Hidden P)} {r : Result (List (Hidden P)) (Failure P)} (g : Rescans provenance one made rest r) → Agree one two (trace_rescan g).looked_up → RescansBy provenance two made rest r (trace_rescan g)
    agrees-rescan (on d) agree = let more = agrees d agree in record { goes = on more.expands; by = more.by }
    agrees-rescan (refused failure) agree = record { goes = refused failure; by = refl }
