-- What the state behind a step comes to, the state before it comes to as well, in more steps.
use Rattle.std.proofs.Common.{◌≡◌, ℕ, ◌*◌, ◌<◌, true, List, [], ◌∷◌, ◌++◌, append_assoc, append-nil, map, is_ok, Result, Ok, Err, refl, sym, ap, ◌∙◌, subst, arith, if◌then◌else◌}
use Rattle.c11_macros.specs.Expansion as expansion
use Rattle.sc_expand.proofs.PlainArguments.{replaced_with, supplied}
use Rattle.sc_expand.proofs.PlainCompletes.{Completes, asks, looked, refuses, replaces, resumes, scanned, scans, steps, Covers, covers-back, covers-both, covers-front, covers-same, covers-then}
use Rattle.sc_expand.proofs.Terms.{Definition, Each, Expands, Fails, Failure, HiddenToken as Hidden, IsTemplate, Macros, Moves, Provenance, Rescans, Slot, State, Trace, UnterminatedCall, Waiting, WrongArguments, after_these, argument, asked, call_result, called, case_of, expanding, failure_at, gathered, list_of, list_slots, looked_up_at, meet, no_trace, none, object_result, on, put_together, refused, replacement_of, result_and_then, scanning, trace, trace_each, trace_rescan, waiting, wanted_of, with_expanded, with_first, with_name}
use Rattle.sc_expand.specs.Plain as plain

after-stay : {P : Type 0} (out : List (Hidden P)) (t : Hidden P) (r : Result (List (Hidden P)) (Failure P)) → after_these out (with_first t r) ≡ after_these (out ++ t ∷ []) r
after-stay out t (Ok list) = ap Ok (sym (append_assoc out (t ∷ []) list))
after-stay out t (Err failure) = refl

-- the state completes so, in more steps than this, and looks up these names
pub record Earlier {P : Type 0} (provenance : Provenance P) (macros : Macros) (s : State P) (r : Result (List (Hidden P)) (Failure P)) (count : ℕ) (names : List (List ℕ)) : Type 0 where
  pub completes : Completes provenance macros s r
  pub longer : count < steps completes
  pub covers : Covers (looked completes) names

module _ {P : Type 0} (provenance : Provenance P) (macros : Macros) where
  abbrev Answer : Type 0
  Answer = Result (List (Hidden P)) (Failure P)

  -- a replacement that is equal is scanned again as well, by the same trace
  rescans-as : (made other : Answer) (rest : List (Hidden P)) (r : Answer) → made ≡ other → (g : Rescans provenance macros other rest r)
      → (h : Rescans provenance macros made rest r) × (trace_rescan h ≡ trace_rescan g)
  rescans-as made other rest r same g = subst (λ m. (h : Rescans provenance macros m rest r) × (trace_rescan h ≡ trace_rescan g)) (sym same) (g, refl)

  -- a list's expansion, as a completion with another answer
  earlier-by : (out work : List (Hidden P)) (r q : Answer) (count : ℕ) (names : List (List ℕ)) → after_these out r ≡ q → (d : Expands provenance macros work r) → count < 2 * (trace d).steps → Covers (trace d).looked_up names
      → Earlier provenance macros (scanning out work) q count names
  earlier-by out work r q count names is d less covers = subst (λ a. Earlier provenance macros (scanning out work) a count names) is (record { completes = scans out work r d; longer = less; covers = covers })

  stay-back : (out rest : List (Hidden P)) (t : Hidden P) (r : Answer) → case_of macros t rest ≡ expansion.stays → (c : Completes provenance macros (scanning (out ++ t ∷ []) rest) r) → Earlier provenance macros (scanning out (t ∷ rest)) r (steps c) (looked c)
  stay-back out rest t r is c =
      let s = scanned c in
      earlier-by out (t ∷ rest) (with_first t s.answer) r (steps c) (looked c) (after-stay out t s.answer ∙ sym s.is) (expansion.stay is s.expands) (omega (arith, s.counted)) (covers-then (covers-back (looked_up_at t) (trace s.expands).looked_up) (covers-same (sym s.named)))

  object-back : (out rest body : List (Hidden P)) (t : Hidden P) (d : Definition) (r : Answer) → case_of macros t rest ≡ expansion.replaced d → object_result provenance d t ≡ Ok body
      → (c : Completes provenance macros (scanning out (body ++ rest)) r) → Earlier provenance macros (scanning out (t ∷ rest)) r (steps c) (looked c)
  object-back out rest body t d r is made c =
      let s = scanned c in
      let g = rescans-as (object_result provenance d t) (Ok body) rest s.answer made (on s.expands) in
      earlier-by out (t ∷ rest) s.answer r (steps c) (looked c) (sym s.is) (expansion.object d is g.0) (omega (arith, s.counted, ap (λ x. x.steps) g.1))
      (covers-then (covers-back (looked_up_at t) (trace_rescan g.0).looked_up) (covers-same (ap (λ x. x.looked_up) g.1 ∙ sym s.named)))

  replace-back : (out work body : List (Hidden P)) (w : Waiting P) (r : Answer) → w.wanted ≡ [] → replacement_of provenance w ≡ Ok body → (c : Completes provenance macros (scanning out (body ++ work)) r)
      → Earlier provenance macros (waiting out work w) r (steps c) (looked c)
  replace-back out work body w r all made c =
      let s = scanned c in
      let g = rescans-as (replacement_of provenance w) (Ok body) work s.answer made (on s.expands) in
      subst (λ a. Earlier provenance macros (waiting out work w) a (steps c) (looked c)) (sym s.is)
      (record {
        completes = replaces out work w s.answer all g.0;
        longer = omega (arith, s.counted, ap (λ x. x.steps) g.1);
        covers = covers-same (ap (λ x. x.looked_up) g.1 ∙ sym s.named);
      })

  leave-back : (out work list : List (Hidden P)) (w : Waiting P) (n : ℕ) (r : Answer) (c : Completes provenance macros (waiting out work (with_expanded w n list)) r)
      → Earlier provenance macros (expanding out work w n (scanning list [])) r (steps c) (looked c)
  leave-back out work list w n r c =
      let inner = subst (λ l. Completes provenance macros (scanning list []) (Ok l)) (append-nil list) (scans list [] (Ok []) expansion.empty) in
      record {
        completes = resumes out work w n (scanning list []) list r inner c;
        longer = omega arith;
        covers = covers-back (looked inner) (looked c);
      }

  -- the arguments that are asked for, where no # fails
  pub asked-each : (d : Definition) (t : Hidden P) (arguments : List (List (Hidden P))) (results : Result (List (List (Hidden P))) (Failure P)) → is_ok (list_slots t arguments d.form (list_of provenance d t)) ≡ true
      → (e : Each provenance macros (map (λ n. (n, argument arguments n)) (wanted_of d.form (list_of provenance d t))) (map (λ a. []) arguments) results)
      → (f : Each provenance macros (asked provenance d t arguments) (map (λ a. []) arguments) results) × (trace_each f ≡ trace_each e)
  asked-each d t arguments results is e =
      let all = map (λ n. (n, argument arguments n)) (wanted_of d.form (list_of provenance d t)) in
      let same : asked provenance d t arguments ≡ all = ap (λ b. if b then all else []) is in
      subst (λ l. (f : Each provenance macros l (map (λ a. []) arguments) results) × (trace_each f ≡ trace_each e)) (sym same) (e, refl)

  -- a call as its arguments expand
  gather-back : (out rest after : List (Hidden P)) (t close : Hidden P) (d : Definition) (arguments : List (List (Hidden P))) (template : Result (List (Slot P)) (Failure P)) (r : Answer)
      → case_of macros t rest ≡ called d arguments close after → IsTemplate provenance d t arguments template
      → (c : Completes provenance macros (waiting out after (gathered provenance d t arguments close template)) r) → Earlier provenance macros (scanning out (t ∷ rest)) r (steps c) (looked c)
  gather-back out rest after t close d arguments template r is stands c =
      let w = gathered provenance d t arguments close template in
      let s = supplied provenance macros out after w.wanted w r refl c in
      let e = asked-each d t arguments s.results stands.stringized s.each in
      let g = rescans-as (call_result provenance d t arguments close s.results) (replaced_with provenance macros w s.results) after s.answer (λ i. result_and_then (λ lists. stands.completes lists w.names i) s.results) s.rescans in
      let names = (trace_each e.0).looked_up ++ (trace_rescan g.0).looked_up in
      earlier-by out (t ∷ rest) s.answer r (steps c) (looked c) (sym s.is) (expansion.call d arguments close after s.results is e.0 g.0)
      (omega (arith, s.few, ap (λ (x : Trace). x.steps) e.1, ap (λ (x : Trace). x.steps) g.1))
      (covers-then (covers-back (looked_up_at t ++ []) names) (covers-same {xs = names} {ys = looked c} ((λ i. (e.1 i).looked_up ++ (g.1 i).looked_up) ∙ sym s.named)))

  pub move-back : (s t : State P) → Moves provenance macros s t → (r : Answer) (c : Completes provenance macros t r) → Earlier provenance macros s r (steps c) (looked c)
  move-back _ _ (plain.stay out rest t is) r c = stay-back out rest t r is c
  move-back _ _ (plain.object out rest body t d is made) r c = object-back out rest body t d r is made c
  move-back _ _ (plain.gather out rest after t close d arguments template is stands) r c = gather-back out rest after t close d arguments template r is stands c
  move-back _ _ (plain.enter out work list w n others is) r c = record { completes = asks out work w (n, list) others r is c; longer = omega arith; covers = covers-same refl }
  move-back _ _ (plain.leave out work list w n) r c = leave-back out work list w n r c
  move-back _ _ (plain.replace out work body w all made) r c = replace-back out work body w r all made c
  move-back _ _ (plain.inside out work w n {s} {t} m) r c = inside-back out work w n s t r (move-back s t m) c
    where
      inside-back : (out work : List (Hidden P)) (w : Waiting P) (n : ℕ) (s t : State P) (r : Answer) → ((q : Answer) (c : Completes provenance macros t q) → Earlier provenance macros s q (steps c) (looked c))
          → (c : Completes provenance macros (expanding out work w n t) r) → Earlier provenance macros (expanding out work w n s) r (steps c) (looked c)
      inside-back out work w n s t r back (resumes o k v m u list q c d) =
          let e = back (Ok list) c in
          record {
            completes = resumes out work w n s list r e.completes d;
            longer = omega (arith, e.longer);
            covers = covers-both (covers-then (covers-front (looked e.completes) (looked d)) e.covers) (covers-back (looked e.completes) (looked d));
          }
      inside-back out work w n s t r back (refuses o k v m u failure c) =
          let e = back (Err failure) c in
          record {
            completes = refuses out work w n s failure e.completes;
            longer = omega (arith, e.longer);
            covers = e.covers;
          }

  -- ---- failures

  -- no argument is asked for where a # fails
  pub none-asked : (d : Definition) (t : Hidden P) (arguments : List (List (Hidden P))) (failure : Failure P) → list_slots t arguments d.form (list_of provenance d t) ≡ Err failure
      → (e : Each provenance macros (asked provenance d t arguments) (map (λ a. []) arguments) (Ok (map (λ a. []) arguments))) × (trace_each e ≡ no_trace)
  none-asked d t arguments failure is =
      let same : asked provenance d t arguments ≡ [] = ap (λ made. if is_ok made then map (λ n. (n, argument arguments n)) (wanted_of d.form (list_of provenance d t)) else []) is in
      subst (λ l. (e : Each provenance macros l (map (λ a. []) arguments) (Ok (map (λ a. []) arguments))) × (trace_each e ≡ no_trace)) (sym same) (none, refl)

  -- the state comes to this failure
  pub fails-by : (s : State P) (failure : Failure P) → Fails provenance macros s failure → Completes provenance macros s (Err failure)
  fails-by _ _ (plain.bad_object out rest t d failure is made) =
      let g = rescans-as (object_result provenance d t) (Err failure) rest (Err failure) made (refused failure) in
      scans out (t ∷ rest) (Err failure) (expansion.object d is g.0)
  fails-by _ _ (plain.open_call out rest t is) = scans out (t ∷ rest) (Err (failure_at UnterminatedCall t)) (expansion.unterminated is)
  fails-by _ _ (plain.miscounted out rest after t is) = scans out (t ∷ rest) (Err (failure_at WrongArguments t)) (expansion.miscounted after is)
  fails-by _ _ (plain.bad_stringize out rest after t close d arguments failure is hash) =
      let lists = map (λ (a : List (Hidden P)). []) arguments in
      let made : call_result provenance d t arguments close (Ok lists) ≡ Err failure = ap (result_and_then (put_together provenance t arguments lists (with_name (meet t.hide close.hide) t.spelling))) hash in
      let g = rescans-as (call_result provenance d t arguments close (Ok lists)) (Err failure) after (Err failure) made (refused failure) in
      scans out (t ∷ rest) (Err failure) (expansion.call d arguments close after (Ok lists) is (none-asked d t arguments failure hash).0 g.0)
  fails-by _ _ (plain.bad_paste out work w failure all made) =
      let g = rescans-as (replacement_of provenance w) (Err failure) work (Err failure) made (refused failure) in
      replaces out work w (Err failure) all g.0
  fails-by _ _ (plain.inside_fails out work w n {s} {failure} inner) = refuses out work w n s failure (fails-by s failure inner)
