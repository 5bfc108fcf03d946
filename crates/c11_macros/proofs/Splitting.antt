-- The expansion of a list, as a run of what stands in front and the expansion of what it leaves.
use Rattle.std.proofs.Common.{◌≡◌, ℕ, zero, Bool, true, false, List, [], ◌∷◌, ◌++◌, append_assoc, length, codes, Option, Some, None, Result, Ok, Err, refl, sym, ap, ◌∙◌, subst, if◌then◌else◌, map}
use Rattle.c11_macros.proofs.LongerLists.{last-stays}
use Rattle.c11_macros.proofs.CallEnds.{EndsWith, called-ends, case-in, cons-some, misfit-ends}
use Rattle.c11_macros.proofs.RunExpands.{leaves-split, these-more, these-none}
use Rattle.c11_macros.specs.Call.{Call, arguments_for, call_of}
use Rattle.c11_macros.specs.Expansion.{Case, call_case, called, case_of, defined_case, fitted_case, form_case, is_looked_up, looked_up_case, misfit, replaced, stays, unclosed, asked, object_result, call_result, with_first, Expands, Each, Rescans, on, refused}
use Rattle.c11_macros.specs.Expansion as expansion
use Rattle.c11_macros.specs.Hidden.{Hidden, Provenance, Failure, failure_at}
use Rattle.c11_macros.specs.Macros.{Definition, Form, Macros, function_like, object_like}
use Rattle.c11_macros.specs.Resumed.{BeginsWithRun}
use Rattle.c11_macros.specs.Runs.{no_uses, then_uses, using, over, waits, fails, is_last_name, Leaves, within, beyond}
use Rattle.c11_macros.specs.Runs as run
use Rattle.c11_macros.specs.Trace.{looked_up_at, trace_each}
use Rattle.sc_model.specs.Bytes.{same_bytes}
use Rattle.sc_model.specs.declared.cause.Cause.TheVariants.{UnterminatedCall, WrongArguments}

module _ {P : Type 0} where
  -- the end of two lists together lies in the second, or begins in the first
  record SomeLeaves (source after : List (Hidden P)) : Type 0 where
    left : List (Hidden P)
    rest : List (Hidden P)
    taken : List (Hidden P)
    leaves : Leaves source after left rest taken

  divide : (before after front source : List (Hidden P)) → before ++ after ≡ front ++ source → SomeLeaves source after
  divide [] after front source is = record { left = front; rest = source; taken = []; leaves = within is }
  divide (x ∷ xs) after [] source is = record { left = []; rest = after; taken = x ∷ xs; leaves = beyond (sym is) (cons-some x xs) }
  divide (x ∷ xs) after (y ∷ ys) source is = let tail : xs ++ after ≡ ys ++ source = cc in divide xs after ys source tail

-- ---- the run

module _ {P : Type 0} (provenance : Provenance P) (macros : Macros) where
  abbrev Answer : Type 0
  Answer = Result (List (Hidden P)) (Failure P)

  abbrev Split : (front source : List (Hidden P)) → Answer → Type 0
  Split front source r = BeginsWithRun provenance macros front source r

  first-is : {A : Type 0} (t u : A) (ts us : List A) → t ∷ ts ≡ u ∷ us → (t ≡ u) × (ts ≡ us)
  first-is t u ts us is = (cc, cc)

  none-both : {A : Type 0} (xs ys : List A) → xs ++ ys ≡ [] → (xs ≡ []) × (ys ≡ [])
  none-both [] ys is = (refl, is)
  none-both (x ∷ xs) ys is = absurd (cc)

  last-none : (t : Hidden P) (rest : List (Hidden P)) → is_last_name macros t rest ≡ true → rest ≡ []
  last-none t [] is = refl
  last-none t (u ∷ us) is = absurd (cc)

  only-empty : (r : Answer) → Expands provenance macros [] r → r ≡ Ok []
  only-empty _ expansion.empty = refl

  whole : (t : Hidden P) (front source : List (Hidden P)) (r : Answer) → is_last_name macros t (front ++ source) ≡ true → Expands provenance macros (front ++ source) r → Split (t ∷ front) source (with_first t r)
  whole t front source r last e =
      let none = last-none t (front ++ source) last in
      let parts = none-both front source none in
      let stays_last = only-empty r (subst (λ l. Expands provenance macros l r) none e) in
      subst (λ (p : List (Hidden P) × List (Hidden P)). Split (t ∷ p.0) p.1 (with_first t r)) (λ i. (sym parts.0 i, sym parts.1 i))
      (record {
        done = [];
        end = waits t [];
        uses = using [] (looked_up_at t);
        runs = run.alone (subst (λ l. is_last_name macros t l ≡ true) none last);
        behind = Ok (t ∷ []);
        left = expansion.stay (last-stays macros t [] (subst (λ l. is_last_name macros t l ≡ true) none last)) expansion.empty;
        is = ap (with_first t) stays_last;
      })

  -- the whole list behind what was made, as a run, or the failure
  pub data Onward : Answer → (rest : List (Hidden P)) → Answer → Type 0 where
    going : {body rest : List (Hidden P)} {r : Answer} → ((front source : List (Hidden P)) → body ++ rest ≡ front ++ source → Split front source r) → Onward (Ok body) rest r
    ended_by : {rest : List (Hidden P)} (failure : Failure P) → Onward (Err failure) rest (Err failure)

  stayed : (t : Hidden P) (rest : List (Hidden P)) (r : Answer) → case_of macros t rest ≡ stays → ((front source : List (Hidden P)) → rest ≡ front ++ source → Split front source r) → (front source : List (Hidden P))
      → rest ≡ front ++ source → Expands provenance macros rest r → Split (t ∷ front) source (with_first t r)
  stayed t rest r case go front source is e = by (is_last_name macros t (front ++ source)) refl
    where
      by : (b : Bool) → is_last_name macros t (front ++ source) ≡ b → Split (t ∷ front) source (with_first t r)
      by true last = whole t front source r last (subst (λ l. Expands provenance macros l r) is e)
      by false free =
          let s = go front source is in
          record {
            done = t ∷ s.done;
            end = s.end;
            uses = then_uses (using [] (looked_up_at t)) s.uses;
            runs = run.stay (ap (case_of macros t) (sym is) ∙ case) free s.runs;
            behind = s.behind;
            left = s.left;
            is = ap (with_first t) s.is ∙ these-more t s.done s.behind;
          }

  put : (t : Hidden P) (rest : List (Hidden P)) (r : Answer) (d : Definition) → case_of macros t rest ≡ replaced d → (front source : List (Hidden P)) → rest ≡ front ++ source
      → (made : Answer) → object_result provenance d t ≡ made → Rescans provenance macros made rest r → Onward made rest r → Split (t ∷ front) source r
  put t rest r d case front source is _ made g (going {body} go) =
      let s = go (body ++ front) source (ap (λ l. body ++ l) is ∙ sym (append_assoc body front source)) in
      record {
        done = s.done;
        end = s.end;
        uses = then_uses (using [] (looked_up_at t)) s.uses;
        runs = run.object d body (ap (case_of macros t) (sym is) ∙ case) made s.runs;
        behind = s.behind;
        left = s.left;
        is = s.is;
      }
  put t rest r d case front source is _ made g (ended_by failure) = record {
    done = [];
    end = fails failure;
    uses = using [] (looked_up_at t);
    runs = run.bad_object d failure (ap (case_of macros t) (sym is) ∙ case) made;
    behind = Err failure;
    left = refl;
    is = refl;
  }

  called-split : (t : Hidden P) (r : Answer) (d : Definition) (arguments : List (List (Hidden P))) (close : Hidden P) (after : List (Hidden P)) (results : Result (List (List (Hidden P))) (Failure P)) (front source : List (Hidden P))
      → case_of macros t (front ++ source) ≡ called d arguments close after → Each provenance macros (asked provenance d t arguments) (map (λ a. []) arguments) results
      → (made : Answer) → call_result provenance d t arguments close results ≡ made → Rescans provenance macros made after r → Onward made after r → Split (t ∷ front) source r
  called-split t r d arguments close after results front source case each m made g next =
      let e = called-ends (front ++ source) d arguments close after (case-in macros t (front ++ source) (called d arguments close after) case) in
      by m r (divide e.before after front source (sym e.is)) made next
    where
      by : (m r : Answer) (s : SomeLeaves source after) → call_result provenance d t arguments close results ≡ m → Onward m after r → Split (t ∷ front) source r
      by _ r s made (going {body} go) =
          let x = go (body ++ s.left) s.rest (ap (λ l. body ++ l) (leaves-split s.leaves) ∙ sym (append_assoc body s.left s.rest)) in
          record {
            done = x.done;
            end = x.end;
            uses = then_uses (using s.taken (looked_up_at t ++ (trace_each each).looked_up)) x.uses;
            runs = run.call d arguments close after s.left s.rest s.taken body results case s.leaves each made x.runs;
            behind = x.behind;
            left = x.left;
            is = x.is;
          }
      by _ _ s made (ended_by failure) = record {
        done = [];
        end = fails failure;
        uses = using s.taken (looked_up_at t ++ (trace_each each).looked_up);
        runs = run.bad_call d arguments close after s.left s.rest s.taken results failure case s.leaves each made;
        behind = Err failure;
        left = refl;
        is = refl;
      }

  mutual
    pub split : {ts : List (Hidden P)} {r : Answer} → Expands provenance macros ts r → (front source : List (Hidden P)) → ts ≡ front ++ source → Split front source r
    split {ts} {r} e [] source is = record { done = []; end = over source; uses = no_uses; runs = run.used_up; behind = r; left = subst (λ l. Expands provenance macros l r) is e; is = these-none r }
    split expansion.empty (u ∷ front) source is = absurd (cons-some u (front ++ source) (sym is))
    split (expansion.stay {t} {rest} {r} case e) (u ∷ front) source is =
        let first = first-is t u rest (front ++ source) is in
        subst (λ (v : Hidden P). Split (v ∷ front) source (with_first t r)) first.0 (stayed t rest r case (split e) front source first.1 e)
    split (expansion.object {t} {rest} {r} d case g) (u ∷ front) source is =
        let first = first-is t u rest (front ++ source) is in
        subst (λ (v : Hidden P). Split (v ∷ front) source r) first.0 (put t rest r d case front source first.1 (object_result provenance d t) refl g (split-rescan g))
    split (expansion.unterminated {t} {rest} case) (u ∷ front) source is =
        let first = first-is t u rest (front ++ source) is in
        let open_ = ap (case_of macros t) (sym first.1) ∙ case in
        subst (λ (v : Hidden P). Split (v ∷ front) source (Err (failure_at UnterminatedCall t))) first.0 (record {
          done = [];
          end = waits t (front ++ source);
          uses = using [] (looked_up_at t);
          runs = run.open_call open_;
          behind = Err (failure_at UnterminatedCall t);
          left = expansion.unterminated open_;
          is = refl;
        })
    split (expansion.miscounted {t} {rest} after case) (u ∷ front) source is =
        let first = first-is t u rest (front ++ source) is in
        let bad = ap (case_of macros t) (sym first.1) ∙ case in
        let e = misfit-ends (front ++ source) after (case-in macros t (front ++ source) (misfit after) bad) in
        let s = divide e.before after front source (sym e.is) in
        subst (λ (v : Hidden P). Split (v ∷ front) source (Err (failure_at WrongArguments t))) first.0 (record {
          done = [];
          end = fails (failure_at WrongArguments t);
          uses = using s.taken (looked_up_at t);
          runs = run.bad_count after s.left s.rest s.taken bad s.leaves;
          behind = Err (failure_at WrongArguments t);
          left = refl;
          is = refl;
        })
    split (expansion.call {t} {rest} {r} d arguments close after results case each g) (u ∷ front) source is =
        let first = first-is t u rest (front ++ source) is in
        subst (λ (v : Hidden P). Split (v ∷ front) source r) first.0
        (called-split t r d arguments close after results front source (ap (case_of macros t) (sym first.1) ∙ case) each (call_result provenance d t arguments close results) refl g (split-rescan g))

    pub split-rescan : {made : Answer} {rest : List (Hidden P)} {r : Answer} → Rescans provenance macros made rest r → Onward made rest r
    split-rescan (on {body} {rest} e) = going (λ front source is. split e front source is)
    split-rescan (refused failure) = ended_by failure
