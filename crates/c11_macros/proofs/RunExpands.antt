-- What a run says of the expansion of the list, and of the run where more follows.
use Rattle.std.proofs.Common.{◌≡◌, List, [], ◌∷◌, ◌++◌, append_assoc, Result, Ok, Err, refl, sym, ap, ◌∙◌, subst}
use Rattle.c11_macros.specs.Expansion.{with_first, Expands, Rescans, on, refused}
use Rattle.c11_macros.specs.Expansion as expansion
use Rattle.c11_macros.specs.Hidden.{Hidden, Provenance, Failure}
use Rattle.c11_macros.specs.Macros.{Macros}
use Rattle.c11_macros.specs.Resumed.{EndExpands}
use Rattle.c11_macros.specs.Runs.{Uses, End, Leaves, within, beyond, Runs, used_up, stay, alone, open_call, object, call, bad_object, bad_count, bad_call, after_these, Passes, begins, goes_on}

module _ {P : Type 0} where
  pub these-none : (r : Result (List (Hidden P)) (Failure P)) → r ≡ after_these [] r
  these-none (Ok ts) = refl
  these-none (Err f) = refl

  pub these-more : (t : Hidden P) (done : List (Hidden P)) (r : Result (List (Hidden P)) (Failure P)) → with_first t (after_these done r) ≡ after_these (t ∷ done) r
  these-more t done (Ok ts) = refl
  these-more t done (Err f) = refl

  pub these-both : (one two : List (Hidden P)) (r : Result (List (Hidden P)) (Failure P)) → after_these one (after_these two r) ≡ after_these (one ++ two) r
  these-both one two (Ok ts) = ap Ok (sym (append_assoc one two ts))
  these-both one two (Err f) = refl

  pub leaves-split : {source after left rest taken : List (Hidden P)} → Leaves source after left rest taken → after ≡ left ++ rest
  leaves-split (within is) = is
  leaves-split (beyond is some) = refl

module _ {P : Type 0} (provenance : Provenance P) (macros : Macros) where
  abbrev Answer : Type 0
  Answer = Result (List (Hidden P)) (Failure P)

  pub runs-expand : {front source done : List (Hidden P)} {end : End P} {u : Uses P} → Runs provenance macros front source done end u → (r : Answer) → EndExpands provenance macros end r → Expands provenance macros (front ++ source) (after_these done r)
  runs-expand (used_up {source}) r left = subst (Expands provenance macros source) (these-none r) left
  runs-expand (stay {t} {front} {source} {done} is free more) r left =
      subst (Expands provenance macros (t ∷ front ++ source)) (these-more t done r) (expansion.stay is (runs-expand more r left))
  runs-expand (alone {t} {front} {source} is) r left = subst (Expands provenance macros (t ∷ front ++ source)) (these-none r) left
  runs-expand (open_call {t} {front} {source} is) r left = subst (Expands provenance macros (t ∷ front ++ source)) (these-none r) left
  runs-expand (object {t} {front} {source} {done} d body is made more) r left =
      let whole = subst (λ l. Expands provenance macros l (after_these done r)) (append_assoc body front source) (runs-expand more r left) in
      expansion.object d is (subst (λ m. Rescans provenance macros m (front ++ source) (after_these done r)) (sym made) (on whole))
  runs-expand (call {t} {front} {source} {done} d arguments close after left rest taken body results is leaves each made more) r end =
      let whole = subst (λ l. Expands provenance macros l (after_these done r)) (append_assoc body left rest ∙ ap (λ l. body ++ l) (sym (leaves-split leaves))) (runs-expand more r end) in
      expansion.call d arguments close after results is each (subst (λ m. Rescans provenance macros m after (after_these done r)) (sym made) (on whole))
  runs-expand (bad_object {t} {front} {source} d failure is made) r left =
      subst (λ s. Expands provenance macros (t ∷ front ++ source) (after_these [] s)) (sym left)
      (expansion.object d is (subst (λ m. Rescans provenance macros m (front ++ source) (Err failure)) (sym made) (refused failure)))
  runs-expand (bad_count {t} {front} {source} after left rest taken is leaves) r end =
      subst (λ s. Expands provenance macros (t ∷ front ++ source) (after_these [] s)) (sym end) (expansion.miscounted after is)
  runs-expand (bad_call {t} {front} {source} d arguments close after left rest taken results failure is leaves each made) r end =
      subst (λ s. Expands provenance macros (t ∷ front ++ source) (after_these [] s)) (sym end)
      (expansion.call d arguments close after results is each (subst (λ m. Rescans provenance macros m after (Err failure)) (sym made) (refused failure)))

  -- names that were passed, and then what is left
  pub passes-expand : {ts done left : List (Hidden P)} → Passes provenance macros ts done left → (r : Answer) → Expands provenance macros left r → Expands provenance macros ts (after_these done r)
  passes-expand {ts} begins r e = subst (Expands provenance macros ts) (these-none r) e
  passes-expand {ts} (goes_on {out} {done} u before run) r e =
      subst (Expands provenance macros ts) (these-both out done r) (passes-expand before (after_these done r) (runs-expand run r e))
