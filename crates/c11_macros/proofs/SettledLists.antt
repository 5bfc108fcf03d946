-- What a list that has settled says of its expansion, whatever follows.
use Rattle.std.proofs.Common.{◌≡◌, List, [], ◌∷◌, ◌++◌, append_assoc, Result, Err, refl, sym, ap, ◌∙◌, subst}
use Rattle.c11_macros.proofs.Resuming.{resume}
use Rattle.c11_macros.proofs.RunExpands.{passes-expand, runs-expand, these-both}
use Rattle.c11_macros.proofs.Settling.{passes-more}
use Rattle.c11_macros.proofs.Splitting.{split}
use Rattle.c11_macros.specs.Expansion.{Expands}
use Rattle.c11_macros.specs.Hidden.{Hidden, Provenance, Failure}
use Rattle.c11_macros.specs.Macros.{Macros}
use Rattle.c11_macros.specs.Resumed.{from_failure, from_waiting}
use Rattle.c11_macros.specs.Runs.{after_these, Settles, whole, open_end, IsHeld, held}

module _ {P : Type 0} (provenance : Provenance P) (macros : Macros) where
  abbrev Answer : Type 0
  Answer = Result (List (Hidden P)) (Failure P)

  -- whatever follows
  pub settles-more : {ts done rest : List (Hidden P)} (more : List (Hidden P)) (r : Answer) → Settles provenance macros ts done rest → Expands provenance macros (rest ++ more) r → Expands provenance macros (ts ++ more) (after_these done r)
  settles-more more r (whole p) e = passes-expand provenance macros (passes-more provenance macros more p) r e
  settles-more {ts} more r (open_end {out} {done} {behind} {rest} {t} {name} u p run) e =
      let s = split provenance macros e (name ∷ []) (rest ++ more) refl in
      let g = resume provenance macros more run (from_waiting s.runs) in
      let last = runs-expand provenance macros g.runs s.behind s.left in
      let same : after_these out (after_these (done ++ s.done) s.behind) ≡ after_these (out ++ done) r = these-both out (done ++ s.done) s.behind ∙ (ap (λ l. after_these l s.behind) (sym (append_assoc out done s.done)) ∙ (sym (these-both (out ++ done) s.done s.behind) ∙ ap (after_these (out ++ done)) (sym s.is))) in
      subst (Expands provenance macros (ts ++ more)) same (passes-expand provenance macros (passes-more provenance macros more p) (after_these (done ++ s.done) s.behind) last)

  pub held-more : {ts : List (Hidden P)} {failure : Failure P} (more : List (Hidden P)) → IsHeld provenance macros ts failure → Expands provenance macros (ts ++ more) (Err failure)
  held-more {failure = failure} more (held u p r) =
      let g = resume provenance macros more r from_failure in
      passes-expand provenance macros (passes-more provenance macros more p) (Err failure) (runs-expand provenance macros g.runs (Err failure) refl)
