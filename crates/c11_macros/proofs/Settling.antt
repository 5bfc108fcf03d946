-- A list that has settled, and settles again with more behind what was left.
use Rattle.std.proofs.Common.{List, [], ◌∷◌, ◌++◌, append_assoc, append-nil, sym, ap, ◌∙◌, subst}
use Rattle.c11_macros.proofs.Resuming.{resume}
use Rattle.c11_macros.specs.Hidden.{Hidden, Provenance, Failure}
use Rattle.c11_macros.specs.Macros.{Macros}
use Rattle.c11_macros.specs.Resumed.{Resumed, from_over, from_failure, from_waiting}
use Rattle.c11_macros.specs.Runs.{Uses, End, over, waits, fails, Runs, Passes, begins, goes_on, Settles, whole, open_end, IsHeld, held}

module _ {P : Type 0} (provenance : Provenance P) (macros : Macros) where
  over-more : {front source done after : List (Hidden P)} {u : Uses P} (more : List (Hidden P)) → Runs provenance macros front source done (over after) u → (v : Uses P) × Runs provenance macros front (source ++ more) done (over (after ++ more)) v
  over-more {front} {source} {done} {after} more run =
      let r = resume provenance macros more run from_over in
      (r.uses, subst (λ l. Runs provenance macros front (source ++ more) l (over (after ++ more)) r.uses) (append-nil done) r.runs)

  pub passes-more : {ts done left : List (Hidden P)} (more : List (Hidden P)) → Passes provenance macros ts done left → Passes provenance macros (ts ++ more) done (left ++ more)
  passes-more more begins = begins
  passes-more more (goes_on u before run) = let r = over-more more run in goes_on r.0 (passes-more more before) r.1

  pub passes-then : {ts one mid two left : List (Hidden P)} → Passes provenance macros ts one mid → Passes provenance macros mid two left → Passes provenance macros ts (one ++ two) left
  passes-then {ts} {one} {mid = mid} first begins = subst (λ l. Passes provenance macros ts l mid) (sym (append-nil one)) first
  passes-then {ts} {one} {left = left} first (goes_on {out} {done} u before run) = subst (λ l. Passes provenance macros ts l left) (append_assoc one out done) (goes_on u (passes-then first before) run)

  -- nothing was passed, or the first name and others
  pub data First (t : Hidden P) (rest : List (Hidden P)) : (done left : List (Hidden P)) → Type 0 where
    none_passed : First t rest [] (t ∷ rest)
    first_passed : {mid one two left : List (Hidden P)} (u : Uses P) → Runs provenance macros (t ∷ []) rest one (over mid) u → Passes provenance macros mid two left → First t rest (one ++ two) left

  pub passes-first : {t : Hidden P} {rest done left : List (Hidden P)} → Passes provenance macros (t ∷ rest) done left → First t rest done left
  passes-first begins = none_passed
  passes-first {t} {rest} {left = left} (goes_on {out} {done} u before run) = by (passes-first before) run
    where
      by : {ahead : List (Hidden P)} {x : Hidden P} {out done : List (Hidden P)} → First t rest out (x ∷ ahead) → Runs provenance macros (x ∷ []) ahead done (over left) u → First t rest (out ++ done) left
      by {done = done} none_passed run = subst (λ l. First t rest l left) (append-nil done) (first_passed u run begins)
      by {done = done} (first_passed {one = a} {two = b} v r p) run = subst (λ l. First t rest l left) (sym (append_assoc a b done)) (first_passed v r (goes_on u p run))

  -- behind names that were passed
  passed-again : (ts more : List (Hidden P)) {before mid done rest : List (Hidden P)} → Passes provenance macros (ts ++ more) before mid → Settles provenance macros mid done rest → Settles provenance macros (ts ++ more) (before ++ done) rest
  passed-again ts more first (whole p) = whole (passes-then first p)
  passed-again ts more {before} first (open_end {out} {done} {rest = rest} {name = name} u p run) =
      subst (λ l. Settles provenance macros (ts ++ more) l (name ∷ rest)) (append_assoc before out done) (open_end u (passes-then first p) run)

  module _ (ts more : List (Hidden P)) {out behind done rest : List (Hidden P)} {t g : Hidden P} {u : Uses P} (before : Passes provenance macros ts out (t ∷ behind)) (run : Runs provenance macros (t ∷ []) behind done (waits g rest) u) where
    goes : {later : List (Hidden P)} {end : End P} {v : Uses P} → Runs provenance macros (g ∷ []) (rest ++ more) later end v → Resumed provenance macros more (t ∷ []) behind (done ++ later) (waits g rest) end u v
    goes next = resume provenance macros more run (from_waiting next)

    passed : {mid one : List (Hidden P)} {v : Uses P} → Runs provenance macros (g ∷ []) (rest ++ more) one (over mid) v → Passes provenance macros (ts ++ more) (out ++ (done ++ one)) mid
    passed next = let s = goes next in goes_on s.uses (passes-more more before) s.runs

    waited-again : {later left : List (Hidden P)} → Settles provenance macros (g ∷ rest ++ more) later left → Settles provenance macros (ts ++ more) ((out ++ done) ++ later) left
    waited-again (whole p) = by (passes-first p)
      where
        by : {d : List (Hidden P)} → First g (rest ++ more) d [] → Settles provenance macros (ts ++ more) ((out ++ done) ++ d) []
        by (first_passed {one = a} {two = b} v r q) =
            subst (λ l. Settles provenance macros (ts ++ more) l []) (ap (λ l. l ++ b) (sym (append_assoc out done a)) ∙ append_assoc (out ++ done) a b) (whole (passes-then (passed r) q))
    waited-again (open_end {rest = end} {name = name} v p r) = by (passes-first p) r
      where
        by : {o d ahead : List (Hidden P)} {x : Hidden P} → First g (rest ++ more) o (x ∷ ahead) → Runs provenance macros (x ∷ []) ahead d (waits name end) v → Settles provenance macros (ts ++ more) ((out ++ done) ++ (o ++ d)) (name ∷ end)
        by {d = d} none_passed r = let s = goes r in subst (λ l. Settles provenance macros (ts ++ more) l (name ∷ end)) (sym (append_assoc out done d)) (open_end s.uses (passes-more more before) s.runs)
        by {d = d} (first_passed {one = a} {two = b} w q p) r =
            subst (λ l. Settles provenance macros (ts ++ more) l (name ∷ end))
            (ap (λ l. (l ++ b) ++ d) (sym (append_assoc out done a)) ∙ (append_assoc ((out ++ done) ++ a) b d ∙ (append_assoc (out ++ done) a (b ++ d) ∙ ap (λ l. (out ++ done) ++ l) (sym (append_assoc a b d)))))
            (open_end v (passes-then (passed q) p) r)

    held-then : {failure : Failure P} → IsHeld provenance macros (g ∷ rest ++ more) failure → IsHeld provenance macros (ts ++ more) failure
    held-then {failure} (held v p r) = by (passes-first p) r
      where
        by : {o d ahead : List (Hidden P)} {x : Hidden P} → First g (rest ++ more) o (x ∷ ahead) → Runs provenance macros (x ∷ []) ahead d (fails failure) v → IsHeld provenance macros (ts ++ more) failure
        by none_passed r = let s = goes r in held s.uses (passes-more more before) s.runs
        by (first_passed w q p) r = held v (passes-then (passed q) p) r

  -- what was left, with more behind, settles again
  pub settle-again : (ts more : List (Hidden P)) {before left done rest : List (Hidden P)} → Settles provenance macros ts before left → Settles provenance macros (left ++ more) done rest
      → Settles provenance macros (ts ++ more) (before ++ done) rest
  settle-again ts more (whole p) next = passed-again ts more (passes-more more p) next
  settle-again ts more (open_end u before run) next = waited-again ts more before run next

  pub held-again : (ts more : List (Hidden P)) {before left : List (Hidden P)} {failure : Failure P} → Settles provenance macros ts before left → IsHeld provenance macros (left ++ more) failure → IsHeld provenance macros (ts ++ more) failure
  held-again ts more (whole p) (held u q run) = held u (passes-then (passes-more more p) q) run
  held-again ts more (open_end u before run) next = held-then ts more before run next

  -- what is held stays so
  pub held-stays : {ts : List (Hidden P)} {failure : Failure P} (more : List (Hidden P)) → IsHeld provenance macros ts failure → IsHeld provenance macros (ts ++ more) failure
  held-stays more (held u p run) = let r = resume provenance macros more run from_failure in held r.uses (passes-more more p) r.runs
