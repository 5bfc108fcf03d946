-- The places that the expansion of a list comes to, name by name: there is one way from each to the
-- next.
use Rattle.std.proofs.Common.{◌≡◌, ℕ, ◌+◌, ◌≤◌, List, [], ◌∷◌, ◌++◌, append_assoc, drop, length, length-append, refl, sym, ap, ◌∙◌, subst, arith, ◌<◌, Bool, true, false}
use Rattle.c11_macros.proofs.Settling.{First, first_passed, none_passed, passes-first}
use Rattle.sc_expand.proofs.Facts.{drop-drop, drop_at, leaves-source, length-drop, one-run}
use Rattle.sc_expand.proofs.NameRuns.{front-pending, name-start, name-steps}
use Rattle.sc_expand.proofs.PlainSettles.{InName, Stood, going, over_now, stood}
use Rattle.sc_expand.proofs.Terms.{End, HiddenToken as Hidden, Macros, Passes, Provenance, Runs, Uses, begins, call, goes_on, object, over, stay, used_up, waits, Moves, State, Waits, scanning}
use Rattle.sc_expand.specs.FootprintSteps.{IsPending, bottom, lower_of}

module _ {P : Type 0} (provenance : Provenance P) (macros : Macros) where
  -- a run that is over took what stood before what is left
  pub over-source : {front source done after : List (Hidden P)} {u : Uses P} → Runs provenance macros front source done (over after) u → source ≡ u.taken ++ after
  over-source used_up = refl
  over-source (stay is free run) = over-source run
  over-source (object d body is made run) = over-source run
  over-source {after = end} (call {u = u} d arguments close after left rest taken body results is leaves each made run) =
      leaves-source leaves ∙ (ap (λ l. taken ++ l) (over-source run) ∙ sym (append_assoc taken u.taken end))

  pub run-same : {t s : Hidden P} {rest behind done : List (Hidden P)} {end : End P} {u : Uses P} → t ∷ rest ≡ s ∷ behind → Runs provenance macros (t ∷ []) rest done end u → Runs provenance macros (s ∷ []) behind done end u
  run-same {t} {s} {rest} {behind} {done} {end} {u} is runs =
      let first : t ≡ s = cc in
      let same : rest ≡ behind = cc in
      subst (λ (z : Hidden P × List (Hidden P)). Runs provenance macros (z.0 ∷ []) z.1 done end u) (λ i. (first i, same i)) runs

  -- what is left behind names that were passed is the end of the list
  pub passes-end : {ts done left : List (Hidden P)} → Passes provenance macros ts done left → (g : ℕ) × (left ≡ drop g ts)
  passes-end begins = (0, refl)
  passes-end {ts = ts} (goes_on {after = after} {rest = rest} u p run) =
      let it = passes-end p in
      let more = length u.taken in
      (it.0 + 1 + more, sym (ap (drop more) (over-source run) ∙ drop_at u.taken after more refl) ∙ (ap (λ l. drop more (drop 1 l)) it.1 ∙ (ap (drop more) (drop-drop 1 it.0 ts) ∙ drop-drop more (it.0 + 1) ts)))

  -- the name is passed, and then this is left
  record GoesOn (t : Hidden P) (rest left : List (Hidden P)) : Type 0 where
    done : List (Hidden P)
    after : List (Hidden P)
    uses : Uses P
    runs : Runs provenance macros (t ∷ []) rest done (over after) uses
    more : List (Hidden P)
    passes : Passes provenance macros after more left

  from-first : (t : Hidden P) {rest done left : List (Hidden P)} → Passes provenance macros (t ∷ rest) done left → length left ≤ length rest → GoesOn t rest left
  from-first t p short = by (passes-first provenance macros p) short
    where
      by : {rest done left : List (Hidden P)} → First provenance macros t rest done left → length left ≤ length rest → GoesOn t rest left
      by none_passed short = absurd (omega (arith, short))
      by (first_passed {mid} {one} {two} u run p) short = record { done = one; after = mid; uses = u; runs = run; more = two; passes = p }

  -- who comes to the name and to fewer tokens than stand behind it passes the name
  goes-on : {ts out done rest left : List (Hidden P)} (t : Hidden P) → Passes provenance macros ts out (t ∷ rest) → Passes provenance macros ts done left → length left ≤ length rest → GoesOn t rest left
  goes-on t begins q short = from-first t q short
  goes-on {rest = rest} {left} t (goes_on {t = u} uses p run) q short =
      let long = ap length (over-source run) in
      let first = goes-on u p q (omega (arith, short, long, length-append uses.taken (t ∷ rest))) in
      let same : t ∷ rest ≡ first.after = cc ((one-run provenance macros run first.done (over first.after) first.uses first.runs).end) in
      from-first t (subst (λ l. Passes provenance macros l first.more left) (sym same) first.passes) short

  -- it comes to nothing between a name and what the name leaves
  pub none-between : {ts out done rest before left after : List (Hidden P)} {t : Hidden P} {u : Uses P} → Passes provenance macros ts out (t ∷ rest) → Runs provenance macros (t ∷ []) rest done (over after) u
      → Passes provenance macros ts before left → length left ≤ length rest → length left ≤ length after
  none-between {left = left} {after} {t = t} p run q short =
      let g = goes-on t p q short in
      let same : after ≡ g.after = cc ((one-run provenance macros run g.done (over g.after) g.uses g.runs).end) in
      let e = passes-end g.passes in
      omega (arith, ap length same, ap length e.1, length-drop e.0 g.after)

  -- and to nothing behind a name that waits
  pub none-behind : {ts out done rest before left more : List (Hidden P)} {t g : Hidden P} {u : Uses P} → Passes provenance macros ts out (t ∷ rest) → Runs provenance macros (t ∷ []) rest done (waits g more) u
      → Passes provenance macros ts before left → length left ≤ length rest → ⊥
  none-behind {t = t} p run q short =
      let o = goes-on t p q short in
      cc ((one-run provenance macros run o.done (over o.after) o.uses o.runs).end)

-- where a configuration stands in the expansion of its list, by how many of its tokens are still
-- tokens of the list: it does not come to an item, or is in its expansion, or has passed it; and
-- what was put out before

module _ {P : Type 0} (provenance : Provenance P) (macros : Macros) (list : List (Hidden P)) where
  -- Of the places that its expansion comes to with no more than so many tokens left this is the
  -- first.
  pub record IsNext (behind : ℕ) (work : List (Hidden P)) : Type 0 where
    pub few : length work ≤ behind
    pub most : (out left : List (Hidden P)) → Passes provenance macros list out left → length left ≤ behind → length left ≤ length work

  -- A name is being expanded that so many tokens of the list stand behind, and so many are left.
  pub record IsWithin (came : Bool) (behind : ℕ) (start : List (Hidden P)) (s : State P) (left : ℕ) : Type 0 where
    pub came_is : came ≡ true
    pub name : InName provenance macros list s
    pub from : name.out ≡ start
    pub long : length name.behind ≡ behind
    pub own : left ≡ length name.left

  -- Whether it comes to the item, behind which so many tokens of the list stand; so many are left.
  pub data Placed (came : Bool) (behind : ℕ) (start : List (Hidden P)) : State P → (left : ℕ) → Type 0 where
    away : {work : List (Hidden P)} {left : ℕ} → came ≡ false → Passes provenance macros list start work → left ≡ length work → IsNext behind work → Placed came behind start (scanning start work) left
    inside : {s : State P} {left : ℕ} → IsWithin came behind start s left → Placed came behind start s left
    passed : {rest done work : List (Hidden P)} {t : Hidden P} {left : ℕ} (u : Uses P) → came ≡ true → Passes provenance macros list start (t ∷ rest) → Runs provenance macros (t ∷ []) rest done (over work) u
        → length rest ≡ behind → left ≡ length work → Placed came behind start (scanning (start ++ done) work) left

  -- the next item: who has it begins to expand it
  pub placed-next : (out rest : List (Hidden P)) (t : Hidden P) (came : Bool) (behind left : ℕ) → came ≡ true → Passes provenance macros list out (t ∷ rest) → length rest ≡ behind → left ≡ length rest
      → Placed came behind out (scanning out (t ∷ rest)) left
  placed-next out rest t came behind left is p long own =
      let r = name-start provenance macros t rest out in
      let some : r.front ≡ [] → ⊥ = λ none. let same = r.bottom_is ∙ ap (λ l. l ++ rest) none in omega (arith, ap length same) in
      inside (record { came_is = is; name = record { out = out; name = t; behind = rest; passes = p; left = rest; reaches = r; some = some }; from = refl; long = long; own = own })

  placed : {came : Bool} {before behind left : List (Hidden P)} {t : Hidden P} {count k : ℕ} {s : State P} → came ≡ true → Passes provenance macros list before (t ∷ behind) → length behind ≡ count → k ≡ length left
      → Stood provenance macros list before behind left t s → Placed came count before s k
  placed is p long own (over_now u r) = passed u is p r long own
  placed is p long own (going x from behind left) = inside (record { came_is = is; name = x; from = from; long = behind ∙ long; own = own ∙ sym left })

  -- who has more than tokens of the list left is in the item's expansion
  pub placed-within : (came : Bool) (behind : ℕ) (start : List (Hidden P)) (left : ℕ) (s : State P) → Placed came behind start s left → IsPending s left → IsWithin came behind start s left
  placed-within came behind start left _ (away {work} not p own next) more = let less : left < length work = more in absurd (omega (arith, less, own))
  placed-within came behind start left _ (passed {work = work} u is p r long own) more = let less : left < length work = more in absurd (omega (arith, less, own))
  placed-within came behind start left s (inside x) more = x

  -- a step of it leaves the last of these, or all that it leaves
  pub placed-move : (came : Bool) (behind : ℕ) (start : List (Hidden P)) (left later : ℕ) (s after : State P) → Placed came behind start s left → Moves provenance macros s after → (Waits macros s → ⊥) → IsPending s left
      → later ≡ lower_of (length (bottom after)) left → Placed came behind start after later
  placed-move came behind start left later s after place m free more fewer =
      let w = placed-within came behind start left s place more in
      let x = w.name in
      let r = name-steps provenance macros x.name x.behind x.out x.left s after x.reaches m free (subst (IsPending s) w.own more) in
      subst (λ l. Placed came behind l after later) w.from
      (placed w.came_is x.passes w.long (fewer ∙ (ap (lower_of (length (bottom after))) w.own ∙ sym r.2)) (stood provenance macros list x.out x.behind r.0 x.name after x.passes r.1))

  -- who has only tokens of the list left is in no expansion ..
  pub within-more : (came : Bool) (behind : ℕ) (start : List (Hidden P)) (left : ℕ) (out work : List (Hidden P)) → IsWithin came behind start (scanning out work) left → length work ≤ left → ⊥
  within-more came behind start left out work w few =
      let x = w.name in
      let more : left < length work = subst (IsPending (scanning out work)) (sym w.own) (front-pending provenance macros (scanning out work) x.reaches.front x.left x.reaches.bottom_is x.some) in
      omega (arith, more, few)

  -- .. and stands between two items
  pub placed-between : (came : Bool) (behind : ℕ) (start : List (Hidden P)) (left : ℕ) (out work : List (Hidden P)) → Placed came behind start (scanning out work) left → length work ≤ left → Passes provenance macros list out work × IsNext behind work
  placed-between came behind start left _ work (away not p own next) few = (p, next)
  placed-between came behind start left _ work (passed {rest} u is p r long own) few = (
    goes_on u p r,
    record {
      few = let took = ap length (over-source provenance macros r) in omega (arith, took, length-append u.taken work, long);
      most = λ o l q less. none-between provenance macros p r q (omega (arith, less, long));
    },
  )
  placed-between came behind start left out work (inside w) few = absurd (within-more came behind start left out work w few)
