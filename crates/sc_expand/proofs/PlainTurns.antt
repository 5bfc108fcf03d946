-- A turn of the loop: at each configuration one step, or none.
use Rattle.std.proofs.Common.{◌≡◌, ◌⊎◌, inl, inr, ℕ, zero, suc, ◌+◌, ◌<◌, ◌≤◌, ◌≢◌, Bool, true, false, true≢false, List, [], ◌∷◌, length, refl, sym, ap, subst, arith, if◌then◌else◌, slice_index, append-nil, Result, Ok, Err, ◌∙◌}
use Rattle.c11_macros.specs.Expansion.{Expands, empty}
use Rattle.sc_expand.proofs.Facts.{cases_eq, these-none}
use Rattle.sc_expand.proofs.PlainCompletes.{size, Completes, ends, scanned, scans, size-is}
use Rattle.sc_expand.proofs.PlainMoves.{fails-by, move-back}
use Rattle.sc_expand.proofs.Terms.{IsConfig, Fails, Failure, HiddenToken as Hidden, IsWithin, Macros, Moves, Provenance, State, Waiting, expanding, Leads, no_step, scanning, step}
use Rattle.sc_expand.specs.Plain as plain

module _ {P : Type 0} (provenance : Provenance P) (macros : Macros) where
  abbrev Answer : Type 0
  Answer = Result (List (Hidden P)) (Failure P)

  -- whatever the state comes to, the list expands to
  pub record Reaches (source : List (Hidden P)) (s : State P) : Type 0 where
    pub back : (r : Answer) → Completes provenance macros s r → Expands provenance macros source r

  pub reaches-start : (source : List (Hidden P)) → Reaches source (scanning [] source)
  reaches-start source = record { back = λ r c. let s = scanned c in subst (Expands provenance macros source) (sym (s.is ∙ sym (these-none s.answer))) s.expands }

  pub reaches-end : (source out : List (Hidden P)) → Reaches source (scanning out []) → Expands provenance macros source (Ok out)
  reaches-end source out reaches = reaches.back (Ok out) (subst (λ l. Completes provenance macros (scanning out []) (Ok l)) (append-nil out) (scans out [] (Ok []) empty))

  pub reaches-move : (source : List (Hidden P)) (s t : State P) → Reaches source s → Moves provenance macros s t → Reaches source t
  reaches-move source s t reaches m = record { back = λ r c. reaches.back r (move-back provenance macros s t m r c).completes }

  pub reaches-fail : (source : List (Hidden P)) (s : State P) (failure : Failure P) → Reaches source s → Fails provenance macros s failure → Expands provenance macros source (Err failure)
  reaches-fail source s failure reaches f = reaches.back (Err failure) (fails-by provenance macros s failure f)

  pub reaches-leads : (source : List (Hidden P)) (s t : State P) → Reaches source s → Leads provenance macros s t → Reaches source t
  reaches-leads source s _ reaches no_step = reaches
  reaches-leads source s t reaches (step {t = next} m more) = reaches-leads source next t (reaches-move source s next reaches m) more

  -- ---- how many steps are left

  module _ (names : List (List ℕ)) (within : IsWithin names macros) where
    pub size-move : (s t : State P) → Moves provenance macros s t → size provenance macros names within t < size provenance macros names within s
    size-move s t m =
        let e = ends provenance macros names within t in
        let back = move-back provenance macros s t m e.0 e.1 in
        omega (arith, back.longer, size-is provenance macros names within s e.0 back.completes, size-is provenance macros names within t e.0 e.1)

    pub size-pos : (s : State P) → 0 < size provenance macros names within s
    unfolding size
    size-pos s = omega arith

-- ---- sums over all configurations

-- the sum of f over the numbers below a bound
abbrev pub sum_below : ℕ → (ℕ → ℕ) → ℕ
sum_below zero f = 0
sum_below (suc n) f = sum_below n f + f n

-- the sum of f over the configurations of variables with so many options each
abbrev pub total : List ℕ → (List ℕ → ℕ) → ℕ
total [] f = f []
total (arity ∷ arities) f = sum_below arity (λ option. total arities (λ c. f (option ∷ c)))

below-le : (n : ℕ) (f g : ℕ → ℕ) → ((i : ℕ) → i < n → g i ≤ f i) → sum_below n g ≤ sum_below n f
below-le zero f g le = omega arith
below-le (suc n) f g le = omega (arith, below-le n f g (λ i below. le i (omega arith)), le n (omega arith))

below-less : (n : ℕ) (f g : ℕ → ℕ) (k : ℕ) → k < n → ((i : ℕ) → i < n → g i ≤ f i) → g k < f k → sum_below n g < sum_below n f
below-less zero f g k within le less = absurd (omega arith)
below-less (suc n) f g k within le less =
    by (cases_eq k n) (below-le n f g (λ i below. le i (omega arith))) (λ before. below-less n f g k before (λ i below. le i (omega arith)) less)
  where
    by : (k ≡ n) ⊎ (k ≢ n) → sum_below n g ≤ sum_below n f → (k < n → sum_below n g < sum_below n f) → sum_below (suc n) g < sum_below (suc n) f
    by (inl same) others later = let here : g n < f n = subst (λ i. g i < f i) same less in omega arith
    by (inr differ) others later = omega (arith, later (omega (arith, differ)), le n (omega arith))

-- ---- configurations by their first option

config-cons : (arity option : ℕ) (arities c : List ℕ) → option < arity → IsConfig arities c → IsConfig (arity ∷ arities) (option ∷ c)
config-cons arity option arities c below config = record {
  long = ap suc config.long;
  each = λ v within. by v within;
}
  where
    by : (v : ℕ) → v < suc (length arities) → slice_index (option ∷ c) v < slice_index (arity ∷ arities) v
    by zero within = below
    by (suc v) within = config.each v (omega arith)

config-tail : (arity option : ℕ) (arities c : List ℕ) → IsConfig (arity ∷ arities) (option ∷ c) → IsConfig arities c
config-tail arity option arities c config = record { long = omega (arith, config.long); each = λ v below. config.each (suc v) (omega arith) }

-- ---- sums over configurations

pub total-le : (arities : List ℕ) (f g : List ℕ → ℕ) → ((c : List ℕ) → IsConfig arities c → g c ≤ f c) → total arities g ≤ total arities f
total-le [] f g le = le [] (record { long = refl; each = λ v below. absurd (omega arith) })
total-le (arity ∷ arities) f g le =
    below-le arity (λ option. total arities (λ c. f (option ∷ c))) (λ option. total arities (λ c. g (option ∷ c)))
    (λ option below. total-le arities (λ c. f (option ∷ c)) (λ c. g (option ∷ c)) (λ c config. le (option ∷ c) (config-cons arity option arities c below config)))

-- a sum of which no part grows and one falls
pub total-less : (arities : List ℕ) (f g : List ℕ → ℕ) (config : List ℕ) → IsConfig arities config → ((c : List ℕ) → IsConfig arities c → g c ≤ f c) → g config < f config → total arities g < total arities f
total-less [] f g [] is le less = less
total-less [] f g (option ∷ c) is le less = absurd (omega (arith, is.long))
total-less (arity ∷ arities) f g [] is le less = absurd (omega (arith, is.long))
total-less (arity ∷ arities) f g (option ∷ config) is le less =
    below-less arity (λ option. total arities (λ c. f (option ∷ c))) (λ option. total arities (λ c. g (option ∷ c))) option (is.each 0 (omega arith))
    (λ option below. total-le arities (λ c. f (option ∷ c)) (λ c. g (option ∷ c)) (λ c config. le (option ∷ c) (config-cons arity option arities c below config)))
    (total-less arities (λ c. f (option ∷ c)) (λ c. g (option ∷ c)) config (config-tail arity option arities config is) (λ c config. le (option ∷ c) (config-cons arity option arities c (is.each 0 (omega arith)) config)) less)

-- ---- sums over the configurations that pass a test

abbrev pub total_of : List ℕ → (List ℕ → Bool) → (List ℕ → ℕ) → ℕ
total_of arities has f = total arities (λ c. if has c then f c else 0)

if-le : (has still : Bool) (x y : ℕ) → (still ≡ true → (has ≡ true) × (y ≤ x)) → (if still then y else 0) ≤ (if has then x else 0)
if-le true true x y known = (known refl).1
if-le true false x y known = omega arith
if-le false true x y known = absurd (true≢false (sym (known refl).0))
if-le false false x y known = omega arith

if-less : (has still : Bool) (x y : ℕ) → has ≡ true → (still ≡ true → y < x) → 0 < x → (if still then y else 0) < (if has then x else 0)
if-less true true x y here less some = less refl
if-less true false x y here less some = some
if-less false still x y here less some = absurd (true≢false (sym here))

-- fewer configurations, and no more at each of them
pub total_of-le : (arities : List ℕ) (has still : List ℕ → Bool) (f g : List ℕ → ℕ) → ((c : List ℕ) → IsConfig arities c → still c ≡ true → (has c ≡ true) × (g c ≤ f c)) → total_of arities still g ≤ total_of arities has f
total_of-le arities has still f g le = total-le arities (λ c. if has c then f c else 0) (λ c. if still c then g c else 0) (λ c config. if-le (has c) (still c) (f c) (g c) (le c config))

-- and less at one of them, or that one left
pub total_of-less : (arities : List ℕ) (has still : List ℕ → Bool) (f g : List ℕ → ℕ) (config : List ℕ) → IsConfig arities config → ((c : List ℕ) → IsConfig arities c → still c ≡ true → (has c ≡ true) × (g c ≤ f c))
    → has config ≡ true → (still config ≡ true → g config < f config) → 0 < f config → total_of arities still g < total_of arities has f
total_of-less arities has still f g config is le here less some =
    total-less arities (λ c. if has c then f c else 0) (λ c. if still c then g c else 0) config is (λ c config. if-le (has c) (still c) (f c) (g c) (le c config))
    (if-less (has config) (still config) (f config) (g config) here less some)

-- ---- a turn of the loop: at each configuration one step, or none

-- ---- calls that wait for one another

-- a call of which an argument is being expanded, what was put out before it, and what follows it
pub record Pending (P : Type 0) : Type 0 where
  pub out : List (Hidden P)
  pub work : List (Hidden P)
  pub call : Waiting P
  pub parameter : ℕ

-- the state of the innermost argument under these calls, the outermost first
abbrev pub under : {P : Type 0} → List (Pending P) → State P → State P
under [] s = s
under (p ∷ ps) s = expanding p.out p.work p.call p.parameter (under ps s)

pub move-under : {P : Type 0} (provenance : Provenance P) (macros : Macros) (ps : List (Pending P)) (s t : State P) → Moves provenance macros s t → Moves provenance macros (under ps s) (under ps t)
move-under provenance macros [] s t m = m
move-under provenance macros (p ∷ ps) s t m = plain.inside p.out p.work p.call p.parameter (move-under provenance macros ps s t m)

pub fails-under : {P : Type 0} (provenance : Provenance P) (macros : Macros) (ps : List (Pending P)) (s : State P) (failure : Failure P) → Fails provenance macros s failure → Fails provenance macros (under ps s) failure
fails-under provenance macros [] s failure f = f
fails-under provenance macros (p ∷ ps) s failure f = plain.inside_fails p.out p.work p.call p.parameter (fails-under provenance macros ps s failure f)

-- ---- all configurations at once

module _ {P : Type 0} (arities : List ℕ) (provenance : Provenance P) (macros : List ℕ → Macros) where
  -- configurations that are left were there before, and made one step or none
  pub record IsTurn (has still : List ℕ → Bool) (s t : List ℕ → State P) : Type 0 where
    pub each : (c : List ℕ) → IsConfig arities c → still c ≡ true → (has c ≡ true) × (Moves provenance (macros c) (s c) (t c) ⊎ (s c ≡ t c))

  -- a configuration that made a step, or left
  pub record TakesPart (has still : List ℕ → Bool) (s t : List ℕ → State P) (config : List ℕ) : Type 0 where
    pub listed : IsConfig arities config
    pub here : has config ≡ true
    pub moves : still config ≡ true → Moves provenance (macros config) (s config) (t config)

  module _ (names : List (List ℕ)) (within : (c : List ℕ) → IsWithin names (macros c)) where
    abbrev pub left_at : (List ℕ → State P) → List ℕ → ℕ
    left_at s c = size provenance (macros c) names (within c) (s c)

    -- how many steps all configurations have left
    unfoldable pub steps_left : (List ℕ → Bool) → (List ℕ → State P) → ℕ
    steps_left has s = total_of arities has (left_at s)

    step-le : (c : List ℕ) (s t : State P) → Moves provenance (macros c) s t ⊎ (s ≡ t) → size provenance (macros c) names (within c) t ≤ size provenance (macros c) names (within c) s
    step-le c s t (inl m) = let less = size-move provenance (macros c) names (within c) s t m in omega arith
    step-le c s t (inr same) = subst (λ u. size provenance (macros c) names (within c) u ≤ size provenance (macros c) names (within c) s) same (omega arith)

    turn-each : (has still : List ℕ → Bool) (s t : List ℕ → State P) → IsTurn has still s t → (c : List ℕ) → IsConfig arities c → still c ≡ true → (has c ≡ true) × (left_at t c ≤ left_at s c)
    turn-each has still s t turn c config here = let one = turn.each c config here in (one.0, step-le c (s c) (t c) one.1)

    pub turn-le : (has still : List ℕ → Bool) (s t : List ℕ → State P) → IsTurn has still s t → steps_left still t ≤ steps_left has s
    unfolding steps_left
    turn-le has still s t turn = total_of-le arities has still (left_at s) (left_at t) (turn-each has still s t turn)

    pub turn-less : (has still : List ℕ → Bool) (s t : List ℕ → State P) → IsTurn has still s t → (config : List ℕ) → TakesPart has still s t config → steps_left still t < steps_left has s
    unfolding steps_left
    turn-less has still s t turn config part =
        total_of-less arities has still (left_at s) (left_at t) config part.listed (turn-each has still s t turn) part.here
        (λ here. size-move provenance (macros config) names (within config) (s config) (t config) (part.moves here)) (size-pos provenance (macros config) names (within config) (s config))
