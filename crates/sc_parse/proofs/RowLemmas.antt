-- Rows of numbers, and the subparsers that have these.
use Rattle.std.proofs.Common.{◌≡◌, ℕ, zero, suc, ◌+◌, ◌<◌, ◌≤◌, inl, inr, List, [], ◌∷◌, ◌++◌, All, length, Option, Some, refl, sym, ap, ◌∙◌, subst, arith, length-append, get_or}
use Rattle.std.specs.Global.{Vec}
use Rattle.std.specs.List.{flat_map}
use Rattle.std.specs.Prelude.{AllPairs, slice_get, slice_set}
use Rattle.std.specs.Vec.{with_item}
use Rattle.std.proofs.lemmas.Bool.Decides.{eqb_tells}
use Rattle.std.proofs.lemmas.List.Elements.{All-append, All-nil, All-cons, All-contains, All-head, All-tail, All-weaker}
use Rattle.std.proofs.lemmas.List.Kept.{AllPairs-cons}
use Rattle.std.proofs.lemmas.Option.{same_Some, none-some, slice_get-get_or, slice_get_read, slice_get_within}
use Rattle.c11_parsing.specs.Classes.{Input}
use Rattle.c11_parsing.specs.Core as core
use Rattle.sc_fork.specs.Enabled.{Has}
use Rattle.sc_merge.specs.declared.subparser.Phase.TheVariants.{At}
use Rattle.sc_merge.specs.declared.subparser.Subparser.{Subparser}
use Rattle.sc_merge.specs.Keys.{AreAlike}
use Rattle.sc_merge.specs.Merges.{tables_with}
use Rattle.sc_model.specs.Sets.{Sets}
use Rattle.sc_parse.proofs.MergeLemmas.{same-subparser, times-at}
use Rattle.sc_parse.proofs.NumberLemmas.{set-other, filled-most, times-append, each-of, each-then, each-kept}
use Rattle.sc_parse.proofs.RunLemmas.{waiting-kept}
use Rattle.sc_parse.specs.declared.rows.Rows.{Rows}
use Rattle.sc_parse.specs.declared.steps.Steps.{Steps}
use Rattle.sc_parse.specs.Filed.{AreFiled, HasNoneBefore, numbers_in}
use Rattle.sc_parse.specs.Numbers.{AreApart, AreLike, AreNumbers, Each, IsAt, IsLikeOne, Replaces, times}
use Rattle.sc_parse.specs.Runs.{AreWaiting, GoesOn, IsRun, IsWaiting, OwnsSteps}
use Rattle.sc_tree.specs.Lines.{Line}

-- the numbers of rows, one row after the other
abbrev pub numbers_of : List (Vec ℕ) → List ℕ
numbers_of rows = flat_map (λ (row : Vec ℕ). row.items) rows

-- ---- rows without numbers

abbrev pub IsEmpty : Vec ℕ → Type 0
IsEmpty row = row.items ≡ []

pub no-numbers : (rows : List (Vec ℕ)) → All IsEmpty rows → numbers_of rows ≡ []
no-numbers [] empty = refl
no-numbers (row ∷ rows) empty =
    ap (λ ns. ns ++ numbers_of rows) (All-head IsEmpty row rows empty) ∙ no-numbers rows (All-tail IsEmpty row rows empty)

empty-row : (rows : List (Vec ℕ)) (k : ℕ) (row : Vec ℕ) → All IsEmpty rows → slice_get rows k ≡ Some row → row.items ≡ []
empty-row rows k row empty at =
    let below = slice_get_within rows k row at in
    let same = same_Some (get_or rows k row) row (sym (slice_get-get_or rows k row below) ∙ at) in
    subst IsEmpty same (empty k row below)

pub empty-filed : (subparsers : List (Option Subparser)) (r : Rows) → All IsEmpty r.rows.items → r.count ≡ 0 → AreFiled subparsers r
empty-filed subparsers r empty none = record {
  at = λ k row is. subst (Each (IsAt k) subparsers) (sym (empty-row r.rows.items k row empty is)) (All-nil (λ (n : ℕ). (s : Subparser) × (Has subparsers n s × IsAt k s)));
  apart = λ k row is. subst (AreApart subparsers) (sym (empty-row r.rows.items k row empty is)) (λ i j d low below. absurd (omega (arith, below)));
  count = none ∙ ap length (sym (no-numbers r.rows.items empty));
  few = omega (arith, none);
}

-- ---- one row is set

pub set-same : {A : Type 0} (xs : List A) (k : ℕ) (x y : A) → slice_get (slice_set xs k x) k ≡ Some y → y ≡ x
set-same [] k x y at = absurd (none-some y at)
set-same (z ∷ xs) zero x y at = sym (same_Some x y at)
set-same (z ∷ xs) (suc k) x y at = set-same xs k x y at

pub set-times : (rows : List (Vec ℕ)) (k n : ℕ) (row next : Vec ℕ) → slice_get rows k ≡ Some row
    → times n (numbers_of (slice_set rows k next)) + times n row.items ≡ times n (numbers_of rows) + times n next.items
set-times [] k n row next at = absurd (none-some row at)
set-times (first ∷ rows) zero n row next at =
    let same = ap (λ (r : Vec ℕ). times n r.items) (same_Some first row at) in
    omega (arith, same, times-append n first.items (numbers_of rows), times-append n next.items (numbers_of rows))
set-times (first ∷ rows) (suc k) n row next at =
    omega (arith, set-times rows k n row next at, times-append n first.items (numbers_of rows), times-append n first.items (numbers_of (slice_set rows k next)))

pub set-count : (rows : List (Vec ℕ)) (k : ℕ) (row next : Vec ℕ) → slice_get rows k ≡ Some row
    → length (numbers_of (slice_set rows k next)) + length row.items ≡ length (numbers_of rows) + length next.items
set-count [] k row next at = absurd (none-some row at)
set-count (first ∷ rows) zero row next at =
    let same = ap (λ (r : Vec ℕ). length r.items) (same_Some first row at) in
    omega (arith, same, length-append first.items (numbers_of rows), length-append next.items (numbers_of rows))
set-count (first ∷ rows) (suc k) row next at =
    omega (arith, set-count rows k row next at, length-append first.items (numbers_of rows), length-append first.items (numbers_of (slice_set rows k next)))

-- ---- the numbers of rows

pub row-times : (rows : List (Vec ℕ)) (k n : ℕ) (row : Vec ℕ) → slice_get rows k ≡ Some row → times n row.items ≤ times n (numbers_of rows)
row-times [] k n row at = absurd (none-some row at)
row-times (first ∷ rows) zero n row at =
    let same = ap (λ (r : Vec ℕ). times n r.items) (same_Some first row at) in
    omega (arith, same, times-append n first.items (numbers_of rows))
row-times (first ∷ rows) (suc k) n row at = omega (arith, row-times rows k n row at, times-append n first.items (numbers_of rows))

pub two-times : (rows : List (Vec ℕ)) (j k n : ℕ) (one two : Vec ℕ) → (j ≡ k → ⊥) → slice_get rows j ≡ Some one → slice_get rows k ≡ Some two
    → times n one.items + times n two.items ≤ times n (numbers_of rows)
two-times [] j k n one two other at_j at_k = absurd (none-some one at_j)
two-times (first ∷ rows) zero zero n one two other at_j at_k = absurd (other refl)
two-times (first ∷ rows) zero (suc k) n one two other at_j at_k =
    let same = ap (λ (r : Vec ℕ). times n r.items) (same_Some first one at_j) in
    omega (arith, same, row-times rows k n two at_k, times-append n first.items (numbers_of rows))
two-times (first ∷ rows) (suc j) zero n one two other at_j at_k =
    let same = ap (λ (r : Vec ℕ). times n r.items) (same_Some first two at_k) in
    omega (arith, same, row-times rows j n one at_j, times-append n first.items (numbers_of rows))
two-times (first ∷ rows) (suc j) (suc k) n one two other at_j at_k =
    omega (arith, two-times rows j k n one two (λ e. other (ap suc e)) at_j at_k, times-append n first.items (numbers_of rows))

pub row-count : (rows : List (Vec ℕ)) (k : ℕ) (row : Vec ℕ) → slice_get rows k ≡ Some row → length row.items ≤ length (numbers_of rows)
row-count [] k row at = absurd (none-some row at)
row-count (first ∷ rows) zero row at =
    let same = ap (λ (r : Vec ℕ). length r.items) (same_Some first row at) in
    omega (arith, same, length-append first.items (numbers_of rows))
row-count (first ∷ rows) (suc k) row at = omega (arith, row-count rows k row at, length-append first.items (numbers_of rows))

-- ---- rows after one was set

abbrev pub with_row : Rows → ℕ → Vec ℕ → ℕ → Rows
with_row r k next count = record { rows = with_item r.rows k next; count = count; branches = r.branches }

pub set-filed : (subparsers : List (Option Subparser)) (r : Rows) (k count : ℕ) (next : Vec ℕ) → Each (IsAt k) subparsers next.items → AreApart subparsers next.items
    → ((j : ℕ) (row : Vec ℕ) → (j ≡ k → ⊥) → slice_get r.rows.items j ≡ Some row → Each (IsAt j) subparsers row.items × AreApart subparsers row.items)
    → count ≡ length (numbers_of (slice_set r.rows.items k next)) → count ≤ r.branches → AreFiled subparsers (with_row r k next count)
set-filed subparsers r k count next at apart others counted few = record {
  at = λ j row is. elim (eqb_tells j k) [
    | inl same ↦
        subst (λ (x : Vec ℕ). Each (IsAt j) subparsers x.items) (sym (set-same r.rows.items k next row (subst (λ n. slice_get (slice_set r.rows.items k next) n ≡ Some row) same.1 is)))
        (subst (λ n. Each (IsAt n) subparsers next.items) (sym same.1) at)
    | inr other ↦ (others j row other.1 (sym (set-other r.rows.items k j next other.1) ∙ is)).0
  ];
  apart = λ j row is. elim (eqb_tells j k) [
    | inl same ↦
        subst (λ (x : Vec ℕ). AreApart subparsers x.items) (sym (set-same r.rows.items k next row (subst (λ n. slice_get (slice_set r.rows.items k next) n ≡ Some row) same.1 is))) apart
    | inr other ↦ (others j row other.1 (sym (set-other r.rows.items k j next other.1) ∙ is)).1
  ];
  count = counted;
  few = few;
}

pub set-none : (r : Rows) (i k count : ℕ) (next : Vec ℕ) → (k < i → next.items ≡ []) → ((j : ℕ) → j < i → (j ≡ k → ⊥) → (row : Vec ℕ) → slice_get r.rows.items j ≡ Some row → row.items ≡ [])
    → HasNoneBefore (with_row r k next count) i
set-none r i k count next empty others = record {
  empty = λ j row below is. elim (eqb_tells j k) [
    | inl same ↦
        subst IsEmpty (sym (set-same r.rows.items k next row (subst (λ n. slice_get (slice_set r.rows.items k next) n ≡ Some row) same.1 is))) (empty (subst (λ n. n < i) same.1 below))
    | inr other ↦ others j below other.1 row (sym (set-other r.rows.items k j next other.1) ∙ is)
  ];
}

-- ---- a row is taken

module _ (r : Rows) (k : ℕ) (row next : Vec ℕ) (at : slice_get r.rows.items k ≡ Some row) (empty : next.items ≡ []) where
  pub take-times : (n : ℕ) → times n (numbers_of (slice_set r.rows.items k next)) + times n row.items ≡ times n (numbers_in r)
  take-times n = omega (arith, set-times r.rows.items k n row next at, ap (times n) empty)

  pub take-filed : (subparsers : List (Option Subparser)) (count : ℕ) → count + length row.items ≡ r.count → AreFiled subparsers r → AreFiled subparsers (with_row r k next count)
  take-filed subparsers count less filed =
      set-filed subparsers r k count next (subst (Each (IsAt k) subparsers) (sym empty) (All-nil (λ (n : ℕ). (s : Subparser) × (Has subparsers n s × IsAt k s))))
      (subst (AreApart subparsers) (sym empty) (λ i j d low below. absurd (omega (arith, below)))) (λ j other apart is. (filed.at j other is, filed.apart j other is))
      (omega (arith, set-count r.rows.items k row next at, ap length empty, less, filed.count)) (omega (arith, less, filed.few))

  pub take-none : (count : ℕ) → HasNoneBefore r k → HasNoneBefore (with_row r k next count) (k + 1)
  take-none count none = set-none r (k + 1) k count next (λ below. empty) (λ j below other x is. none.empty j x (omega (arith, below, other)) is)

-- ---- a subparser is put into its row

-- subparsers that stay are as unlike as they were
pub apart-kept : (P : Subparser → Type 0) (old new : List (Option Subparser)) (gone made ns : List ℕ) → Replaces old new gone made → Each P old ns
    → ((n : ℕ) → 0 < times n ns → times n gone ≡ 0) → AreApart old ns → AreApart new ns
apart-kept P old new gone made ns replaces each stays apart = λ i j d low below s t has_s has_t.
    let one = each i d (omega (arith, low, below)) in
    let two = each j d below in
    let first = replaces.kept (get_or ns i d) one.0 one.1.0 (stays (get_or ns i d) (times-at ns i d (omega (arith, low, below)))) in
    let second = replaces.kept (get_or ns j d) two.0 two.1.0 (stays (get_or ns j d) (times-at ns j d below)) in
    let same_s : one.0 ≡ s = same-subparser new (get_or ns i d) one.0 s first has_s in
    let same_t : two.0 ≡ t = same-subparser new (get_or ns j d) two.0 t second has_t in
    apart i j d low below s t (subst (λ x. Has old (get_or ns i d) x) same_s one.1.0) (subst (λ x. Has old (get_or ns j d) x) same_t two.1.0)

module _ (old new : List (Option Subparser)) (r : Rows) (k number : ℕ) (row next : Vec ℕ) (at : slice_get r.rows.items k ≡ Some row)
    (are : AreNumbers old (number ∷ numbers_in r)) (replaces : Replaces old new (number ∷ row.items) next.items) where
  -- the numbers of another row stay
  pub others-stay : (j : ℕ) (other : Vec ℕ) → (j ≡ k → ⊥) → slice_get r.rows.items j ≡ Some other → (n : ℕ) → 0 < times n other.items → times n (number ∷ row.items) ≡ 0
  others-stay j other apart is n some = omega (arith, some, are.once n, filled-most old n, two-times r.rows.items j k n other row apart is at)

  pub put-replaces : Replaces old new (number ∷ numbers_in r) (numbers_of (slice_set r.rows.items k next))
  put-replaces = record {
    counts = λ n. omega (arith, replaces.counts n, set-times r.rows.items k n row next at);
    kept = λ n s has none. replaces.kept n s has (omega (arith, none, row-times r.rows.items k n row at));
  }

  pub put-filed : (count : ℕ) → AreFiled old r → Each (IsAt k) old (number ∷ []) → AreLike old (number ∷ row.items) new next.items
      → (AreApart old row.items → AreApart new next.items) → count + (1 + length row.items) ≡ r.count + (1 + length next.items) → count ≤ r.branches
      → AreFiled new (with_row r k next count)
  put-filed count filed phase alike apart counted few =
      set-filed new r k count next (λ i d below. like-at (get_or next.items i d) (alike i d below)) (apart (filed.apart k row at))
      (λ j other distinct is. (
        each-kept (IsAt j) old new (number ∷ row.items) next.items other.items replaces (filed.at j other is) (others-stay j other distinct is),
        apart-kept (IsAt j) old new (number ∷ row.items) next.items other.items replaces (filed.at j other is) (others-stay j other distinct is) (filed.apart j other is),
      ))
      (omega (arith, set-count r.rows.items k row next at, counted, filed.count)) few
    where
      P : ℕ → Type 0
      P n = (s : Subparser) × (Has old n s × IsAt k s)

      before : All P (number ∷ row.items)
      before = All-cons P number row.items (All-head P number [] phase) (filed.at k row at)

      like-at : (n : ℕ) → IsLikeOne old (number ∷ row.items) new n → (s : Subparser) × (Has new n s × IsAt k s)
      like-at n like =
          let was = All-contains P (number ∷ row.items) like.other before like.member in
          (like.now, (like.has, (like.alike was.0 was.1.0).phase ∙ was.1.1))

  pub put-none : (i count : ℕ) → i ≤ k → HasNoneBefore r i → HasNoneBefore (with_row r k next count) i
  put-none i count low none = set-none r i k count next (λ below. absurd (omega (arith, below, low))) (λ j below other x is. none.empty j x below is)

-- ---- all rows

module _ {A : Type 0} (R : A → A → Type 0) where
  pub pairs-head : (x : A) (xs : List A) → AllPairs R (x ∷ xs) → All (R x) xs
  pairs-head x xs pairs = λ k d below. pairs 0 (suc k) d (omega arith) (omega (arith, below))

  pub pairs-tail : (x : A) (xs : List A) → AllPairs R (x ∷ xs) → AllPairs R xs
  pairs-tail x xs pairs = λ i j d low below. pairs (suc i) (suc j) d (omega (arith, low)) (omega (arith, below))

  pairs-append : (xs ys : List A) → AllPairs R xs → AllPairs R ys → All (λ x. All (R x) ys) xs → AllPairs R (xs ++ ys)
  pairs-append [] ys first second between = second
  pairs-append (x ∷ xs) ys first second between =
      AllPairs-cons R x (xs ++ ys) (All-append (R x) xs ys (pairs-head x xs first) (All-head (λ y. All (R y) ys) x xs between))
      (pairs-append xs ys (pairs-tail x xs first) second (All-tail (λ y. All (R y) ys) x xs between))

module _ (P : Subparser → Type 0) (subparsers : List (Option Subparser)) where
  pub each-row : (rows : List (Vec ℕ)) (k : ℕ) (row : Vec ℕ) → slice_get rows k ≡ Some row → Each P subparsers (numbers_of rows) → Each P subparsers row.items
  each-row rows k row at each = each-of P subparsers (numbers_of rows) row.items each (λ n none. omega (arith, none, row-times rows k n row at))

  pub each-in : (rows : List (Vec ℕ)) → ((k : ℕ) (row : Vec ℕ) → slice_get rows k ≡ Some row → Each P subparsers row.items) → Each P subparsers (numbers_of rows)
  each-in [] each = All-nil (λ (n : ℕ). (s : Subparser) × (Has subparsers n s × P s))
  each-in (row ∷ rows) each =
      All-append (λ (n : ℕ). (s : Subparser) × (Has subparsers n s × P s)) row.items (numbers_of rows) (each 0 row refl) (each-in rows (λ k other is. each (suc k) other is))

-- an element behind this one comes next
abbrev IsBehind : ℕ → Subparser → Type 0
IsBehind k s = (j : ℕ) × (k < j × IsAt j s)

module _ (subparsers : List (Option Subparser)) where
  unlike : (k n m : ℕ) → (s : Subparser) × (Has subparsers n s × IsAt k s) → (t : Subparser) × (Has subparsers m t × IsBehind k t)
      → (s t : Subparser) → Has subparsers n s → Has subparsers m t → AreAlike s t → ⊥
  unlike k n m one two s t has_s has_t alike =
      let same_s : one.0 ≡ s = same-subparser subparsers n one.0 s one.1.0 has_s in
      let same_t : two.0 ≡ t = same-subparser subparsers m two.0 t two.1.0 has_t in
      let at : At two.1.1.0 ≡ At k = sym two.1.1.1.1 ∙ ap (λ (x : Subparser). x.phase) same_t ∙ alike.phase ∙ sym (ap (λ (x : Subparser). x.phase) same_s) ∙ one.1.1 in
      let same : two.1.1.0 ≡ k = cc in
      omega (arith, same, two.1.1.1.0)

  apart-from : (base : ℕ) (rows : List (Vec ℕ)) → ((k : ℕ) (row : Vec ℕ) → slice_get rows k ≡ Some row → Each (IsAt (base + k)) subparsers row.items)
      → ((k : ℕ) (row : Vec ℕ) → slice_get rows k ≡ Some row → AreApart subparsers row.items) → AreApart subparsers (numbers_of rows)
  apart-from base [] at apart = λ i j d low below. absurd (omega (arith, below))
  apart-from base (row ∷ rows) at apart =
      let R = λ (n m : ℕ). (s t : Subparser) → Has subparsers n s → Has subparsers m t → AreAlike s t → ⊥ in
      let First = λ (n : ℕ). (s : Subparser) × (Has subparsers n s × IsAt base s) in
      let Behind = λ (n : ℕ). (s : Subparser) × (Has subparsers n s × IsBehind base s) in
      let first : Each (IsAt base) subparsers row.items = subst (λ k. Each (IsAt k) subparsers row.items) (omega arith) (at 0 row refl) in
      let behind : Each (IsBehind base) subparsers (numbers_of rows) =
      each-in (IsBehind base) subparsers rows
      (λ k other is. each-then (IsAt (base + suc k)) (IsBehind base) subparsers other.items (λ s phase. (base + suc k, (omega arith, phase))) (at (suc k) other is))
      in
      pairs-append R row.items (numbers_of rows) (apart 0 row refl)
      (apart-from (suc base) rows (λ k other is. subst (λ j. Each (IsAt j) subparsers other.items) (omega arith) (at (suc k) other is)) (λ k other is. apart (suc k) other is))
      (All-weaker First (λ n. All (R n) (numbers_of rows)) (λ n one. All-weaker Behind (R n) (λ m two. unlike base n m one two) (numbers_of rows) behind) row.items first)

  -- no two subparsers of all rows are alike
  pub all-apart : (r : Rows) → AreFiled subparsers r → AreApart subparsers (numbers_in r)
  all-apart r filed = apart-from 0 r.rows.items (λ k row is. subst (λ j. Each (IsAt j) subparsers row.items) (omega arith) (filed.at k row is)) filed.apart

-- ---- what waits

pub same-phase : (subparsers : List (Option Subparser)) (n k next : ℕ) (s : Subparser) → Each (IsAt k) subparsers (n ∷ []) → Has subparsers n s → IsAt next s → k ≡ next
same-phase subparsers n k next s each has phase =
    let mine = All-head (λ (m : ℕ). (t : Subparser) × (Has subparsers m t × IsAt k t)) n [] each in
    let same : mine.0 ≡ s = same-subparser subparsers n mine.0 s mine.1.0 has in
    let at : At k ≡ At next = sym mine.1.1 ∙ ap (λ (x : Subparser). x.phase) same ∙ phase in
    cc

-- the row of the element that comes next for the subparser
pub row-of : (subparsers : List (Option Subparser)) (rows : List (Vec ℕ)) (n next : ℕ) (s : Subparser) (row : Vec ℕ)
    → (k : ℕ) × (Each (IsAt k) subparsers (n ∷ []) × k < length rows) → Has subparsers n s → IsAt next s → row ≡ get_or rows next row → slice_get rows next ≡ Some row
row-of subparsers rows n next s row within has phase is =
    let same = same-phase subparsers n within.0 next s within.1.0 has phase in
    slice_get_read rows (length rows) next row refl (omega (arith, same, within.1.1)) is

module _ (old new : Sets) (lines added : List Line) (i : ℕ) (s t : Steps) (names files : List (List ℕ)) (input : Input) (first : core.Core)
    (goes : GoesOn old new lines added i s t) (own : OwnsSteps old (length lines) s) (run : IsRun (tables_with old lines names files) input first s) where
  pub put-waits : (r : Rows) (k number : ℕ) (row next : Vec ℕ) → slice_get r.rows.items k ≡ Some row → AreNumbers s.core.subparsers (number ∷ numbers_in r)
      → Replaces s.core.subparsers t.core.subparsers (number ∷ row.items) next.items
      → (AreWaiting old input i s.core.subparsers (number ∷ row.items) → AreWaiting new input i t.core.subparsers next.items)
      → AreWaiting old input i s.core.subparsers (number ∷ numbers_in r) → AreWaiting new input i t.core.subparsers (numbers_of (slice_set r.rows.items k next))
  put-waits r k number row next at are replaces joined waits =
      each-in (IsWaiting new input i) t.core.subparsers (slice_set r.rows.items k next)
      (λ j other is. elim (eqb_tells j k) [
        | inl same ↦
            subst (λ (x : Vec ℕ). AreWaiting new input i t.core.subparsers x.items)
            (sym (set-same r.rows.items k next other (subst (λ n. slice_get (slice_set r.rows.items k next) n ≡ Some other) same.1 is))) (joined mine)
        | inr apart ↦
            let there = sym (set-other r.rows.items k j next apart.1) ∙ is in
            waiting-kept old new lines added i s t names files input first (number ∷ row.items) next.items other.items goes own run replaces
            (each-row (IsWaiting old input i) s.core.subparsers r.rows.items j other there (All-tail P number (numbers_in r) waits))
            (others-stay s.core.subparsers t.core.subparsers r k number row next at are replaces j other apart.1 there)
      ])
    where
      P : ℕ → Type 0
      P n = (x : Subparser) × (Has s.core.subparsers n x × IsWaiting old input i x)

      mine : AreWaiting old input i s.core.subparsers (number ∷ row.items)
      mine =
          each-of (IsWaiting old input i) s.core.subparsers (number ∷ numbers_in r) (number ∷ row.items) waits
          (λ n none. omega (arith, none, row-times r.rows.items k n row at))
