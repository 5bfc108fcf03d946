-- Numbers of subparsers, and what becomes of them.
use Rattle.std.proofs.Common.{◌≡◌, ℕ, zero, suc, ◌+◌, ◌<◌, ◌≤◌, ◌==◌, Bool, true, false, List, [], ◌∷◌, ◌++◌, All, length, slice_get, Option, Some, None, if◌then◌else◌, refl, sym, ap, ◌∙◌, subst, arith, append_assoc, inl, inr, length-append}
use Rattle.std.specs.Prelude.{slice_set}
use Rattle.std.specs.List.{range_with_len}
use Rattle.std.proofs.lemmas.Bool.{eq-eqb, eqb-false, eqb-true}
use Rattle.std.proofs.lemmas.Bool.Decides.{eqb_tells}
use Rattle.std.proofs.lemmas.List.Elements.{All-append, All-cons, All-head, All-nil, All-tail, All-weaker}
use Rattle.std.proofs.lemmas.Option.{slice_get_within}
use Rattle.sc_fork.proofs.ReplaceLemmas.{length-without}
use Rattle.sc_fork.specs.declared.event.Event.{Event}
use Rattle.sc_fork.specs.View.{View}
use Rattle.sc_fork.specs.declared.piece.Piece.{Piece}
use Rattle.sc_fork.specs.declared.piece.Piece.TheVariants.{Going, Over}
use Rattle.sc_fork.specs.Enabled.{Has}
use Rattle.sc_fork.specs.Pieces.{HasMade, IfGoing, going_of, numbers_of, without}
use Rattle.sc_merge.specs.declared.subparser.Subparser.{Subparser}
use Rattle.sc_model.proofs.ListLemmas.{slice_get-front, slice_get-seam}
use Rattle.sc_parse.specs.Numbers.{AreNumbers, Each, filled_at, one_for, Replaces, times}

-- ---- how often a number is there

pub times-append : (n : ℕ) (xs ys : List ℕ) → times n (xs ++ ys) ≡ times n xs + times n ys
times-append n [] ys = omega arith
times-append n (x ∷ xs) ys = omega (arith, times-append n xs ys)

abbrev pub one_if : Bool → ℕ
one_if b = if b then 1 else 0

pub times-head : (n : ℕ) (ns : List ℕ) → times n (n ∷ ns) ≡ 1 + times n ns
times-head n ns = ap (λ b. one_if b + times n ns) (eq-eqb n n refl)

-- what holds of each number holds of one that is there
pub all-times : (Q : ℕ → Type 0) (xs : List ℕ) (n : ℕ) → All Q xs → 0 < times n xs → Q n
all-times Q [] n all some = absurd (omega (arith, some))
all-times Q (x ∷ xs) n all some = elim (eqb_tells n x) [
  | inl same ↦ subst Q (sym same.1) (All-head Q x xs all)
  | inr other ↦ all-times Q xs n (All-tail Q x xs all) (omega (arith, some, ap one_if other.0))
]

pub times-all : (Q : ℕ → Type 0) (xs : List ℕ) → ((n : ℕ) → 0 < times n xs → Q n) → All Q xs
times-all Q [] each = All-nil Q
times-all Q (x ∷ xs) each =
    All-cons Q x xs (each x (omega (arith, times-head x xs))) (times-all Q xs (λ n some. each n (omega (arith, some))))

one_for-most : (row : Option (Option Subparser)) → one_for row ≤ 1
one_for-most None = omega arith
one_for-most (Some None) = omega arith
one_for-most (Some (Some s)) = omega arith

-- no number has two subparsers
pub filled-most : (rows : List (Option Subparser)) (n : ℕ) → filled_at rows n ≤ 1
filled-most rows n = one_for-most (slice_get rows n)

pub filled : (rows : List (Option Subparser)) (n : ℕ) (s : Subparser) → Has rows n s → filled_at rows n ≡ 1
filled rows n s has = ap one_for has

pub has-filled : (rows : List (Option Subparser)) (n : ℕ) → 0 < filled_at rows n → (s : Subparser) × Has rows n s
has-filled rows n full = by (slice_get rows n) refl
  where
    by : (row : Option (Option Subparser)) → slice_get rows n ≡ row → (s : Subparser) × Has rows n s
    by None e = absurd (omega (arith, full, ap one_for e))
    by (Some None) e = absurd (omega (arith, full, ap one_for e))
    by (Some (Some s)) e = (s, e)

-- ---- lists of numbers

pub first-number : (rows : List (Option Subparser)) (n : ℕ) (ns : List ℕ) → AreNumbers rows (n ∷ ns) → (s : Subparser) × Has rows n s
first-number rows n ns are = has-filled rows n (omega (arith, are.once n, times-head n ns))

pub one-number : (rows : List (Option Subparser)) (n : ℕ) (s : Subparser) → Has rows n s → AreNumbers rows (n ∷ [])
one-number rows n s has = record {
  once = λ m. elim (eqb_tells m n) [
    | inl same ↦ subst (λ k. times k (n ∷ []) ≤ filled_at rows k) (sym same.1) (omega (arith, filled rows n s has, times-head n []))
    | inr other ↦ omega (arith, ap one_if other.0)
  ];
}

-- with no more of each number
pub fewer-numbers : (rows : List (Option Subparser)) (xs ys : List ℕ) → AreNumbers rows xs → ((n : ℕ) → times n ys ≤ times n xs) → AreNumbers rows ys
fewer-numbers rows xs ys are fewer = record { once = λ n. omega (arith, are.once n, fewer n) }

some-of : (a b : ℕ) → (a ≡ 0 → b ≡ 0) → 0 < b → 0 < a
some-of zero b none some = absurd (omega (arith, some, none refl))
some-of (suc a) b none some = omega arith

-- each number that is in the second list at all has the subparser
pub each-of : (P : Subparser → Type 0) (rows : List (Option Subparser)) (xs ys : List ℕ) → Each P rows xs → ((n : ℕ) → times n xs ≡ 0 → times n ys ≡ 0) → Each P rows ys
each-of P rows xs ys each within =
    let Q : ℕ → Type 0 = λ n. (s : Subparser) × (Has rows n s × P s) in
    times-all Q ys (λ n some. all-times Q xs n each (some-of (times n xs) (times n ys) (within n) some))

pub each-append : (P : Subparser → Type 0) (rows : List (Option Subparser)) (xs ys : List ℕ) → Each P rows xs → Each P rows ys → Each P rows (xs ++ ys)
each-append P rows xs ys first second = All-append (λ n. (s : Subparser) × (Has rows n s × P s)) xs ys first second

pub each-then : (P Q : Subparser → Type 0) (rows : List (Option Subparser)) (ns : List ℕ) → ((s : Subparser) → P s → Q s) → Each P rows ns → Each Q rows ns
each-then P Q rows ns by each =
    All-weaker (λ n. (s : Subparser) × (Has rows n s × P s)) (λ n. (s : Subparser) × (Has rows n s × Q s)) (λ n h. (h.0, (h.1.0, by h.0 h.1.1))) ns each

pub each-both : (P Q : Subparser → Type 0) (rows : List (Option Subparser)) (ns : List ℕ) → Each P rows ns → Each Q rows ns → Each (λ s. P s × Q s) rows ns
each-both P Q rows ns first second =
    times-all (λ n. (s : Subparser) × (Has rows n s × (P s × Q s))) ns (λ n some.
    let p = all-times (λ m. (s : Subparser) × (Has rows m s × P s)) ns n first some in
    let q = all-times (λ m. (s : Subparser) × (Has rows m s × Q s)) ns n second some in
    let same : q.0 ≡ p.0 = cc (q.1.0, p.1.0) in
    (p.0, (p.1.0, (p.1.1, subst Q same q.1.1))))

-- ---- what replaces them

pub replaces-same : (rows : List (Option Subparser)) (ns : List ℕ) → Replaces rows rows ns ns
replaces-same rows ns = record { counts = λ n. refl; kept = λ n s has none. has }

-- One after the other: those that go are among the first that go or those that came.
pub replaces-then : (first second third : List (Option Subparser)) (gone made others news all ends : List ℕ) → Replaces first second gone made → Replaces second third others news
    → ((n : ℕ) → times n gone + times n others + times n ends ≡ times n all + times n made + times n news)
    → ((n : ℕ) → times n all ≡ 0 → times n gone ≡ 0) → ((n : ℕ) → times n all ≡ 0 → times n made ≡ 0 → times n others ≡ 0) → Replaces first third all ends
replaces-then first second third gone made others news all ends one two counts within come = record {
  counts = λ n. omega (arith, one.counts n, two.counts n, counts n);
  kept = λ n s has none.
      let new : Has second n s = one.kept n s has (within n none) in
      let one_at : filled_at first n ≡ 1 = filled first n s has in
      let most : filled_at second n ≤ 1 = filled-most second n in
      let no_gone : times n gone ≡ 0 = within n none in
      let no_made : times n made ≡ 0 = omega (arith, one.counts n) in
      two.kept n s new (come n none no_made);
}

pub numbers-after : (old new : List (Option Subparser)) (gone made : List ℕ) → Replaces old new gone made → AreNumbers old gone → AreNumbers new made
numbers-after old new gone made replaces are = record { once = λ n. omega (arith, replaces.counts n, are.once n) }

pub each-kept : (P : Subparser → Type 0) (old new : List (Option Subparser)) (gone made ns : List ℕ) → Replaces old new gone made → Each P old ns
    → ((n : ℕ) → 0 < times n ns → times n gone ≡ 0) → Each P new ns
each-kept P old new gone made ns replaces each apart =
    times-all (λ n. (s : Subparser) × (Has new n s × P s)) ns (λ n some.
    let has = all-times (λ m. (s : Subparser) × (Has old m s × P s)) ns n each some in
    (has.0, (replaces.kept n has.0 has.1.0 (apart n some), has.1.1)))

-- ---- what an event makes

set-same : (rows : List (Option Subparser)) (k : ℕ) → filled_at (slice_set rows k None) k ≡ 0
set-same [] k = refl
set-same (row ∷ rows) zero = refl
set-same (row ∷ rows) (suc k) = set-same rows k

pub set-other : {A : Type 0} (xs : List A) (k n : ℕ) (x : A) → (n ≡ k → ⊥) → slice_get (slice_set xs k x) n ≡ slice_get xs n
set-other [] k n x other = refl
set-other (y ∷ xs) zero zero x other = absurd (other refl)
set-other (y ∷ xs) zero (suc n) x other = refl
set-other (y ∷ xs) (suc k) zero x other = refl
set-other (y ∷ xs) (suc k) (suc n) x other = set-other xs k n x (λ same. other (ap suc same))

less-set : (rows : List (Option Subparser)) (k n : ℕ) (ks : List ℕ) → times n (k ∷ ks) ≤ filled_at rows n
    → (times n ks ≤ filled_at (slice_set rows k None) n) × (filled_at (slice_set rows k None) n + one_if (n == k) ≡ filled_at rows n)
less-set rows k n ks few = by (n == k) refl
  where
    by : (b : Bool) → (n == k) ≡ b → (times n ks ≤ filled_at (slice_set rows k None) n) × (filled_at (slice_set rows k None) n + one_if (n == k) ≡ filled_at rows n)
    by true e =
        let one : one_if (n == k) ≡ 1 = ap one_if e in
        let gone : filled_at (slice_set rows k None) n ≡ 0 = ap (filled_at (slice_set rows k None)) (eqb-true n k e) ∙ set-same rows k in
        let most = filled-most rows n in
        (omega (arith, few, one, most), omega (arith, few, one, gone, most))
    by false e =
        let none : one_if (n == k) ≡ 0 = ap one_if e in
        let same : filled_at (slice_set rows k None) n ≡ filled_at rows n = ap one_for (set-other rows k n None (eqb-false n k e)) in
        (omega (arith, few, none, same), omega (arith, none, same))

filled-without : (rows : List (Option Subparser)) (ks : List ℕ) (n : ℕ) → AreNumbers rows ks → filled_at (without ks rows) n + times n ks ≡ filled_at rows n
filled-without rows [] n are = omega arith
filled-without rows (k ∷ ks) n are =
    let fewer : AreNumbers (slice_set rows k None) ks = record { once = λ m. (less-set rows k m ks (are.once m)).0 } in
    let rest = filled-without (slice_set rows k None) ks n fewer in
    let first = (less-set rows k n ks (are.once n)).1 in
    omega (arith, rest, first)

has-without : (rows : List (Option Subparser)) (ks : List ℕ) (n : ℕ) (s : Subparser) → times n ks ≡ 0 → Has rows n s → Has (without ks rows) n s
has-without rows [] n s none has = has
has-without rows (k ∷ ks) n s none has = elim (eqb_tells n k) [
  | inl same ↦ absurd (omega (arith, none, ap one_if same.0))
  | inr other ↦ has-without (slice_set rows k None) ks n s (omega (arith, none)) (set-other rows k n None other.1 ∙ has)
]

-- a number before a range is not in it
times-before : (n a m : ℕ) → n < a → times n (range_with_len a m) ≡ 0
times-before n a zero low = refl
times-before n a (suc m) low = elim (eqb_tells n a) [
  | inl same ↦ absurd (omega (arith, low, same.1))
  | inr other ↦ omega (arith, ap one_if other.0, times-before n (a + 1) m (omega (arith, low)))
]

times-first : (a m : ℕ) → times a (range_with_len a (suc m)) ≡ 1
times-first a m = omega (arith, times-head a (range_with_len (a + 1) m), times-before a (a + 1) m (omega arith))

times-later : (n a m : ℕ) → a < n → times n (range_with_len a (suc m)) ≡ times n (range_with_len (a + 1) m)
times-later n a m high = elim (eqb_tells n a) [
  | inl same ↦ absurd (omega (arith, high, same.1))
  | inr other ↦ omega (arith, ap one_if other.0)
]

-- the numbers of pieces that go on are those of a range
filled-going : (pieces : List Piece) (a n k : ℕ) → k ≡ a + n → filled_at (going_of pieces) n ≡ times k (range_with_len a (length (going_of pieces)))
filled-going [] a n k e = refl
filled-going (Over x ∷ pieces) a n k e = filled-going pieces a n k e
filled-going (Going s ∷ pieces) a zero k e =
    subst (λ m. 1 ≡ times m (range_with_len a (suc (length (going_of pieces))))) (let same : a ≡ k = omega (arith, e) in same) (sym (times-first a (length (going_of pieces))))
filled-going (Going s ∷ pieces) a (suc n) k e =
    filled-going pieces (a + 1) n k (omega (arith, e)) ∙ sym (times-later k a (length (going_of pieces)) (omega (arith, e)))

filled-behind : (xs : List (Option Subparser)) (pieces : List Piece) (a n k : ℕ) → k ≡ a + n
    → filled_at (xs ++ going_of pieces) n ≡ filled_at xs n + times k (range_with_len (a + length xs) (length (going_of pieces)))
filled-behind [] pieces a n k e = filled-going pieces (a + 0) n k (omega (arith, e)) ∙ (let none : times k (range_with_len (a + 0) (length (going_of pieces))) ≡ 0 + times k (range_with_len (a + 0) (length (going_of pieces))) = omega arith in none)
filled-behind (x ∷ xs) pieces a zero k e =
    omega (arith, times-before k (a + length (x ∷ xs)) (length (going_of pieces)) (omega (arith, e)))
filled-behind (x ∷ xs) pieces a (suc n) k e =
    filled-behind xs pieces (a + 1) n k (omega (arith, e))
    ∙ ap (λ b. filled_at xs n + times k (range_with_len b (length (going_of pieces)))) (let same : (a + 1) + length xs ≡ a + length (x ∷ xs) = omega arith in same)

pub event-replaces : (before after : View) (event : Event) (made : List ℕ) → HasMade before event after made → AreNumbers before.subparsers (numbers_of event)
    → Replaces before.subparsers after.subparsers (numbers_of event) made
event-replaces before after event made has are =
    let rows = before.subparsers in
    let left = without (numbers_of event) rows in
    let long : length left ≡ length rows = length-without (numbers_of event) rows in
    record {
      counts = λ n.
          let behind : filled_at after.subparsers n ≡ filled_at left n + times n made =
          ap (λ rs. filled_at rs n) has.becomes.rows ∙ filled-behind left has.pieces 0 n n (omega arith)
          ∙ ap (λ b. filled_at left n + times n (range_with_len b (length (going_of has.pieces)))) (let same : 0 + length left ≡ length rows = omega arith in same)
          ∙ ap (λ ns. filled_at left n + times n ns) (sym has.becomes.numbers)
          in
          omega (arith, behind, filled-without rows (numbers_of event) n are);
      kept = λ n s old none.
          let there : Has left n s = has-without rows (numbers_of event) n s none old in
          let front = slice_get-front left (going_of has.pieces) n (slice_get_within left n (Some s) there) in
          subst (λ rs. Has rs n s) (sym has.becomes.rows) (front ∙ there);
    }

each-behind : (P : Subparser → Type 0) (rows : List (Option Subparser)) (pieces : List Piece) (a : ℕ) → All (IfGoing P) pieces → a ≡ length rows
    → Each P (rows ++ going_of pieces) (range_with_len a (length (going_of pieces)))
each-behind P rows [] a all e = All-nil (λ n. (s : Subparser) × (Has (rows ++ []) n s × P s))
each-behind P rows (Over x ∷ pieces) a all e = each-behind P rows pieces a (All-tail (IfGoing P) (Over x) pieces all) e
each-behind P rows (Going s ∷ pieces) a all e =
    let whole = rows ++ Some s ∷ going_of pieces in
    let has : Has whole a s = subst (λ n. Has whole n s) (sym e) (slice_get-seam rows (Some s) (going_of pieces)) in
    let rest = each-behind P (rows ++ Some s ∷ []) pieces (a + 1) (All-tail (IfGoing P) (Going s) pieces all) (omega (arith, e, length-append rows (Some s ∷ []))) in
    All-cons (λ n. (t : Subparser) × (Has whole n t × P t)) a (range_with_len (a + 1) (length (going_of pieces)))
    (s, (has, All-head (IfGoing P) (Going s) pieces all))
    (subst (λ rs. Each P rs (range_with_len (a + 1) (length (going_of pieces)))) (append_assoc rows (Some s ∷ []) (going_of pieces)) rest)

pub made-each : (P : Subparser → Type 0) (before after : View) (event : Event) (made : List ℕ) (h : HasMade before event after made) → All (IfGoing P) h.pieces
    → Each P after.subparsers made
made-each P before after event made h pieces =
    let left = without (numbers_of event) before.subparsers in
    subst (λ ns. Each P after.subparsers ns) (sym h.becomes.numbers)
    (subst (λ rs. Each P rs (range_with_len (length before.subparsers) (length (going_of h.pieces)))) (sym h.becomes.rows)
    (each-behind P left h.pieces (length before.subparsers) pieces (sym (length-without (numbers_of event) before.subparsers))))
