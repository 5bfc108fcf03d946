-- Sets of names as lists in rising order: what each step makes, and that a set is one list.
use Rattle.std.proofs.Common.{◌≡◌, ℕ, ◌<◌, ◌==◌, ◌&&◌, ◌||◌, nat_lt, Bool, true, false, List, [], ◌∷◌, ◌++◌, append_assoc, drop, filter, get_or, length, take, take_all, ◌+◌, ◌-◌, ◌≤◌, add-one, refl, sym, ap, subst, ◌∙◌, inl, inr, ◌⊎◌, arith}
use Rattle.std.specs.List.{list_any}
use Rattle.std.proofs.Math.ListN.{drop_of_length-le}
use Rattle.std.proofs.Math.Seq.{drop-cons}
use Rattle.std.proofs.lemmas.List.{length-drop}
use Rattle.std.proofs.lemmas.List.Folds.{list_any-append, list_any_more}
use Rattle.std.proofs.lemmas.Bool.{cases_Bool, cases_lt, cases_order, eqb-true, true≢false, ltb-true}
use Rattle.std.proofs.lemmas.Bool.Decides.{nat_tests}
use Rattle.sc_base.specs.declared.id.Name.{Name}
use Rattle.sc_subst.specs.Rising.{IsRising, has_name, inserted}

-- each of these names is greater
abbrev pub IsAbove : ℕ → List Name → Type 0
IsAbove n [] = Unit {0}
IsAbove n (x ∷ xs) = n < x.0

pub rising : (x : Name) (xs : List Name) → IsAbove x.0 xs → IsRising xs → IsRising (x ∷ xs)
rising x [] above up = tt
rising x (y ∷ ys) above up = (above, up)

pub above : (x : Name) (xs : List Name) → IsRising (x ∷ xs) → IsAbove x.0 xs
above x [] up = tt
above x (y ∷ ys) up = up.0

pub rest : (x : Name) (xs : List Name) → IsRising (x ∷ xs) → IsRising xs
rest x [] up = tt
rest x (y ∷ ys) up = up.1

less_trans : (a b c : ℕ) → a < b → b < c → a < c
less_trans a b c h k = omega arith

lower : (n : ℕ) (x : ℕ) (xs : List Name) → n < x → IsAbove x xs → IsAbove n xs
lower n x [] h up = tt
lower n x (y ∷ ys) h up = less_trans n x y.0 h up

tells_apart : (a b : ℕ) → a < b → (b == a) ≡ false
tells_apart a b h = grind (arith, nat_tests)

-- a name below is none of these
not_below : (n : Name) (xs : List Name) → IsAbove n.0 xs → IsRising xs → has_name xs n ≡ false
not_below n [] up order = refl
not_below n (x ∷ xs) up order =
    rw (tells_apart n.0 x.0 up) (not_below n xs (lower n.0 x.0 xs up (above x xs order)) (rest x xs order))

pub filter_above : (n : ℕ) (test : Name → Bool) (xs : List Name) → IsAbove n xs → IsRising xs → IsAbove n (filter test xs)
filter_above n test [] up order = tt
filter_above n test (x ∷ xs) up order =
    elim (cases_Bool (test x)) [
      | inl is ↦ rw is up
      | inr other ↦ rw other (filter_above n test xs (lower n x.0 xs up (above x xs order)) (rest x xs order))
    ]

pub filter_rising : (test : Name → Bool) (xs : List Name) → IsRising xs → IsRising (filter test xs)
filter_rising test [] order = tt
filter_rising test (x ∷ xs) order =
    elim (cases_Bool (test x)) [
      | inl is ↦ rw is (rising x (filter test xs) (filter_above x.0 test xs (above x xs order) (rest x xs order)) (filter_rising test xs (rest x xs order)))
      | inr other ↦ rw other (filter_rising test xs (rest x xs order))
    ]

-- ---- two sets in one pass

rising_behind : (made : List Name) (x : Name) (xs ys : List Name) → IsRising (made ++ x ∷ xs) → IsAbove x.0 ys → IsRising ys → IsRising (made ++ x ∷ ys)
rising_behind [] x xs ys up greater order = rising x ys greater order
rising_behind (a ∷ []) x xs ys up greater order = (up.0, rising x ys greater order)
rising_behind (a ∷ (b ∷ made)) x xs ys up greater order = (up.0, rising_behind (b ∷ made) x xs ys up.1 greater order)

rising_end : (made xs : List Name) → IsRising (made ++ xs) → IsRising xs
rising_end [] xs up = up
rising_end (a ∷ made) xs up = rising_end made xs (rest a (made ++ xs) up)

-- what was made stands before the rest of both
pub record AreBehind (made xs ys : List Name) : Type 0 where
  pub one : IsRising (made ++ xs)
  pub two : IsRising (made ++ ys)

-- the next name of the one is less than those of the other
next_name : (made : List Name) (x : Name) (xs ys : List Name) → AreBehind made (x ∷ xs) ys → IsAbove x.0 ys → AreBehind (made ++ x ∷ []) xs ys
next_name made x xs ys both less = record {
  one = subst IsRising (sym (append_assoc made (x ∷ []) xs)) both.one;
  two = subst IsRising (sym (append_assoc made (x ∷ []) ys)) (rising_behind made x xs ys both.one less (rising_end made ys both.two));
}

turned : {made xs ys : List Name} → AreBehind made xs ys → AreBehind made ys xs
turned both = record { one = both.two; two = both.one }

or_first : (b c : Bool) → (c || b) ≡ (b || c)
or_first true true = refl
or_first true false = refl
or_first false true = refl
or_first false false = refl

group : (a b c : Bool) → ((a || b) || c) ≡ (a || (b || c))
group true b c = refl
group false b c = refl

any_next : (test : Name → Bool) (made : List Name) (x : Name) (xs : List Name) → (list_any test (made ++ x ∷ []) || list_any test xs) ≡ (list_any test made || list_any test (x ∷ xs))
any_next test [] x xs = group (test x) false (list_any test xs)
any_next test (a ∷ made) x xs =
    group (test a) (list_any test (made ++ x ∷ [])) (list_any test xs)
    ∙ (ap (λ b. test a || b) (any_next test made x xs) ∙ sym (group (test a) (list_any test made) (list_any test (x ∷ xs))))

-- in `made` are the names of `one` and `two` before these places
pub record IsMerged (made one two : List Name) (next i : ℕ) : Type 0 where
  pub within : next ≤ length one
  pub behind : AreBehind made (drop next one) (drop i two)
  pub exact : (test : Name → Bool) → (list_any test made || list_any test (drop next one)) ≡ (list_any test one || list_any test (take i two))

pub merged-start : (one two : List Name) → IsRising one → IsRising two → IsMerged [] one two 0 0
merged-start one two up down = record { within = omega arith; behind = record { one = up; two = down }; exact = λ test. or_first (list_any test one) false }

-- a name of the one is less than the next of the other
pub merged-first : (made one two : List Name) (next i : ℕ) (d : Name) → next < length one → i < length two → (get_or one next d).0 < (get_or two i d).0 → IsMerged made one two next i
    → IsMerged (made ++ get_or one next d ∷ []) one two (next + 1) i
merged-first made one two next i d below inside less m =
    let x = get_or one next d in
    let here : drop next one ≡ x ∷ drop (next + 1) one = drop-cons one next d below ∙ ap (λ k. x ∷ drop k one) (sym (add-one next)) in
    let there = drop-cons two i d inside in
    record {
      within = omega (arith, below);
      behind = next_name made x (drop (next + 1) one) (drop i two) (subst (λ xs. AreBehind made xs (drop i two)) here m.behind) (subst (IsAbove x.0) (sym there) less);
      exact = λ test. any_next test made x (drop (next + 1) one) ∙ (ap (λ xs. list_any test made || list_any test xs) (sym here) ∙ m.exact test);
    }

or_last : (a b c d e : Bool) → (a || b) ≡ (d || e) → ((a || c) || b) ≡ (d || (e || c))
or_last a b c d e same = or_swap a b c ∙ (ap (λ p. p || c) same ∙ group d e c)
  where
    or_swap : (a b c : Bool) → ((a || c) || b) ≡ ((a || b) || c)
    or_swap true b c = refl
    or_swap false b c = or_first b c

-- the next of the other is less
pub merged-second : (made one two : List Name) (next i : ℕ) (d : Name) → i < length two → (next < length one → (get_or two i d).0 < (get_or one next d).0) → IsMerged made one two next i
    → IsMerged (made ++ get_or two i d ∷ []) one two next (i + 1)
merged-second made one two next i d inside less m =
    let y = get_or two i d in
    let there : drop i two ≡ y ∷ drop (i + 1) two = drop-cons two i d inside ∙ ap (λ k. y ∷ drop k two) (sym (add-one i)) in
    let greater : IsAbove y.0 (drop next one) = elim (cases_lt next (length one)) [
      | inl below ↦ subst (IsAbove y.0) (sym (drop-cons one next d below)) (less below)
      | inr past ↦ subst (IsAbove y.0) (sym (drop_of_length-le one past)) tt
    ] in
    record {
      within = m.within;
      behind = turned (next_name made y (drop (i + 1) two) (drop next one) (turned (subst (AreBehind made (drop next one)) there m.behind)) greater);
      exact = λ test.
          ap (λ b. b || list_any test (drop next one)) (list_any-append test made (y ∷ []) ∙ ap (λ b. list_any test made || b) (or_first false (test y)))
          ∙ (or_last (list_any test made) (list_any test (drop next one)) (test y) (list_any test one) (list_any test (take i two)) (m.exact test)
          ∙ ap (λ b. list_any test one || b) (sym (list_any_more test two i d inside)));
    }

-- both have the name
pub merged-both : (made one two : List Name) (next i : ℕ) (d : Name) → next < length one → i < length two → (get_or one next d).0 ≡ (get_or two i d).0 → IsMerged made one two next i
    → IsMerged (made ++ get_or two i d ∷ []) one two (next + 1) (i + 1)
merged-both made one two next i d below inside same m =
    let y = get_or two i d in
    let here : drop next one ≡ y ∷ drop (next + 1) one =
    drop-cons one next d below ∙ (ap (λ (k : ℕ). get_or one next d ∷ drop k one) (sym (add-one next)) ∙ ap (λ (n : ℕ). record { 0 = n } ∷ drop (next + 1) one) same) in
    let there : drop i two ≡ y ∷ drop (i + 1) two = drop-cons two i d inside ∙ ap (λ k. y ∷ drop k two) (sym (add-one i)) in
    let rises = λ (xs : List Name) (up : IsRising (made ++ y ∷ xs)). subst IsRising (sym (append_assoc made (y ∷ []) xs)) up in
    record {
      within = omega (arith, below);
      behind = record {
        one = rises (drop (next + 1) one) (subst (λ xs. IsRising (made ++ xs)) here m.behind.one);
        two = rises (drop (i + 1) two) (subst (λ xs. IsRising (made ++ xs)) there m.behind.two);
      };
      exact = λ test.
          any_next test made y (drop (next + 1) one)
          ∙ (found (list_any test made) (test y) (list_any test (drop (next + 1) one)) (list_any test one) (list_any test (take i two))
          (ap (λ xs. list_any test made || list_any test xs) (sym here) ∙ m.exact test)
          ∙ ap (λ b. list_any test one || b) (sym (list_any_more test two i d inside)));
    }
  where
    found : (a p b d e : Bool) → (a || (p || b)) ≡ (d || e) → (a || (p || b)) ≡ (d || (e || p))
    found a false b d e same = same ∙ ap (λ q. d || q) (sym (or_first false e))
    found a true b d e same = same ∙ (keeps (d || e) (sym same ∙ all a) ∙ group d e true)
      where
        all : (a : Bool) → (a || true) ≡ true
        all true = refl
        all false = refl

        keeps : (q : Bool) → q ≡ true → q ≡ (q || true)
        keeps true e = refl
        keeps false e = e

-- all of the other are there
pub merged-end : (made one two : List Name) (next i : ℕ) → length two ≤ i → IsMerged made one two next i
    → (whole : List Name) → whole ≡ made ++ take (length one - next) (drop next one)
    → IsRising whole × ((test : Name → Bool) → list_any test whole ≡ (list_any test one || list_any test two))
merged-end made one two next i all m whole is =
    let same : whole ≡ made ++ drop next one = is ∙ ap (λ xs. made ++ xs) (take_all (length one - next) (drop next one) (omega (arith, length-drop next one))) in (
      subst IsRising (sym same) m.behind.one,
      λ test. ap (list_any test) same ∙ (list_any-append test made (drop next one) ∙ (m.exact test ∙ ap (λ xs. list_any test one || list_any test xs) (take_all i two all))),
    )

-- ---- what two sets have in common

at_name : (set : List Name) (m n : ℕ) → m ≡ n → list_any (λ (o : Name). o.0 == m) set ≡ list_any (λ (o : Name). o.0 == n) set
at_name set m n e = ap (λ k. list_any (λ (o : Name). o.0 == k) set) e

kept : (same own other two : Bool) → (same ≡ true → two ≡ true) → other ≡ (own && two) → (same || other) ≡ ((same || own) && two)
kept true own other two h e = sym (h refl)
kept false own other two h e = e

left_out : (same own other two : Bool) → (same ≡ true → two ≡ false) → other ≡ (own && two) → other ≡ ((same || own) && two)
left_out true true other two h e = e
left_out true false other two h e = e ∙ sym (h refl)
left_out false own other two h e = e

pub filter_has : (one two : List Name) (name : Name) → has_name (filter (has_name two) one) name ≡ (has_name one name && has_name two name)
filter_has [] two name = refl
filter_has (x ∷ xs) two name =
    elim (cases_Bool (has_name two x)) [
      | inl is ↦ rw is (kept (x.0 == name.0) (has_name xs name) (has_name (filter (has_name two) xs) name) (has_name two name)
          (λ e. at_name two name.0 x.0 (sym (eqb-true x.0 name.0 e)) ∙ is) (filter_has xs two name))
      | inr other ↦ rw other (left_out (x.0 == name.0) (has_name xs name) (has_name (filter (has_name two) xs) name) (has_name two name)
          (λ e. at_name two name.0 x.0 (sym (eqb-true x.0 name.0 e)) ∙ other) (filter_has xs two name))
    ]

-- ---- one name more

inserted_above : (b : ℕ) (xs : List Name) (n : Name) → b < n.0 → IsAbove b xs → IsAbove b (inserted xs n)
inserted_above b [] n h up = h
inserted_above b (x ∷ xs) n h up = elim (cases_Bool (x.0 == n.0)) [
  | inl same ↦ rw same up
  | inr other ↦ rw other (elim (cases_Bool (nat_lt n.0 x.0)) [
    | inl less ↦ rw less h
    | inr more ↦ rw more up
  ])
]

differs : (a b : ℕ) → (a == b) ≡ false → nat_lt b a ≡ false → a < b
differs a b e h = grind (arith, nat_tests)

pub inserted_rising : (xs : List Name) (n : Name) → IsRising xs → IsRising (inserted xs n)
inserted_rising [] n order = tt
inserted_rising (x ∷ xs) n order = elim (cases_Bool (x.0 == n.0)) [
  | inl same ↦ rw same order
  | inr other ↦ rw other (elim (cases_Bool (nat_lt n.0 x.0)) [
    | inl less ↦ rw less (ltb-true n.0 x.0 less, order)
    | inr more ↦ rw more (rising x (inserted xs n) (inserted_above x.0 xs n (differs x.0 n.0 other more) (above x xs order)) (inserted_rising xs n (rest x xs order)))
  ])
]

or_later : (a b c : Bool) → (a || (b || c)) ≡ ((a || b) || c)
or_later true b c = refl
or_later false b c = refl

or_same : (a b c : Bool) → a ≡ c → (a || b) ≡ ((a || b) || c)
or_same true b c e = refl
or_same false true c e = refl
or_same false false c e = e

pub inserted_any : (test : Name → Bool) (xs : List Name) (n : Name) → list_any test (inserted xs n) ≡ (list_any test xs || test n)
inserted_any test [] n = or_first false (test n)
inserted_any test (x ∷ xs) n = elim (cases_Bool (x.0 == n.0)) [
  | inl same ↦ rw same (or_same (test x) (list_any test xs) (test n) (ap (λ k. test (record { 0 = k })) (eqb-true x.0 n.0 same)))
  | inr other ↦ rw other (elim (cases_Bool (nat_lt n.0 x.0)) [
    | inl less ↦ rw less (or_first (test x || list_any test xs) (test n))
    | inr more ↦ rw more (ap (λ b. test x || b) (inserted_any test xs n) ∙ or_later (test x) (list_any test xs) (test n))
  ])
]

-- ---- a set is one list

itself : (n : ℕ) → (n == n) ≡ true
itself n = grind (arith, nat_tests)

first_is : (x : Name) (xs : List Name) → has_name (x ∷ xs) x ≡ true
first_is x xs = rw (itself x.0)

behind : (x : Name) (xs ys : List Name) → IsRising (x ∷ xs) → IsRising (x ∷ ys) → ((name : Name) → has_name (x ∷ xs) name ≡ has_name (x ∷ ys) name) → (name : Name) → has_name xs name ≡ has_name ys name
behind x xs ys up down same name = elim (cases_Bool (x.0 == name.0)) [
  | inl here ↦ absent xs up (eqb-true x.0 name.0 here) ∙ sym (absent ys down (eqb-true x.0 name.0 here))
  | inr other ↦ rw other at (same name)
]
  where
    absent : (zs : List Name) → IsRising (x ∷ zs) → x.0 ≡ name.0 → has_name zs name ≡ false
    absent zs order e = not_below name zs (subst (λ k. IsAbove k zs) e (above x zs order)) (rest x zs order)

first_same : (x y : Name) (xs ys : List Name) → IsRising (x ∷ xs) → IsRising (y ∷ ys) → ((name : Name) → has_name (x ∷ xs) name ≡ has_name (y ∷ ys) name)
    → (x.0 ≡ y.0) ⊎ ((x.0 < y.0) ⊎ (y.0 < x.0)) → x ≡ y
first_same x y xs ys up down same (inl e) = ap (λ n. record { 0 = n }) e
first_same x y xs ys up down same (inr (inl less)) = absurd (true≢false (sym (first_is x xs) ∙ (same x ∙ not_below x (y ∷ ys) less down)))
first_same x y xs ys up down same (inr (inr less)) = absurd (true≢false (sym (first_is y ys) ∙ (sym (same y) ∙ not_below y (x ∷ xs) less up)))

pub one_list : (xs ys : List Name) → IsRising xs → IsRising ys → ((name : Name) → has_name xs name ≡ has_name ys name) → xs ≡ ys
one_list [] [] up down same = refl
one_list [] (y ∷ ys) up down same = absurd (true≢false (sym (first_is y ys) ∙ sym (same y)))
one_list (x ∷ xs) [] up down same = absurd (true≢false (sym (first_is x xs) ∙ same x))
one_list (x ∷ xs) (y ∷ ys) up down same =
    let first : x ≡ y = first_same x y xs ys up down same (cases_order x.0 y.0) in
    ap (λ z. z ∷ xs) first
    ∙ ap (λ zs. y ∷ zs) (one_list xs ys (rest x xs up) (rest y ys down)
    (behind y xs ys (subst (λ z. IsRising (z ∷ xs)) first up) down (λ name. ap (λ z. has_name (z ∷ xs) name) (sym first) ∙ same name)))
