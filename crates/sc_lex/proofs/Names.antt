-- Identifiers and preprocessing numbers: what each letter, digit, sign or universal character name
-- at the front asks of the rest.
use Rattle.std.proofs.Common.{◌≡◌, ℕ, zero, suc, ◌+◌, ◌<◌, ◌≤◌, ◌==◌, ◌&&◌, ◌||◌, inl, inr, Bool, true, false, cond, nat_le, List, [], ◌∷◌, ◌++◌, length, take, drop, get_or, refl, sym, ap, ◌∙◌, subst, arith}
use Rattle.std.proofs.lemmas.Bool.{cases_Bool, and_parts, and_cases, and_left, and_right, or_from, or_parts, or_cases, or_right, eqb-true, leb-true, leb-false, le-leb, lt-leb, true≢false}
use Rattle.std.specs.List.{list_all}
use Rattle.sc_model.specs.Bytes.{is_hex_digit, is_letter, is_digit}
use Rattle.c11_tokens.specs.Lex.{goes_on, is_named, number_goes_on, number_is_named, is_exponent, is_identifier, is_number, begins_with_digit}
use Rattle.sc_lex.specs.Scan.{IsLongestFront, hex_front, universal_length, letter_length, number_letter_length, is_sign, begins_name, begins_number}
use Rattle.sc_lex.proofs.Fronts.{Becomes, Becomes-one, IsStuck, Becomes-more, longest_where_stuck, IsLongestFront-same, none_where_stuck, longest_after}

-- What a part of n bytes at the front says of the rest. Where n is 0 nothing can go on.
pub record Steps (f g : List ℕ → Bool) (bs : List ℕ) (n : ℕ) : Type 0 where
  pub goes : 0 < n → Becomes f g bs n
  pub stops : n ≡ 0 → IsStuck f bs

or_false : (x : Bool) → (x || false) ≡ x
or_false true = refl
or_false false = refl

nat_le-suc : (m n : ℕ) → nat_le (suc m) (suc n) ≡ nat_le m n
nat_le-suc m n = elim (cases_Bool (nat_le m n)) [
  | inl e ↦ (let below = leb-true m n e in le-leb (suc m) (suc n) (omega arith) ∙ sym e)
  | inr e ↦ (let above = leb-false m n e in lt-leb (suc m) (suc n) (omega arith) ∙ sym e)
]

-- the digits, one by one
hex_front-more : (n b : ℕ) (bs : List ℕ) → hex_front (suc n) (b ∷ bs) ≡ (is_hex_digit b && hex_front n bs)
hex_front-more n b bs =
    ap (λ t. t && (is_hex_digit b && list_all is_hex_digit (take n bs))) (nat_le-suc n (length bs)) ∙ by (is_hex_digit b) (nat_le n (length bs))
  where
    by : (x y : Bool) → (y && (x && list_all is_hex_digit (take n bs))) ≡ (x && (y && list_all is_hex_digit (take n bs)))
    by true y = refl
    by false true = refl
    by false false = refl

hex_front-none : (bs : List ℕ) → hex_front 0 bs ≡ true
hex_front-none bs = ap (λ t. t && true) (le-leb 0 (length bs) (omega arith))

hex_front-length : (n : ℕ) (bs : List ℕ) → hex_front n bs ≡ true → n ≤ length bs
hex_front-length n bs h = leb-true n (length bs) (and_parts _ _ h).0

module _ (go : ℕ → List ℕ → Bool) (wants : (n : ℕ) → go (suc n) [] ≡ false) (takes : (n b : ℕ) (bs : List ℕ) → go (suc n) (b ∷ bs) ≡ (is_hex_digit b && go n bs)) where
  hex-goes : (n : ℕ) (bs xs : List ℕ) → hex_front n bs ≡ true → go n (take n bs ++ xs) ≡ go 0 xs
  hex-goes zero bs xs h = refl
  hex-goes (suc n) [] xs h = let long = hex_front-length (suc n) [] h in absurd (omega arith)
  hex-goes (suc n) (b ∷ bs) xs h =
      let parts = and_parts (is_hex_digit b) (hex_front n bs) (sym (hex_front-more n b bs) ∙ h) in
      takes n b (take n bs ++ xs) ∙ ap (λ t. t && go n (take n bs ++ xs)) parts.0 ∙ hex-goes n bs xs parts.1

  hex-stuck : (n : ℕ) (bs : List ℕ) (m : ℕ) → hex_front n bs ≡ false → go n (take m bs) ≡ false
  hex-stuck zero bs m h = absurd (true≢false (sym (hex_front-none bs) ∙ h))
  hex-stuck (suc n) bs zero h = wants n
  hex-stuck (suc n) [] (suc m) h = wants n
  hex-stuck (suc n) (b ∷ bs) (suc m) h =
      takes n b (take m bs) ∙ elim (and_cases (is_hex_digit b) (hex_front n bs) (sym (hex_front-more n b bs) ∙ h)) [
        | inl off ↦ and_left _ _ off
        | inr stuck ↦ and_right (is_hex_digit b) _ (hex-stuck n bs m stuck)
      ]

  module _ (named : List ℕ → Bool) (empty : named [] ≡ false)
      (digits : (b : ℕ) (bs : List ℕ) → named (b ∷ bs) ≡ ((b == 117 && go 4 bs) || (b == 85 && go 8 bs)))
      (f : List ℕ → Bool) (backslash : (xs : List ℕ) → f (92 ∷ xs) ≡ named xs) where
    four : (c : ℕ) (ds : List ℕ) → c ≡ 117 → hex_front 4 ds ≡ true → Becomes f (go 0) (92 ∷ c ∷ ds) 6
    four c ds is_u hex = let long = hex_front-length 4 ds hex in record {
      within = omega arith;
      asks = λ xs. backslash (c ∷ take 4 ds ++ xs) ∙ ap (λ c. named (c ∷ take 4 ds ++ xs)) is_u ∙ digits 117 (take 4 ds ++ xs)
          ∙ or_false (go 4 (take 4 ds ++ xs)) ∙ hex-goes 4 ds xs hex;
    }

    eight : (c : ℕ) (ds : List ℕ) → c ≡ 85 → hex_front 8 ds ≡ true → Becomes f (go 0) (92 ∷ c ∷ ds) 10
    eight c ds is_u hex = let long = hex_front-length 8 ds hex in record {
      within = omega arith;
      asks = λ xs. backslash (c ∷ take 8 ds ++ xs) ∙ ap (λ c. named (c ∷ take 8 ds ++ xs)) is_u ∙ digits 85 (take 8 ds ++ xs)
          ∙ hex-goes 8 ds xs hex;
    }

    stuck : (c : ℕ) (ds : List ℕ) → (c == 117 && hex_front 4 ds) ≡ false → (c == 85 && hex_front 8 ds) ≡ false → (m : ℕ) → 0 < m → f (take m (92 ∷ c ∷ ds)) ≡ false
    stuck c ds short long zero positive = absurd (omega arith)
    stuck c ds short long (suc zero) positive = backslash [] ∙ empty
    stuck c ds short long (suc (suc m)) positive =
        backslash (c ∷ take m ds) ∙ digits c (take m ds) ∙ or_from _ _ (by 4 (c == 117) short) (by 8 (c == 85) long)
      where
        by : (n : ℕ) (is : Bool) → (is && hex_front n ds) ≡ false → (is && go n (take m ds)) ≡ false
        by n is h = elim (and_cases is (hex_front n ds) h) [ inl off ↦ and_left _ _ off | inr cut ↦ and_right is _ (hex-stuck n ds m cut) ]

    choice : (c : ℕ) (ds : List ℕ) (short long : Bool) → (c == 117 && hex_front 4 ds) ≡ short → (c == 85 && hex_front 8 ds) ≡ long
        → Steps f (go 0) (92 ∷ c ∷ ds) (cond short 6 (cond long 10 0))
    choice c ds true long h k =
        let parts = and_parts (c == 117) _ h in
        record { goes = λ positive. four c ds (eqb-true c 117 parts.0) parts.1; stops = λ none. absurd (omega arith) }
    choice c ds false true h k =
        let parts = and_parts (c == 85) _ k in
        record { goes = λ positive. eight c ds (eqb-true c 85 parts.0) parts.1; stops = λ none. absurd (omega arith) }
    choice c ds false false h k =
        record { goes = λ positive. absurd (omega arith); stops = λ none. record { fails = λ m positive within. stuck c ds h k m positive } }

    -- a backslash begins a universal character name, or ends all
    pub universal-steps : (cs : List ℕ) → Steps f (go 0) (92 ∷ cs) (universal_length (92 ∷ cs))
    universal-steps [] = record { goes = λ positive. absurd (omega arith); stops = λ none. record { fails = alone } }
      where
        alone : (m : ℕ) → 0 < m → m ≤ 1 → f (take m (92 ∷ [])) ≡ false
        alone zero positive within = absurd (omega arith)
        alone (suc zero) positive within = backslash [] ∙ empty
        alone (suc (suc m)) positive within = absurd (omega arith)
    universal-steps (c ∷ ds) = choice c ds _ _ refl refl

    -- a byte that goes on, or a universal character name, or the end
    pub part-steps : (g : List ℕ → Bool) (b : ℕ) (bs : List ℕ) (is : Bool) → (is ≡ true → (xs : List ℕ) → f (b ∷ xs) ≡ g xs)
        → (is ≡ false → (xs : List ℕ) → f (b ∷ xs) ≡ (b == 92 && named xs)) → (b ≡ 92 → (xs : List ℕ) → g xs ≡ go 0 xs)
        → Steps f g (b ∷ bs) (cond is 1 (universal_length (b ∷ bs)))
    part-steps g b bs true on off same = record { goes = λ positive. Becomes-one f g b bs (on refl); stops = λ none. absurd (omega arith) }
    part-steps g b bs false on off same = by (b == 92) refl
      where
        at : b ≡ 92 → Steps f g (92 ∷ bs) (universal_length (92 ∷ bs))
        at e =
            let steps = universal-steps bs in
            record {
              goes = λ positive. let becomes = steps.goes positive in record { within = becomes.within; asks = λ xs. becomes.asks xs ∙ sym (same e xs) };
              stops = steps.stops;
            }

        by : (x : Bool) → (b == 92) ≡ x → Steps f g (b ∷ bs) (cond x (cond (get_or (b ∷ bs) 1 0 == 117 && hex_front 4 (drop 2 (b ∷ bs))) 6 (cond (get_or (b ∷ bs) 1 0 == 85 && hex_front 8 (drop 2 (b ∷ bs))) 10 0)) 0)
        by true e = let is_backslash = eqb-true b 92 e in subst (λ c. Steps f g (c ∷ bs) (universal_length (92 ∷ bs))) (sym is_backslash) (at is_backslash)
        by false e = record { goes = λ positive. absurd (omega arith); stops = λ none. record { fails = stops } }
          where
            stops : (m : ℕ) → 0 < m → m ≤ length (b ∷ bs) → f (take m (b ∷ bs)) ≡ false
            stops zero positive within = absurd (omega arith)
            stops (suc m) positive within = off refl (take m bs) ∙ ap (λ t. t && named (take m bs)) e

-- what is no backslash
not_backslash : (p : ℕ → Bool) (b : ℕ) → p 92 ≡ false → p b ≡ true → (b == 92) ≡ false
not_backslash p b off on = elim (cases_Bool (b == 92)) [
  | inl e ↦ absurd (true≢false (sym on ∙ ap p (eqb-true b 92 e) ∙ off))
  | inr e ↦ e
]

pub letter-steps : (bs : List ℕ) → 0 < length bs → Steps (goes_on 0) (goes_on 0) bs (letter_length bs)
letter-steps [] some = absurd (omega arith)
letter-steps (b ∷ bs) some =
    part-steps goes_on (λ n. refl) (λ n b bs. refl) is_named refl (λ b bs. refl) (goes_on 0) (λ xs. refl) (goes_on 0) b bs (is_letter b || is_digit b)
    (λ is xs. ap (λ t. (t && goes_on 0 xs) || (b == 92 && is_named xs)) is ∙ ap (λ t. goes_on 0 xs || (t && is_named xs)) (not_backslash (λ b. is_letter b || is_digit b) b refl is) ∙ or_false (goes_on 0 xs))
    (λ is xs. ap (λ t. (t && goes_on 0 xs) || (b == 92 && is_named xs)) is)
    (λ e xs. refl)

-- of the three ways to go on one is open
one_way : (letter point sign x y z : Bool) → ((sign || point) || letter) ≡ true → (sign ≡ true → y ≡ x)
    → ((((letter || point) && x) || (sign && y)) || (false && z)) ≡ x
one_way letter point true x y z is same = ap (λ t. (((letter || point) && x) || t) || false) (same refl) ∙ both letter point x
  where
    both : (l p x : Bool) → ((((l || p) && x) || x) || false) ≡ x
    both true p true = refl
    both true p false = refl
    both false true true = refl
    both false true false = refl
    both false false true = refl
    both false false false = refl
one_way true point false true y z is same = refl
one_way true point false false y z is same = refl
one_way false true false true y z is same = refl
one_way false true false false y z is same = refl
one_way false false false x y z is same = cc

no_way : (letter point sign x y z : Bool) → ((sign || point) || letter) ≡ false → ((((letter || point) && x) || (sign && y)) || z) ≡ z
no_way false false false x y z none = refl
no_way true false false x y z none = cc
no_way letter true false x y z none = cc
no_way letter point true x y z none = cc

abbrev goes_on_number : Bool → ℕ → Bool
goes_on_number exponent b = ((exponent && is_sign b) || b == 46) || (is_letter b || is_digit b)

-- a sign is no exponent letter
sign-is_exponent : (b : ℕ) → is_sign b ≡ true → is_exponent b ≡ false
sign-is_exponent b s = elim (or_cases (b == 43) (b == 45) s) [ inl e ↦ ap is_exponent (eqb-true b 43 e) | inr e ↦ ap is_exponent (eqb-true b 45 e) ]

pub number-steps : (exponent : Bool) (bs : List ℕ) → 0 < length bs
    → Steps (number_goes_on exponent 0) (number_goes_on (is_exponent (get_or bs 0 0)) 0) bs (number_letter_length exponent bs)
number-steps exponent [] some = absurd (omega arith)
number-steps exponent (b ∷ bs) some =
    subst (λ n. Steps (number_goes_on exponent 0) (number_goes_on (is_exponent b) 0) (b ∷ bs) n) (joined ((exponent && is_sign b) || b == 46) (is_letter b || is_digit b) (universal_length (b ∷ bs)))
    (part-steps (number_goes_on false) (λ n. refl) (λ n b bs. refl) number_is_named refl (λ b bs. refl) (number_goes_on exponent 0) (backslash exponent) (number_goes_on (is_exponent b) 0) b bs
    (goes_on_number exponent b) goes (λ none xs. no_way (is_letter b || is_digit b) (b == 46) (exponent && is_sign b) _ _ _ none) (λ e xs. ap (λ c. number_goes_on (is_exponent c) 0 xs) e))
  where
    joined : (x y : Bool) (n : ℕ) → cond (x || y) 1 n ≡ cond x 1 (cond y 1 n)
    joined true y n = refl
    joined false y n = refl

    backslash : (exponent : Bool) (xs : List ℕ) → number_goes_on exponent 0 (92 ∷ xs) ≡ number_is_named xs
    backslash true xs = refl
    backslash false xs = refl

    not_number : (exponent : Bool) → goes_on_number exponent 92 ≡ false
    not_number true = refl
    not_number false = refl

    goes : goes_on_number exponent b ≡ true → (xs : List ℕ) → number_goes_on exponent 0 (b ∷ xs) ≡ number_goes_on (is_exponent b) 0 xs
    goes is xs =
        ap (λ t. (((is_letter b || is_digit b || b == 46) && number_goes_on (is_exponent b) 0 xs) || (exponent && is_sign b && number_goes_on false 0 xs)) || (t && number_is_named xs))
        (not_backslash (goes_on_number exponent) b (not_number exponent) is)
        ∙ one_way (is_letter b || is_digit b) (b == 46) (exponent && is_sign b) (number_goes_on (is_exponent b) 0 xs) (number_goes_on false 0 xs) (number_is_named xs) is
        (λ signed. ap (λ e. number_goes_on e 0 xs) (sym (sign-is_exponent b (and_parts exponent (is_sign b) signed).1)))

-- an identifier begins with no digit
pub identifier-front : (bs : List ℕ) (n : ℕ) → begins_name bs ≡ true → IsLongestFront (goes_on 0) bs n → IsLongestFront is_identifier bs n
identifier-front bs n is front = IsLongestFront-same is_identifier (goes_on 0) bs n (same bs is) front
  where
    same : (bs : List ℕ) → begins_name bs ≡ true → (m : ℕ) → 0 < m → is_identifier (take m bs) ≡ goes_on 0 (take m bs)
    same bs is zero positive = absurd (omega arith)
    same [] is (suc m) positive = cc
    same (b ∷ bs) is (suc m) positive = ap (λ t. t && goes_on 0 (b ∷ take m bs)) is

pub identifier-none : (bs : List ℕ) → begins_name bs ≡ false → IsLongestFront is_identifier bs 0
identifier-none bs off = none_where_stuck is_identifier bs (record { fails = fails bs off })
  where
    fails : (bs : List ℕ) → begins_name bs ≡ false → (m : ℕ) → 0 < m → m ≤ length bs → is_identifier (take m bs) ≡ false
    fails bs off zero positive within = absurd (omega arith)
    fails [] off (suc m) positive within = refl
    fails (b ∷ bs) off (suc m) positive within = ap (λ t. t && goes_on 0 (b ∷ take m bs)) off

-- a point needs its digit
pub number-front : (bs : List ℕ) (k : ℕ) → begins_number bs ≡ true → IsLongestFront (number_goes_on false 0) (drop 1 bs) k → IsLongestFront is_number bs (1 + k)
number-front [] k is rest = cc
number-front (b ∷ bs) k is rest = elim (or_cases (is_digit b) (b == 46 && is_digit (get_or bs 0 0)) is) [
  | inl d ↦ longest_after k (Becomes-one is_number (number_goes_on false 0) b bs (λ xs. ap (λ t. (t || (b == 46 && begins_with_digit xs)) && number_goes_on false 0 xs) d)) rest (λ none. refl)
  | inr p ↦ (let parts = and_parts (b == 46) _ p in
      let becomes = Becomes-one is_number (λ xs. begins_with_digit xs && number_goes_on false 0 xs) b bs
      (λ xs. ap (λ c. (is_digit c || (c == 46 && begins_with_digit xs)) && number_goes_on false 0 xs) (eqb-true b 46 parts.0)) in
      longest_after k becomes (IsLongestFront-same _ (number_goes_on false 0) bs k (same bs parts.1) rest) (λ none. absurd (some bs k parts.1 none rest)))
]
  where
    same : (bs : List ℕ) → is_digit (get_or bs 0 0) ≡ true → (m : ℕ) → 0 < m → (begins_with_digit (take m bs) && number_goes_on false 0 (take m bs)) ≡ number_goes_on false 0 (take m bs)
    same bs d zero positive = absurd (omega arith)
    same [] d (suc m) positive = cc
    same (c ∷ cs) d (suc m) positive = ap (λ t. t && number_goes_on false 0 (c ∷ take m cs)) d

    some : (bs : List ℕ) (k : ℕ) → is_digit (get_or bs 0 0) ≡ true → k ≡ 0 → IsLongestFront (number_goes_on false 0) bs k → ⊥
    some [] k d none front = cc
    some (c ∷ cs) k d none front =
        let steps = (number-steps false (c ∷ cs) (omega arith)).goes in
        let letter = or_right (is_letter c) (is_digit c) d in
        true≢false (sym (ap (λ t. ((t || c == 46) && true || false) || (c == 92 && false)) letter) ∙ front.longest 1 (omega arith) (omega arith))

pub number-none : (bs : List ℕ) → begins_number bs ≡ false → IsLongestFront is_number bs 0
number-none bs off = none_where_stuck is_number bs (record { fails = fails bs off })
  where
    fails : (bs : List ℕ) → begins_number bs ≡ false → (m : ℕ) → 0 < m → m ≤ length bs → is_number (take m bs) ≡ false
    fails bs off zero positive within = absurd (omega arith)
    fails [] off (suc m) positive within = refl
    fails (b ∷ bs) off (suc m) positive within =
        let parts = or_parts (is_digit b) (b == 46 && is_digit (get_or bs 0 0)) off in
        ap (λ t. t && number_goes_on false 0 (take m bs)) (or_from _ _ parts.0 (cut bs m (b == 46) parts.1))
      where
        cut : (bs : List ℕ) (m : ℕ) (x : Bool) → (x && is_digit (get_or bs 0 0)) ≡ false → (x && begins_with_digit (take m bs)) ≡ false
        cut bs zero true h = refl
        cut bs m false h = refl
        cut [] (suc m) true h = refl
        cut (c ∷ cs) (suc m) true h = h

-- one more part, or the end
pub more_parts : {f g h : List ℕ → Bool} {bs : List ℕ} {n : ℕ} (k part : ℕ) → Becomes f g bs n → Steps g h (drop n bs) k → part ≡ k → (part ≡ 0 → ⊥) → Becomes f h bs (n + part)
more_parts {f} {g} {h} {bs} {n} k part b steps e some =
    subst (λ i. Becomes f h bs (n + i)) (sym e) (Becomes-more b (steps.goes (omega arith)))

pub last_part : {f g h : List ℕ → Bool} {bs : List ℕ} {n : ℕ} (k part : ℕ) → Becomes f g bs n → g [] ≡ true → Steps g h (drop n bs) k → part ≡ k → part ≡ 0 → IsLongestFront f bs n
last_part k part b empty steps e none = longest_where_stuck b empty (steps.stops (sym e ∙ none))
