-- Punctuators have at most four bytes.
use Rattle.std.proofs.Common.{◌≡◌, ℕ, ◌<◌, ◌≤◌, ◌==◌, ◌&&◌, nat_le, true, false, List, [], ◌∷◌, length, take, refl, sym, ap, ◌∙◌, arith, inl, inr}
use Rattle.std.specs.List.{list_any, list_all}
use Rattle.std.proofs.lemmas.Bool.{and_parts, or_from, and_right, leb-true, le-leb, cases_lt}
use Rattle.std.proofs.lemmas.List.{length-take-le}
use Rattle.sc_model.specs.Bytes.{same_bytes}
use Rattle.c11_tokens.specs.Lex.{is_punctuator, punctuators}
use Rattle.sc_lex.specs.Scan.{IsLongestFront, has_punctuator}

same_bytes-longer : (xs ys : List ℕ) → length ys < length xs → same_bytes xs ys ≡ false
same_bytes-longer [] ys h = absurd (omega arith)
same_bytes-longer (x ∷ xs) [] h = refl
same_bytes-longer (x ∷ xs) (y ∷ ys) h = and_right (x == y) _ (same_bytes-longer xs ys (omega arith))

none_so_long : (table : List (List ℕ)) (bs : List ℕ) → list_all (λ p. nat_le (length p) 4) table ≡ true → 4 < length bs → list_any (same_bytes bs) table ≡ false
none_so_long [] bs all long = refl
none_so_long (p ∷ table) bs all long =
    let parts = and_parts (nat_le (length p) 4) _ all in
    let short = leb-true (length p) 4 parts.0 in
    or_from _ _ (same_bytes-longer bs p (omega arith)) (none_so_long table bs parts.1 long)

punctuators-short : (bs : List ℕ) → 4 < length bs → is_punctuator bs ≡ false
punctuators-short bs long = none_so_long punctuators bs refl long

-- what the test of n bytes says where they are there
has-when : (n : ℕ) (bs : List ℕ) → n ≤ length bs → has_punctuator n bs ≡ is_punctuator (take n bs)
has-when n bs within = ap (λ t. t && is_punctuator (take n bs)) (le-leb n (length bs) within)

-- from four bytes down the first that is a punctuator is the longest
pub longest_punctuator : (bs : List ℕ) (n : ℕ) → (0 < n → has_punctuator n bs ≡ true) → ((m : ℕ) → n < m → m ≤ 4 → has_punctuator m bs ≡ false) → IsLongestFront is_punctuator bs n
longest_punctuator bs n here above = record { within = within; fit = λ positive. (and_parts (nat_le n (length bs)) _ (here positive)).1; longest = longest }
  where
    within : n ≤ length bs
    within = elim (cases_lt 0 n) [ inl positive ↦ leb-true n (length bs) (and_parts (nat_le n (length bs)) _ (here positive)).0 | inr none ↦ omega arith ]

    longest : (m : ℕ) → n < m → m ≤ length bs → is_punctuator (take m bs) ≡ false
    longest m more inside = elim (cases_lt 4 m) [
      | inl long ↦ punctuators-short (take m bs) (omega (arith, length-take-le m bs inside))
      | inr short ↦ sym (has-when m bs inside) ∙ above m more short
    ]

-- the lengths above each
pub above_three : (bs : List ℕ) → has_punctuator 4 bs ≡ false → (m : ℕ) → 3 < m → m ≤ 4 → has_punctuator m bs ≡ false
above_three bs four m more most = let is : m ≡ 4 = omega arith in ap (λ i. has_punctuator i bs) is ∙ four

pub above_two : (bs : List ℕ) → has_punctuator 4 bs ≡ false → has_punctuator 3 bs ≡ false → (m : ℕ) → 2 < m → m ≤ 4 → has_punctuator m bs ≡ false
above_two bs four three m more most = elim (cases_lt 3 m) [
  | inl next ↦ above_three bs four m next most
  | inr here ↦ (let is : m ≡ 3 = omega arith in ap (λ i. has_punctuator i bs) is ∙ three)
]

pub above_one : (bs : List ℕ) → has_punctuator 4 bs ≡ false → has_punctuator 3 bs ≡ false → has_punctuator 2 bs ≡ false → (m : ℕ) → 1 < m → m ≤ 4 → has_punctuator m bs ≡ false
above_one bs four three two m more most = elim (cases_lt 2 m) [
  | inl next ↦ above_two bs four three m next most
  | inr here ↦ (let is : m ≡ 2 = omega arith in ap (λ i. has_punctuator i bs) is ∙ two)
]

pub above_none : (bs : List ℕ) → has_punctuator 4 bs ≡ false → has_punctuator 3 bs ≡ false → has_punctuator 2 bs ≡ false → has_punctuator 1 bs ≡ false → (m : ℕ) → 0 < m → m ≤ 4 → has_punctuator m bs ≡ false
above_none bs four three two one m more most = elim (cases_lt 1 m) [
  | inl next ↦ above_one bs four three two m next most
  | inr here ↦ (let is : m ≡ 1 = omega arith in ap (λ i. has_punctuator i bs) is ∙ one)
]
