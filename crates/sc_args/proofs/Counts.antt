-- Words that tell a number of items.
use Rattle.std.proofs.Common.{◌≡◌, ◌<◌, ◌≤◌, ◌==◌, ◌&&◌, ℕ, Bool, true, false, List, [], ◌∷◌, length, not, nat_le, None, Some, Ok, Err, if◌then◌else◌, refl, ap, arith, slice_index}
use Rattle.std.proofs.lemmas.Bool.{and_parts, leb-true}
use Rattle.std.proofs.lemmas.Str.Parse.{numerals_by_value, parse_digits, tells_all_ascii_digits}
use Rattle.std.specs.Char.{is_ascii_digit}
use Rattle.std.specs.List.{list_all}
use Rattle.std.specs.Str.{all_ascii_digits}
use Rattle.std.specs.Str.Parse.{digits_value, ParsesUnsigned}
use Rattle.sc_args.specs.Words.{asked_to_make, bad_count, is_count, make}

digits-alone : (word : List ℕ) → list_all is_ascii_digit word ≡ all_ascii_digits word
digits-alone [] = refl
digits-alone (x ∷ xs) = ap (λ b. is_ascii_digit x && b) (digits-alone xs)

some-digits : (word : List ℕ) → 1 ≤ digits_value 10 word → 0 < length word
some-digits [] least = absurd (omega (arith, least))
some-digits (x ∷ xs) least = omega arith

-- digits that are no number of the machine tell none
pub no-count : {E : Type 0} (word : List ℕ) (e : E) → list_all is_ascii_digit word ≡ true → ParsesUnsigned 32 10 word (Err e) → is_count word ≡ false
no-count word e digits parsed = by (is_count word) refl
  where
    by : (b : Bool) → is_count word ≡ b → is_count word ≡ false
    by false is = is
    by true is =
        let most = and_parts (list_all is_ascii_digit word && not (slice_index word 0 == 48) && nat_le 1 (digits_value 10 word)) (nat_le (digits_value 10 word) 100000) is in
        let least = and_parts (list_all is_ascii_digit word && not (slice_index word 0 == 48)) (nat_le 1 (digits_value 10 word)) most.0 in
        let own = numerals_by_value (λ ds. all_ascii_digits ds ≡ true) tells_all_ascii_digits in
        absurd (parse_digits own 32 word (Err e) parsed (rw (← digits-alone word) digits) (some-digits word (leb-true 1 (digits_value 10 word) least.1), omega (arith, leb-true (digits_value 10 word) 100000 most.1)))

-- what is asked for by a word, by whether it tells a number
pub asked-count : (word : List ℕ) (items : ℕ) → Some items ≡ (if is_count word then Some (digits_value 10 word) else None) → asked_to_make (Some word) ≡ Ok (make items)
asked-count word items told = by (is_count word) told
  where
    by : (b : Bool) → Some items ≡ (if b then Some (digits_value 10 word) else None) → (if b then Ok (make (digits_value 10 word)) else Err bad_count) ≡ Ok (make items)
    by true is = cc
    by false is = absurd (cc)

pub asked-no-count : (word : List ℕ) → None ≡ (if is_count word then Some (digits_value 10 word) else None) → asked_to_make (Some word) ≡ Err bad_count
asked-no-count word told = by (is_count word) told
  where
    by : (b : Bool) → None ≡ (if b then Some (digits_value 10 word) else None) → (if b then Ok (make (digits_value 10 word)) else Err bad_count) ≡ Err bad_count
    by true is = absurd (cc)
    by false is = refl
