-- Which prefix of a text a scan finds.
use Rattle.std.specs.Prelude.{◌≡◌, ℕ, ◌<◌, ◌≤◌, ◌==◌, ◌&&◌, ◌||◌, nat_le, nat_lt, not, Bool, true, false, List, length, take, drop, slice_index, if◌then◌else◌}
use Rattle.std.specs.List.{list_all}
use Rattle.sc_model.specs.Bytes.{is_hex_digit, is_digit, is_letter}
use Rattle.c11_tokens.specs.Lex.{is_punctuator}

-- The longest prefix that passes the test has n bytes; where n is 0 none passes.
pub record IsLongestFront (test : List ℕ → Bool) (bytes : List ℕ) (n : ℕ) : Type 0 where
  pub within : n ≤ length bytes
  pub fit : 0 < n → test (take n bytes) ≡ true
  pub longest : (m : ℕ) → n < m → m ≤ length bytes → test (take m bytes) ≡ false

-- so many hexadecimal digits come first
abbrev pub hex_front : ℕ → List ℕ → Bool
hex_front n bs = nat_le n (length bs) && list_all is_hex_digit (take n bs)

-- how many bytes the universal character name has that comes first, and 0 where none does
abbrev pub universal_length : List ℕ → ℕ
universal_length bs =
    if slice_index bs 0 == 92
    then (if slice_index bs 1 == 117 && hex_front 4 (drop 2 bs) then 6 else (if slice_index bs 1 == 85 && hex_front 8 (drop 2 bs) then 10 else 0))
    else 0

-- how many bytes the letter, digit or universal character name has that comes first
abbrev pub letter_length : List ℕ → ℕ
letter_length bs = if is_letter (slice_index bs 0) || is_digit (slice_index bs 0) then 1 else universal_length bs

abbrev pub is_sign : ℕ → Bool
is_sign b = b == 43 || b == 45

-- what a number goes on with: after an exponent letter a sign too
abbrev pub number_letter_length : Bool → List ℕ → ℕ
number_letter_length exponent bs =
    if (exponent && is_sign (slice_index bs 0)) || slice_index bs 0 == 46 then 1 else letter_length bs

-- a letter or a backslash comes first
abbrev pub begins_name : List ℕ → Bool
begins_name bs = is_letter (slice_index bs 0) || slice_index bs 0 == 92

-- a digit comes first, or a point and a digit
abbrev pub begins_number : List ℕ → Bool
begins_number bs = is_digit (slice_index bs 0) || (slice_index bs 0 == 46 && is_digit (slice_index bs 1))

-- how many bytes of what is quoted come first: one, and after a backslash two, but no newline
abbrev pub quoted_length : List ℕ → ℕ
quoted_length bs =
    if slice_index bs 0 == 10 then 0
    else (if slice_index bs 0 == 92 then (if nat_lt (length bs) 2 || slice_index bs 1 == 10 then 0 else 2) else 1)

-- the opening byte comes first, and then something other than the closing one where that is asked
-- for
abbrev pub opens : ℕ → ℕ → Bool → List ℕ → Bool
opens start end filled bs =
    nat_le 2 (length bs) && (slice_index bs 0 == start && not (filled && slice_index bs 1 == end))

-- the first n bytes are a punctuator
abbrev pub has_punctuator : ℕ → List ℕ → Bool
has_punctuator n bs = nat_le n (length bs) && is_punctuator (take n bs)
