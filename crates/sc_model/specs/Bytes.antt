-- Tests of bytes and texts.
use Rattle.std.specs.Prelude.{ℕ, ◌==◌, ◌&&◌, ◌||◌, not, nat_le, Bool, true, false, List, [], ◌∷◌}
use Rattle.std.specs.List.{list_any}

-- the same bytes
abbrev pub same_bytes : List ℕ → List ℕ → Bool
same_bytes [] [] = true
same_bytes [] (y ∷ ys) = false
same_bytes (x ∷ xs) [] = false
same_bytes (x ∷ xs) (y ∷ ys) = (x == y) && same_bytes xs ys

-- the text begins with this one
abbrev pub begins_with : List ℕ → List ℕ → Bool
begins_with [] bs = true
begins_with (x ∷ xs) [] = false
begins_with (x ∷ xs) (b ∷ bs) = (x == b) && begins_with xs bs

-- the byte lies between the two, both included
abbrev pub is_between : ℕ → ℕ → ℕ → Bool
is_between low high b = nat_le low b && nat_le b high

abbrev pub is_digit : ℕ → Bool
is_digit b = is_between 48 57 b

abbrev pub is_hex_digit : ℕ → Bool
is_hex_digit b = is_digit b || is_between 65 70 b || is_between 97 102 b

-- a letter, an underscore, or a byte of a character beyond ASCII
abbrev pub is_letter : ℕ → Bool
is_letter b = is_between 65 90 b || is_between 97 122 b || b == 95 || nat_le 128 b

-- a text of one line
abbrev pub has_no_newline : List ℕ → Bool
has_no_newline bs = not (list_any (λ b. b == 10) bs)
