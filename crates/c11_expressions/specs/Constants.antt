-- The values of integer constants and of character constants of one character (C11 6.4.4.1,
-- 6.4.4.4) in #if.
use Rattle.std.specs.Prelude.{ℕ, ◌+◌, ◌-◌, ◌*◌, ◌^◌, ◌==◌, nat_le, nat_lt, ◌&&◌, ◌||◌, Bool, true, false, pos, List, [], ◌∷◌, length, codes, Option, Some, None, option_map, if◌then◌else◌}
use Rattle.std.specs.Option.{option_and_then}
use Rattle.c11_expressions.specs.Arithmetic.{Typed, typed}
use Rattle.c11_tokens.specs.Constants.{IntegerForm, after_digits, has_digit, integer_form, is_digit_in, is_u}
use Rattle.c11_tokens.specs.declared.base.Base.{Base}
use Rattle.c11_tokens.specs.declared.base.Base.TheVariants.{Binary, Octal, Decimal, Hexadecimal}
use Rattle.sc_model.specs.Bytes.{same_bytes}
use Rattle.sc_model.specs.declared.standard.Standard.{Standard}

-- ---- digits

abbrev pub radix : Base → ℕ
radix Binary = 2
radix Octal = 8
radix Decimal = 10
radix Hexadecimal = 16

-- 0 to 9, A to F, a to f
abbrev pub digit_value : ℕ → ℕ
digit_value b = if nat_le b 57 then b - 48 else (if nat_le b 70 then b - 55 else b - 87)

-- the number of the digits that stand first, behind those of n
unfoldable pub number_behind : Base → ℕ → List ℕ → ℕ
number_behind base n [] = n
number_behind base n (b ∷ bs) = if is_digit_in base b then number_behind base (n * radix base + digit_value b) bs else n

abbrev pub number_of : Base → List ℕ → ℕ
number_of base bs = number_behind base 0 bs

-- ---- integers

abbrev pub if_below : ℕ → ℕ → Bool → Option Typed
if_below limit n unsigned = if nat_lt n limit then Some (typed unsigned (pos n)) else None

abbrev pub is_decimal : Base → Bool
is_decimal Decimal = true
is_decimal _ = false

-- the first type of 6.4.4.1p5 that has the number
abbrev pub integer_of : Base → Bool → ℕ → Option Typed
integer_of base true n = if_below (2 ^ 64) n true
integer_of base false n = if nat_lt n (2 ^ 63) then Some (typed false (pos n)) else (if is_decimal base then None else if_below (2 ^ 64) n true)

abbrev pub value_of : IntegerForm → Option Typed
value_of form = integer_of form.base form.is_unsigned (number_of form.base form.digits)

abbrev pub integer_value : Standard → List ℕ → Option Typed
integer_value standard bs = option_and_then value_of (integer_form standard bs)

-- ---- characters

-- behind ', which may have L, u or U before it
abbrev pub after_quote : List ℕ → Option (List ℕ)
after_quote (p ∷ q ∷ bs) = if p == 39 then Some (q ∷ bs) else (if (p == 76 || is_u p) && q == 39 then Some bs else None)
after_quote _ = None

abbrev pub is_quote : List ℕ → Bool
is_quote bs = same_bytes bs (codes "'")

-- ' " ? and \ stand for themselves, and a, b, f, n, r, t and v for others
abbrev pub simple_escape : ℕ → Option ℕ
simple_escape c =
    if c == 39 || c == 34 || c == 63 || c == 92 then Some c
    else (if c == 97 then Some 7
    else (if c == 98 then Some 8
    else (if c == 102 then Some 12
    else (if c == 110 then Some 10
    else (if c == 114 then Some 13
    else (if c == 116 then Some 9
    else (if c == 118 then Some 11
    else None)))))))

-- digits of a character of the basic set, and '
abbrev pub quoted_number : Base → List ℕ → Option ℕ
quoted_number base bs = if has_digit base bs && is_quote (after_digits base bs) && nat_lt (number_of base bs) 128 then Some (number_of base bs) else None

-- behind a backslash: up to three octal digits, x with hexadecimal digits, or one character
abbrev pub escape_value : List ℕ → Option ℕ
escape_value [] = None
escape_value (c ∷ cs) =
    if is_digit_in Octal c then (if nat_le (length cs) 3 then quoted_number Octal (c ∷ cs) else None)
    else (if c == 120 then quoted_number Hexadecimal cs
    else (if is_quote cs then simple_escape c else None))

-- behind the first '
abbrev pub content_value : List ℕ → Option ℕ
content_value [] = None
content_value (c ∷ cs) = if c == 92 then escape_value cs else (if is_quote cs && nat_lt c 128 then Some c else None)

abbrev pub character_value : List ℕ → Option Typed
character_value bs = option_map (λ n. typed false (pos n)) (option_and_then content_value (after_quote bs))
