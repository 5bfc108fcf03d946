-- The forms of integer and floating constants, of any size (C11 6.4.4.1, 6.4.4.2).
use Rattle.std.specs.Prelude.{ℕ, ◌==◌, ◌&&◌, ◌||◌, Bool, true, false, List, [], ◌∷◌, ◌++◌, codes, Option, Some, None, option_map, if◌then◌else◌}
use Rattle.c11_tokens.specs.declared.base.Base.{Base}
use Rattle.c11_tokens.specs.declared.base.Base.TheVariants.{Binary, Octal, Decimal, Hexadecimal}
use Rattle.sc_model.specs.Bytes.{same_bytes, begins_with, is_between, is_digit, is_hex_digit}
use Rattle.sc_model.specs.declared.standard.Standard.{Standard}
use Rattle.sc_model.specs.declared.standard.Standard.TheVariants.{C11, C23, Gnu11}

-- ---- digits

abbrev pub is_digit_in : Base → ℕ → Bool
is_digit_in Binary b = is_between 48 49 b
is_digit_in Octal b = is_between 48 55 b
is_digit_in Decimal b = is_digit b
is_digit_in Hexadecimal b = is_hex_digit b

abbrev pub has_digit : Base → List ℕ → Bool
has_digit base [] = false
has_digit base (b ∷ bs) = is_digit_in base b

-- what stands after the digits
unfoldable pub after_digits : Base → List ℕ → List ℕ
after_digits base [] = []
after_digits base (b ∷ bs) = if is_digit_in base b then after_digits base bs else b ∷ bs

-- ---- integer constants

abbrev pub is_u : ℕ → Bool
is_u b = b == 117 || b == 85

abbrev pub is_l : ℕ → Bool
is_l b = b == 108 || b == 76

-- nothing, l, L, ll or LL
abbrev pub is_long : List ℕ → Bool
is_long [] = true
is_long (a ∷ []) = is_l a
is_long (a ∷ b ∷ []) = is_l a && a == b
is_long _ = false

-- one of l, L, ll and LL, and then u or U
abbrev pub is_long_unsigned : List ℕ → Bool
is_long_unsigned (a ∷ u ∷ []) = is_l a && is_u u
is_long_unsigned (a ∷ b ∷ u ∷ []) = is_l a && a == b && is_u u
is_long_unsigned _ = false

-- u or U, before or behind one of the others
abbrev pub is_unsigned_suffix : List ℕ → Bool
is_unsigned_suffix [] = false
is_unsigned_suffix (u ∷ bs) = (is_u u && is_long bs) || is_long_unsigned (u ∷ bs)

-- whether a suffix says that the type is unsigned
abbrev pub suffix_of : List ℕ → Option Bool
suffix_of bs = if is_long bs then Some false else (if is_unsigned_suffix bs then Some true else None)

-- what an integer constant has: its base, whether its suffix says that it is unsigned, and what
-- stands behind the mark of the base
pub record IntegerForm : Type 0 where
  pub base : Base
  pub is_unsigned : Bool
  pub digits : List ℕ

-- digits and a suffix
abbrev pub form_in : Base → List ℕ → Option IntegerForm
form_in base digits =
    if has_digit base digits
    then option_map (λ is_unsigned. record { base = base; is_unsigned = is_unsigned; digits = digits }) (suffix_of (after_digits base digits))
    else None

-- the letters that mark a base behind a leading 0
abbrev pub Marks : Type 0
Marks = List (ℕ × Base)

abbrev pub c11_marks : Marks
c11_marks = (120, Hexadecimal) ∷ (88, Hexadecimal) ∷ []

abbrev pub marks_of : Standard → Marks
marks_of C11 = c11_marks
marks_of C23 = c11_marks ++ (98, Binary) ∷ (66, Binary) ∷ []
marks_of Gnu11 = c11_marks

abbrev pub base_marked : Marks → ℕ → Option Base
base_marked [] letter = None
base_marked (mark ∷ marks) letter = if letter == mark.0 then Some mark.1 else base_marked marks letter

-- the base of a mark that stands first, and what stands behind it
abbrev pub behind_mark : Marks → List ℕ → Option (Base × List ℕ)
behind_mark marks (first ∷ letter ∷ bs) = if first == 48 then option_map (λ base. (base, bs)) (base_marked marks letter) else None
behind_mark marks _ = None

-- octal where a zero stands first
abbrev pub unmarked_form : List ℕ → Option IntegerForm
unmarked_form bs = if begins_with (codes "0") bs then form_in Octal bs else form_in Decimal bs

abbrev pub form_by : List ℕ → Option (Base × List ℕ) → Option IntegerForm
form_by bs None = unmarked_form bs
form_by bs (Some marked) = form_in marked.0 marked.1

-- an integer constant of a standard (6.4.4.1)
unfoldable pub integer_form : Standard → List ℕ → Option IntegerForm
integer_form standard bs = form_by bs (behind_mark (marks_of standard) bs)

-- ---- floating constants

-- nothing, or one of f, l, F and L
abbrev pub is_floating_suffix : List ℕ → Bool
is_floating_suffix [] = true
is_floating_suffix (b ∷ bs) = (b == 102 || b == 108 || b == 70 || b == 76) && same_bytes bs []

abbrev pub after_sign : List ℕ → List ℕ
after_sign [] = []
after_sign (b ∷ bs) = if b == 43 || b == 45 then bs else b ∷ bs

-- the letter of an exponent part
abbrev pub is_exponent_letter : Base → ℕ → Bool
is_exponent_letter Hexadecimal b = b == 112 || b == 80
is_exponent_letter _ b = b == 101 || b == 69

-- digits and a floating suffix
abbrev pub ends_in_digits : List ℕ → Bool
ends_in_digits bs = has_digit Decimal bs && is_floating_suffix (after_digits Decimal bs)

-- an exponent part, and a floating suffix
abbrev pub has_exponent : Base → List ℕ → Bool
has_exponent base [] = false
has_exponent base (b ∷ bs) = is_exponent_letter base b && ends_in_digits (after_sign bs)

abbrev pub after_period : Base → Bool → List ℕ → Option (List ℕ)
after_period base digits [] = None
after_period base digits (b ∷ bs) = if b == 46 && (digits || has_digit base bs) then Some (after_digits base bs) else None

-- what stands after a fractional constant, which has a period and a digit on one of its sides
abbrev pub after_fraction : Base → List ℕ → Option (List ℕ)
after_fraction base bs = after_period base (has_digit base bs) (after_digits base bs)

-- a floating constant without its prefix: the exponent part may be left out of a decimal fraction
-- alone
abbrev pub is_floating_in : Base → List ℕ → Option (List ℕ) → Bool
is_floating_in base bs None = has_digit base bs && has_exponent base (after_digits base bs)
is_floating_in Hexadecimal bs (Some rest) = has_exponent Hexadecimal rest
is_floating_in base bs (Some rest) = is_floating_suffix rest || has_exponent base rest

-- what stands after `0x` or `0X`
abbrev pub after_prefix : List ℕ → Option (List ℕ)
after_prefix (a ∷ b ∷ bs) = if a == 48 && (b == 120 || b == 88) then Some bs else None
after_prefix _ = None

abbrev pub is_floating_by : List ℕ → Option (List ℕ) → Bool
is_floating_by bs None = is_floating_in Decimal bs (after_fraction Decimal bs)
is_floating_by bs (Some digits) = is_floating_in Hexadecimal digits (after_fraction Hexadecimal digits)

-- a floating constant (6.4.4.2)
unfoldable pub is_floating : List ℕ → Bool
is_floating bs = is_floating_by bs (after_prefix bs)
