-- A token but a newline is spelled without the byte of a newline.
use Rattle.std.proofs.Common.{◌≡◌, ℕ, zero, suc, inl, inr, Bool, true, false, not, ◌&&◌, ◌||◌, List, [], ◌∷◌, take, drop, length, Result, Ok, Err, ◌<◌, refl, sym, ap, ◌∙◌, subst, arith}
use Rattle.std.proofs.lemmas.Bool.{true≢false, ne_eqb, eqb-true, and_parts, and_from, or_cases, or_from, or_right, or_parts, and_cases, not-true, not_from_false}
use Rattle.std.specs.List.{list_any, list_all}
use Rattle.std.specs.Prelude.{◌==◌, codes, if◌then◌else◌}
use Rattle.sc_model.specs.declared.kind.Kind.{Kind}
use Rattle.sc_model.specs.declared.kind.Kind.TheVariants.{Identifier, Number, Character, Text, Header, Punctuator, Other, Newline}
use Rattle.sc_model.specs.Bytes.{same_bytes, begins_with, is_digit, is_hex_digit, is_letter}
use Rattle.sc_model.specs.Token.{Position, Lexeme}
use Rattle.c11_tokens.specs.Lex.{token, rank, fits, fits_here, expects_header, is_header_name, IsLongest, Marked, bytes_of, with_first, lexeme, is_newline, Lexed, Lexes, nothing, white, piece, unended, goes_on, is_named, is_identifier, is_exponent, begins_with_digit, number_goes_on, number_is_named, is_number, closes, escapes, is_quoted, is_prefixed, header_closes, is_delimited, is_header, punctuators, is_one_byte}
use Rattle.sc_model.specs.Bytes.{has_no_newline}
use Rattle.sc_model.proofs.ByteLemmas.{same_bytes-true}

-- a byte that passes a test that the newline's doesn't
apart : (test : ℕ → Bool) → test 10 ≡ false → (b : ℕ) → test b ≡ true → (b == 10) ≡ false
apart test fails b passes = ne_eqb b 10 (λ e. true≢false (sym passes ∙ (ap test e ∙ fails)))

plain-cons : (b : ℕ) (bs : List ℕ) → (b == 10) ≡ false → has_no_newline bs ≡ true → has_no_newline (b ∷ bs) ≡ true
plain-cons b bs differs plain = not_from_false _ (or_from _ _ differs (not-true _ plain))

-- an identifier
mutual
  goes_on-plain : (due : ℕ) (bs : List ℕ) → goes_on due bs ≡ true → has_no_newline bs ≡ true
  goes_on-plain zero [] h = refl
  goes_on-plain (suc due) [] h = refl
  goes_on-plain (suc due) (b ∷ bs) h =
      let p = and_parts (is_hex_digit b) (goes_on due bs) h in
      plain-cons b bs (apart is_hex_digit refl b p.0) (goes_on-plain due bs p.1)
  goes_on-plain zero (b ∷ bs) h = elim (or_cases ((is_letter b || is_digit b) && goes_on zero bs) (b == 92 && is_named bs) h) [
    | inl e ↦ (let p = and_parts (is_letter b || is_digit b) (goes_on zero bs) e in plain-cons b bs (apart (λ b. is_letter b || is_digit b) refl b p.0) (goes_on-plain zero bs p.1))
    | inr e ↦ (let p = and_parts (b == 92) (is_named bs) e in plain-cons b bs (apart (λ b. b == 92) refl b p.0) (is_named-plain bs p.1))
  ]

  is_named-plain : (bs : List ℕ) → is_named bs ≡ true → has_no_newline bs ≡ true
  is_named-plain [] h = refl
  is_named-plain (b ∷ bs) h = elim (or_cases (b == 117 && goes_on 4 bs) (b == 85 && goes_on 8 bs) h) [
    | inl e ↦ (let p = and_parts (b == 117) (goes_on 4 bs) e in plain-cons b bs (apart (λ b. b == 117) refl b p.0) (goes_on-plain 4 bs p.1))
    | inr e ↦ (let p = and_parts (b == 85) (goes_on 8 bs) e in plain-cons b bs (apart (λ b. b == 85) refl b p.0) (goes_on-plain 8 bs p.1))
  ]

identifier-plain : (bs : List ℕ) → is_identifier bs ≡ true → has_no_newline bs ≡ true
identifier-plain [] h = refl
identifier-plain (b ∷ bs) h = goes_on-plain 0 (b ∷ bs) (and_parts (is_letter b || b == 92) (goes_on 0 (b ∷ bs)) h).1

-- a number
mutual
  number_goes_on-plain : (exponent : Bool) (due : ℕ) (bs : List ℕ) → number_goes_on exponent due bs ≡ true → has_no_newline bs ≡ true
  number_goes_on-plain exponent zero [] h = refl
  number_goes_on-plain exponent (suc due) [] h = refl
  number_goes_on-plain exponent (suc due) (b ∷ bs) h =
      let p = and_parts (is_hex_digit b) (number_goes_on false due bs) h in
      plain-cons b bs (apart is_hex_digit refl b p.0) (number_goes_on-plain false due bs p.1)
  number_goes_on-plain exponent zero (b ∷ bs) h =
      elim (or_cases (((is_letter b || is_digit b || b == 46) && number_goes_on (is_exponent b) zero bs) || (exponent && (b == 43 || b == 45) && number_goes_on false zero bs)) (b == 92 && number_is_named bs) h) [
        | inl e ↦ elim (or_cases ((is_letter b || is_digit b || b == 46) && number_goes_on (is_exponent b) zero bs) (exponent && (b == 43 || b == 45) && number_goes_on false zero bs) e) [
          | inl f ↦ (let p = and_parts (is_letter b || is_digit b || b == 46) (number_goes_on (is_exponent b) zero bs) f in plain-cons b bs (apart (λ b. is_letter b || is_digit b || b == 46) refl b p.0) (number_goes_on-plain (is_exponent b) zero bs p.1))
          | inr f ↦ (let p = and_parts (exponent && (b == 43 || b == 45)) (number_goes_on false zero bs) f in plain-cons b bs (apart (λ b. b == 43 || b == 45) refl b (and_parts exponent (b == 43 || b == 45) p.0).1) (number_goes_on-plain false zero bs p.1))
        ]
        | inr e ↦ (let p = and_parts (b == 92) (number_is_named bs) e in plain-cons b bs (apart (λ b. b == 92) refl b p.0) (number_is_named-plain bs p.1))
      ]

  number_is_named-plain : (bs : List ℕ) → number_is_named bs ≡ true → has_no_newline bs ≡ true
  number_is_named-plain [] h = refl
  number_is_named-plain (b ∷ bs) h = elim (or_cases (b == 117 && number_goes_on false 4 bs) (b == 85 && number_goes_on false 8 bs) h) [
    | inl e ↦ (let p = and_parts (b == 117) (number_goes_on false 4 bs) e in plain-cons b bs (apart (λ b. b == 117) refl b p.0) (number_goes_on-plain false 4 bs p.1))
    | inr e ↦ (let p = and_parts (b == 85) (number_goes_on false 8 bs) e in plain-cons b bs (apart (λ b. b == 85) refl b p.0) (number_goes_on-plain false 8 bs p.1))
  ]

number-plain : (bs : List ℕ) → is_number bs ≡ true → has_no_newline bs ≡ true
number-plain [] h = refl
number-plain (b ∷ bs) h =
    let p = and_parts (is_digit b || (b == 46 && begins_with_digit bs)) (number_goes_on false 0 bs) h in
    let first : (b == 10) ≡ false = elim (or_cases (is_digit b) (b == 46 && begins_with_digit bs) p.0) [
      | inl e ↦ apart is_digit refl b e
      | inr e ↦ apart (λ b. b == 46) refl b (and_parts (b == 46) (begins_with_digit bs) e).0
    ] in
    plain-cons b bs first (number_goes_on-plain false 0 bs p.1)

-- the same bytes as a plain text
same_bytes-plain : (xs ys : List ℕ) → has_no_newline ys ≡ true → same_bytes xs ys ≡ true → has_no_newline xs ≡ true
same_bytes-plain xs ys plain same = subst (λ zs. has_no_newline zs ≡ true) (sym (same_bytes-true xs ys same)) plain

-- a text with a plain front and a plain rest
begins_with-plain : (prefix bs : List ℕ) → has_no_newline prefix ≡ true → begins_with prefix bs ≡ true → has_no_newline (drop (length prefix) bs) ≡ true → has_no_newline bs ≡ true
begins_with-plain [] bs plain begins rest = rest
begins_with-plain (p ∷ ps) [] plain begins rest = refl
begins_with-plain (p ∷ ps) (b ∷ bs) plain begins rest =
    let same = and_parts (p == b) (begins_with ps bs) begins in
    let parts = or_parts (p == 10) (list_any (λ b. b == 10) ps) (not-true _ plain) in
    plain-cons b bs (subst (λ k. (k == 10) ≡ false) (eqb-true p b same.0) parts.0) (begins_with-plain ps bs (not_from_false _ parts.1) same.1 rest)

by_if : {P : Type 0} (c x y : Bool) → (if c then x else y) ≡ true → (c ≡ true → x ≡ true → P) → (c ≡ false → y ≡ true → P) → P
by_if true x y h f g = f refl h
by_if false x y h f g = g refl h

-- between quotes
mutual
  closes-plain : (quote : ℕ) → (quote == 10) ≡ false → (bs : List ℕ) → closes quote bs ≡ true → has_no_newline bs ≡ true
  closes-plain quote apt [] h = refl
  closes-plain quote apt (b ∷ bs) h =
      by_if (b == quote) (same_bytes bs []) (if b == 92 then escapes quote bs else not (b == 10) && closes quote bs) h
      (λ e f. plain-cons b bs (subst (λ k. (k == 10) ≡ false) (sym (eqb-true b quote e)) apt) (same_bytes-plain bs [] refl f))
      (λ _ f. by_if (b == 92) (escapes quote bs) (not (b == 10) && closes quote bs) f
      (λ e g. plain-cons b bs (apart (λ b. b == 92) refl b e) (escapes-plain quote apt bs g))
      (λ _ g. let p = and_parts (not (b == 10)) (closes quote bs) g in plain-cons b bs (not-true _ p.0) (closes-plain quote apt bs p.1)))

  escapes-plain : (quote : ℕ) → (quote == 10) ≡ false → (bs : List ℕ) → escapes quote bs ≡ true → has_no_newline bs ≡ true
  escapes-plain quote apt [] h = refl
  escapes-plain quote apt (b ∷ bs) h =
      let p = and_parts (not (b == 10)) (closes quote bs) h in
      plain-cons b bs (not-true _ p.0) (closes-plain quote apt bs p.1)

header_closes-plain : (end : ℕ) → (end == 10) ≡ false → (bs : List ℕ) → header_closes end bs ≡ true → has_no_newline bs ≡ true
header_closes-plain end apt [] h = refl
header_closes-plain end apt (b ∷ bs) h =
    by_if (b == end) (same_bytes bs []) (not (b == 10) && header_closes end bs) h
    (λ e f. plain-cons b bs (subst (λ k. (k == 10) ≡ false) (sym (eqb-true b end e)) apt) (same_bytes-plain bs [] refl f))
    (λ _ f. let p = and_parts (not (b == 10)) (header_closes end bs) f in plain-cons b bs (not-true _ p.0) (header_closes-plain end apt bs p.1))

-- one byte and a plain rest
begun-plain : (start : ℕ) → (start == 10) ≡ false → (bs : List ℕ) → begins_with (start ∷ []) bs ≡ true → has_no_newline (drop 1 bs) ≡ true → has_no_newline bs ≡ true
begun-plain start apt bs begins rest = begins_with-plain (start ∷ []) bs (plain-cons start [] apt refl) begins rest

quoted-plain : (quote : ℕ) (filled : Bool) → (quote == 10) ≡ false → (bs : List ℕ) → is_quoted quote filled bs ≡ true → has_no_newline bs ≡ true
quoted-plain quote filled apt bs h =
    let p = and_parts (begins_with (quote ∷ []) bs) (closes quote (drop 1 bs)) (and_parts (begins_with (quote ∷ []) bs && closes quote (drop 1 bs)) (not (filled && begins_with (quote ∷ []) (drop 1 bs))) h).0 in
    begun-plain quote apt bs p.0 (closes-plain quote apt (drop 1 bs) p.1)

delimited-plain : (start end : ℕ) → (start == 10) ≡ false → (end == 10) ≡ false → (bs : List ℕ) → is_delimited start end bs ≡ true → has_no_newline bs ≡ true
delimited-plain start end apt apt' bs h =
    let p = and_parts (begins_with (start ∷ []) bs) (header_closes end (drop 1 bs)) (and_parts (begins_with (start ∷ []) bs && header_closes end (drop 1 bs)) (not (begins_with (end ∷ []) (drop 1 bs))) h).0 in
    begun-plain start apt bs p.0 (header_closes-plain end apt' (drop 1 bs) p.1)

header-plain : (bs : List ℕ) → is_header bs ≡ true → has_no_newline bs ≡ true
header-plain bs h = elim (or_cases (is_delimited 60 62 bs) (is_delimited 34 34 bs) h) [
  | inl e ↦ delimited-plain 60 62 refl refl bs e
  | inr e ↦ delimited-plain 34 34 refl refl bs e
]

prefixed-plain : (test : List ℕ → Bool) → ((bs : List ℕ) → test bs ≡ true → has_no_newline bs ≡ true) → (prefixes : List (List ℕ)) → list_all has_no_newline prefixes ≡ true
    → (bs : List ℕ) → is_prefixed test prefixes bs ≡ true → has_no_newline bs ≡ true
prefixed-plain test plain [] all bs h = cc
prefixed-plain test plain (prefix ∷ prefixes) all bs h =
    let a = and_parts (has_no_newline prefix) (list_all has_no_newline prefixes) all in
    elim (or_cases (begins_with prefix bs && test (drop (length prefix) bs)) (is_prefixed test prefixes bs) h) [
      | inl e ↦ (let p = and_parts (begins_with prefix bs) (test (drop (length prefix) bs)) e in begins_with-plain prefix bs a.0 p.0 (plain (drop (length prefix) bs) p.1))
      | inr e ↦ prefixed-plain test plain prefixes a.1 bs e
    ]

listed-plain : (bs : List ℕ) (texts : List (List ℕ)) → list_all has_no_newline texts ≡ true → list_any (same_bytes bs) texts ≡ true → has_no_newline bs ≡ true
listed-plain bs [] all h = cc
listed-plain bs (text ∷ texts) all h =
    let a = and_parts (has_no_newline text) (list_all has_no_newline texts) all in
    elim (or_cases (same_bytes bs text) (list_any (same_bytes bs) texts) h) [
      | inl e ↦ same_bytes-plain bs text a.0 e
      | inr e ↦ listed-plain bs texts a.1 e
    ]

-- a single byte that is no newline
one_byte-plain : (bs : List ℕ) → is_one_byte bs ≡ true → same_bytes bs (10 ∷ []) ≡ false → has_no_newline bs ≡ true
one_byte-plain [] h no_newline = refl
one_byte-plain (b ∷ bs) h no_newline =
    let rest = same_bytes-true bs [] h in
    subst (λ cs. has_no_newline (b ∷ cs) ≡ true) (sym rest) (plain-cons b [] (elim (and_cases (b == 10) (same_bytes bs []) no_newline) [ inl e ↦ e | inr e ↦ absurd (true≢false (sym h ∙ e)) ]) refl)

-- A text that is a token of the kind. Of the kinds after the newline's it is none.
fits-plain : (kind : Kind) (bs : List ℕ) → fits (token kind) bs ≡ true → (rank (token Newline) < rank (token kind) → same_bytes bs (10 ∷ []) ≡ false) → (is_newline kind || has_no_newline bs) ≡ true
fits-plain Identifier bs h first = identifier-plain bs h
fits-plain Number bs h first = number-plain bs h
fits-plain Character bs h first = prefixed-plain (is_quoted 39 true) (quoted-plain 39 true refl) ([] ∷ codes "L" ∷ codes "u" ∷ codes "U" ∷ []) refl bs h
fits-plain Text bs h first = prefixed-plain (is_quoted 34 false) (quoted-plain 34 false refl) ([] ∷ codes "u8" ∷ codes "u" ∷ codes "U" ∷ codes "L" ∷ []) refl bs h
fits-plain Header bs h first = header-plain bs h
fits-plain Punctuator bs h first = listed-plain bs punctuators refl h
fits-plain Other bs h first = one_byte-plain bs h (first (omega arith))
fits-plain Newline bs h first = refl

-- the test of a token
abbrev is_one_line : Lexeme → Bool
is_one_line t = is_newline t.kind || has_no_newline t.spelling

abbrev are_one_line : Result (List Lexeme) Position → Bool
are_one_line (Ok ts) = list_all is_one_line ts
are_one_line (Err e) = true

with_first-one_line : (t : Lexeme) (r : Result (List Lexeme) Position) → is_one_line t ≡ true → are_one_line r ≡ true → are_one_line (with_first t r) ≡ true
with_first-one_line t (Ok ts) h rest = and_from _ _ h rest
with_first-one_line t (Err e) h rest = refl

-- the first kind that a front fits isn't one after the newline's
first-newline : (line : List (List ℕ)) (bs : List ℕ) → fits_here line (token Newline) bs ≡ false → same_bytes bs (10 ∷ []) ≡ false
first-newline line bs h = elim (and_cases (same_bytes bs (10 ∷ [])) (expects_header line || true) h) [
  | inl e ↦ e
  | inr e ↦ absurd (true≢false (sym (or_right (expects_header line) true refl) ∙ e))
]

longest-plain : {line : List (List ℕ)} {bytes : List ℕ} {kind : Kind} {n : ℕ} → IsLongest line bytes (token kind) n → (is_newline kind || has_no_newline (take n bytes)) ≡ true
longest-plain {line} {bytes} {kind} {n} longest =
    let fit = and_parts (fits (token kind) (take n bytes)) (expects_header line || not (is_header_name (token kind))) longest.fit in
    fits-plain kind (take n bytes) fit.0 (λ later. first-newline line (take n bytes) (longest.first (token Newline) later))

lexes-plain : {line : List (List ℕ)} {space : Bool} {ms : List Marked} {r : Result (List Lexeme) Position} → Lexes line space ms r → are_one_line r ≡ true
lexes-plain nothing = refl
lexes-plain (white n kind w p d) = lexes-plain d
lexes-plain (piece {space = space} {m = m} {ms = ms} {rest = rest} n kind p d e) =
    subst (λ s. are_one_line s ≡ true) (sym e)
    (with_first-one_line (lexeme space m (take n (bytes_of (m ∷ ms))) kind) rest (longest-plain p) (lexes-plain d))
lexes-plain (unended u) = refl

pub lexed-plain : (bytes : List ℕ) (ts : List Lexeme) → Lexed bytes (Ok ts) → list_all (λ (t : Lexeme). is_newline t.kind || has_no_newline t.spelling) ts ≡ true
lexed-plain bytes ts d = lexes-plain d
