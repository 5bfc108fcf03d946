-- Comments, and what stands between quotes or in a header name: the first end is the last byte.
use Rattle.std.proofs.Common.{◌≡◌, ℕ, zero, suc, ◌+◌, ◌<◌, ◌≤◌, ◌==◌, ◌&&◌, ◌||◌, not, nat_lt, nat_le, nat_eq, inl, inr, Bool, true, false, cond, List, [], ◌∷◌, length, take, drop, get_or, refl, sym, ap, ◌∙◌, subst, arith, zero-add}
use Rattle.std.specs.List.{list_any, starts_with}
use Rattle.std.proofs.lemmas.Bool.{cases_Bool, and_parts, and_cases, and_left, and_right, or_from, eq-eqb, eqb-true, eqb-false, ne_eqb, le-ltb, le-leb, leb-true, not-true, true≢false}
use Rattle.sc_model.specs.Bytes.{same_bytes, begins_with}
use Rattle.c11_tokens.specs.Lex.{closes, escapes, header_closes, comment_closes, is_comment, IsUnended}
use Rattle.sc_model.specs.Bytes.{has_no_newline}
use Rattle.sc_lex.specs.Scan.{IsLongestFront, quoted_length, opens}
use Rattle.sc_lex.proofs.Fronts.{Becomes, Becomes-one, Unmet, Unmet-one, IsStuck, closing_byte, byte_before, byte_before_none, none_where_stuck, IsLongestFront-same, longest_after}

-- What a part of n bytes at the front says of the rest. Where n is 0 there is no end.
pub record Goes (f : List ℕ → Bool) (bs : List ℕ) (n : ℕ) : Type 0 where
  pub goes : 0 < n → Unmet f f bs n
  pub stops : n ≡ 0 → IsStuck f bs

and_true : (x : Bool) → (x && true) ≡ x
and_true true = refl
and_true false = refl

or_false : (x : Bool) → (x || false) ≡ x
or_false true = refl
or_false false = refl

pub eqb_comm : (a b : ℕ) → (a == b) ≡ (b == a)
eqb_comm a b = elim (cases_Bool (b == a)) [
  | inl e ↦ eq-eqb a b (sym (eqb-true b a e)) ∙ sym e
  | inr e ↦ ne_eqb a b (λ h. eqb-false b a e (sym h)) ∙ sym e
]

-- no end at the first byte, and a newline comes
newline_stops : (f : List ℕ → Bool) (b : ℕ) (bs : List ℕ) → ((xs : List ℕ) → f (b ∷ xs) ≡ false) → IsStuck f (b ∷ bs)
newline_stops f b bs rule = record { fails = by }
  where
    by : (m : ℕ) → 0 < m → m ≤ length (b ∷ bs) → f (take m (b ∷ bs)) ≡ false
    by zero positive within = absurd (omega arith)
    by (suc m) positive within = rule (take m bs)

module _ (quote : ℕ) where
  closes-other : (b : ℕ) (xs : List ℕ) → (b == quote) ≡ false → closes quote (b ∷ xs) ≡ cond (b == 92) (escapes quote xs) (not (b == 10) && closes quote xs)
  closes-other b xs e = ap (λ t. cond t (same_bytes xs []) (cond (b == 92) (escapes quote xs) (not (b == 10) && closes quote xs))) e

  slash-rule : (b : ℕ) (xs : List ℕ) → (b == quote) ≡ false → (b == 92) ≡ true → closes quote (b ∷ xs) ≡ escapes quote xs
  slash-rule b xs other slash = closes-other b xs other ∙ ap (λ t. cond t (escapes quote xs) (not (b == 10) && closes quote xs)) slash

  escapes-rule : (c : ℕ) (newline : Bool) (xs : List ℕ) → (c == 10) ≡ newline → escapes quote (c ∷ xs) ≡ (not newline && closes quote xs)
  escapes-rule c newline xs e = ap (λ t. not t && closes quote xs) e

  -- a backslash takes the byte after it along
  escaped : (b : ℕ) (bs : List ℕ) → (b == quote) ≡ false → (b == 92) ≡ true → Goes (closes quote) (b ∷ bs) (cond (nat_lt (length (b ∷ bs)) 2 || get_or (b ∷ bs) 1 0 == 10) 0 2)
  escaped b [] other slash = record { goes = λ positive. absurd (omega arith); stops = λ none. record { fails = by } }
    where
      by : (m : ℕ) → 0 < m → m ≤ length (b ∷ []) → closes quote (take m (b ∷ [])) ≡ false
      by zero positive within = absurd (omega arith)
      by (suc zero) positive within = slash-rule b [] other slash
      by (suc (suc m)) positive within = absurd (omega arith)
  escaped b (c ∷ cs) other slash = by (nat_lt (length (b ∷ c ∷ cs)) 2) (c == 10) refl refl
    where
      ends : (c == 10) ≡ true → (m : ℕ) → 0 < m → m ≤ length (b ∷ c ∷ cs) → closes quote (take m (b ∷ c ∷ cs)) ≡ false
      ends e zero positive within = absurd (omega arith)
      ends e (suc zero) positive within = slash-rule b [] other slash
      ends e (suc (suc m)) positive within = slash-rule b (c ∷ take m cs) other slash ∙ escapes-rule c true (take m cs) e

      unmet : (c == 10) ≡ false → (m : ℕ) → m ≤ 2 → closes quote (take m (b ∷ c ∷ cs)) ≡ false
      unmet e zero within = refl
      unmet e (suc zero) within = slash-rule b [] other slash
      unmet e (suc (suc zero)) within = slash-rule b (c ∷ []) other slash ∙ escapes-rule c false [] e
      unmet e (suc (suc (suc m))) within = absurd (omega arith)

      by : (short newline : Bool) → nat_lt (length (b ∷ c ∷ cs)) 2 ≡ short → (c == 10) ≡ newline → Goes (closes quote) (b ∷ c ∷ cs) (cond (short || newline) 0 2)
      by true newline l e = absurd (true≢false (sym l ∙ le-ltb (length (b ∷ c ∷ cs)) 2 (omega arith)))
      by false true l e = record { goes = λ positive. absurd (omega arith); stops = λ none. record { fails = ends e } }
      by false false l e = record {
        goes = λ positive. record {
          becomes = record { within = omega arith; asks = λ xs. slash-rule b (c ∷ xs) other slash ∙ escapes-rule c false xs e };
          fails = unmet e;
        };
        stops = λ none. absurd (omega arith);
      }

  pub closing-steps : (bs : List ℕ) → 0 < length bs → (get_or bs 0 0 == quote) ≡ false → Goes (closes quote) bs (quoted_length bs)
  closing-steps [] some other = absurd (omega arith)
  closing-steps (b ∷ bs) some other = by (b == 10) (b == 92) refl refl
    where
      rule : (newline slash : Bool) → (b == 10) ≡ newline → (b == 92) ≡ slash → (xs : List ℕ) → closes quote (b ∷ xs) ≡ cond slash (escapes quote xs) (not newline && closes quote xs)
      rule newline slash e s xs = closes-other b xs other ∙ ap (λ t. cond t (escapes quote xs) (not (b == 10) && closes quote xs)) s ∙ ap (λ t. cond slash (escapes quote xs) (not t && closes quote xs)) e

      by : (newline slash : Bool) → (b == 10) ≡ newline → (b == 92) ≡ slash
          → Goes (closes quote) (b ∷ bs) (cond newline 0 (cond slash (cond (nat_lt (length (b ∷ bs)) 2 || get_or (b ∷ bs) 1 0 == 10) 0 2) 1))
      by true true e s = let is_newline = eqb-true b 10 e in let is_slash = eqb-true b 92 s in absurd (omega arith)
      by true false e s = record { goes = λ positive. absurd (omega arith); stops = λ none. newline_stops (closes quote) b bs (rule true false e s) }
      by false true e s = escaped b bs other s
      by false false e s = record { goes = λ positive. Unmet-one (closes quote) (closes quote) b bs (rule false false e s) refl refl; stops = λ none. absurd (omega arith) }

  pub closing-found : (bs : List ℕ) → 0 < length bs → (get_or bs 0 0 == quote) ≡ true → IsLongestFront (closes quote) bs 1
  closing-found [] some found = absurd (omega arith)
  closing-found (b ∷ bs) some found =
      closing_byte (closes quote) b bs (λ xs. ap (λ t. cond t (same_bytes xs []) (cond (b == 92) (escapes quote xs) (not (b == 10) && closes quote xs))) found)

-- in a header name no byte takes another along
module _ (end : ℕ) where
  pub header-found : (b : ℕ) (bs : List ℕ) → (b == end) ≡ true → IsLongestFront (header_closes end) (b ∷ bs) 1
  header-found b bs found = closing_byte (header_closes end) b bs (λ xs. ap (λ t. cond t (same_bytes xs []) (not (b == 10) && header_closes end xs)) found)

  header-rule : (b : ℕ) (newline : Bool) (xs : List ℕ) → (b == end) ≡ false → (b == 10) ≡ newline → header_closes end (b ∷ xs) ≡ (not newline && header_closes end xs)
  header-rule b newline xs other e =
      ap (λ t. cond t (same_bytes xs []) (not (b == 10) && header_closes end xs)) other ∙ ap (λ t. not t && header_closes end xs) e

  pub header-more : (b : ℕ) (bs : List ℕ) → (b == end) ≡ false → (b == 10) ≡ false → Unmet (header_closes end) (header_closes end) (b ∷ bs) 1
  header-more b bs other e = Unmet-one (header_closes end) (header_closes end) b bs (λ xs. header-rule b false xs other e) refl refl

  pub header-stops : (b : ℕ) (bs : List ℕ) → (b == end) ≡ false → (b == 10) ≡ true → IsStuck (header_closes end) (b ∷ bs)
  header-stops b bs other e = newline_stops (header_closes end) b bs (λ xs. header-rule b true xs other e)

-- what a test asks between two bytes, with something between them where that is asked for
abbrev pub enclosed : (List ℕ → Bool) → ℕ → ℕ → Bool → List ℕ → Bool
enclosed f start end filled bs = begins_with (start ∷ []) bs && f (drop 1 bs) && not (filled && begins_with (end ∷ []) (drop 1 bs))

module _ (f : List ℕ → Bool) (start end : ℕ) (filled : Bool) (empty : f [] ≡ false) where
  inside : List ℕ → Bool
  inside bs = f bs && not (filled && begins_with (end ∷ []) bs)

  opened : (b : ℕ) (xs : List ℕ) → (b == start) ≡ true → enclosed f start end filled (b ∷ xs) ≡ inside xs
  unfolding inside
  opened b xs e = ap (λ c. enclosed f start end filled (c ∷ xs)) (eqb-true b start e) ∙ ap (λ t. ((t && true) && f xs) && not (filled && begins_with (end ∷ []) xs)) (eq-eqb start start refl)

  inside-none : inside [] ≡ false
  unfolding inside
  inside-none = ap (λ t. t && not (filled && false)) empty

  -- the byte after the opening one tells whether something stands between
  inside-front : (c : ℕ) (cs : List ℕ) (k : ℕ) → (filled && (c == end)) ≡ false → IsLongestFront f (c ∷ cs) k → IsLongestFront inside (c ∷ cs) k
  unfolding inside
  inside-front c cs k full front = IsLongestFront-same inside f (c ∷ cs) k same front
    where
      same : (m : ℕ) → 0 < m → inside (take m (c ∷ cs)) ≡ f (take m (c ∷ cs))
      same zero positive = absurd (omega arith)
      same (suc m) positive = ap (λ t. f (c ∷ take m cs) && not (filled && (t && true))) (eqb_comm end c) ∙ ap (λ t. f (c ∷ take m cs) && not t) (with_true ∙ full) ∙ and_true (f (c ∷ take m cs))
        where
          with_true : (filled && ((c == end) && true)) ≡ (filled && (c == end))
          with_true = ap (λ t. filled && t) (and_true (c == end))

  -- what `opens` says
  parts : (bs : List ℕ) → opens start end filled bs ≡ true → (2 ≤ length bs) × ((get_or bs 0 0 == start) ≡ true) × ((filled && (get_or bs 1 0 == end)) ≡ false)
  parts bs is =
      let halves = and_parts (nat_le 2 (length bs)) _ is in
      let rest = and_parts (get_or bs 0 0 == start) _ halves.1 in
      (leb-true 2 (length bs) halves.0, rest.0, not-true (filled && (get_or bs 1 0 == end)) rest.1)

  pub enclosed-some : (bs : List ℕ) (k : ℕ) → opens start end filled bs ≡ true → IsLongestFront f (drop 1 bs) k → 0 < k → IsLongestFront (enclosed f start end filled) bs (1 + k)
  enclosed-some [] k is front some = let long = (parts [] is).0 in absurd (omega arith)
  enclosed-some (b ∷ []) k is front some = let long = (parts (b ∷ []) is).0 in absurd (omega arith)
  enclosed-some (b ∷ c ∷ cs) k is front some =
      let all = parts (b ∷ c ∷ cs) is in
      byte_before (enclosed f start end filled) inside b (c ∷ cs) k (λ xs. opened b xs all.1) (inside-front c cs k all.2 front) some

  pub enclosed-open : (bs : List ℕ) → opens start end filled bs ≡ true → IsLongestFront f (drop 1 bs) 0 → IsLongestFront (enclosed f start end filled) bs 0
  enclosed-open [] is front = let long = (parts [] is).0 in absurd (omega arith)
  enclosed-open (b ∷ []) is front = let long = (parts (b ∷ []) is).0 in absurd (omega arith)
  enclosed-open (b ∷ c ∷ cs) is front =
      let all = parts (b ∷ c ∷ cs) is in
      byte_before_none (enclosed f start end filled) inside b (c ∷ cs) (λ xs. opened b xs all.1) inside-none (inside-front c cs 0 all.2 front)

  pub enclosed-none : (bs : List ℕ) → opens start end filled bs ≡ false → IsLongestFront (enclosed f start end filled) bs 0
  enclosed-none bs off = none_where_stuck (enclosed f start end filled) bs (record { fails = by bs off })
    where
      alone : (b : ℕ) → enclosed f start end filled (b ∷ []) ≡ false
      alone b = and_left _ (not (filled && false)) (and_right ((start == b) && true) (f []) empty)

      by : (bs : List ℕ) → opens start end filled bs ≡ false → (m : ℕ) → 0 < m → m ≤ length bs → enclosed f start end filled (take m bs) ≡ false
      by bs off zero positive within = absurd (omega arith)
      by [] off (suc m) positive within = absurd (omega arith)
      by (b ∷ bs) off (suc zero) positive within = alone b
      by (b ∷ []) off (suc (suc m)) positive within = absurd (omega arith)
      by (b ∷ c ∷ cs) off (suc (suc m)) positive within = elim (and_cases (nat_le 2 (length (b ∷ c ∷ cs))) _ off) [
        | inl short ↦ absurd (true≢false (sym (le-leb 2 (length (b ∷ c ∷ cs)) (omega arith)) ∙ short))
        | inr rest ↦ elim (and_cases (b == start) _ rest) [
          | inl other ↦ and_left _ (not (filled && ((end == c) && true))) (and_left ((start == b) && true) (f (c ∷ take m cs)) (and_left (start == b) true (eqb_comm start b ∙ other)))
          | inr full ↦ and_right (((start == b) && true) && f (c ∷ take m cs)) _ (ap (λ t. not (filled && t)) (and_true (end == c) ∙ eqb_comm end c) ∙ full)
        ]
      ]

begins_with-take : (prefix bs : List ℕ) (m : ℕ) → begins_with prefix bs ≡ false → begins_with prefix (take m bs) ≡ false
begins_with-take [] bs m off = off
begins_with-take (x ∷ xs) bs zero off = refl
begins_with-take (x ∷ xs) [] (suc m) off = refl
begins_with-take (x ∷ xs) (b ∷ bs) (suc m) off = elim (and_cases (x == b) (begins_with xs bs) off) [
  | inl other ↦ and_left _ (begins_with xs (take m bs)) other
  | inr rest ↦ and_right (x == b) _ (begins_with-take xs bs m rest)
]

-- a prefix, and the test of what follows it
abbrev pub behind : List ℕ → (List ℕ → Bool) → List ℕ → Bool
behind prefix test bs = begins_with prefix bs && test (drop (length prefix) bs)

module _ (test : List ℕ → Bool) (empty : test [] ≡ false) where
  first_of_prefix : (x b : ℕ) (xs ys : List ℕ) → (x == b) ≡ true → behind (x ∷ xs) test (b ∷ ys) ≡ behind xs test ys
  first_of_prefix x b xs ys e = ap (λ t. (t && begins_with xs ys) && test (drop (length xs) ys)) e

  behind-empty : (prefix : List ℕ) → behind prefix test [] ≡ false
  behind-empty [] = empty
  behind-empty (x ∷ xs) = refl

  pub behind-some : (prefix bs : List ℕ) (k : ℕ) → begins_with prefix bs ≡ true → IsLongestFront test (drop (length prefix) bs) k → 0 < k → IsLongestFront (behind prefix test) bs (length prefix + k)
  behind-some [] bs k is front some = subst (IsLongestFront test bs) (sym (zero-add k)) front
  behind-some (x ∷ xs) [] k is front some = cc
  behind-some (x ∷ xs) (b ∷ bs) k is front some =
      let halves = and_parts (x == b) (begins_with xs bs) is in
      let one : 1 + (length xs + k) ≡ length (x ∷ xs) + k = omega arith in
      subst (IsLongestFront (behind (x ∷ xs) test) (b ∷ bs)) one
      (byte_before (behind (x ∷ xs) test) (behind xs test) b bs (length xs + k) (λ ys. first_of_prefix x b xs ys halves.0) (behind-some xs bs k halves.1 front some) (omega arith))

  pub behind-none : (prefix bs : List ℕ) → begins_with prefix bs ≡ true → IsLongestFront test (drop (length prefix) bs) 0 → IsLongestFront (behind prefix test) bs 0
  behind-none [] bs is front = front
  behind-none (x ∷ xs) [] is front = cc
  behind-none (x ∷ xs) (b ∷ bs) is front =
      let halves = and_parts (x == b) (begins_with xs bs) is in
      byte_before_none (behind (x ∷ xs) test) (behind xs test) b bs (λ ys. first_of_prefix x b xs ys halves.0) (behind-empty xs) (behind-none xs bs halves.1 front)

  pub behind-off : (prefix bs : List ℕ) → begins_with prefix bs ≡ false → IsLongestFront (behind prefix test) bs 0
  behind-off prefix bs off = none_where_stuck (behind prefix test) bs (record { fails = λ m positive within. and_left _ (test (drop (length prefix) (take m bs))) (begins_with-take prefix bs m off) })

-- `starts_with` tests each byte of the prefix
pub starts_with-is : (prefix bs : List ℕ) → begins_with prefix bs ≡ starts_with nat_eq bs prefix
starts_with-is [] bs = refl
starts_with-is (x ∷ xs) [] = refl
starts_with-is (x ∷ xs) (b ∷ bs) = ap (λ t. (x == b) && t) (starts_with-is xs bs)

-- comments: after a star a slash ends
abbrev pub closes_after : Bool → List ℕ → Bool
closes_after true bs = comment_closes (42 ∷ bs)
closes_after false bs = comment_closes bs

comment-rule : (b : ℕ) (xs : List ℕ) → comment_closes (b ∷ xs) ≡ closes_after (b == 42) xs
comment-rule b xs = by (b == 42) refl
  where
    by : (star : Bool) → (b == 42) ≡ star → comment_closes (b ∷ xs) ≡ closes_after star xs
    by true e = ap (λ c. comment_closes (c ∷ xs)) (eqb-true b 42 e)
    by false e = ap (λ t. cond (t && begins_with (47 ∷ []) xs) (same_bytes xs (47 ∷ [])) (comment_closes xs)) e

comment-empty : (star : Bool) → closes_after star [] ≡ false
comment-empty true = refl
comment-empty false = refl

pub comment-more : (star : Bool) (b : ℕ) (bs : List ℕ) → (star && (b == 47)) ≡ false → Unmet (closes_after star) (closes_after (b == 42)) (b ∷ bs) 1
comment-more star b bs off = Unmet-one (closes_after star) (closes_after (b == 42)) b bs (λ xs. by star xs off) (comment-empty star) (comment-empty (b == 42))
  where
    by : (star : Bool) (xs : List ℕ) → (star && (b == 47)) ≡ false → closes_after star (b ∷ xs) ≡ closes_after (b == 42) xs
    by true xs off = ap (λ t. cond (t && true) (same_bytes (b ∷ xs) (47 ∷ [])) (comment_closes (b ∷ xs))) (eqb_comm 47 b ∙ off) ∙ comment-rule b xs
    by false xs off = comment-rule b xs

pub comment-found : (b : ℕ) (bs : List ℕ) → (b == 47) ≡ true → IsLongestFront (closes_after true) (b ∷ bs) 1
comment-found b bs found = closing_byte (closes_after true) b bs (λ xs. ap (λ c. closes_after true (c ∷ xs)) (eqb-true b 47 found))

-- a line, without its newline
pub line-more : (b : ℕ) (bs : List ℕ) → (b == 10) ≡ false → Becomes has_no_newline has_no_newline (b ∷ bs) 1
line-more b bs e = Becomes-one has_no_newline has_no_newline b bs (λ xs. ap (λ t. not (t || list_any (λ b. b == 10) xs)) e)

pub line-stops : (b : ℕ) (bs : List ℕ) → (b == 10) ≡ true → IsStuck has_no_newline (b ∷ bs)
line-stops b bs e = newline_stops has_no_newline b bs (λ xs. ap (λ t. not (t || list_any (λ b. b == 10) xs)) e)

-- a whole comment
two_first : (a b : ℕ) (f g : List ℕ → Bool) (bs : List ℕ) (k : ℕ) → begins_with (a ∷ b ∷ []) bs ≡ true → ((xs : List ℕ) → f (a ∷ b ∷ xs) ≡ g xs)
    → IsLongestFront g (drop 2 bs) k → (k ≡ 0 → g [] ≡ true) → IsLongestFront f bs (2 + k)
two_first a b f g [] k is rule front empty = cc
two_first a b f g (x ∷ []) k is rule front empty = let halves = and_parts (a == x) false is in cc
two_first a b f g (x ∷ y ∷ bs) k is rule front empty =
    let halves = and_parts (a == x) ((b == y) && true) is in
    let first = eqb-true a x halves.0 in
    let second = eqb-true b y (and_parts (b == y) true halves.1).0 in
    longest_after k (record { within = omega arith; asks = λ xs. ap (λ c. f (c ∷ y ∷ xs)) (sym first) ∙ ap (λ c. f (a ∷ c ∷ xs)) (sym second) ∙ rule xs }) front empty

pub line_comment : (bs : List ℕ) (k : ℕ) → begins_with (47 ∷ 47 ∷ []) bs ≡ true → IsLongestFront has_no_newline (drop 2 bs) k → IsLongestFront is_comment bs (2 + k)
line_comment bs k is front = two_first 47 47 is_comment has_no_newline bs k is (λ xs. refl) front (λ none. refl)

pub block_comment : (bs : List ℕ) (k : ℕ) → begins_with (47 ∷ 42 ∷ []) bs ≡ true → IsLongestFront comment_closes (drop 2 bs) k → 0 < k → IsLongestFront is_comment bs (2 + k)
block_comment bs k is front some = two_first 47 42 is_comment comment_closes bs k is (λ xs. or_false (comment_closes xs)) front (λ none. absurd (omega arith))

pub no_comment : (bs : List ℕ) → begins_with (47 ∷ 47 ∷ []) bs ≡ false → begins_with (47 ∷ 42 ∷ []) bs ≡ false → IsLongestFront is_comment bs 0
no_comment bs line block = none_where_stuck is_comment bs (record {
  fails = λ m positive within.
      or_from _ _ (and_left _ (comment_closes (drop 2 (take m bs))) (begins_with-take (47 ∷ 42 ∷ []) bs m block)) (and_left _ (has_no_newline (take m bs)) (begins_with-take (47 ∷ 47 ∷ []) bs m line));
})

-- no end of a comment that began
pub unended : (bs : List ℕ) → begins_with (47 ∷ 42 ∷ []) bs ≡ true → ((m : ℕ) → comment_closes (take m (drop 2 bs)) ≡ false) → IsUnended bs
unended [] is never = cc
unended (x ∷ []) is never = let halves = and_parts (47 == x) false is in cc
unended (x ∷ y ∷ bs) is never = record { begins = is; no_end = by }
  where
    halves : ((47 == x) ≡ true) × (((42 == y) && true) ≡ true)
    halves = and_parts (47 == x) ((42 == y) && true) is

    whole : (xs : List ℕ) → is_comment (x ∷ y ∷ xs) ≡ comment_closes xs
    whole xs = ap (λ c. is_comment (c ∷ y ∷ xs)) (sym (eqb-true 47 x halves.0)) ∙ ap (λ c. is_comment (47 ∷ c ∷ xs)) (sym (eqb-true 42 y (and_parts (42 == y) true halves.1).0)) ∙ or_false (comment_closes xs)

    by : (n : ℕ) → is_comment (take n (x ∷ y ∷ bs)) ≡ false
    by zero = refl
    by (suc zero) = or_from _ _ (and_left _ false (and_right (47 == x) false refl)) (and_left _ (has_no_newline (x ∷ [])) (and_right (47 == x) false refl))
    by (suc (suc n)) = whole (take n bs) ∙ never n

-- a comment that ends has an end
pub ended : (bs : List ℕ) (n : ℕ) → IsLongestFront is_comment bs n → 0 < n → IsUnended bs → ⊥
ended bs n front some u = true≢false (sym (front.fit some) ∙ u.no_end n)

-- a comment without an end begins as one
pub ended_elsewhere : (bs : List ℕ) → begins_with (47 ∷ 42 ∷ []) bs ≡ false → IsUnended bs → ⊥
ended_elsewhere bs off u = true≢false (sym u.begins ∙ off)

-- the four and the five prefixes, one by one
pub four_tests : (a b c d : Bool) → (a || (b || (c || (d || false)))) ≡ (((a || b) || c) || d)
four_tests true b c d = refl
four_tests false true c d = refl
four_tests false false true d = refl
four_tests false false false true = refl
four_tests false false false false = refl

pub five_tests : (a b c d e : Bool) → (a || (b || (c || (d || (e || false))))) ≡ ((((a || b) || c) || d) || e)
five_tests true b c d e = refl
five_tests false b c d e = four_tests b c d e
