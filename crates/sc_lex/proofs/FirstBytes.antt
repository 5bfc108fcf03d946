-- Which kinds of pieces begin with a byte.
use Rattle.std.proofs.Common.{◌≡◌, ℕ, zero, suc, ◌<◌, ◌≤◌, ◌==◌, ◌&&◌, ◌||◌, not, inl, inr, Bool, true, false, List, [], ◌∷◌, length, take, get_or, refl, sym, ap, ◌∙◌, arith, eq-eqb}
use Rattle.std.specs.List.{list_any, list_all}
use Rattle.std.proofs.lemmas.Bool.{cases_lt, cases_Bool, and_parts, or_parts, or_from, eqb-true, true≢false}
use Rattle.sc_model.specs.declared.kind.Kind.TheVariants.{Identifier, Number, Character, Text, Header, Punctuator, Other, Newline}
use Rattle.sc_model.specs.Bytes.{same_bytes, begins_with, is_letter, is_digit, has_no_newline}
use Rattle.c11_tokens.specs.Lex.{PieceKind, blank, comment, token, rank, fits, fits_here, expects_header, is_header_name, is_blank, goes_on, number_goes_on, begins_with_digit, punctuators, IsLongest}
use Rattle.c11_tokens.proofs.LexLaws.{kind_at, kind_at-rank, same_rank}
use Rattle.sc_lex.specs.Piece.{BeginsOnly, begins_identifier, begins_punctuator}
use Rattle.sc_lex.specs.Scan.{IsLongestFront}
use Rattle.sc_lex.proofs.Best.{front_here, rank-below}
use Rattle.sc_lex.proofs.Fronts.{nothing_more}

first_is : ℕ → List ℕ → Bool
first_is b [] = false
first_is b (c ∷ cs) = b == c

-- the first bytes of each kind
abbrev begins : PieceKind → ℕ → Bool
begins blank b = is_blank b
begins comment b = 47 == b
begins (token Newline) b = b == 10
begins (token Identifier) b = is_letter b || b == 92
begins (token Number) b = is_digit b || b == 46
begins (token Character) b = 39 == b || (76 == b || (117 == b || 85 == b))
begins (token Text) b = 34 == b || (117 == b || (85 == b || 76 == b))
begins (token Header) b = 60 == b || 34 == b
begins (token Punctuator) b = list_any (first_is b) punctuators
begins (token Other) b = true

no_entry : (b : ℕ) (bs : List ℕ) (table : List (List ℕ)) → list_any (first_is b) table ≡ false → list_any (same_bytes (b ∷ bs)) table ≡ false
unfolding first_is
no_entry b bs [] none = refl
no_entry b bs ([] ∷ table) none = or_from _ _ refl (no_entry b bs table (or_parts false _ none).1)
no_entry b bs ((c ∷ cs) ∷ table) none =
    let parts = or_parts (b == c) _ none in
    or_from _ _ (ap (λ t. t && same_bytes bs cs) parts.0) (no_entry b bs table parts.1)

begins-none : (kind : PieceKind) (b : ℕ) (bs : List ℕ) → begins kind b ≡ false → fits kind (b ∷ bs) ≡ false
begins-none blank b bs none = ap (λ t. t && list_all is_blank bs) none
begins-none comment b bs none = rw none
begins-none (token Newline) b bs none = ap (λ t. t && same_bytes bs []) none
begins-none (token Identifier) b bs none = ap (λ t. t && goes_on 0 (b ∷ bs)) none
begins-none (token Number) b bs none =
    let parts = or_parts (is_digit b) (b == 46) none in
    ap (λ t. (t || (b == 46 && begins_with_digit bs)) && number_goes_on false 0 bs) parts.0
    ∙ ap (λ t. (t && begins_with_digit bs) && number_goes_on false 0 bs) parts.1
begins-none (token Character) b bs none =
    let one = or_parts (39 == b) _ none in
    let two = or_parts (76 == b) _ one.1 in
    let three = or_parts (117 == b) (85 == b) two.1 in
    rw (one.0, two.0, three.0, three.1)
begins-none (token Text) b bs none =
    let one = or_parts (34 == b) _ none in
    let two = or_parts (117 == b) _ one.1 in
    let three = or_parts (85 == b) (76 == b) two.1 in
    rw (one.0, two.0, three.0, three.1)
begins-none (token Header) b bs none = let parts = or_parts (60 == b) (34 == b) none in rw (parts.0, parts.1)
begins-none (token Punctuator) b bs none = no_entry b bs punctuators none
begins-none (token Other) b bs none = cc

-- what holds of each number below n
abbrev all_below : ℕ → (ℕ → Bool) → Bool
all_below zero p = true
all_below (suc n) p = p n && all_below n p

all_below-at : (n : ℕ) (p : ℕ → Bool) → all_below n p ≡ true → (i : ℕ) → i < n → p i ≡ true
all_below-at zero p all i below = absurd (omega arith)
all_below-at (suc n) p all i below =
    let parts = and_parts (p n) (all_below n p) all in
    elim (cases_lt i n) [
      | inl less ↦ all_below-at n p parts.1 i less
      | inr more ↦ (let same : i ≡ n = omega arith in ap p same ∙ parts.0)
    ]

-- the byte is of this kind, and no other kind but the last begins with it
abbrev is_alone : PieceKind → ℕ → Bool
is_alone kind b = fits kind (b ∷ []) && all_below 9 (λ i. (i == rank kind) || not (begins (kind_at i) b))

not_true : (x : Bool) → not x ≡ true → x ≡ false
not_true true h = absurd (true≢false (sym h))
not_true false h = refl

others : (kind other : PieceKind) (b : ℕ) → all_below 9 (λ i. (i == rank kind) || not (begins (kind_at i) b)) ≡ true → (other ≡ kind → ⊥) → (other ≡ token Other → ⊥) → begins other b ≡ false
others kind other b all not_kind not_other =
    let low : rank other < 9 = elim (cases_lt (rank other) 9) [
      | inl less ↦ less
      | inr more ↦ (let top : rank other ≡ rank (token Other) = omega (arith, rank-below other) in absurd (not_other (same_rank other (token Other) top)))
    ] in
    let here = all_below-at 9 (λ i. (i == rank kind) || not (begins (kind_at i) b)) all (rank other) low in
    elim (cases_Bool (rank other == rank kind)) [
      | inl same ↦ absurd (not_kind (same_rank other kind (eqb-true (rank other) (rank kind) same)))
      | inr differ ↦ not_true (begins other b) (ap (λ k. not (begins k b)) (sym (kind_at-rank other)) ∙ (ap (λ t. t || not (begins (kind_at (rank other)) b)) (sym differ) ∙ here))
    ]

BeginsOnly-alone : (kind : PieceKind) (b : ℕ) → is_alone kind b ≡ true → BeginsOnly b kind
BeginsOnly-alone kind b is =
    let parts = and_parts (fits kind (b ∷ [])) (all_below 9 (λ i. (i == rank kind) || not (begins (kind_at i) b))) is in
    record { fit = parts.0; alone = λ other bs not_kind not_other. begins-none other b bs (others kind other b parts.1 not_kind not_other) }

-- of the 256 bytes, those of a class
begins_only : (is : ℕ → Bool) (kind : PieceKind) → all_below 256 (λ b. not (is b) || is_alone kind b) ≡ true → (b : ℕ) → b < 256 → is b ≡ true → BeginsOnly b kind
begins_only is kind all b byte holds = BeginsOnly-alone kind b (ap (λ t. not t || is_alone kind b) (sym holds) ∙ all_below-at 256 (λ b. not (is b) || is_alone kind b) all b byte)

pub identifier_begins : (b : ℕ) → b < 256 → begins_identifier b ≡ true → BeginsOnly b (token Identifier)
unfolding first_is
identifier_begins = begins_only begins_identifier (token Identifier) refl

pub number_begins : (b : ℕ) → b < 256 → is_digit b ≡ true → BeginsOnly b (token Number)
unfolding first_is
number_begins = begins_only is_digit (token Number) refl

pub punctuator_begins : (b : ℕ) → b < 256 → begins_punctuator b ≡ true → BeginsOnly b (token Punctuator)
unfolding first_is
punctuator_begins = begins_only begins_punctuator (token Punctuator) refl

-- neither a header name nor a comment is one byte
one_header : (b : ℕ) → fits (token Header) (b ∷ []) ≡ false
one_header b = elim (cases_Bool (60 == b)) [
  | inl e ↦ elim (cases_Bool (34 == b)) [ inl f ↦ rw (e, f) | inr f ↦ rw (e, f) ]
  | inr e ↦ elim (cases_Bool (34 == b)) [ inl f ↦ rw (e, f) | inr f ↦ rw (e, f) ]
]

no_header : (kind : PieceKind) (b : ℕ) → fits kind (b ∷ []) ≡ true → is_header_name kind ≡ false
no_header (token Header) b fit = absurd (true≢false (sym fit ∙ one_header b))
no_header blank b fit = refl
no_header comment b fit = refl
no_header (token Identifier) b fit = refl
no_header (token Number) b fit = refl
no_header (token Character) b fit = refl
no_header (token Text) b fit = refl
no_header (token Punctuator) b fit = refl
no_header (token Other) b fit = refl
no_header (token Newline) b fit = refl

no_comment : (b : ℕ) → fits comment (b ∷ []) ≡ false
no_comment b = by (47 == b)
  where
    by : (x : Bool) → (((x && false) && false) || ((x && false) && has_no_newline (b ∷ []))) ≡ false
    by true = refl
    by false = refl

-- The longest prefix of a kind is the longest of all where the first byte begins only that kind.
module _ (line : List (List ℕ)) (b : ℕ) (bs : List ℕ) (kind : PieceKind) (n : ℕ) (only : BeginsOnly b kind) (front : IsLongestFront (fits kind) (b ∷ bs) n) where
  positive : 0 < n
  positive = elim (cases_lt 0 n) [
    | inl some ↦ some
    | inr none ↦ absurd (true≢false (sym only.fit ∙ front.longest 1 (omega arith) (omega arith)))
  ]

  here : IsLongestFront (fits_here line kind) (b ∷ bs) n
  here = front_here line kind (b ∷ bs) n (no_header kind b only.fit) front

  -- no longer front is of another kind
  none_other : (other : PieceKind) (m : ℕ) → (other ≡ kind → ⊥) → (other ≡ token Other → ⊥) → 0 < m → fits_here line other (take m (b ∷ bs)) ≡ false
  none_other other zero not_kind not_other some = absurd (omega arith)
  none_other other (suc m) not_kind not_other some = ap (λ t. t && (expects_header line || not (is_header_name other))) (only.alone other (take m bs) not_kind not_other)

  not_one : (m : ℕ) → 1 < m → m ≤ length (b ∷ bs) → fits_here line (token Other) (take m (b ∷ bs)) ≡ false
  not_one zero more within = absurd (omega arith)
  not_one (suc m) more within = ap (λ t. t && (expects_header line || true)) (nothing_more bs m (omega arith) (omega arith))

  pub longest_of_only : IsLongest line (b ∷ bs) kind n
  longest_of_only = record {
    positive = positive;
    within = front.within;
    fit = here.fit positive;
    longest = λ m other longer within. elim (cases_Bool (rank other == rank kind)) [
      | inl same ↦ (let is = same_rank other kind (eqb-true (rank other) (rank kind) same) in ap (λ k. fits_here line k (take m (b ∷ bs))) is ∙ here.longest m longer within)
      | inr differ ↦ elim (cases_Bool (rank other == 9)) [
        | inl last ↦ (let is = same_rank other (token Other) (eqb-true (rank other) 9 last) in
            let some = positive in ap (λ k. fits_here line k (take m (b ∷ bs))) is ∙ not_one m (omega arith) within)
        | inr before ↦ (let some = positive in none_other other m (apart other kind differ) (apart other (token Other) before) (omega arith))
      ]
    ];
    first = λ other before. none_other other n (λ is. let e = ap rank is in absurd (omega arith)) (λ is. let e = ap rank is in let top = rank-below kind in absurd (omega arith)) positive;
    ended = λ u. true≢false (ap (fits comment) (slash u.begins) ∙ only.alone comment (42 ∷ 42 ∷ 47 ∷ []) (λ is. true≢false (sym only.fit ∙ (ap (λ k. fits k (b ∷ [])) (sym is) ∙ no_comment b))) (λ is. cc));
  }
    where
      apart : (j k : PieceKind) → (rank j == rank k) ≡ false → j ≡ k → ⊥
      apart j k differ is = true≢false (sym (eq-eqb (rank j) (rank k) (ap rank is)) ∙ differ)

      slash : begins_with (47 ∷ 42 ∷ []) (b ∷ bs) ≡ true → 47 ∷ 42 ∷ 42 ∷ 47 ∷ [] ≡ b ∷ 42 ∷ 42 ∷ 47 ∷ []
      slash e = ap (λ x. x ∷ 42 ∷ 42 ∷ 47 ∷ []) (eqb-true 47 b (and_parts (47 == b) _ e).0)

pub longest_where_only : (line : List (List ℕ)) (bytes : List ℕ) (kind : PieceKind) (n : ℕ) → 0 < length bytes → BeginsOnly (get_or bytes 0 0) kind → IsLongestFront (fits kind) bytes n
    → IsLongest line bytes kind n
longest_where_only line [] kind n some only front = absurd (omega arith)
longest_where_only line (b ∷ bs) kind n some only front = longest_of_only line b bs kind n only front
