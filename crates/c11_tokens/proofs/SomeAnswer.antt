-- A file has a sequence of tokens, or a first comment without an end.
use Rattle.std.proofs.Common.{◌≡◌, ℕ, zero, suc, ◌<◌, ◌≤◌, ◌⊎◌, inl, inr, Bool, true, false, ◌&&◌, ◌||◌, List, [], ◌∷◌, length, take, drop, Result, Ok, Err, refl, sym, ap, ◌∙◌, subst, arith}
use Rattle.std.proofs.lemmas.Bool.{cases_Bool, cases_lt, true≢false}
use Rattle.std.proofs.lemmas.List.{length-drop, take_all}
use Rattle.sc_model.specs.Bytes.{begins_with}
use Rattle.c11_tokens.specs.Lex.{PieceKind, blank, comment, token, rank, fits_here, is_comment, is_newline, IsLongest, IsUnended, expects_header, lexeme, Lexed, Lexes, line_after, Marked, bytes_of, nothing, phase_2, piece, unended, white, with_first}
use Rattle.c11_tokens.proofs.LexLaws.{kind_at, kind_at-rank}
use Rattle.sc_model.specs.declared.kind.Kind.TheVariants.{Identifier, Number, Character, Text, Header, Punctuator, Other, Newline}
use Rattle.sc_model.specs.Token.{Position, Lexeme}

-- ---- the first and the last number that pass

-- the first number below n that passes, or none
record FirstBelow (test : ℕ → Bool) (n : ℕ) : Type 0 where
  at : ℕ
  below : at < n
  passes : test at ≡ true
  first : (k : ℕ) → k < at → test k ≡ false

first_below : (test : ℕ → Bool) (n : ℕ) → FirstBelow test n ⊎ ((k : ℕ) → k < n → test k ≡ false)
first_below test zero = inr (λ k below. absurd (omega (arith, below)))
first_below test (suc n) = elim (first_below test n) [
  | inl found ↦ inl (record { at = found.at; below = omega (arith, found.below); passes = found.passes; first = found.first })
  | inr none ↦ elim (cases_Bool (test n)) [
    | inl passed ↦ inl (record { at = n; below = omega arith; passes = passed; first = none })
    | inr failed ↦ inr (λ k below. elim (cases_lt k n) [
      | inl lower ↦ none k lower
      | inr over ↦ (let same : n ≡ k = omega (arith, below, over) in subst (λ j. test j ≡ false) same failed)
    ])
  ]
]

-- the last number up to n that has the property
record LastUpTo (P : ℕ → Type 0) (n : ℕ) : Type 0 where
  at : ℕ
  upto : at ≤ n
  has : P at
  last : (k : ℕ) → at < k → k ≤ n → P k → ⊥

last_up_to : (P : ℕ → Type 0) → ((n : ℕ) → P n ⊎ (P n → ⊥)) → (n : ℕ) → P 1 → 0 < n → LastUpTo P n
last_up_to P decides zero one some = absurd (omega (arith, some))
last_up_to P decides (suc n) one some = elim (decides (suc n)) [
  | inl has ↦ record { at = suc n; upto = omega arith; has = has; last = λ k more upto p. omega (arith, more, upto) }
  | inr lacks ↦ lower (λ more. last_up_to P decides n one more) (cases_lt 0 n) lacks
]
  where
    lower : (0 < n → LastUpTo P n) → (0 < n) ⊎ (n ≤ 0) → (P (suc n) → ⊥) → LastUpTo P (suc n)
    lower below (inl more) lacks =
        let rest = below more in
        record {
          at = rest.at;
          upto = omega (arith, rest.upto);
          has = rest.has;
          last = λ k above upto p. elim (cases_lt k (suc n)) [
            | inl inside ↦ rest.last k above (omega (arith, inside)) p
            | inr past ↦ (let same : k ≡ suc n = omega (arith, upto, past) in lacks (subst P same p))
          ];
        }
    lower below (inr over) lacks = let same : 1 ≡ suc n = omega (arith, over) in absurd (lacks (subst P same one))

-- ---- the piece that begins somewhere

-- these bytes fit a kind, and this is the first
abbrev Fits : List (List ℕ) → List ℕ → ℕ → Type 0
Fits line bytes n = FirstBelow (λ r. fits_here line (kind_at r) (take n bytes)) 10

rank-below : (kind : PieceKind) → rank kind < 10
rank-below blank = omega arith
rank-below comment = omega arith
rank-below (token Identifier) = omega arith
rank-below (token Number) = omega arith
rank-below (token Character) = omega arith
rank-below (token Text) = omega arith
rank-below (token Header) = omega arith
rank-below (token Punctuator) = omega arith
rank-below (token Other) = omega arith
rank-below (token Newline) = omega arith

module _ (line : List (List ℕ)) (bytes : List ℕ) where
  fits_or_not : (n : ℕ) → Fits line bytes n ⊎ (Fits line bytes n → ⊥)
  fits_or_not n = elim (first_below (λ r. fits_here line (kind_at r) (take n bytes)) 10) [
    | inl found ↦ inl found
    | inr none ↦ inr (λ (f : Fits line bytes n). true≢false (sym f.passes ∙ none f.at f.below))
  ]

  -- a piece of another length
  none-fit : (n : ℕ) (kind : PieceKind) → (Fits line bytes n → ⊥) → fits_here line kind (take n bytes) ≡ false
  none-fit n kind lacks = elim (first_below (λ r. fits_here line (kind_at r) (take n bytes)) 10) [
    | inl found ↦ absurd (lacks found)
    | inr none ↦ subst (λ k. fits_here line k (take n bytes) ≡ false) (kind_at-rank kind) (none (rank kind) (rank-below kind))
  ]

  -- rank tells the kind
  rank-kind : (r : ℕ) → r < 10 → rank (kind_at r) ≡ r
  rank-kind zero below = refl
  rank-kind (suc zero) below = refl
  rank-kind (suc (suc zero)) below = refl
  rank-kind (suc (suc (suc zero))) below = refl
  rank-kind (suc (suc (suc (suc zero)))) below = refl
  rank-kind (suc (suc (suc (suc (suc zero))))) below = refl
  rank-kind (suc (suc (suc (suc (suc (suc zero)))))) below = refl
  rank-kind (suc (suc (suc (suc (suc (suc (suc zero))))))) below = refl
  rank-kind (suc (suc (suc (suc (suc (suc (suc (suc zero)))))))) below = refl
  rank-kind (suc (suc (suc (suc (suc (suc (suc (suc (suc zero))))))))) below = refl
  rank-kind (suc (suc (suc (suc (suc (suc (suc (suc (suc (suc r)))))))))) below = absurd (omega (arith, below))

  longest : 0 < length bytes → Fits line bytes 1 → (IsUnended bytes → ⊥) → (kind : PieceKind) × ((n : ℕ) × IsLongest line bytes kind n)
  longest some one ended =
      let l = last_up_to (λ n. Fits line bytes n × (0 < n)) both (length bytes) (one, omega arith) some in
      let f = l.has.0 in (
        kind_at f.at,
        (
          l.at,
          record {
            positive = l.has.1;
            within = l.upto;
            fit = f.passes;
            longest = λ m other above upto. none-fit m other (λ p. l.last m above upto (p, omega (arith, above)));
            first = λ other before.
                subst (λ k. fits_here line k (take l.at bytes) ≡ false) (kind_at-rank other) (f.first (rank other) (omega (arith, before, rank-kind f.at f.below)));
            ended = ended;
          },
        ),
      )
    where
      both : (n : ℕ) → (Fits line bytes n × (0 < n)) ⊎ (Fits line bytes n × (0 < n) → ⊥)
      both n = elim (fits_or_not n) [
        | inl has ↦ elim (cases_lt 0 n) [
          | inl some ↦ inl (has, some)
          | inr none ↦ inr (λ p. omega (arith, p.1, none))
        ]
        | inr lacks ↦ inr (λ p. lacks p.0)
      ]

  unended_or_not : IsUnended bytes ⊎ (IsUnended bytes → ⊥)
  unended_or_not = elim (cases_Bool (begins_with (47 ∷ 42 ∷ []) bytes)) [
    | inr differs ↦ inr (λ (u : IsUnended bytes). true≢false (sym u.begins ∙ differs))
    | inl begins ↦ elim (first_below (λ n. is_comment (take n bytes)) (suc (length bytes))) [
      | inl found ↦ inr (λ (u : IsUnended bytes). true≢false (sym found.passes ∙ u.no_end found.at))
      | inr none ↦ inl (record { begins = begins; no_end = no_end none })
    ]
  ]
    where
      no_end : ((n : ℕ) → n < suc (length bytes) → is_comment (take n bytes) ≡ false) → (n : ℕ) → is_comment (take n bytes) ≡ false
      no_end none n = elim (cases_lt n (suc (length bytes))) [
        | inl below ↦ none n below
        | inr over ↦ ap is_comment (take_all n bytes (omega (arith, over)) ∙ sym (take_all (length bytes) bytes (omega arith))) ∙ none (length bytes) (omega arith)
      ]

-- one byte is a piece
one-fits : (line : List (List ℕ)) (b : ℕ) (bs : List ℕ) → Fits line (b ∷ bs) 1
one-fits line b bs = elim (fits_or_not line (b ∷ bs) 1) [
  | inl has ↦ has
  | inr lacks ↦ absurd (true≢false (sym (other (expects_header line)) ∙ none-fit line (b ∷ bs) 1 (token Other) lacks))
]
  where
    other : (x : Bool) → (true && (x || true)) ≡ true
    other true = refl
    other false = refl

-- ---- the whole text

lexes : (fuel : ℕ) (line : List (List ℕ)) (space : Bool) (ms : List Marked) → length ms ≤ fuel → (r : Result (List Lexeme) Position) × Lexes line space ms r
lexes fuel line space [] few = (Ok [], nothing)
lexes zero line space (m ∷ ms) few = absurd (omega (arith, few))
lexes (suc fuel) line space (m ∷ ms) few = elim (unended_or_not line (bytes_of (m ∷ ms))) [
  | inl endless ↦ (Err m.position, unended endless)
  | inr ended ↦ (
      let l = longest line (bytes_of (m ∷ ms)) (omega arith) (one-fits line m.byte (bytes_of ms)) ended in
      by (λ line space rest few. lexes fuel line space rest few) l.0 l.1.0 l.1.1
      )
]
  where
    shorter : (n : ℕ) → 0 < n → length (drop n (m ∷ ms)) ≤ fuel
    shorter n some = omega (arith, few, some, length-drop n (m ∷ ms))

    by : ((line : List (List ℕ)) (space : Bool) (rest : List Marked) → length rest ≤ fuel → (r : Result (List Lexeme) Position) × Lexes line space rest r) → (kind : PieceKind) (n : ℕ) → IsLongest line (bytes_of (m ∷ ms)) kind n → (r : Result (List Lexeme) Position) × Lexes line space (m ∷ ms) r
    by again blank n is = let rest = again line true (drop n (m ∷ ms)) (shorter n is.positive) in (rest.0, white n blank refl is rest.1)
    by again comment n is = let rest = again line true (drop n (m ∷ ms)) (shorter n is.positive) in (rest.0, white n comment refl is rest.1)
    by again (token kind) n is =
        let rest = again (line_after line kind (take n (bytes_of (m ∷ ms)))) (is_newline kind) (drop n (m ∷ ms)) (shorter n is.positive) in
        (with_first (lexeme space m (take n (bytes_of (m ∷ ms))) kind) rest.0, piece n kind is rest.1 refl)

pub lexes-some : (line : List (List ℕ)) (space : Bool) (ms : List Marked) → (r : Result (List Lexeme) Position) × Lexes line space ms r
lexes-some line space ms = lexes (length ms) line space ms (omega arith)

pub lexed-some : (bytes : List ℕ) → (r : Result (List Lexeme) Position) × Lexed bytes r
lexed-some bytes = lexes-some [] false (phase_2 bytes)
