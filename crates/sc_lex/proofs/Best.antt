-- One kind after another, the longest piece.
use Rattle.std.proofs.Common.{◌≡◌, ℕ, ◌+◌, ◌<◌, ◌≤◌, ◌&&◌, ◌||◌, not, inl, inr, Bool, true, false, List, [], ◌∷◌, length, take, refl, sym, ap, ◌∙◌, arith}
use Rattle.std.proofs.lemmas.Bool.{cases_lt, and_right, true≢false}
use Rattle.c11_tokens.specs.Lex.{PieceKind, blank, comment, token, rank, fits, fits_here, expects_header, is_header_name, IsLongest, IsUnended}
use Rattle.sc_model.specs.declared.kind.Kind.TheVariants.{Identifier, Number, Character, Text, Header, Punctuator, Other, Newline}
use Rattle.c11_tokens.proofs.LexLaws.{same_rank}
use Rattle.sc_lex.specs.Scan.{IsLongestFront}
use Rattle.sc_lex.specs.Piece.{IsBestBefore}
use Rattle.sc_lex.proofs.Fronts.{IsLongestFront-same, closing_byte}

-- the kind of rank 0
pub best_of_first : (line : List (List ℕ)) (bytes : List ℕ) (n : ℕ) → IsLongestFront (fits_here line (token Header)) bytes n → IsBestBefore 1 line bytes (token Header) n
best_of_first line bytes n front = record {
  within = front.within;
  fit = front.fit;
  longest = λ other m before longer within.
      let zero : rank other ≡ 0 = omega arith in
      ap (λ r. fits_here line r (take m bytes)) (same_rank other (token Header) zero) ∙ front.longest m longer within;
  first = λ other before positive. absurd (omega arith);
}

module _ {bound : ℕ} {line : List (List ℕ)} {bytes : List ℕ} {kind : PieceKind} {n : ℕ} (best : IsBestBefore bound line bytes kind n) (next : PieceKind) (m : ℕ)
    (is_next : rank next ≡ bound) (front : IsLongestFront (fits_here line next) bytes m) where
  pub best_if_longer : n < m → IsBestBefore (bound + 1) line bytes next m
  best_if_longer more = record {
    within = front.within;
    fit = front.fit;
    longest = λ other i before longer within. elim (cases_lt (rank other) bound) [
      | inl lower ↦ best.longest other i lower (omega arith) within
      | inr same ↦ (let equal : rank other ≡ rank next = omega arith in
          ap (λ r. fits_here line r (take i bytes)) (same_rank other next equal) ∙ front.longest i longer within)
    ];
    first = λ other before positive. best.longest other m (omega arith) more front.within;
  }

  pub best_unless_longer : m ≤ n → IsBestBefore (bound + 1) line bytes kind n
  best_unless_longer less = record {
    within = best.within;
    fit = best.fit;
    longest = λ other i before longer within. elim (cases_lt (rank other) bound) [
      | inl lower ↦ best.longest other i lower longer within
      | inr same ↦ (let equal : rank other ≡ rank next = omega arith in
          ap (λ r. fits_here line r (take i bytes)) (same_rank other next equal) ∙ front.longest i (omega arith) within)
    ];
    first = best.first;
  }

-- each kind but the header names' can fit anywhere
pub front_here : (line : List (List ℕ)) (kind : PieceKind) (bytes : List ℕ) (n : ℕ) → is_header_name kind ≡ false → IsLongestFront (fits kind) bytes n → IsLongestFront (fits_here line kind) bytes n
front_here line kind bytes n off front = IsLongestFront-same (fits_here line kind) (fits kind) bytes n same front
  where
    anywhere : (x y : Bool) → (y && (x || true)) ≡ y
    anywhere true true = refl
    anywhere true false = refl
    anywhere false true = refl
    anywhere false false = refl

    same : (m : ℕ) → 0 < m → fits_here line kind (take m bytes) ≡ fits kind (take m bytes)
    same m positive = ap (λ t. fits kind (take m bytes) && (expects_header line || not t)) off ∙ anywhere (expects_header line) (fits kind (take m bytes))

pub header_here : (line : List (List ℕ)) (bytes : List ℕ) (n : ℕ) → expects_header line ≡ true → IsLongestFront (fits (token Header)) bytes n → IsLongestFront (fits_here line (token Header)) bytes n
header_here line bytes n expected front = IsLongestFront-same (fits_here line (token Header)) (fits (token Header)) bytes n same front
  where
    and_true : (x : Bool) → (x && true) ≡ x
    and_true true = refl
    and_true false = refl

    same : (m : ℕ) → 0 < m → fits_here line (token Header) (take m bytes) ≡ fits (token Header) (take m bytes)
    same m positive = ap (λ t. fits (token Header) (take m bytes) && (t || false)) expected ∙ and_true (fits (token Header) (take m bytes))

pub no_header_here : (line : List (List ℕ)) (bytes : List ℕ) → expects_header line ≡ false → IsLongestFront (fits_here line (token Header)) bytes 0
no_header_here line bytes off = record {
  within = omega arith;
  fit = λ positive. absurd (omega arith);
  longest = λ m longer within. and_right (fits (token Header) (take m bytes)) _ (ap (λ t. t || false) off);
}

pub rank-below : (kind : PieceKind) → rank kind < 10
rank-below blank = omega arith
rank-below comment = omega arith
rank-below (token Identifier) = omega arith
rank-below (token Number) = omega arith
rank-below (token Character) = omega arith
rank-below (token Text) = omega arith
rank-below (token Header) = omega arith
rank-below (token Punctuator) = omega arith
rank-below (token Other) = omega arith
rank-below (token Newline) = omega arith

-- of all kinds
pub longest_of_best : {line : List (List ℕ)} {bytes : List ℕ} {kind : PieceKind} {n : ℕ} → IsBestBefore 10 line bytes kind n → 0 < n → (IsUnended bytes → ⊥) → IsLongest line bytes kind n
longest_of_best {line} {bytes} {kind} {n} best positive ended = record {
  positive = positive;
  within = best.within;
  fit = best.fit positive;
  longest = λ m other longer within. best.longest other m (rank-below other) longer within;
  first = λ other before. best.first other before positive;
  ended = ended;
}

-- the first byte alone is some piece
pub one_byte_fits : (bytes : List ℕ) → 0 < length bytes → IsLongestFront (fits (token Other)) bytes 1
one_byte_fits [] some = absurd (omega arith)
one_byte_fits (b ∷ bs) some = closing_byte (fits (token Other)) b bs (λ xs. refl)

pub some_byte : {line : List (List ℕ)} {bytes : List ℕ} {kind : PieceKind} {n : ℕ} → IsBestBefore 10 line bytes kind n → 0 < length bytes → 0 < n
some_byte {line} {bytes} {kind} {n} best some = elim (cases_lt 0 n) [
  | inl positive ↦ positive
  | inr none ↦ absurd (true≢false (sym ((front_here line (token Other) bytes 1 refl (one_byte_fits bytes some)).fit (omega arith)) ∙ best.longest (token Other) 1 (omega arith) (omega arith) some))
]
