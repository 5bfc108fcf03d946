-- A file has one sequence of tokens.
use Rattle.std.proofs.Common.{◌≡◌, ℕ, zero, suc, inl, inr, Bool, true, false, List, ◌∷◌, take, drop, Result, refl, sym, ap, ◌∙◌, subst}
use Rattle.std.proofs.lemmas.Bool.{cases_order}
use Rattle.sc_model.specs.declared.kind.Kind.{Kind}
use Rattle.sc_model.specs.declared.kind.Kind.TheVariants.{Identifier, Number, Character, Text, Header, Punctuator, Other, Newline}
use Rattle.sc_model.specs.Token.{Position, Lexeme}
use Rattle.c11_tokens.specs.Lex.{PieceKind, blank, comment, token, rank, fits_here, IsLongest, Marked, bytes_of, with_first, lexeme, line_after, is_newline, Lexes, nothing, white, piece, unended, is_white}

-- the kind of a rank
abbrev pub kind_at : ℕ → PieceKind
kind_at zero = token Header
kind_at (suc zero) = blank
kind_at (suc (suc zero)) = comment
kind_at (suc (suc (suc zero))) = token Newline
kind_at (suc (suc (suc (suc zero)))) = token Identifier
kind_at (suc (suc (suc (suc (suc zero))))) = token Number
kind_at (suc (suc (suc (suc (suc (suc zero)))))) = token Character
kind_at (suc (suc (suc (suc (suc (suc (suc zero))))))) = token Text
kind_at (suc (suc (suc (suc (suc (suc (suc (suc zero)))))))) = token Punctuator
kind_at (suc (suc (suc (suc (suc (suc (suc (suc (suc n))))))))) = token Other

pub kind_at-rank : (r : PieceKind) → kind_at (rank r) ≡ r
kind_at-rank blank = refl
kind_at-rank comment = refl
kind_at-rank (token Identifier) = refl
kind_at-rank (token Number) = refl
kind_at-rank (token Character) = refl
kind_at-rank (token Text) = refl
kind_at-rank (token Header) = refl
kind_at-rank (token Punctuator) = refl
kind_at-rank (token Other) = refl
kind_at-rank (token Newline) = refl

pub same_rank : (r s : PieceKind) → rank r ≡ rank s → r ≡ s
same_rank r s e = sym (kind_at-rank r) ∙ (ap kind_at e ∙ kind_at-rank s)

pub same_length : {line : List (List ℕ)} {bytes : List ℕ} {r s : PieceKind} {n m : ℕ} → IsLongest line bytes r n → IsLongest line bytes s m → n ≡ m
same_length {line} {bytes} {r} {s} {n} {m} a b =
    elim (cases_order n m) [
      | inl e ↦ e
      | inr h ↦ elim h [
        | inl lt ↦ (let no : fits_here line s (take m bytes) ≡ false = a.longest m s lt b.within in let yes : fits_here line s (take m bytes) ≡ true = b.fit in cc)
        | inr gt ↦ (let no : fits_here line r (take n bytes) ≡ false = b.longest n r gt a.within in let yes : fits_here line r (take n bytes) ≡ true = a.fit in cc)
      ]
    ]

pub same_kind : {line : List (List ℕ)} {bytes : List ℕ} {r s : PieceKind} {n : ℕ} → IsLongest line bytes r n → IsLongest line bytes s n → r ≡ s
same_kind {line} {bytes} {r} {s} {n} a b =
    elim (cases_order (rank r) (rank s)) [
      | inl e ↦ same_rank r s e
      | inr h ↦ elim h [
        | inl lt ↦ (let no : fits_here line r (take n bytes) ≡ false = b.first r lt in let yes : fits_here line r (take n bytes) ≡ true = a.fit in cc)
        | inr gt ↦ (let no : fits_here line s (take n bytes) ≡ false = a.first s gt in let yes : fits_here line s (take n bytes) ≡ true = b.fit in cc)
      ]
    ]

-- one front and one kind
record Same (r s : PieceKind) (n m : ℕ) : Type 0 where
  kind : r ≡ s
  length : n ≡ m

same : {line : List (List ℕ)} {bytes : List ℕ} {r s : PieceKind} {n m : ℕ} → IsLongest line bytes r n → IsLongest line bytes s m → Same r s n m
same {line} {bytes} {r} {s} {n} {m} a b =
    let e : n ≡ m = same_length a b in
    record { kind = same_kind a (subst (λ k. IsLongest line bytes s k) (sym e) b); length = e }

-- the rest after the same piece
moved : (line : List (List ℕ)) (m : Marked) (ms : List Marked) {rest : Result (List Lexeme) Position} {kind kind' : Kind} {n n' : ℕ} → kind ≡ kind' → n ≡ n'
    → Lexes (line_after line kind' (take n' (bytes_of (m ∷ ms)))) (is_newline kind') (drop n' (m ∷ ms)) rest
    → Lexes (line_after line kind (take n (bytes_of (m ∷ ms)))) (is_newline kind) (drop n (m ∷ ms)) rest
moved line m ms {rest} {kind} {kind'} {n} {n'} e f d =
    subst (λ k. Lexes (line_after line k (take n (bytes_of (m ∷ ms)))) (is_newline k) (drop n (m ∷ ms)) rest) (sym e)
    (subst (λ i. Lexes (line_after line kind' (take i (bytes_of (m ∷ ms)))) (is_newline kind') (drop i (m ∷ ms)) rest) (sym f) d)

pub lexes-unique : {line : List (List ℕ)} {space : Bool} {ms : List Marked} {r s : Result (List Lexeme) Position} → Lexes line space ms r → Lexes line space ms s → r ≡ s
lexes-unique nothing nothing = refl
lexes-unique (white {line} {space} {m} {ms} n kind w p d) (white {r = s} n' kind' w' p' d') =
    lexes-unique d (subst (λ k. Lexes line true (drop k (m ∷ ms)) s) (sym (same p p').length) d')
lexes-unique (white n kind w p d) (piece n' kind' p' d' e') =
    let e : is_white kind ≡ false = ap is_white (same p p').kind in cc
lexes-unique (white n kind w p d) (unended u') = absurd (p.ended u')
lexes-unique (piece n kind p d e) (white n' kind' w' p' d') =
    let f : false ≡ is_white kind' = ap is_white (same p p').kind in cc
lexes-unique (piece {line} {space} {m} {ms} {rest = rest} n kind p d e) (piece n' kind' p' d' e') =
    let t : token kind ≡ token kind' = (same p p').kind in
    let k : kind ≡ kind' = cc in
    let l : n ≡ n' = (same p p').length in
    let rests = lexes-unique d (moved line m ms k l d') in
    let first : lexeme space m (take n (bytes_of (m ∷ ms))) kind ≡ lexeme space m (take n' (bytes_of (m ∷ ms))) kind' = cc in
    e ∙ (ap (λ t. with_first t rest) first ∙ (ap (with_first (lexeme space m (take n' (bytes_of (m ∷ ms))) kind')) rests ∙ sym e'))
lexes-unique (piece n kind p d e) (unended u') = absurd (p.ended u')
lexes-unique (unended u) (white n' kind' w' p' d') = absurd (p'.ended u)
lexes-unique (unended u) (piece n' kind' p' d' e') = absurd (p'.ended u)
lexes-unique (unended u) (unended u') = refl
