-- The line of a text that stands behind `#if ` begins with these two tokens.
use Rattle.std.proofs.Common.{◌≡◌, ℕ, zero, suc, ◌+◌, ◌<◌, ◌≤◌, Bool, true, false, List, [], ◌∷◌, ◌++◌, length, take, codes, Some, Result, Ok, Err, refl, sym, ap, ◌∙◌, subst, arith}
use Rattle.c11_directives.specs.Lines.{hash_of, test_of}
use Rattle.c11_directives.specs.Listed.{if_bytes, if_line}
use Rattle.c11_directives.specs.declared.directive.Test.TheVariants.{Expression}
use Rattle.c11_tokens.proofs.LexLaws.{lexes-unique}
use Rattle.c11_tokens.proofs.SomeAnswer.{lexes-some}
use Rattle.c11_tokens.specs.Lex.{IsLongest, Lexed, Lexes, Marked, PieceKind, blank, bytes_of, comment, fits_here, lexeme, marked_from, phase_2, piece, rank, token, with_first, with_last_newline, without_returns, without_splices, without_trigraphs}
use Rattle.sc_model.specs.declared.kind.Kind.TheVariants.{Character, Header, Identifier, Newline, Number, Other, Punctuator, Text}
use Rattle.sc_model.specs.declared.standard.Standard.{Standard}
use Rattle.sc_model.specs.declared.standard.Standard.TheVariants.{C11, C23, Gnu11}
use Rattle.sc_model.specs.Token.{Lexeme, Position, Token, in_file}

-- ---- the first two phases

abbrev at : ℕ → ℕ → Marked
at column byte = record { byte = byte; position = record { line = 1; column = column } }

abbrev begun : List Marked → List Marked
begun ms = at 1 35 ∷ at 2 105 ∷ at 3 102 ∷ at 4 32 ∷ ms

-- what a phase makes of such a text begins so
abbrev StaysBegun : (List Marked → List Marked) → Type 0
StaysBegun phase = (ms : List Marked) → (rest : List Marked) × (phase (begun ms) ≡ begun rest)

newline-begun : StaysBegun with_last_newline
newline-begun [] = (_, refl)
newline-begun (m ∷ ms) = (with_last_newline (m ∷ ms), refl)

trigraphs-begun : StaysBegun without_trigraphs
trigraphs-begun [] = ([], refl)
trigraphs-begun (m ∷ []) = (m ∷ [], refl)
trigraphs-begun (m ∷ n ∷ ms) = (without_trigraphs (m ∷ n ∷ ms), refl)

splices-begun : StaysBegun without_splices
splices-begun [] = ([], refl)
splices-begun (m ∷ []) = (m ∷ [], refl)
splices-begun (m ∷ n ∷ ms) = (without_splices (m ∷ n ∷ ms), refl)

phases-begun : (text : List ℕ) → (rest : List Marked) × (phase_2 (if_bytes text) ≡ begun rest)
phases-begun text =
    let one = newline-begun (without_returns (marked_from 1 5 (text ++ codes "\n"))) in
    let two = trigraphs-begun one.0 in
    let three = splices-begun two.0 in
    (three.0, ap (λ ms. without_splices (without_trigraphs ms)) one.1 ∙ (ap without_splices two.1 ∙ three.1))

-- ---- the first two tokens

hash-longest : (rest : List ℕ) → IsLongest [] (35 ∷ 105 ∷ rest) (token Punctuator) 1
hash-longest rest = record {
  positive = omega arith;
  within = omega arith;
  fit = refl;
  longest = longer;
  first = before;
  ended = λ unended. let no = unended.begins in cc;
}
  where
    longer : (m : ℕ) (other : PieceKind) → 1 < m → m ≤ suc (suc (length rest)) → fits_here [] other (take m (35 ∷ 105 ∷ rest)) ≡ false
    longer zero other more within = absurd (omega (arith, more))
    longer (suc zero) other more within = absurd (omega (arith, more))
    longer (suc (suc m)) blank more within = refl
    longer (suc (suc m)) comment more within = refl
    longer (suc (suc m)) (token Identifier) more within = refl
    longer (suc (suc m)) (token Number) more within = refl
    longer (suc (suc m)) (token Character) more within = refl
    longer (suc (suc m)) (token Text) more within = refl
    longer (suc (suc m)) (token Header) more within = refl
    longer (suc (suc m)) (token Punctuator) more within = refl
    longer (suc (suc m)) (token Other) more within = refl
    longer (suc (suc m)) (token Newline) more within = refl

    before : (other : PieceKind) → rank other < 8 → fits_here [] other (35 ∷ []) ≡ false
    before blank lower = refl
    before comment lower = refl
    before (token Identifier) lower = refl
    before (token Number) lower = refl
    before (token Character) lower = refl
    before (token Text) lower = refl
    before (token Header) lower = refl
    before (token Punctuator) lower = absurd (omega (arith, lower))
    before (token Other) lower = absurd (omega (arith, lower))
    before (token Newline) lower = refl

word-longest : (rest : List ℕ) → IsLongest (codes "#" ∷ []) (105 ∷ 102 ∷ 32 ∷ rest) (token Identifier) 2
word-longest rest = record {
  positive = omega arith;
  within = omega arith;
  fit = refl;
  longest = longer;
  first = before;
  ended = λ unended. let no = unended.begins in cc;
}
  where
    longer : (m : ℕ) (other : PieceKind) → 2 < m → m ≤ suc (suc (suc (length rest))) → fits_here (codes "#" ∷ []) other (take m (105 ∷ 102 ∷ 32 ∷ rest)) ≡ false
    longer zero other more within = absurd (omega (arith, more))
    longer (suc zero) other more within = absurd (omega (arith, more))
    longer (suc (suc zero)) other more within = absurd (omega (arith, more))
    longer (suc (suc (suc m))) blank more within = refl
    longer (suc (suc (suc m))) comment more within = refl
    longer (suc (suc (suc m))) (token Identifier) more within = refl
    longer (suc (suc (suc m))) (token Number) more within = refl
    longer (suc (suc (suc m))) (token Character) more within = refl
    longer (suc (suc (suc m))) (token Text) more within = refl
    longer (suc (suc (suc m))) (token Header) more within = refl
    longer (suc (suc (suc m))) (token Punctuator) more within = refl
    longer (suc (suc (suc m))) (token Other) more within = refl
    longer (suc (suc (suc m))) (token Newline) more within = refl

    before : (other : PieceKind) → rank other < 4 → fits_here (codes "#" ∷ []) other (105 ∷ 102 ∷ []) ≡ false
    before blank lower = refl
    before comment lower = refl
    before (token Header) lower = refl
    before (token Newline) lower = refl
    before (token Identifier) lower = absurd (omega (arith, lower))
    before (token Number) lower = absurd (omega (arith, lower))
    before (token Character) lower = absurd (omega (arith, lower))
    before (token Text) lower = absurd (omega (arith, lower))
    before (token Punctuator) lower = absurd (omega (arith, lower))
    before (token Other) lower = absurd (omega (arith, lower))

abbrev hash : Lexeme
hash = lexeme false (at 1 35) (codes "#") Punctuator

abbrev word : Lexeme
word = lexeme false (at 2 105) (codes "if") Identifier

begun-lexes : (ms : List Marked) → (r : Result (List Lexeme) Position) × Lexes [] false (begun ms) (with_first hash (with_first word r))
begun-lexes ms =
    let rest = lexes-some (codes "#" ∷ codes "if" ∷ []) false (at 4 32 ∷ ms) in
    (rest.0, piece 1 Punctuator (hash-longest (102 ∷ 32 ∷ bytes_of ms)) (piece 2 Identifier (word-longest (bytes_of ms)) rest.1 refl) refl)

-- the tokens of such a line begin so
if-begins : (text : List ℕ) (ts : List Lexeme) → Lexed (if_bytes text) (Ok ts) → (us : List Lexeme) × (ts ≡ hash ∷ word ∷ us)
if-begins text ts lexed = by rest.0 (lexes-unique (subst (λ ms. Lexes [] false ms (Ok ts)) phases.1 lexed) rest.1)
  where
    phases : (rest : List Marked) × (phase_2 (if_bytes text) ≡ begun rest)
    phases = phases-begun text

    rest : (r : Result (List Lexeme) Position) × Lexes [] false (begun phases.0) (with_first hash (with_first word r))
    rest = begun-lexes phases.0

    by : (r : Result (List Lexeme) Position) → Ok ts ≡ with_first hash (with_first word r) → (us : List Lexeme) × (ts ≡ hash ∷ word ∷ us)
    by (Ok us) is = (us, cc)
    by (Err place) is = absurd (cc)

tests : (standard : Standard) (us : List Lexeme) → test_of (if_line standard (hash ∷ word ∷ us)) ≡ Some Expression
tests C11 us = refl
tests C23 us = refl
tests Gnu11 us = refl

-- it asks for an expression
pub if-asks : (standard : Standard) (text : List ℕ) (ts : List Lexeme) → Lexed (if_bytes text) (Ok ts) → test_of (if_line standard ts) ≡ Some Expression
if-asks standard text ts lexed = let begins = if-begins text ts lexed in ap (λ line. test_of (if_line standard line)) begins.1 ∙ tests standard begins.0

-- and it has a `#`
pub if-hash : (standard : Standard) (text : List ℕ) (ts : List Lexeme) → Lexed (if_bytes text) (Ok ts) → (t : Token) × (hash_of (if_line standard ts) ≡ Some t)
if-hash standard text ts lexed = let begins = if-begins text ts lexed in (in_file [] hash, ap (λ line. hash_of (if_line standard line)) begins.1)
