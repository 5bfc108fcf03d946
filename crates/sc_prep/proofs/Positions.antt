-- The tokens of a file stand at strictly ascending positions.
use Rattle.std.proofs.Common.{◌≡◌, ℕ, zero, suc, ◌+◌, ◌<◌, ◌==◌, ◌&&◌, Bool, true, false, List, [], ◌∷◌, drop, Option, Some, None, Ok, Err, Result, inl, inr, refl, ap, sym, subst, ◌∙◌, arith, ◌⊎◌, All, AllPairs, IfOk, if◌then◌else◌}
use Rattle.c11_tokens.specs.Lex.{Lexed, Lexes, Marked, bytes_of, is_splice, marked_from, nothing, phase_1, phase_2, piece, replaced, trigraph, unended, white, with_first, with_last_newline, without_order_mark, without_returns, without_splices, without_trigraphs}
use Rattle.sc_prep.proofs.Facts.{All-cons, All-nil, All-weaker, AllPairs-cons}
use Rattle.sc_prep.proofs.Terms.{Lexeme, Position, begins_with}

-- an earlier line, or an earlier column of one line
abbrev IsBefore : Position → Position → Type 0
IsBefore p q = (p.line < q.line) ⊎ ((p.line ≡ q.line) × (p.column < q.column))

before-trans : (p q r : Position) → IsBefore p q → IsBefore q r → IsBefore p r
before-trans p q r (inl a) (inl b) = inl (omega (arith, a, b))
before-trans p q r (inl a) (inr b) = inl (omega (arith, a, b.0))
before-trans p q r (inr a) (inl b) = inl (omega (arith, a.0, b))
before-trans p q r (inr a) (inr b) = inr (a.0 ∙ b.0, omega (arith, a.1, b.1))

before-apart : (p q : Position) → IsBefore p q → p ≡ q → ⊥
before-apart p q (inl a) same = omega (arith, a, ap (λ (r : Position). r.line) same)
before-apart p q (inr a) same = omega (arith, a.1, ap (λ (r : Position). r.column) same)

-- ---- lists that ascend

module _ {A : Type 0} (at : A → Position) where
  -- strictly, from behind a position
  abbrev Ascends : Position → List A → Type 0
  Ascends p [] = Unit {0}
  Ascends p (x ∷ xs) = IsBefore p (at x) × Ascends (at x) xs

  earlier : (p q : Position) (xs : List A) → IsBefore p q → Ascends q xs → Ascends p xs
  earlier p q [] before all = tt
  earlier p q (x ∷ xs) before all = (before-trans p q (at x) before all.0, all.1)

  rest : (p : Position) (x : A) (xs : List A) → Ascends p (x ∷ xs) → Ascends p xs
  rest p x xs all = earlier p (at x) xs all.0 all.1

  dropped : (n : ℕ) (p : Position) (xs : List A) → Ascends p xs → Ascends p (drop n xs)
  dropped zero p xs all = all
  dropped (suc n) p [] all = tt
  dropped (suc n) p (x ∷ xs) all = dropped n p xs (rest p x xs all)

  behind : (p : Position) (xs : List A) → Ascends p xs → All (λ x. IsBefore p (at x)) xs
  behind p [] all = All-nil (λ x. IsBefore p (at x))
  behind p (x ∷ xs) all = All-cons (λ x. IsBefore p (at x)) x xs all.0 (behind p xs (rest p x xs all))

  apart : (p : Position) (xs : List A) → Ascends p xs → AllPairs (λ x y. at x ≡ at y → ⊥) xs
  apart p [] all = λ i j d low below. absurd (omega (arith, below))
  apart p (x ∷ xs) all =
      AllPairs-cons (λ x y. at x ≡ at y → ⊥) x xs
      (All-weaker (λ y. IsBefore (at x) (at y)) (λ y. at x ≡ at y → ⊥) (λ y before. before-apart (at x) (at y) before) xs (behind (at x) xs all.1))
      (apart (at x) xs all.1)

-- ---- phases 1 and 2 keep the order

abbrev Rises : Position → List Marked → Type 0
Rises = Ascends (λ (m : Marked). m.position)

either-rises : (p : Position) (b : Bool) (ms ns : List Marked) → Rises p ms → Rises p ns → Rises p (if b then ms else ns)
either-rises p true ms ns first second = first
either-rises p false ms ns first second = second

marked-rises : (p : Position) (line column : ℕ) (bytes : List ℕ) → IsBefore p (record { line = line; column = column }) → Rises p (marked_from line column bytes)
marked-rises p line column [] before = tt
marked-rises p line column (b ∷ bs) before =
    let here : Position = record { line = line; column = column } in (
      before,
      either-rises here (b == 10) (marked_from (line + 1) 1 bs) (marked_from line (column + 1) bs)
          (marked-rises here (line + 1) 1 bs (inl (omega arith))) (marked-rises here line (column + 1) bs (inr (refl, omega arith))),
    )

mark-rises : (p : Position) (ms : List Marked) → Rises p ms → Rises p (without_order_mark ms)
mark-rises p ms all = either-rises p (begins_with (239 ∷ 187 ∷ 191 ∷ []) (bytes_of ms)) (drop 3 ms) ms (dropped (λ (m : Marked). m.position) 3 p ms all) all

returns-rise : (p : Position) (ms : List Marked) → Rises p ms → Rises p (without_returns ms)
returns-rise p [] all = tt
returns-rise p (m ∷ ms) all =
    either-rises p ((m.byte == 13) && begins_with (10 ∷ []) (bytes_of ms)) (without_returns ms) (m ∷ without_returns ms)
    (returns-rise p ms (rest (λ (m : Marked). m.position) p m ms all)) (all.0, returns-rise m.position ms all.1)

newline-rises : (p : Position) (ms : List Marked) → Rises p ms → Rises p (with_last_newline ms)
newline-rises p [] all = tt
newline-rises p (m ∷ []) all =
    either-rises p (m.byte == 10) (m ∷ []) (m ∷ record { byte = 10; position = record { line = m.position.line; column = m.position.column + 1 } } ∷ [])
    all (all.0, (inr (refl, omega arith), tt))
newline-rises p (m ∷ n ∷ ms) all = (all.0, newline-rises m.position (n ∷ ms) all.1)

replaced-rises : (p : Position) (m : Marked) (byte : Option ℕ) (kept others : List Marked) → IsBefore p m.position → Rises m.position kept → Rises m.position others → Rises p (replaced m byte kept others)
replaced-rises p m (Some byte) kept others before first second = (before, second)
replaced-rises p m None kept others before first second = (before, first)

trigraphs-rise : (p : Position) (ms : List Marked) → Rises p ms → Rises p (without_trigraphs ms)
trigraphs-rise p [] all = tt
trigraphs-rise p (m ∷ []) all = all
trigraphs-rise p (m ∷ n ∷ []) all = all
trigraphs-rise p (m ∷ n ∷ o ∷ ms) all =
    replaced-rises p m (trigraph m.byte n.byte o.byte) (without_trigraphs (n ∷ o ∷ ms)) (without_trigraphs ms) all.0
    (trigraphs-rise m.position (n ∷ o ∷ ms) all.1) (trigraphs-rise m.position ms (dropped (λ (m : Marked). m.position) 2 m.position (n ∷ o ∷ ms) all.1))

splices-rise : (p : Position) (ms : List Marked) → Rises p ms → Rises p (without_splices ms)
splices-rise p [] all = tt
splices-rise p (m ∷ []) all = all
splices-rise p (m ∷ n ∷ []) all = either-rises p (is_splice m n) (n ∷ []) (m ∷ n ∷ []) (rest (λ (m : Marked). m.position) p m (n ∷ []) all) all
splices-rise p (m ∷ n ∷ o ∷ ms) all =
    either-rises p (is_splice m n) (without_splices (o ∷ ms)) (m ∷ without_splices (n ∷ o ∷ ms))
    (splices-rise p (o ∷ ms) (dropped (λ (m : Marked). m.position) 2 p (m ∷ n ∷ o ∷ ms) all)) (all.0, splices-rise m.position (n ∷ o ∷ ms) all.1)

phases-rise : (p : Position) (bytes : List ℕ) → IsBefore p (record { line = 1; column = 1 }) → Rises p (phase_2 bytes)
phases-rise p bytes before =
    let marked = marked_from 1 1 bytes in
    let unmarked = without_order_mark marked in
    let unreturned = without_returns unmarked in
    splices-rise p (phase_1 bytes)
    (trigraphs-rise p (with_last_newline unreturned)
    (newline-rises p unreturned (returns-rise p unmarked (mark-rises p marked (marked-rises p 1 1 bytes before)))))

-- ---- and so do the tokens

abbrev TokensRise : Position → List Lexeme → Type 0
TokensRise = Ascends (λ (t : Lexeme). t.position)

-- each piece takes some bytes
past : (n : ℕ) (p : Position) (m : Marked) (ms : List Marked) → 0 < n → Rises p (m ∷ ms) → Rises m.position (drop n (m ∷ ms))
past zero p m ms some all = absurd (omega (arith, some))
past (suc n) p m ms some all = dropped (λ (m : Marked). m.position) n m.position ms all.1

first-rises : {E : Type 0} (p : Position) (t : Lexeme) (r : Result (List Lexeme) E) → IsBefore p t.position → IfOk r (TokensRise t.position) → IfOk (with_first t r) (TokensRise p)
first-rises p t (Ok ts) before all = (before, all)
first-rises p t (Err e) before all = tt

lexes-rise : {line : List (List ℕ)} {space : Bool} {ms : List Marked} {r : Result (List Lexeme) Position} (p : Position) → Rises p ms → Lexes line space ms r → IfOk r (TokensRise p)
lexes-rise p all nothing = tt
lexes-rise p all (white {m = m} {ms = ms} n kind is_white longest lexes) = lexes-rise p (dropped (λ (m : Marked). m.position) n p (m ∷ ms) all) lexes
lexes-rise p all (piece {m = m} {ms = ms} {rest = others} n kind longest lexes is) =
    subst (λ r. IfOk r (TokensRise p)) (sym is) (first-rises p _ others all.0 (lexes-rise m.position (past n p m ms longest.positive all) lexes))
lexes-rise p all (unended none) = tt

pub lexed-apart : (bytes : List ℕ) (ts : List Lexeme) → Lexed bytes (Ok ts) → AllPairs (λ (t u : Lexeme). t.position ≡ u.position → ⊥) ts
lexed-apart bytes ts lexed =
    let start : Position = record { line = 0; column = 0 } in
    apart (λ (t : Lexeme). t.position) start ts (lexes-rise start (phases-rise start bytes (inl (omega arith))) lexed)
