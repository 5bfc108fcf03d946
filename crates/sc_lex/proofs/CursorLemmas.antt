-- What a cursor is left with, before trigraph sequences are replaced.
use Rattle.std.proofs.Common.{◌≡◌, ℕ, ◌+◌, ◌==◌, ◌&&◌, not, Bool, true, false, cond, List, [], ◌∷◌, drop, length, ◌<◌, slice_index, Option, Some, None, refl, sym, ap, ◌∙◌, subst, arith}
use Rattle.std.proofs.lemmas.Bool.{and_parts, eqb-true, not-true, not-false}
use Rattle.sc_model.specs.Bytes.{begins_with}
use Rattle.c11_tokens.specs.Lex.{Marked, marked_from, bytes_of, without_returns, with_last_newline, without_trigraphs, phase_1}
use Rattle.sc_lex.specs.Cursor.{stored, Takes}
use Rattle.sc_lex.proofs.Quotes.{eqb_comm}

bytes_of-marked_from : (line column : ℕ) (bs : List ℕ) → bytes_of (marked_from line column bs) ≡ bs
bytes_of-marked_from line column [] = refl
bytes_of-marked_from line column (b ∷ bs) = by (b == 10) (bytes_of-marked_from (line + 1) 1 bs) (bytes_of-marked_from line (column + 1) bs)
  where
    by : (newline : Bool) → bytes_of (marked_from (line + 1) 1 bs) ≡ bs → bytes_of (marked_from line (column + 1) bs) ≡ bs
        → b ∷ bytes_of (cond newline (marked_from (line + 1) 1 bs) (marked_from line (column + 1) bs)) ≡ b ∷ bs
    by true next same = ap (λ xs. b ∷ xs) next
    by false next same = ap (λ xs. b ∷ xs) same

abbrev at : ℕ → ℕ → ℕ → Marked
at b line column = record { byte = b; position = record { line = line; column = column } }

-- a newline at the end, from some place on
abbrev finished : Bool → ℕ → ℕ → List Marked → List Marked
finished wanted line column [] = cond wanted (at 10 line column ∷ []) []
finished wanted line column (m ∷ ms) = m ∷ finished (not (m.byte == 10)) m.position.line (m.position.column + 1) ms

finished-is : (ms : List Marked) (line column : ℕ) → with_last_newline ms ≡ finished false line column ms
finished-is [] line column = refl
finished-is (m ∷ []) line column = by (m.byte == 10)
  where
    by : (newline : Bool) → cond newline (m ∷ []) (m ∷ at 10 m.position.line (m.position.column + 1) ∷ []) ≡ m ∷ cond (not newline) (at 10 m.position.line (m.position.column + 1) ∷ []) []
    by true = refl
    by false = refl
finished-is (m ∷ n ∷ ms) line column = ap (λ xs. m ∷ xs) (finished-is (n ∷ ms) line column)

finished-false : (ms : List Marked) (line column line' column' : ℕ) → finished false line column ms ≡ finished false line' column' ms
finished-false [] line column line' column' = refl
finished-false (m ∷ ms) line column line' column' = refl

-- before a newline it doesn't matter where a newline would be supplied
finished-newline : (wanted wanted' : Bool) (line column l c l' c' : ℕ) (bs : List ℕ) → begins_with (10 ∷ []) bs ≡ true
    → finished wanted line column (without_returns (marked_from l c bs)) ≡ finished wanted' l' c' (without_returns (marked_from l c bs))
finished-newline wanted wanted' line column l c l' c' [] is = cc
finished-newline wanted wanted' line column l c l' c' (b ∷ bs) is =
    let newline = eqb-true 10 b (and_parts (10 == b) true is).0 in
    subst (λ x. finished wanted line column (without_returns (marked_from l c (x ∷ bs))) ≡ finished wanted' l' c' (without_returns (marked_from l c (x ∷ bs)))) newline refl

-- one byte of it, where the rest is known
module _ (wanted : Bool) (line column b : ℕ) (bs : List ℕ)
    (next : stored false (line + 1) 1 bs ≡ finished false (line + 1) 1 (without_returns (marked_from (line + 1) 1 bs)))
    (same : stored true line (column + 1) bs ≡ finished true line (column + 1) (without_returns (marked_from line (column + 1) bs))) where
  -- what the byte and the rest make, by what comes after
  kept : Bool → List Marked → List Marked
  kept return ms = cond return (without_returns ms) (at b line column ∷ without_returns ms)

  plain : (b == 10) ≡ false → (at b line column ∷ stored true line (column + 1) bs) ≡ finished wanted line column (at b line column ∷ without_returns (marked_from line (column + 1) bs))
  plain e =
      ap (λ xs. at b line column ∷ xs) same
      ∙ ap (λ t. at b line column ∷ finished (not t) line (column + 1) (without_returns (marked_from line (column + 1) bs))) (sym e)

  before_newline : (newline : Bool) → begins_with (10 ∷ []) bs ≡ newline → (b == 10) ≡ false
      → cond newline (stored true line (column + 1) bs) (at b line column ∷ stored true line (column + 1) bs) ≡ finished wanted line column (kept newline (marked_from line (column + 1) bs))
  unfolding kept
  before_newline true is e = same ∙ finished-newline true wanted line (column + 1) line (column + 1) line column bs is
  before_newline false is e = plain e

  one : (newline return : Bool) → (b == 10) ≡ newline → (b == 13) ≡ return
      → cond (return && begins_with (10 ∷ []) bs) (stored true line (column + 1) bs) (at b line column ∷ cond newline (stored false (line + 1) 1 bs) (stored true line (column + 1) bs))
      ≡ finished wanted line column (kept (return && begins_with (10 ∷ []) (bytes_of (cond newline (marked_from (line + 1) 1 bs) (marked_from line (column + 1) bs)))) (cond newline (marked_from (line + 1) 1 bs) (marked_from line (column + 1) bs)))
  unfolding kept
  one true true e r = let newline = eqb-true b 10 e in let return = eqb-true b 13 r in absurd (omega arith)
  one true false e r =
      ap (λ xs. at b line column ∷ xs) (next ∙ finished-false (without_returns (marked_from (line + 1) 1 bs)) (line + 1) 1 line (column + 1))
      ∙ ap (λ t. at b line column ∷ finished (not t) line (column + 1) (without_returns (marked_from (line + 1) 1 bs))) (sym e)
  one false true e r =
      before_newline (begins_with (10 ∷ []) bs) refl e
      ∙ ap (λ xs. finished wanted line column (kept (begins_with (10 ∷ []) xs) (marked_from line (column + 1) bs))) (sym (bytes_of-marked_from line (column + 1) bs))
  one false false e r = plain e

  first_byte : stored wanted line column (b ∷ bs) ≡ finished wanted line column (without_returns (marked_from line column (b ∷ bs)))
  unfolding kept
  first_byte = one (b == 10) (b == 13) refl refl

stored-is : (wanted : Bool) (line column : ℕ) (bs : List ℕ) → stored wanted line column bs ≡ finished wanted line column (without_returns (marked_from line column bs))
stored-is wanted line column [] = refl
stored-is wanted line column (b ∷ bs) = first_byte wanted line column b bs (stored-is false (line + 1) 1 bs) (stored-is true line (column + 1) bs)

-- the whole file
pub phase_1-plain : (bs : List ℕ) → begins_with (239 ∷ 187 ∷ 191 ∷ []) bs ≡ false → without_trigraphs (stored false 1 1 bs) ≡ phase_1 bs
phase_1-plain bs off =
    ap without_trigraphs
    (stored-is false 1 1 bs ∙ sym (finished-is (without_returns (marked_from 1 1 bs)) 1 1)
    ∙ ap (λ t. with_last_newline (without_returns (cond t (drop 3 (marked_from 1 1 bs)) (marked_from 1 1 bs)))) (sym (ap (begins_with (239 ∷ 187 ∷ 191 ∷ [])) (bytes_of-marked_from 1 1 bs) ∙ off)))

-- behind the order mark
pub phase_1-marked : (bs : List ℕ) → begins_with (239 ∷ 187 ∷ 191 ∷ []) bs ≡ true → without_trigraphs (stored false 1 4 (drop 3 bs)) ≡ phase_1 bs
phase_1-marked [] is = cc
phase_1-marked (x ∷ []) is = let halves = and_parts (239 == x) false is in cc
phase_1-marked (x ∷ y ∷ []) is = let halves = and_parts (239 == x) _ is in let more = and_parts (187 == y) false halves.1 in cc
phase_1-marked (x ∷ y ∷ z ∷ bs) is =
    let first = and_parts (239 == x) _ is in
    let second = and_parts (187 == y) _ first.1 in
    let third = and_parts (191 == z) true second.1 in
    subst (λ a. without_trigraphs (stored false 1 4 bs) ≡ phase_1 (a ∷ y ∷ z ∷ bs)) (eqb-true 239 x first.0)
    (subst (λ a. without_trigraphs (stored false 1 4 bs) ≡ phase_1 (239 ∷ a ∷ z ∷ bs)) (eqb-true 187 y second.0)
    (subst (λ a. without_trigraphs (stored false 1 4 bs) ≡ phase_1 (239 ∷ 187 ∷ a ∷ bs)) (eqb-true 191 z third.0) (marked bs)))
  where
    marked : (bs : List ℕ) → without_trigraphs (stored false 1 4 bs) ≡ phase_1 (239 ∷ 187 ∷ 191 ∷ bs)
    marked bs = ap without_trigraphs (stored-is false 1 4 bs ∙ sym (finished-is (without_returns (marked_from 1 4 bs)) 1 4))

-- a carriage return before a newline
pub stored-return : (wanted : Bool) (line column : ℕ) (bs : List ℕ) → begins_with (13 ∷ 10 ∷ []) bs ≡ true → stored true line (column + 1) (drop 1 bs) ≡ stored wanted line column bs
stored-return wanted line column [] is = cc
stored-return wanted line column (b ∷ bs) is =
    let halves = and_parts (13 == b) (begins_with (10 ∷ []) bs) is in
    ap (λ t. cond t (stored true line (column + 1) bs) (at b line column ∷ cond (b == 10) (stored false (line + 1) 1 bs) (stored true line (column + 1) bs)))
    (sym (ap (λ t. t && begins_with (10 ∷ []) bs) (eqb_comm b 13 ∙ halves.0) ∙ halves.1))

-- any other byte
pub stored-byte : (wanted : Bool) (line column b : ℕ) (bs : List ℕ) → begins_with (13 ∷ 10 ∷ []) (b ∷ bs) ≡ false
    → stored wanted line column (b ∷ bs) ≡ at b line column ∷ cond (b == 10) (stored false (line + 1) 1 bs) (stored true line (column + 1) bs)
stored-byte wanted line column b bs off =
    ap (λ t. cond (t && begins_with (10 ∷ []) bs) (stored true line (column + 1) bs) (at b line column ∷ cond (b == 10) (stored false (line + 1) 1 bs) (stored true line (column + 1) bs))) (eqb_comm b 13)
    ∙ ap (λ t. cond t (stored true line (column + 1) bs) (at b line column ∷ cond (b == 10) (stored false (line + 1) 1 bs) (stored true line (column + 1) bs))) off

-- what is left behind the first byte
module _ (wanted after : Bool) (line column : ℕ) (bs rest : List ℕ) (some : 0 < length bs) (off : begins_with (13 ∷ 10 ∷ []) bs ≡ false) (rest_is : rest ≡ drop 1 bs) (after_is : not (slice_index bs 0 == 10) ≡ after) where
  taken : (bs : List ℕ) → 0 < length bs → begins_with (13 ∷ 10 ∷ []) bs ≡ false
      → Takes (stored wanted line column bs) (Some (slice_index bs 0)) (cond (slice_index bs 0 == 10) (stored false (line + 1) 1 (drop 1 bs)) (stored true line (column + 1) (drop 1 bs)))
  taken [] some off = absurd (omega arith)
  taken (b ∷ bs) some off = (at b line column, refl, stored-byte wanted line column b bs off)

  pub takes-newline : after ≡ false → Takes (stored wanted line column bs) (Some (slice_index bs 0)) (stored after (line + 1) 1 rest)
  takes-newline e =
      subst (Takes (stored wanted line column bs) (Some (slice_index bs 0)))
      (ap (λ t. cond t (stored false (line + 1) 1 (drop 1 bs)) (stored true line (column + 1) (drop 1 bs))) (not-false _ (after_is ∙ e))
      ∙ ap (λ t. stored t (line + 1) 1 (drop 1 bs)) (sym e) ∙ ap (stored after (line + 1) 1) (sym rest_is)) (taken bs some off)

  pub takes-other : after ≡ true → Takes (stored wanted line column bs) (Some (slice_index bs 0)) (stored after line (column + 1) rest)
  takes-other e =
      subst (Takes (stored wanted line column bs) (Some (slice_index bs 0)))
      (ap (λ t. cond t (stored false (line + 1) 1 (drop 1 bs)) (stored true line (column + 1) (drop 1 bs))) (not-true _ (after_is ∙ e))
      ∙ ap (λ t. stored t line (column + 1) (drop 1 bs)) (sym e) ∙ ap (stored after line (column + 1)) (sym rest_is)) (taken bs some off)

-- where the first byte stands
pub stored-first : (wanted : Bool) (line column : ℕ) (bs : List ℕ) → begins_with (13 ∷ 10 ∷ []) bs ≡ false → (m : Marked) (ms : List Marked)
    → stored wanted line column bs ≡ m ∷ ms → m.position ≡ record { line = line; column = column }
stored-first true line column [] off m ms is = cc
stored-first false line column [] off m ms is = cc
stored-first wanted line column (b ∷ bs) off m ms is = let same = sym (stored-byte wanted line column b bs off) ∙ is in cc

pub Takes-drop : (old new : List Marked) (o : Option ℕ) → Takes old o new → new ≡ drop 1 old
Takes-drop old new None t = t.1 ∙ ap (drop 1) (sym t.0)
Takes-drop old new (Some b) t = ap (drop 1) (sym t.2)
