-- How many newlines phase 1 leaves or supplies.
use Rattle.std.proofs.Common.{◌≡◌, ℕ, ◌+◌, ◌==◌, ◌&&◌, Bool, true, false, cond, ◌≤◌, List, [], ◌∷◌, length, drop, Option, Some, None, refl, sym, ap, ◌∙◌, subst, arith}
use Rattle.std.proofs.lemmas.Bool.{and_parts, eqb-true, ne_eqb}
use Rattle.std.proofs.lemmas.List.{drop_all}
use Rattle.std.proofs.lemmas.List.Sums.{sum_by-cons}
use Rattle.sc_model.specs.Bytes.{begins_with}
use Rattle.c11_tokens.specs.Lex.{Marked, trigraph, trigraph_end, replaced, without_trigraphs}
use Rattle.sc_lex.specs.Cursor.{stored, newlines_of}

-- by the bytes that are left
abbrev pub newlines : Bool → List ℕ → ℕ
newlines wanted [] = cond wanted 1 0
newlines wanted (b ∷ bs) = cond (b == 10) (1 + newlines false bs) (newlines true bs)

-- before a newline none is wanted
newlines-before : (wanted wanted' : Bool) (bs : List ℕ) → begins_with (10 ∷ []) bs ≡ true → newlines wanted bs ≡ newlines wanted' bs
newlines-before wanted wanted' [] is = cc
newlines-before wanted wanted' (b ∷ bs) is = refl

newlines_of-cons : (m : Marked) (ms : List Marked) → newlines_of (m ∷ ms) ≡ cond (m.byte == 10) 1 0 + newlines_of ms
newlines_of-cons m ms = sum_by-cons (λ m. cond (m.byte == 10) 1 0) m ms

newlines_of-plain : (m : Marked) (ms : List Marked) → (m.byte == 10) ≡ false → newlines_of (m ∷ ms) ≡ newlines_of ms
newlines_of-plain m ms e = newlines_of-cons m ms ∙ ap (λ t. cond t 1 0 + newlines_of ms) e ∙ omega arith

-- one byte, where the rest is known
stored-byte : (b line column : ℕ) (bs : List ℕ) → newlines_of (stored false (line + 1) 1 bs) ≡ newlines false bs → newlines_of (stored true line (column + 1) bs) ≡ newlines true bs
    → (return newline before : Bool) → (b == 13) ≡ return → (b == 10) ≡ newline
    → newlines_of (cond (return && before) (stored true line (column + 1) bs) (record { byte = b; position = record { line = line; column = column } } ∷ cond newline (stored false (line + 1) 1 bs) (stored true line (column + 1) bs)))
    ≡ cond newline (1 + newlines false bs) (newlines true bs)
stored-byte b line column bs next same true true before r n = let newline = eqb-true b 10 n in let return = eqb-true b 13 r in absurd (omega arith)
stored-byte b line column bs next same true false true r n = same
stored-byte b line column bs next same true false false r n = newlines_of-plain (record { byte = b; position = record { line = line; column = column } }) (stored true line (column + 1) bs) n ∙ same
stored-byte b line column bs next same false false before r n = newlines_of-plain (record { byte = b; position = record { line = line; column = column } }) (stored true line (column + 1) bs) n ∙ same
stored-byte b line column bs next same false true before r n =
    newlines_of-cons (record { byte = b; position = record { line = line; column = column } }) (stored false (line + 1) 1 bs) ∙ ap (λ t. cond t 1 0 + newlines_of (stored false (line + 1) 1 bs)) n ∙ ap (λ k. 1 + k) next

stored-newlines : (wanted : Bool) (line column : ℕ) (bs : List ℕ) → newlines_of (stored wanted line column bs) ≡ newlines wanted bs
stored-newlines true line column [] = refl
stored-newlines false line column [] = refl
stored-newlines wanted line column (b ∷ bs) =
    stored-byte b line column bs (stored-newlines false (line + 1) 1 bs) (stored-newlines true line (column + 1) bs) (b == 13) (b == 10) (begins_with (10 ∷ []) bs) refl refl

-- no byte of a trigraph sequence, nor what it stands for, is a newline
record ArePlain (a b c d : ℕ) : Type 0 where
  first : (a == 10) ≡ false
  second : (b == 10) ≡ false
  third : (c == 10) ≡ false
  made : (d == 10) ≡ false

trigraph_end-made : (c d : ℕ) → trigraph_end c ≡ Some d → (d == 10) ≡ false
trigraph_end-made c d =
    one (c == 61) 35 refl (one (c == 40) 91 refl (one (c == 47) 92 refl (one (c == 41) 93 refl (one (c == 39) 94 refl
    (one (c == 60) 123 refl (one (c == 33) 124 refl (one (c == 62) 125 refl (one (c == 45) 126 refl (λ (e : None ≡ Some d). cc)))))))))
  where
    one : (t : Bool) (x : ℕ) {rest : Option ℕ} → (x == 10) ≡ false → (rest ≡ Some d → (d == 10) ≡ false) → cond t (Some x) rest ≡ Some d → (d == 10) ≡ false
    one true x plain more e = let same : x ≡ d = cc in subst (λ k. (k == 10) ≡ false) same plain
    one false x plain more e = more e

trigraph-plain : (a b c d : ℕ) → trigraph a b c ≡ Some d → ArePlain a b c d
trigraph-plain a b c d e = by ((a == 63) && (b == 63)) refl e
  where
    by : (t : Bool) → ((a == 63) && (b == 63)) ≡ t → cond t (trigraph_end c) None ≡ Some d → ArePlain a b c d
    by false marks e = cc
    by true marks e =
        let both = and_parts (a == 63) (b == 63) marks in
        record {
          first = ap (λ k. k == 10) (eqb-true a 63 both.0);
          second = ap (λ k. k == 10) (eqb-true b 63 both.1);
          third = ne_eqb c 10 (λ f. let none : None ≡ Some d = sym (ap trigraph_end f) ∙ e in cc);
          made = trigraph_end-made c d e;
        }

replaced-byte : (m n o : Marked) (ms : List Marked) → newlines_of (without_trigraphs (n ∷ o ∷ ms)) ≡ newlines_of (n ∷ o ∷ ms) → newlines_of (without_trigraphs ms) ≡ newlines_of ms
    → (t : Option ℕ) → trigraph m.byte n.byte o.byte ≡ t → newlines_of (replaced m t (without_trigraphs (n ∷ o ∷ ms)) (without_trigraphs ms)) ≡ newlines_of (m ∷ n ∷ o ∷ ms)
replaced-byte m n o ms kept rest None e = newlines_of-cons m (without_trigraphs (n ∷ o ∷ ms)) ∙ ap (λ k. cond (m.byte == 10) 1 0 + k) kept ∙ sym (newlines_of-cons m (n ∷ o ∷ ms))
replaced-byte m n o ms kept rest (Some b) e =
    let plain = trigraph-plain m.byte n.byte o.byte b e in
    newlines_of-plain (record { byte = b; position = m.position }) (without_trigraphs ms) plain.made ∙ rest
    ∙ sym (newlines_of-plain m (n ∷ o ∷ ms) plain.first ∙ newlines_of-plain n (o ∷ ms) plain.second ∙ newlines_of-plain o ms plain.third)

replaced-newlines : (ms : List Marked) → newlines_of (without_trigraphs ms) ≡ newlines_of ms
replaced-newlines [] = refl
replaced-newlines (m ∷ []) = refl
replaced-newlines (m ∷ n ∷ []) = refl
replaced-newlines (m ∷ n ∷ o ∷ ms) = replaced-byte m n o ms (replaced-newlines (n ∷ o ∷ ms)) (replaced-newlines ms) (trigraph m.byte n.byte o.byte) refl

-- what was counted, at the end
pub all_counted : (wanted wanted' : Bool) (line column : ℕ) (bs : List ℕ) (i n : ℕ) → length bs ≤ i → n + newlines wanted' (drop i bs) ≡ newlines wanted bs
    → n + cond wanted' 1 0 ≡ newlines_of (without_trigraphs (stored wanted line column bs))
all_counted wanted wanted' line column bs i n past counted =
    ap (λ k. n + newlines wanted' k) (sym (drop_all i bs past)) ∙ counted ∙ sym (replaced-newlines (stored wanted line column bs) ∙ stored-newlines wanted line column bs)
