-- Trigraph sequences and splices at the front of a text.
use Rattle.std.proofs.Common.{◌≡◌, ℕ, ◌<◌, ◌==◌, ◌&&◌, not, ◌||◌, Bool, true, false, cond, List, [], ◌∷◌, length, slice_index, Option, Some, None, refl, sym, ap, ◌∙◌, subst, arith}
use Rattle.std.proofs.lemmas.Bool.{ne_eqb, eq-eqb, eqb-true, true≢false, not-false, not-true, or_parts}
use Rattle.std.specs.Option.{option_eq}
use Rattle.sc_model.specs.Token.{Position}
use Rattle.c11_tokens.specs.Lex.{Marked, trigraph, trigraph_end, replaced, without_trigraphs, without_splices}
use Rattle.sc_lex.specs.Cursor.{stored, Takes, KeepsFirst, begins_plainly}
use Rattle.sc_lex.proofs.CursorLemmas.{stored-byte}
use Rattle.sc_lex.proofs.Quotes.{eqb_comm}
use Rattle.sc_model.specs.Bytes.{begins_with}

-- the byte that was taken is this one, or another
pub that_byte : (r : Option ℕ) (b : ℕ) → not (option_eq (λ x y. x == y) r (Some b)) ≡ false → r ≡ Some b
that_byte None b e = cc
that_byte (Some x) b e = ap (λ k. Some k) (eqb-true x b (not-false _ e))

pub other_byte : (r : Option ℕ) (b : ℕ) → not (option_eq (λ x y. x == y) r (Some b)) ≡ true → r ≡ Some b → ⊥
other_byte r b e is = true≢false (sym e ∙ ap (λ k. not (option_eq (λ x y. x == y) k (Some b))) is ∙ ap not (eq-eqb b b refl))

-- a byte that begins no trigraph sequence
stays : (m : Marked) (ms : List Marked) → ((n o : Marked) (os : List Marked) → ms ≡ n ∷ o ∷ os → trigraph m.byte n.byte o.byte ≡ None) → without_trigraphs (m ∷ ms) ≡ m ∷ without_trigraphs ms
stays m [] off = refl
stays m (n ∷ []) off = refl
stays m (n ∷ o ∷ ms) off = ap (λ t. replaced m t (without_trigraphs (n ∷ o ∷ ms)) (without_trigraphs ms)) (off n o ms refl)

trigraph-first : (a b c : ℕ) → (a == 63) ≡ false → trigraph a b c ≡ None
trigraph-first a b c off = ap (λ t. cond (t && (b == 63)) (trigraph_end c) None) off

-- where the text begins with another byte
pub other-first : (xs ys : List Marked) (r : Option ℕ) → Takes xs r ys → (r ≡ Some 63 → ⊥) → Takes (without_trigraphs xs) r (without_trigraphs ys)
other-first xs ys None t off = (ap without_trigraphs t.0, ap without_trigraphs t.1)
other-first xs ys (Some b) (m, is, e) off = (m, is, ap without_trigraphs e ∙ stays m ys (λ n o os _. trigraph-first m.byte n.byte o.byte (ne_eqb m.byte 63 (λ f. off (ap (λ k. Some k) (sym is ∙ f))))))

-- what follows the first byte of a sequence
pub sequence-next : (xs ys zs : List Marked) (b : ℕ) → Takes xs (Some 63) ys → ((m : Marked) → m.byte ≡ 63 → without_trigraphs (m ∷ ys) ≡ record { byte = b; position = m.position } ∷ zs) → Takes (without_trigraphs xs) (Some b) zs
sequence-next xs ys zs b (m, is, e) rest = (record { byte = b; position = m.position }, refl, ap without_trigraphs e ∙ rest m is)

-- where no splice comes first
other : (b k : ℕ) → (b == k) ≡ false → Some b ≡ Some k → ⊥
other b k off e = let same : b ≡ k = cc in true≢false (sym (eq-eqb b k same) ∙ off)

pub no_backslash : (xs ys : List Marked) (r : Option ℕ) → Takes xs r ys → (r ≡ Some 92 → ⊥) → KeepsFirst xs
no_backslash xs ys None t off = subst KeepsFirst (sym t.0) tt
no_backslash xs ys (Some b) (m, is, e) off = subst KeepsFirst (sym e) (keeps ys)
  where
    other : (m.byte == 92) ≡ false
    other = ne_eqb m.byte 92 (λ f. off (ap (λ k. Some k) (sym is ∙ f)))

    keeps : (ms : List Marked) → without_splices (m ∷ ms) ≡ m ∷ without_splices ms
    keeps [] = refl
    keeps (n ∷ []) = ap (λ t. cond (t && (n.byte == 10)) (n ∷ []) (m ∷ n ∷ [])) other
    keeps (n ∷ o ∷ ms) = ap (λ t. cond (t && (n.byte == 10)) (without_splices (o ∷ ms)) (m ∷ without_splices (n ∷ o ∷ ms))) other

-- the next byte of the text
pub Takes-kept : (xs ys : List Marked) (r : Option ℕ) → Takes xs r ys → KeepsFirst xs → Takes (without_splices xs) r (without_splices ys)
Takes-kept xs ys None t keeps = (ap without_splices t.0, ap without_splices t.1)
Takes-kept xs ys (Some b) (m, is, e) keeps = (m, is, ap without_splices e ∙ subst KeepsFirst e keeps)

-- what a plain byte is not
pub record IsPlainByte (bs : List ℕ) : Type 0 where
  pub some : 0 < length bs
  pub no_return : begins_with (13 ∷ 10 ∷ []) bs ≡ false
  pub mark : (slice_index bs 0 == 63) ≡ false
  pub backslash : (slice_index bs 0 == 92) ≡ false

pub plain_byte : (bs : List ℕ) → begins_plainly bs ≡ true → IsPlainByte bs
plain_byte [] plain = cc
plain_byte (b ∷ bs) plain =
    let last = or_parts (b == 13 || b == 63) (b == 92) (not-true _ plain) in
    let first = or_parts (b == 13) (b == 63) last.0 in
    record {
      some = omega arith;
      no_return = ap (λ t. t && begins_with (10 ∷ []) bs) (eqb_comm 13 b ∙ first.0);
      mark = first.1;
      backslash = last.1;
    }

-- a byte that is one of the text, whatever follows it
pub plain_next : (xs ys : List Marked) (b : ℕ) → Takes xs (Some b) ys → (b == 63) ≡ false → (b == 92) ≡ false
    → Takes (without_splices (without_trigraphs xs)) (Some b) (without_splices (without_trigraphs ys))
plain_next xs ys b t mark backslash =
    let next = other-first xs ys (Some b) t (other b 63 mark) in
    Takes-kept (without_trigraphs xs) (without_trigraphs ys) (Some b) next (no_backslash (without_trigraphs xs) (without_trigraphs ys) (Some b) next (other b 92 backslash))

pub plain_first : (wanted : Bool) (line column : ℕ) (bs : List ℕ) → begins_plainly bs ≡ true → KeepsFirst (without_trigraphs (stored wanted line column bs))
plain_first wanted line column [] plain = cc
plain_first wanted line column (b ∷ bs) plain =
    let parts = plain_byte (b ∷ bs) plain in
    let next = other-first (stored wanted line column (b ∷ bs)) _ (Some b) (record { byte = b; position = record { line = line; column = column } }, refl, stored-byte wanted line column b bs parts.no_return) (other b 63 parts.mark) in
    no_backslash (without_trigraphs (stored wanted line column (b ∷ bs))) _ (Some b) next (other b 92 parts.backslash)

-- where the first byte of the text stands
pub first_position : (xs : List Marked) (p : Position) → ((m : Marked) (ms : List Marked) → xs ≡ m ∷ ms → m.position ≡ p) → KeepsFirst (without_trigraphs xs)
    → (m : Marked) (ms : List Marked) → without_splices (without_trigraphs xs) ≡ m ∷ ms → m.position ≡ p
first_position [] p first keeps m ms e = cc
first_position (x ∷ xs) p first keeps m ms e = by (without_trigraphs (x ∷ xs)) (begins xs) keeps e
  where
    begins : (xs : List Marked) → (y : Marked) × (ys : List Marked) × (without_trigraphs (x ∷ xs) ≡ y ∷ ys) × (y.position ≡ x.position)
    begins [] = (x, [], refl, refl)
    begins (n ∷ []) = (x, n ∷ [], refl, refl)
    begins (n ∷ o ∷ ms) = one (trigraph x.byte n.byte o.byte)
      where
        one : (t : Option ℕ) → (y : Marked) × (ys : List Marked) × (replaced x t (without_trigraphs (n ∷ o ∷ ms)) (without_trigraphs ms) ≡ y ∷ ys) × (y.position ≡ x.position)
        one (Some b) = (record { byte = b; position = x.position }, without_trigraphs ms, refl, refl)
        one None = (x, without_trigraphs (n ∷ o ∷ ms), refl, refl)

    by : (ts : List Marked) → (y : Marked) × (ys : List Marked) × (ts ≡ y ∷ ys) × (y.position ≡ x.position) → KeepsFirst ts → without_splices ts ≡ m ∷ ms → m.position ≡ p
    by ts (y, ys, is, same) keeps e =
        let all : y ∷ without_splices ys ≡ m ∷ ms = sym (subst KeepsFirst is keeps) ∙ ap without_splices (sym is) ∙ e in
        let front : m ≡ y = cc in
        ap (λ k. k.position) front ∙ same ∙ first x xs refl
