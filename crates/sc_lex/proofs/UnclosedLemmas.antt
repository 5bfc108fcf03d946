-- Quotes that are not closed on their line.
use Rattle.std.proofs.Common.{◌≡◌, ℕ, zero, suc, ◌+◌, ◌-◌, ◌<◌, ◌≤◌, ◌==◌, ◌&&◌, ◌||◌, nat_lt, inl, inr, Bool, true, false, List, [], ◌∷◌, length, take, drop, get_or, refl, sym, ap, ◌∙◌, subst, arith, get_or-drop, zero-add, add-zero, if◌then◌else◌}
use Rattle.std.proofs.lemmas.Bool.{cases_Bool, cases_lt, and_left, and_right, eqb-true}
use Rattle.std.proofs.lemmas.List.{drop-drop}
use Rattle.c11_tokens.specs.Lex.{closes, is_quoted}
use Rattle.sc_lex.specs.Scan.{IsLongestFront, quoted_length}
use Rattle.sc_lex.specs.Unclosed.{IsUnclosed}
use Rattle.sc_lex.proofs.Fronts.{Unmet, Unmet-none, Unmet-never, IsStuck, none_where_stuck}

pub IsUnclosed-none : (quote : ℕ) (bs : List ℕ) → IsUnclosed quote bs 0
IsUnclosed-none quote bs = record { never = λ k m below is. absurd (omega arith) }

-- what is known of a text is known of what is left of it
pub IsUnclosed-drop : {quote : ℕ} {bs : List ℕ} {known : ℕ} (count n : ℕ) → n ≤ known - count → IsUnclosed quote bs known → IsUnclosed quote (drop count bs) n
IsUnclosed-drop {quote} {bs} {known} count n le u = record {
  never = λ k m below is.
      let along : count + k + 1 ≡ count + (k + 1) = omega arith in
      ap (λ xs. closes quote (take m xs)) (drop-drop (k + 1) count bs ∙ ap (λ i. drop i bs) (sym along))
      ∙ u.never (count + k) m (omega arith) (sym (get_or-drop count bs k 0) ∙ is);
}

-- a quote that is not closed begins nothing that is quoted
pub quoted-unclosed : (quote : ℕ) (filled : Bool) (bs : List ℕ) → IsUnclosed quote bs 1 → IsLongestFront (is_quoted quote filled) bs 0
quoted-unclosed quote filled bs u = none_where_stuck (is_quoted quote filled) bs (record { fails = by bs u })
  where
    by : (bs : List ℕ) → IsUnclosed quote bs 1 → (m : ℕ) → 0 < m → m ≤ length bs → is_quoted quote filled (take m bs) ≡ false
    by bs u zero positive within = absurd (omega arith)
    by [] u (suc m) positive within = absurd (omega arith)
    by (b ∷ bs) u (suc m) positive within = elim (cases_Bool (quote == b)) [
      | inl e ↦ and_left _ _ (and_right ((quote == b) && true) _ (u.never 0 m (omega arith) (sym (eqb-true quote b e))))
      | inr e ↦ and_left _ _ (and_left _ _ (and_left (quote == b) true e))
    ]

module _ (quote : ℕ) where
  -- no end comes behind
  abbrev pub Fails : List ℕ → Type 0
  Fails bs = (m : ℕ) → closes quote (take m bs) ≡ false

  pub Fails-stuck : (bs : List ℕ) → IsStuck (closes quote) bs → Fails bs
  Fails-stuck bs stuck = Unmet-never (Unmet-none (closes quote) bs refl) stuck

  pub Fails-more : (bs : List ℕ) (n : ℕ) → Unmet (closes quote) (closes quote) bs n → Fails (drop n bs) → Fails bs
  Fails-more bs n unmet fails = Unmet-never unmet (record { fails = λ m positive within. fails m })

  -- one part more: a quote in it is taken along by a backslash
  pub IsUnclosed-more : (bs : List ℕ) (part n : ℕ) → 0 < part → part ≤ 2 → (get_or bs 0 0 ≡ quote → ⊥) → Fails (drop part bs) → IsUnclosed quote (drop part bs) n → IsUnclosed quote bs (part + n)
  IsUnclosed-more bs part n some short other fails u = record {
    never = λ k m below is. elim (cases_lt k part) [
      | inl inside ↦ elim (cases_lt 0 k) [
        | inl later ↦ (let last : k + 1 ≡ part = omega arith in ap (λ i. closes quote (take m (drop i bs))) last ∙ fails m)
        | inr first ↦ (let zero_is : k ≡ 0 = omega arith in absurd (other (ap (λ i. get_or bs i 0) (sym zero_is) ∙ is)))
      ]
      | inr behind ↦ (let there : part + (k - part) ≡ k = omega arith in
          let along : k + 1 ≡ part + (k - part + 1) = omega arith in
          ap (λ i. closes quote (take m (drop i bs))) along
          ∙ (ap (λ xs. closes quote (take m xs)) (sym (drop-drop (k - part + 1) part bs))
          ∙ u.never (k - part) m (omega arith) (get_or-drop part bs (k - part) 0 ∙ (ap (λ i. get_or bs i 0) there ∙ is))))
    ];
  }

-- a part has at most two bytes
pub quoted_length-le : (bs : List ℕ) → quoted_length bs ≤ 2
quoted_length-le bs = by (get_or bs 0 0 == 10) (get_or bs 0 0 == 92) (nat_lt (length bs) 2 || get_or bs 1 0 == 10)
  where
    by : (newline slash short : Bool) → (if newline then 0 else (if slash then (if short then 0 else 2) else 1)) ≤ 2
    by true slash short = omega arith
    by false true true = omega arith
    by false true false = omega arith
    by false false short = omega arith

-- The search behind a quote so far: what is known of the rest is known of the whole.
pub record Seeks (quote : ℕ) (bs : List ℕ) (i : ℕ) : Type 0 where
  pub back : (n : ℕ) → Fails quote (drop i bs) → IsUnclosed quote (drop i bs) n → IsUnclosed quote bs (i + n)

pub Seeks-none : (quote : ℕ) (bs : List ℕ) → Seeks quote bs 0
Seeks-none quote bs = record { back = λ n fails u. subst (IsUnclosed quote bs) (sym (zero-add n)) u }

pub Seeks-more : {quote : ℕ} {bs : List ℕ} {i : ℕ} (part : ℕ) → 0 < part → part ≤ 2 → (get_or (drop i bs) 0 0 ≡ quote → ⊥) → Unmet (closes quote) (closes quote) (drop i bs) part → Seeks quote bs i → Seeks quote bs (i + part)
Seeks-more {quote} {bs} {i} part some short other unmet seeks = record {
  back = λ n fails u.
      let same : drop (i + part) bs ≡ drop part (drop i bs) = sym (drop-drop part i bs) in
      let fails' = subst (Fails quote) same fails in
      let u' = subst (λ xs. IsUnclosed quote xs n) same u in
      let along : i + (part + n) ≡ i + part + n = omega arith in
      subst (IsUnclosed quote bs) along (seeks.back (part + n) (Fails-more quote (drop i bs) part unmet fails') (IsUnclosed-more quote (drop i bs) part n some short other fails' u'));
}

pub Seeks-end : {quote : ℕ} {bs : List ℕ} {i : ℕ} → Seeks quote bs i → IsStuck (closes quote) (drop i bs) → IsUnclosed quote bs i
Seeks-end {quote} {bs} {i} seeks stuck = subst (IsUnclosed quote bs) (add-zero i) (seeks.back 0 (Fails-stuck quote (drop i bs) stuck) (IsUnclosed-none quote (drop i bs)))
