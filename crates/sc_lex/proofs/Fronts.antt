-- How a scan over a text tells its longest prefix that passes a test.
use Rattle.std.proofs.Common.{◌≡◌, ℕ, zero, suc, ◌+◌, ◌-◌, max, ◌<◌, ◌≤◌, ◌&&◌, ◌||◌, inl, inr, Bool, true, false, List, [], ◌∷◌, ◌++◌, length, take, drop, get_or, refl, sym, ap, ◌∙◌, subst, arith, append-nil, append_assoc, length-drop, get_or-drop, add-zero}
use Rattle.std.proofs.Math.Seq.{take-add}
use Rattle.std.proofs.lemmas.Bool.{cases_lt, or_left, or_right, or_from}
use Rattle.std.proofs.lemmas.List.{take_all, drop_more}
use Rattle.c11_tokens.specs.Lex.{is_blank, is_white_space}
use Rattle.std.specs.List.{list_all}
use Rattle.sc_model.specs.Bytes.{same_bytes}
use Rattle.sc_lex.specs.Scan.{IsLongestFront}

-- Once these n bytes have come, one test asks of what follows what the other asks.
pub record Becomes (before after : List ℕ → Bool) (bytes : List ℕ) (n : ℕ) : Type 0 where
  pub within : n ≤ length bytes
  pub asks : (xs : List ℕ) → before (take n bytes ++ xs) ≡ after xs

pub Becomes-none : (f : List ℕ → Bool) (bytes : List ℕ) → Becomes f f bytes 0
Becomes-none f bytes = record { within = omega arith; asks = λ xs. refl }

pub Becomes-one : (f g : List ℕ → Bool) (b : ℕ) (bs : List ℕ) → ((xs : List ℕ) → f (b ∷ xs) ≡ g xs) → Becomes f g (b ∷ bs) 1
Becomes-one f g b bs h = record { within = omega arith; asks = h }

pub Becomes-more : {f g h : List ℕ → Bool} {bytes : List ℕ} {n k : ℕ} → Becomes f g bytes n → Becomes g h (drop n bytes) k → Becomes f h bytes (n + k)
Becomes-more {f} {g} {h} {bytes} {n} {k} first second = record {
  within = omega (arith, first.within, second.within, length-drop n bytes);
  asks = λ xs. ap (λ t. f (t ++ xs)) (take-add n k bytes) ∙ ap f (append_assoc (take n bytes) (take k (drop n bytes)) xs)
      ∙ first.asks (take k (drop n bytes) ++ xs) ∙ second.asks xs;
}

-- a longer front is these bytes and a prefix of the rest
pub Becomes-front : {f g : List ℕ → Bool} {bytes : List ℕ} {n : ℕ} → Becomes f g bytes n → (m : ℕ) → f (take (n + m) bytes) ≡ g (take m (drop n bytes))
Becomes-front {f} {g} {bytes} {n} b m = ap f (take-add n m bytes) ∙ b.asks (take m (drop n bytes))

pub Becomes-here : {f g : List ℕ → Bool} {bytes : List ℕ} {n : ℕ} → Becomes f g bytes n → f (take n bytes) ≡ g []
Becomes-here {f} {g} {bytes} {n} b = ap f (sym (append-nil (take n bytes))) ∙ b.asks []

-- no front passes but the empty one
pub record IsStuck (test : List ℕ → Bool) (bytes : List ℕ) : Type 0 where
  pub fails : (m : ℕ) → 0 < m → m ≤ length bytes → test (take m bytes) ≡ false

pub IsStuck-end : (test : List ℕ → Bool) (bytes : List ℕ) → length bytes ≤ 0 → IsStuck test bytes
IsStuck-end test bytes end = record { fails = λ m positive within. absurd (omega arith) }

-- the front is the longest where nothing can follow it
pub longest_where_stuck : {f g : List ℕ → Bool} {bytes : List ℕ} {n : ℕ} → Becomes f g bytes n → g [] ≡ true → IsStuck g (drop n bytes) → IsLongestFront f bytes n
longest_where_stuck {f} {g} {bytes} {n} b ends stuck = record {
  within = b.within;
  fit = λ positive. Becomes-here b ∙ ends;
  longest = λ m longer within.
      let parts : n + (m - n) ≡ m = omega arith in
      ap (λ k. f (take k bytes)) (sym parts) ∙ Becomes-front b (m - n) ∙ stuck.fails (m - n) (omega arith) (omega (arith, length-drop n bytes));
}

pub none_where_stuck : (f : List ℕ → Bool) (bytes : List ℕ) → IsStuck f bytes → IsLongestFront f bytes 0
none_where_stuck f bytes stuck = record { within = omega arith; fit = λ positive. absurd (omega arith); longest = stuck.fails }

pub nothing_more : (bs : List ℕ) (m : ℕ) → 0 < m → m ≤ length bs → same_bytes (take m bs) [] ≡ false
nothing_more bs zero positive within = absurd (omega arith)
nothing_more [] (suc m) positive within = absurd (omega arith)
nothing_more (c ∷ cs) (suc m) positive within = refl

-- one byte that passes, and nothing after it
pub one_byte : (test : List ℕ → Bool) (is : ℕ → Bool) (bytes : List ℕ) → ((b : ℕ) (bs : List ℕ) → test (b ∷ bs) ≡ (is b && same_bytes bs []))
    → 0 < length bytes → is (get_or bytes 0 0) ≡ true → IsLongestFront test bytes 1
one_byte test is [] rule some passes = absurd (omega arith)
one_byte test is (b ∷ bs) rule some passes =
    longest_where_stuck (Becomes-one test (λ xs. same_bytes xs []) b bs (λ xs. rule b xs ∙ ap (λ t. t && same_bytes xs []) passes)) refl
    (record { fails = nothing_more bs })

pub no_byte : (test : List ℕ → Bool) (is : ℕ → Bool) (bytes : List ℕ) → ((b : ℕ) (bs : List ℕ) → test (b ∷ bs) ≡ (is b && same_bytes bs []))
    → (0 < length bytes → is (get_or bytes 0 0) ≡ false) → IsLongestFront test bytes 0
no_byte test is bytes rule fails = none_where_stuck test bytes (record { fails = by bytes fails })
  where
    by : (bytes : List ℕ) → (0 < length bytes → is (get_or bytes 0 0) ≡ false) → (m : ℕ) → 0 < m → m ≤ length bytes → test (take m bytes) ≡ false
    by bytes fails zero positive within = absurd (omega arith)
    by [] fails (suc m) positive within = absurd (omega arith)
    by (b ∷ bs) fails (suc m) positive within = rule b (take m bs) ∙ ap (λ t. t && same_bytes (take m bs) []) (fails (omega arith))

-- two tests that agree on the fronts that are not empty
pub IsLongestFront-same : (f g : List ℕ → Bool) (bytes : List ℕ) (n : ℕ) → ((m : ℕ) → 0 < m → f (take m bytes) ≡ g (take m bytes)) → IsLongestFront g bytes n → IsLongestFront f bytes n
IsLongestFront-same f g bytes n same front = record {
  within = front.within;
  fit = λ positive. same n positive ∙ front.fit positive;
  longest = λ m longer within. same m (omega arith) ∙ front.longest m longer within;
}

-- white space is blanks, and not none
pub blanks-front : (bytes : List ℕ) (n : ℕ) → IsLongestFront (list_all is_blank) bytes n → IsLongestFront is_white_space bytes n
blanks-front bytes n front = record {
  within = front.within;
  fit = λ positive. by bytes n positive front.within ∙ front.fit positive;
  longest = λ m longer within. by bytes m (omega arith) within ∙ front.longest m longer within;
}
  where
    by : (bs : List ℕ) (m : ℕ) → 0 < m → m ≤ length bs → is_white_space (take m bs) ≡ list_all is_blank (take m bs)
    by bs zero positive within = absurd (omega arith)
    by [] (suc m) positive within = absurd (omega arith)
    by (b ∷ bs) (suc m) positive within = refl

pub blanks-stop : (b : ℕ) (bs : List ℕ) → is_blank b ≡ false → IsStuck (list_all is_blank) (b ∷ bs)
blanks-stop b bs other = record { fails = by }
  where
    by : (m : ℕ) → 0 < m → m ≤ length (b ∷ bs) → list_all is_blank (take m (b ∷ bs)) ≡ false
    by zero positive within = absurd (omega arith)
    by (suc m) positive within = ap (λ t. t && list_all is_blank (take m bs)) other

-- the longest prefix of the rest makes the longest prefix of all
pub longest_after : {f g : List ℕ → Bool} {bytes : List ℕ} {n : ℕ} (k : ℕ) → Becomes f g bytes n → IsLongestFront g (drop n bytes) k → (k ≡ 0 → g [] ≡ true) → IsLongestFront f bytes (n + k)
longest_after {f} {g} {bytes} {n} k b rest empty = record {
  within = omega (arith, b.within, rest.within, length-drop n bytes);
  fit = λ positive. Becomes-front b k ∙ here k rest empty;
  longest = λ m longer within.
      let parts : n + (m - n) ≡ m = omega arith in
      ap (λ i. f (take i bytes)) (sym parts) ∙ Becomes-front b (m - n) ∙ rest.longest (m - n) (omega arith) (omega (arith, length-drop n bytes));
}
  where
    here : (k : ℕ) → IsLongestFront g (drop n bytes) k → (k ≡ 0 → g [] ≡ true) → g (take k (drop n bytes)) ≡ true
    here zero rest empty = empty refl
    here (suc k) rest empty = rest.fit (omega arith)

-- a byte after which nothing may come
pub closing_byte : (f : List ℕ → Bool) (b : ℕ) (bs : List ℕ) → ((xs : List ℕ) → f (b ∷ xs) ≡ same_bytes xs []) → IsLongestFront f (b ∷ bs) 1
closing_byte f b bs rule = longest_where_stuck (Becomes-one f (λ xs. same_bytes xs []) b bs rule) refl (record { fails = nothing_more bs })

-- Nothing up to these n bytes passes, and then the other test is asked.
pub record Unmet (f g : List ℕ → Bool) (bytes : List ℕ) (n : ℕ) : Type 0 where
  pub becomes : Becomes f g bytes n
  pub fails : (m : ℕ) → m ≤ n → f (take m bytes) ≡ false

pub Unmet-none : (f : List ℕ → Bool) (bytes : List ℕ) → f [] ≡ false → Unmet f f bytes 0
Unmet-none f bytes empty = record { becomes = Becomes-none f bytes; fails = by }
  where
    by : (m : ℕ) → m ≤ 0 → f (take m bytes) ≡ false
    by zero h = empty
    by (suc m) h = absurd (omega arith)

pub Unmet-one : (f g : List ℕ → Bool) (b : ℕ) (bs : List ℕ) → ((xs : List ℕ) → f (b ∷ xs) ≡ g xs) → f [] ≡ false → g [] ≡ false → Unmet f g (b ∷ bs) 1
Unmet-one f g b bs rule here there = record { becomes = Becomes-one f g b bs rule; fails = by }
  where
    by : (m : ℕ) → m ≤ 1 → f (take m (b ∷ bs)) ≡ false
    by zero h = here
    by (suc zero) h = rule [] ∙ there
    by (suc (suc m)) h = absurd (omega arith)

pub Unmet-more : {f g h : List ℕ → Bool} {bytes : List ℕ} {n : ℕ} (k : ℕ) → Unmet f g bytes n → Unmet g h (drop n bytes) k → Unmet f h bytes (n + k)
Unmet-more {f} {g} {h} {bytes} {n} k first second = record { becomes = Becomes-more first.becomes second.becomes; fails = by }
  where
    by : (m : ℕ) → m ≤ n + k → f (take m bytes) ≡ false
    by m le = elim (cases_lt n m) [
      | inl above ↦ (let parts : n + (m - n) ≡ m = omega arith in
          ap (λ i. f (take i bytes)) (sym parts) ∙ Becomes-front first.becomes (m - n) ∙ second.fails (m - n) (omega arith))
      | inr below ↦ first.fails m below
    ]

pub Unmet-met : {f g : List ℕ → Bool} {bytes : List ℕ} {n : ℕ} (k : ℕ) → Unmet f g bytes n → IsLongestFront g (drop n bytes) k → 0 < k → IsLongestFront f bytes (n + k)
Unmet-met k u front some = longest_after k u.becomes front (λ none. absurd (omega arith))

pub Unmet-never : {f g : List ℕ → Bool} {bytes : List ℕ} {n : ℕ} → Unmet f g bytes n → IsStuck g (drop n bytes) → (m : ℕ) → f (take m bytes) ≡ false
Unmet-never {f} {g} {bytes} {n} u stuck m = elim (cases_lt (length bytes) m) [
  | inl past ↦ ap f (take_all m bytes (omega arith) ∙ sym (take_all (length bytes) bytes (omega arith))) ∙ within (length bytes) (omega arith)
  | inr inside ↦ within m inside
]
  where
    within : (m : ℕ) → m ≤ length bytes → f (take m bytes) ≡ false
    within m le = elim (cases_lt n m) [
      | inl above ↦ (let parts : n + (m - n) ≡ m = omega arith in
          ap (λ i. f (take i bytes)) (sym parts) ∙ Becomes-front u.becomes (m - n) ∙ stuck.fails (m - n) (omega arith) (omega (arith, length-drop n bytes)))
      | inr below ↦ u.fails m below
    ]

pub never_longest : (f : List ℕ → Bool) (bytes : List ℕ) → ((m : ℕ) → f (take m bytes) ≡ false) → IsLongestFront f bytes 0
never_longest f bytes never = record { within = omega arith; fit = λ positive. absurd (omega arith); longest = λ m longer within. never m }

-- one byte in front of what another test is asked
pub byte_before : (f g : List ℕ → Bool) (b : ℕ) (bs : List ℕ) (k : ℕ) → ((xs : List ℕ) → f (b ∷ xs) ≡ g xs) → IsLongestFront g bs k → 0 < k → IsLongestFront f (b ∷ bs) (1 + k)
byte_before f g b bs k rule front some = longest_after k (Becomes-one f g b bs rule) front (λ none. absurd (omega arith))

pub byte_before_none : (f g : List ℕ → Bool) (b : ℕ) (bs : List ℕ) → ((xs : List ℕ) → f (b ∷ xs) ≡ g xs) → g [] ≡ false → IsLongestFront g bs 0 → IsLongestFront f (b ∷ bs) 0
byte_before_none f g b bs rule empty front = none_where_stuck f (b ∷ bs) (record { fails = by })
  where
    by : (m : ℕ) → 0 < m → m ≤ length (b ∷ bs) → f (take m (b ∷ bs)) ≡ false
    by zero positive within = absurd (omega arith)
    by (suc zero) positive within = rule [] ∙ empty
    by (suc (suc m)) positive within = rule (take (suc m) bs) ∙ front.longest (suc m) (omega arith) (omega arith)

-- a first byte that none begins with
pub other_byte : (f : List ℕ → Bool) (bytes : List ℕ) → ((xs : List ℕ) → f (get_or bytes 0 0 ∷ xs) ≡ false) → IsLongestFront f bytes 0
other_byte f bytes rule = none_where_stuck f bytes (record { fails = by bytes rule })
  where
    by : (bytes : List ℕ) → ((xs : List ℕ) → f (get_or bytes 0 0 ∷ xs) ≡ false) → (m : ℕ) → 0 < m → m ≤ length bytes → f (take m bytes) ≡ false
    by bytes rule zero positive within = absurd (omega arith)
    by [] rule (suc m) positive within = absurd (omega arith)
    by (b ∷ bs) rule (suc m) positive within = rule (take m bs)

-- the longer of two
pub either : (f g : List ℕ → Bool) (bytes : List ℕ) (n k : ℕ) → IsLongestFront f bytes n → IsLongestFront g bytes k → IsLongestFront (λ bs. f bs || g bs) bytes (max n k)
either f g bytes n k a b = elim (cases_lt n k) [
  | inl less ↦ (let is : max n k ≡ k = omega arith in subst (IsLongestFront (λ bs. f bs || g bs) bytes) (sym is) (record {
    within = b.within;
    fit = λ positive. or_right (f (take k bytes)) _ (b.fit positive);
    longest = λ m longer within. or_from _ _ (a.longest m (omega arith) within) (b.longest m longer within);
  }))
  | inr more ↦ (let is : max n k ≡ n = omega arith in subst (IsLongestFront (λ bs. f bs || g bs) bytes) (sym is) (record {
    within = a.within;
    fit = λ positive. or_left (f (take n bytes)) _ (a.fit positive);
    longest = λ m longer within. or_from _ _ (a.longest m longer within) (b.longest m (omega arith) within);
  }))
]

-- what holds of a byte and what follows it holds from its place on
pub at_place : (P : List ℕ → Type 0) (bytes : List ℕ) (i : ℕ) → i < length bytes → P (get_or bytes i 0 ∷ drop (i + 1) bytes) → P (drop i bytes)
at_place P bytes i within h = subst P (sym (drop_more bytes i 0 within)) h

pub at_first : (bytes : List ℕ) (i : ℕ) → get_or (drop i bytes) 0 0 ≡ get_or bytes i 0
at_first bytes i = get_or-drop i bytes 0 0 ∙ ap (λ j. get_or bytes j 0) (add-zero i)

pub longer : (f g : List ℕ → Bool) (bytes : List ℕ) (n k length : ℕ) → length ≡ max n k → IsLongestFront f bytes n → IsLongestFront g bytes k → IsLongestFront (λ bs. f bs || g bs) bytes length
longer f g bytes n k length is a b = subst (IsLongestFront (λ bs. f bs || g bs) bytes) (sym is) (either f g bytes n k a b)
