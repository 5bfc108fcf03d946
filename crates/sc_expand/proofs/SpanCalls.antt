-- What the first items of a list tell of the call of the name that stands first, where two
-- configurations have the same of them.
use Rattle.std.proofs.Common.{◌≡◌, ◌⊎◌, inl, inr, ℕ, zero, suc, ◌+◌, ◌<◌, ◌≤◌, Bool, true, false, List, [], ◌∷◌, ◌++◌, codes, drop, length, map, take, refl, sym, ap, ◌∙◌, arith, Option, Some, None, if◌then◌else◌}
use Rattle.sc_expand.proofs.AlikeLemmas.{items_at-alike}
use Rattle.sc_expand.proofs.Facts.{All-drop, All-head, All-tail, length-map, take-append-le}
use Rattle.sc_expand.proofs.Terms.{AreAlike, Cond, Hidden, IsAlike, IsSameCall, Role, Sets, Token, bare, call_end, call_end_at, call_length, call_places, closed, closing, closing_at, closing_step, comma, items_at, opened_end, opened_length, opening, option_map, other, places_from, role_of, same_bytes, spelled_at, still, text_at, tokens_in}

-- ---- spellings that begin alike

counted : (o : Option ℕ) (i : ℕ) → option_map suc o ≡ Some i → (j : ℕ) × (o ≡ Some j) × (suc j ≡ i)
counted None i is = absurd (cc)
counted (Some j) i is = let same : suc j ≡ i = cc in (j, refl, same)

-- the parenthesis that closes a call is one of the first
pub closing-front : (depth k i : ℕ) (xs ys : List (List ℕ)) → take k xs ≡ take k ys → i < k → closing_at depth xs ≡ Some i → closing_at depth ys ≡ Some i
closing-front depth k i [] ys same early is = absurd (cc)
closing-front depth zero i (x ∷ xs) ys same early is = absurd (omega arith)
closing-front depth (suc k) i (x ∷ xs) [] same early is = absurd (cc)
closing-front depth (suc k) i (x ∷ xs) (y ∷ ys) same early is =
    let first : x ≡ y = cc in
    let rest : take k xs ≡ take k ys = cc in
    ap (λ (t : List ℕ). closing_step (role_of t) depth (λ d. closing_at d ys)) (sym first) ∙ by (role_of x) depth is (λ d j less at. closing-front d k j xs ys rest less at)
  where
    later : (depth : ℕ) → option_map suc (closing_at depth xs) ≡ Some i → ((d j : ℕ) → j < k → closing_at d xs ≡ Some j → closing_at d ys ≡ Some j) → option_map suc (closing_at depth ys) ≡ Some i
    later depth is go = let it = counted (closing_at depth xs) i is in ap (option_map suc) (go depth it.0 (omega (arith, it.2)) it.1) ∙ ap Some it.2

    by : (role : Role) (depth : ℕ) → closing_step role depth (λ d. closing_at d xs) ≡ Some i → ((d j : ℕ) → j < k → closing_at d xs ≡ Some j → closing_at d ys ≡ Some j)
        → closing_step role depth (λ d. closing_at d ys) ≡ Some i
    by closing zero is go = is
    by closing (suc depth) is go = later depth is go
    by opening depth is go = later (suc depth) is go
    by comma depth is go = later depth is go
    by other depth is go = later depth is go

-- where the call is closed
closed-at : (t : List ℕ) (ts : List (List ℕ)) → call_end (t ∷ ts) ≡ closed → (i : ℕ) × (same_bytes t (codes "(") ≡ true) × (closing_at 0 ts ≡ Some i)
closed-at t ts is = by (same_bytes t (codes "(")) (closing_at 0 ts) is
  where
    by : (b : Bool) (o : Option ℕ) → (if b then opened_end o else bare) ≡ closed → (i : ℕ) × (b ≡ true) × (o ≡ Some i)
    by true None is = absurd (cc)
    by true (Some i) is = (i, refl, refl)
    by false o is = absurd (cc)

closed-by : (t : List ℕ) (ts : List (List ℕ)) (i : ℕ) → same_bytes t (codes "(") ≡ true → closing_at 0 ts ≡ Some i → (call_end (t ∷ ts) ≡ closed) × (call_length (t ∷ ts) ≡ suc (suc i))
closed-by t ts i opens closes = (
  ap (λ (b : Bool). if b then opened_end (closing_at 0 ts) else bare) opens ∙ ap opened_end closes,
  ap (λ (b : Bool). if b then suc (opened_length (length ts) (closing_at 0 ts)) else 0) opens ∙ ap (λ (o : Option ℕ). suc (opened_length (length ts) o)) closes,
)

-- a call that is closed among the first
pub closed-front : (k : ℕ) (xs ys : List (List ℕ)) → take k xs ≡ take k ys → call_end xs ≡ closed → call_length xs ≤ k → (call_end ys ≡ closed) × (call_length ys ≡ call_length xs)
closed-front k [] ys same is early = absurd (cc)
closed-front zero (x ∷ xs) ys same is early =
    let it = closed-at x xs is in
    let one = closed-by x xs it.0 it.1 it.2 in
    absurd (omega (arith, one.1, early))
closed-front (suc k) (x ∷ xs) [] same is early = absurd (cc)
closed-front (suc k) (x ∷ xs) (y ∷ ys) same is early =
    let first : x ≡ y = cc in
    let rest : take k xs ≡ take k ys = cc in
    let it = closed-at x xs is in
    let one = closed-by x xs it.0 it.1 it.2 in
    let two = closed-by y ys it.0 (ap (λ (t : List ℕ). same_bytes t (codes "(")) (sym first) ∙ it.1) (closing-front 0 k it.0 xs ys rest (omega (arith, one.1, early)) it.2) in
    (two.0, two.1 ∙ sym one.1)

-- ---- items that begin alike

abbrev spell : List (List ℕ) → Hidden → List ℕ
spell names x = text_at names x.token.spelling.0

spelled-split : (s : Sets) (names : List (List ℕ)) (e : List ℕ) (n : ℕ) (items : List (Cond × Hidden))
    → spelled_at s names (tokens_in items) e ≡ map (spell names) (items_at s (take n items) e) ++ spelled_at s names (tokens_in (drop n items)) e
spelled-split s names e zero items = refl
spelled-split s names e (suc n) [] = refl
spelled-split s names e (suc n) (x ∷ xs) = by (s.has x.0.0 e) (spelled-split s names e n xs)
  where
    by : (b : Bool) → spelled_at s names (tokens_in xs) e ≡ map (spell names) (items_at s (take n xs) e) ++ spelled_at s names (tokens_in (drop n xs)) e
        → map (λ t. text_at names t.spelling.0) (if b then x.1.token ∷ items_at s (tokens_in xs) e else items_at s (tokens_in xs) e)
        ≡ map (spell names) (if b then x.1 ∷ items_at s (take n xs) e else items_at s (take n xs) e) ++ spelled_at s names (tokens_in (drop n xs)) e
    by true is = ap (λ (ts : List (List ℕ)). spell names x.1 ∷ ts) is
    by false is = is

module _ (s : Sets) (c d : List ℕ) where
  -- as many places as there are items among the first
  pub places-front : (n k m : ℕ) (items : List (Cond × Hidden)) → AreAlike s c d (take n items) → k ≤ length (items_at s (take n items) c)
      → take k (places_from s m (map (λ (item : Cond × Token). item.0) (tokens_in items)) c) ≡ take k (places_from s m (map (λ (item : Cond × Token). item.0) (tokens_in items)) d)
  places-front n zero m items alike few = refl
  places-front zero (suc k) m items alike few = absurd (omega arith)
  places-front (suc n) (suc k) m [] alike few = absurd (omega arith)
  places-front (suc n) (suc k) m (x ∷ xs) alike few =
      let P : Cond × Hidden → Type 0 = λ item. IsAlike s c d item.0 in
      by (s.has x.0.0 c) few (λ j less. places-front n j (m + 1) xs (All-tail P x (take n xs) alike) less)
      ∙ ap (λ (b : Bool). take (suc k) (if b then m ∷ later d else later d)) (All-head P x (take n xs) alike)
    where
      later : List ℕ → List ℕ
      later e = places_from s (m + 1) (map (λ (item : Cond × Token). item.0) (tokens_in xs)) e

      by : (b : Bool) → suc k ≤ length (if b then x.1 ∷ items_at s (take n xs) c else items_at s (take n xs) c) → ((j : ℕ) → j ≤ length (items_at s (take n xs) c) → take j (later c) ≡ take j (later d))
          → take (suc k) (if b then m ∷ later c else later c) ≡ take (suc k) (if b then m ∷ later d else later d)
      by true few rest = ap (λ (l : List ℕ). m ∷ l) (rest k (omega (arith, few)))
      by false few rest = rest (suc k) few

  module _ (names : List (List ℕ)) where
    pub spelled-front : (n k : ℕ) (items : List (Cond × Hidden)) → AreAlike s c d (take n items) → k ≤ length (items_at s (take n items) c)
        → take k (spelled_at s names (tokens_in items) c) ≡ take k (spelled_at s names (tokens_in items) d)
    spelled-front n k items alike few = at c refl ∙ sym (at d (sym (items_at-alike s c d (take n items) alike)))
      where
        at : (e : List ℕ) → items_at s (take n items) e ≡ items_at s (take n items) c → take k (spelled_at s names (tokens_in items) e) ≡ take k (map (spell names) (items_at s (take n items) c))
        at e same =
            ap (take k) (spelled-split s names e n items ∙ ap (λ (l : List Hidden). map (spell names) l ++ spelled_at s names (tokens_in (drop n items)) e) same)
            ∙ take-append-le k (map (spell names) (items_at s (take n items) c)) (spelled_at s names (tokens_in (drop n items)) e) (omega (arith, few, length-map (items_at s (take n items) c) (spell names)))

    -- the call is closed by a token of the span
    pub span-closed : (span : ℕ) (list : List (Cond × Hidden)) → AreAlike s c d (take span list) → 1 ≤ span → call_end_at s names (tokens_in list) 0 c ≡ closed
        → call_length (spelled_at s names (drop 1 (tokens_in list)) c) ≤ length (items_at s (drop 1 (take span list)) c) → IsSameCall s names c d list
    span-closed zero list alike some is early = absurd (omega arith)
    span-closed (suc n) [] alike some is early = absurd (cc)
    span-closed (suc n) (item ∷ items) alike some is early =
        let rest = All-tail (λ (x : Cond × Hidden). IsAlike s c d x.0) item (take n items) alike in
        let it = closed-front (length (items_at s (take n items) c)) (spelled_at s names (tokens_in items) c) (spelled_at s names (tokens_in items) d) (spelled-front n _ items rest (omega arith)) is early in
        record {
          ends = is ∙ sym it.0;
          places = λ closes.
              ap (λ (l : List ℕ). 0 ∷ l) (places-front n (call_length (spelled_at s names (tokens_in items) c)) 1 items rest early)
              ∙ ap (λ (k : ℕ). 0 ∷ take k (places_from s 1 (map (λ (x : Cond × Token). x.0) (tokens_in items)) d)) (sym it.1);
        }

    -- the first token of the span behind the name
    abbrev First : List ℕ → (list : List (Cond × Hidden)) → Hidden → Type 0
    First e list x = (ts : List (List ℕ)) × (spelled_at s names (drop 1 (tokens_in list)) e ≡ spell names x ∷ ts)

    first-of : (e : List ℕ) (span : ℕ) (list : List (Cond × Hidden)) (x : Hidden) (rest : List Hidden) → items_at s (drop 1 (take span list)) e ≡ x ∷ rest → First e list x
    first-of e zero list x rest is = absurd (cc)
    first-of e (suc n) [] x rest is = absurd (cc)
    first-of e (suc n) (item ∷ items) x rest is = (
      map (spell names) rest ++ spelled_at s names (tokens_in (drop n items)) e,
      spelled-split s names e n items ∙ ap (λ (l : List Hidden). map (spell names) l ++ spelled_at s names (tokens_in (drop n items)) e) is,
    )

    pub behind-alike : (span : ℕ) (list : List (Cond × Hidden)) → AreAlike s c d (take span list) → items_at s (drop 1 (take span list)) c ≡ items_at s (drop 1 (take span list)) d
    behind-alike span list alike = items_at-alike s c d (drop 1 (take span list)) (All-drop (λ (x : Cond × Hidden). IsAlike s c d x.0) 1 (take span list) alike)

    -- another token of the span follows the name
    pub span-bare : (span : ℕ) (list : List (Cond × Hidden)) (x : Hidden) (rest : List Hidden) → AreAlike s c d (take span list) → items_at s (drop 1 (take span list)) c ≡ x ∷ rest
        → same_bytes (text_at names x.token.spelling.0) (codes "(") ≡ false → IsSameCall s names c d list × (call_end_at s names (tokens_in list) 0 c ≡ bare)
    span-bare span list x rest alike is differs =
        let one = ends c (first-of c span list x rest is) in
        let two = ends d (first-of d span list x rest (sym (behind-alike span list alike) ∙ is)) in
        (record { ends = one.0 ∙ sym two.0; places = λ closes. places c one.1 ∙ sym (places d two.1) }, one.0)
      where
        ends : (e : List ℕ) → First e list x → (call_end_at s names (tokens_in list) 0 e ≡ bare) × (call_length (spelled_at s names (drop 1 (tokens_in list)) e) ≡ 0)
        ends e it = (
          ap call_end it.1 ∙ ap (λ (b : Bool). if b then opened_end (closing_at 0 it.0) else bare) differs,
          ap call_length it.1 ∙ ap (λ (b : Bool). if b then suc (opened_length (length it.0) (closing_at 0 it.0)) else 0) differs,
        )

        places : (e : List ℕ) → call_length (spelled_at s names (drop 1 (tokens_in list)) e) ≡ 0 → call_places s names (tokens_in list) 0 e ≡ 0 ∷ []
        places e none = ap (λ (k : ℕ). 0 ∷ take k (places_from s 1 (map (λ (x : Cond × Token). x.0) (drop 1 (tokens_in list))) e)) none

    -- a parenthesis of the span opens the call
    abbrev pub Opened : List (Cond × Hidden) → List ℕ → Type 0
    Opened list e = (call_end_at s names (tokens_in list) 0 e ≡ closed) ⊎ (call_end_at s names (tokens_in list) 0 e ≡ still)

    pub span-opened : (span : ℕ) (list : List (Cond × Hidden)) (x : Hidden) (rest : List Hidden) → AreAlike s c d (take span list) → items_at s (drop 1 (take span list)) c ≡ x ∷ rest
        → same_bytes (text_at names x.token.spelling.0) (codes "(") ≡ true → Opened list c × Opened list d
    span-opened span list x rest alike is opens = (at c (first-of c span list x rest is), at d (first-of d span list x rest (sym (behind-alike span list alike) ∙ is)))
      where
        by : (o : Option ℕ) → (opened_end o ≡ closed) ⊎ (opened_end o ≡ still)
        by None = inr refl
        by (Some i) = inl refl

        onto : (e : List ℕ) (it : First e list x) → (opened_end (closing_at 0 it.0) ≡ closed) ⊎ (opened_end (closing_at 0 it.0) ≡ still) → Opened list e
        onto e it (inl ends) = inl (ap call_end it.1 ∙ (ap (λ (b : Bool). if b then opened_end (closing_at 0 it.0) else bare) opens ∙ ends))
        onto e it (inr ends) = inr (ap call_end it.1 ∙ (ap (λ (b : Bool). if b then opened_end (closing_at 0 it.0) else bare) opens ∙ ends))

        at : (e : List ℕ) → First e list x → Opened list e
        at e it = onto e it (by (closing_at 0 it.0))
