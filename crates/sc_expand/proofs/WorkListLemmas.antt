-- A list whose first items are restricted to a condition, one after the other.
use Rattle.std.proofs.Common.{◌≡◌, ◌⊎◌, ◌∙◌, ℕ, zero, suc, ◌≤◌, ◌++◌, Bool, true, false, List, [], ◌∷◌, All, drop, take, length, inl, refl, sym, ap, subst, if◌then◌else◌, ◌≢◌, ◌<◌, inr, ◌+◌, ◌&&◌, map, get_or, set, arith, add-zero, true≢false, length-append}
use Rattle.sc_expand.proofs.Behind.{Fall, behind-falls, length-behind, first-had}
use Rattle.sc_expand.proofs.Facts.{All-drop, All-nil, length-map, All-head, All-set, All-tail, All-take, IsConfig-Keeps, Keeps-trans, and-true, cases_eq, drop-drop, drop-set-lt, get_or-drop, get_or-map, get_or-set_other, get_or-set_same, get_or-take, get_or_default, items_at-Keeps, items_at-append, items_at-take, length-take, map-set, set-get_or, take_more_set, All-cons, length-drop}
use Rattle.sc_expand.proofs.Terms.{Cond, HasLast, Hidden, IsCond, IsConfig, Keeps, Sets, behind_at, has_each, items_at, AreAlike, Denotes, IsAlike, HasTaken, has_first}

module _ {T : Type 0} where
  -- the first n items stand where they and the condition did
  pub record Restricted (first now : Sets) (by n : ℕ) (before after : List (Cond × T)) : Type 0 where
    pub keeps : Keeps first now
    pub items : map (λ (item : Cond × T). item.1) after ≡ map (λ (item : Cond × T). item.1) before
    pub rest : drop n after ≡ drop n before
    pub own : All (λ (item : Cond × T). IsCond now item.0.0) after
    pub at : (c : List ℕ) → IsConfig first.arities c → items_at now (take n after) c ≡ (if first.has by c then items_at first (take n before) c else [])
    pub same : (c : List ℕ) → IsConfig first.arities c → first.has by c ≡ true → has_each now after c ≡ has_each first before c
    pub alike : (c d : List ℕ) (k : ℕ) (z : Cond × T) → IsConfig first.arities c → IsConfig first.arities d → first.has by c ≡ first.has by d → k < length before
        → IsAlike first c d (get_or before k z).0 → IsAlike now c d (get_or after k z).0

  -- what is so of each item is so of the first ones
  pub restricted_alike : (s t : Sets) (c d : List ℕ) (m : ℕ) (before after : List (Cond × T)) → length after ≡ length before
      → ((k : ℕ) (z : Cond × T) → k < length before → IsAlike s c d (get_or before k z).0 → IsAlike t c d (get_or after k z).0) → AreAlike s c d (take m before) → AreAlike t c d (take m after)
  restricted_alike s t c d m before after long each alike = λ k z h.
      let low : k < m = omega (arith, h, length-take m after) in
      let within : k < length before = omega (arith, h, length-take m after, long) in
      let first : k < length (take m before) = omega (arith, low, within, length-take m before) in
      subst (λ (x : Cond × T). IsAlike t c d x.0) (sym (get_or-take m after k z low)) (each k z within (subst (λ (x : Cond × T). IsAlike s c d x.0) (get_or-take m before k z low) (alike k z first)))

  pub has_each-Keeps : {old new : Sets} (items : List (Cond × T)) (c : List ℕ) → Keeps old new → All (λ (item : Cond × T). IsCond old item.0.0) items → IsConfig old.arities c → has_each new items c ≡ has_each old items c
  has_each-Keeps [] c keeps own listed = refl
  has_each-Keeps {old} {new} (x ∷ xs) c keeps own listed =
      let P : Cond × T → Type 0 = λ item. IsCond old item.0.0 in
      let first = keeps.at x.0.0 c (All-head P x xs own) listed in
      let rest = has_each-Keeps xs c keeps (All-tail P x xs own) listed in
      λ i. first i ∷ rest i

  one_more : (by has : Bool) (xs : List T) (x : T) → (if by then xs else []) ++ (if has && by then x ∷ [] else []) ≡ (if by then xs ++ (if has then x ∷ [] else []) else [])
  one_more true true xs x = refl
  one_more true false xs x = refl
  one_more false true xs x = refl
  one_more false false xs x = refl

  get_or_first : (xs : List (Cond × T)) (n : ℕ) (d : Cond × T) → get_or (drop n xs) 0 d ≡ get_or xs n d
  get_or_first xs n d = get_or-drop n xs 0 d ∙ ap (λ m. get_or xs m d) (add-zero n)

  item_stays : (xs : List (Cond × T)) (i : ℕ) (cond : Cond) (x : Cond × T) → x ≡ get_or xs i x → map (λ (item : Cond × T). item.1) (set xs i (cond, x.1)) ≡ map (λ (item : Cond × T). item.1) xs
  item_stays xs i cond x is =
      let f : Cond × T → T = λ item. item.1 in
      map-set f xs i (cond, x.1) ∙ (sym (map-set f xs i x) ∙ ap (map f) (ap (set xs i) is ∙ set-get_or xs i x))

  -- one item more is restricted
  pub restricted_more : (first old new : Sets) (by n : ℕ) (before after : List (Cond × T)) (x : Cond × T) (made : Cond) → Restricted first old by n before after → n < length after → x ≡ get_or after n x
      → All (λ (item : Cond × T). IsCond first item.0.0) before → IsCond first by → Keeps old new → IsCond new made.0
      → Denotes new made.0 (λ c. old.has x.0.0 c && old.has by c) → Restricted first new by (n + 1) before (set after n (made, x.1))
  restricted_more first old new by n before after x made was within is own by_own keeps made_own told =
      let item : Cond × T → T = λ item. item.1 in
      let P : Cond × T → Type 0 = λ item. IsCond new item.0.0 in
      let F : Cond × T → Type 0 = λ item. IsCond first item.0.0 in
      let place : get_or before n x ≡ get_or after n x = sym (get_or_first before n x) ∙ (ap (λ l. get_or l 0 x) (sym was.rest) ∙ get_or_first after n x) in
      let long : length before ≡ length after = sym (length-map before item) ∙ (ap length (sym was.items) ∙ length-map after item) in
      let x_before : x ≡ get_or before n x = is ∙ sym place in
      let low : n < length before = subst (λ m. n < m) (sym long) within in
      let x_own : IsCond first x.0.0 = subst F (sym x_before) (own n x low) in
      let met : (c : List ℕ) → IsConfig first.arities c → new.has made.0 c ≡ (first.has x.0.0 c && first.has by c) = λ c listed. (
      let here : IsConfig old.arities c = IsConfig-Keeps was.keeps listed in
      told.at c (IsConfig-Keeps keeps here) ∙ (λ i. was.keeps.at x.0.0 c x_own listed i && was.keeps.at by c by_own listed i)) in
      record {
        keeps = Keeps-trans was.keeps keeps;
        items = item_stays after n made x is ∙ was.items;
        rest = drop-set-lt (n + 1) after n (made, x.1) (omega arith) ∙ (sym (drop-drop 1 n after) ∙ (ap (drop 1) was.rest ∙ drop-drop 1 n before));
        own = All-set P after n (made, x.1) made_own (λ k d h. keeps.own _ (was.own k d h));
        at = λ c listed.
            let here : IsConfig old.arities c = IsConfig-Keeps was.keeps listed in
            let test : new.has made.0 c ≡ (first.has x.0.0 c && first.has by c) = met c listed in
            ap (λ l. items_at new l c) (take_more_set after n (made, x.1) within)
            ∙ (items_at-append new (take n after) ((made, x.1) ∷ []) c
            ∙ (ap (λ l. l ++ (if new.has made.0 c then x.1 ∷ [] else [])) (items_at-Keeps (take n after) c keeps (All-take (λ (item : Cond × T). IsCond old item.0.0) n after was.own) here ∙ was.at c listed)
            ∙ (ap (λ b. (if first.has by c then items_at first (take n before) c else []) ++ (if b then x.1 ∷ [] else [])) test
            ∙ (one_more (first.has by c) (first.has x.0.0 c) (items_at first (take n before) c) x.1
            ∙ ap (λ l. if first.has by c then l else []) (sym (items_at-take first before n x c low x_before))))));
        same = λ c listed has.
            let f : Cond × T → Bool = λ item. new.has item.0.0 c in
            let g : Cond × T → Bool = λ item. first.has item.0.0 c in
            let here : IsConfig old.arities c = IsConfig-Keeps was.keeps listed in
            let each : map f after ≡ map g before = has_each-Keeps after c keeps was.own here ∙ was.same c listed has in
            let value : new.has made.0 c ≡ get_or (map g before) n (g x) = met c listed ∙ (ap (λ b. first.has x.0.0 c && b) has ∙ (and-true (first.has x.0.0 c) ∙ (ap g x_before ∙ sym (get_or-map g before n x)))) in
            map-set f after n (made, x.1) ∙ ((λ i. set (each i) n (value i)) ∙ set-get_or (map g before) n (g x));
        alike = λ c d k z at_c at_d same low_k told_k.
            let A : Cond × T → Type 0 = λ y. IsAlike new c d y.0 in
            let B : Cond × T → Type 0 = λ y. IsAlike first c d y.0 in
            let here : IsConfig old.arities c = IsConfig-Keeps was.keeps at_c in
            let there : IsConfig old.arities d = IsConfig-Keeps was.keeps at_d in
            let one : k ≡ n → A (get_or (set after n (made, x.1)) k z) = λ is_n. (
            let x_told : B x = subst B (ap (λ m. get_or before m z) is_n ∙ (get_or_default before n z x low ∙ sym x_before)) told_k in
            let at_n : A (made, x.1) = met c at_c ∙ ((λ i. x_told i && same i) ∙ sym (met d at_d)) in
            subst A (sym (ap (λ m. get_or (set after n (made, x.1)) m z) is_n ∙ get_or-set_same after n (made, x.1) z within)) at_n) in
            let other : k ≢ n → A (get_or (set after n (made, x.1)) k z) = λ not_n. (
            let own_k : IsCond old (get_or after k z).0.0 = was.own k z (subst (λ m. k < m) long low_k) in
            let kept_k = keeps.at _ c own_k here ∙ (was.alike c d k z at_c at_d same low_k told_k ∙ sym (keeps.at _ d own_k there)) in
            subst A (sym (get_or-set_other after n k (made, x.1) z not_n)) kept_k) in
            elim (cases_eq k n) as (λ w. A (get_or (set after n (made, x.1)) k z)) [ inl is_n ↦ one is_n | inr not_n ↦ other not_n ];
      }

-- ---- what a configuration keeps of the end of a list

-- ---- how many items stand behind each

module _ {T : Type 0} where
  pub each-long : (s t : Sets) (xs ys : List (Cond × T)) (c d : List ℕ) → has_each s xs c ≡ has_each t ys d → length xs ≡ length ys
  each-long s t xs ys c d each = sym (length-map xs (λ item. s.has item.0.0 c)) ∙ (ap length each ∙ length-map ys (λ item. t.has item.0.0 d))

  pub behind-each : (s t : Sets) (xs ys : List (Cond × T)) (c d : List ℕ) → has_each s xs c ≡ has_each t ys d → behind_at s xs c ≡ behind_at t ys d
  behind-each s t [] [] c d each = refl
  behind-each s t [] (y ∷ ys) c d each = absurd (cc)
  behind-each s t (x ∷ xs) [] c d each = absurd (cc)
  behind-each s t (x ∷ xs) (y ∷ ys) c d each =
      let first : s.has x.0.0 c ≡ t.has y.0.0 d = cc in
      let rest : has_each s xs c ≡ has_each t ys d = cc in
      let more = behind-each s t xs ys c d rest in
      let long = each-long s t xs ys c d rest in
      λ i. if first i then long i ∷ more i else more i

  -- where the configuration has none of the first items
  pub behind-without : (s : Sets) (n : ℕ) (xs : List (Cond × T)) (c : List ℕ) → items_at s (take n xs) c ≡ [] → behind_at s xs c ≡ behind_at s (drop n xs) c
  behind-without s zero xs c none = refl
  behind-without s (suc n) [] c none = refl
  behind-without s (suc n) (x ∷ xs) c none = by (s.has x.0.0 c) (behind-without s n xs c) none
    where
      by : (b : Bool) → (items_at s (take n xs) c ≡ [] → behind_at s xs c ≡ behind_at s (drop n xs) c) → (if b then x.1 ∷ items_at s (take n xs) c else items_at s (take n xs) c) ≡ []
          → (if b then length xs ∷ behind_at s xs c else behind_at s xs c) ≡ behind_at s (drop n xs) c
      by true rest e = absurd (cc)
      by false rest e = rest e

  -- those of the first items are the first
  pub behind-drop : (s : Sets) (n : ℕ) (xs : List (Cond × T)) (c : List ℕ) → behind_at s (drop n xs) c ≡ drop (length (items_at s (take n xs) c)) (behind_at s xs c)
  behind-drop s zero xs c = refl
  behind-drop s (suc n) [] c = refl
  behind-drop s (suc n) (x ∷ xs) c = by (s.has x.0.0 c) (behind-drop s n xs c)
    where
      by : (b : Bool) → behind_at s (drop n xs) c ≡ drop (length (items_at s (take n xs) c)) (behind_at s xs c)
          → behind_at s (drop n xs) c ≡ drop (length (if b then x.1 ∷ items_at s (take n xs) c else items_at s (take n xs) c)) (if b then length xs ∷ behind_at s xs c else behind_at s xs c)
      by true rest = rest
      by false rest = rest

  -- whether the configuration has the first item
  pub first-long : (s t : Sets) (xs ys : List (Cond × T)) (c d : List ℕ) → has_each s xs c ≡ has_each t ys d → length (items_at s (take 1 xs) c) ≡ length (items_at t (take 1 ys) d)
  first-long s t [] [] c d each = refl
  first-long s t [] (y ∷ ys) c d each = absurd (cc)
  first-long s t (x ∷ xs) [] c d each = absurd (cc)
  first-long s t (x ∷ xs) (y ∷ ys) c d each = by (s.has x.0.0 c) (t.has y.0.0 d) cc
    where
      by : (a b : Bool) → a ≡ b → length (if a then x.1 ∷ [] else []) ≡ length (if b then y.1 ∷ [] else [])
      by true true is = refl
      by true false is = absurd (cc)
      by false true is = absurd (cc)
      by false false is = refl

-- ---- what is left

-- the configuration has what it had
pub last-each : {old new : Sets} {before after : List (Cond × Hidden)} {c : List ℕ} → has_each new after c ≡ has_each old before c → HasLast old new before after c
last-each {old} {new} {before} {after} {c} each = record { made = []; gone = 0; is = behind-each new old after before c c each; high = All-nil (λ (n : ℕ). length before ≤ suc n); few = inl refl }

-- it has none of the first items any more
pub last-out : {old new : Sets} {before after : List (Cond × Hidden)} {c : List ℕ} (n : ℕ) → Keeps old new → IsConfig old.arities c → All (λ (item : Cond × Hidden). IsCond old item.0.0) before
    → drop n after ≡ drop n before → items_at new (take n after) c ≡ [] → HasLast old new before after c
last-out {old} {new} {before} {after} {c} n keeps listed own same none =
    let owned = All-drop (λ (item : Cond × Hidden). IsCond old item.0.0) n before own in
    let kept = behind-each new old (drop n before) (drop n before) c c (has_each-Keeps (drop n before) c keeps owned listed) in
    record {
      made = [];
      gone = length (items_at old (take n before) c);
      is = behind-without new n after c none ∙ (ap (λ l. behind_at new l c) same ∙ (kept ∙ behind-drop old n before c));
      high = All-nil (λ (n : ℕ). length before ≤ suc n);
      few = inl refl;
    }

-- it keeps that where nothing changes for it before or after
pub last-later : {s0 s1 s2 : Sets} {before mid after : List (Cond × Hidden)} {c : List ℕ} → HasLast s0 s1 before mid c → has_each s2 after c ≡ has_each s1 mid c → HasLast s0 s2 before after c
last-later {s0} {s1} {s2} {before} {mid} {after} {c} was each = record { made = was.made; gone = was.gone; is = behind-each s2 s1 after mid c c each ∙ was.is; high = was.high; few = was.few }

pub last-earlier : {s0 s1 s2 : Sets} {before mid after : List (Cond × Hidden)} {c : List ℕ} → has_each s1 mid c ≡ has_each s0 before c → HasLast s1 s2 mid after c → HasLast s0 s2 before after c
last-earlier {s0} {s1} {s2} {before} {mid} {after} {c} each was = record {
  made = was.made;
  gone = was.gone;
  is = was.is ∙ ap (λ l. was.made ++ drop was.gone l) (behind-each s1 s0 mid before c c each);
  high = subst (λ m. All (λ n. m ≤ suc n) was.made) (each-long s1 s0 mid before c c each) was.high;
  few = subst (λ n. (was.made ≡ []) ⊎ (was.gone ≤ n)) (first-long s1 s0 mid before c c each) was.few;
}

-- ---- what a configuration still has of a list, and what was made of its first token

-- ---- a part is taken

-- the configuration has what it had
pub taken-each : {old new : Sets} {before after made : List (Cond × Hidden)} {c : List ℕ} → has_each new after c ≡ has_each old before c → HasTaken old new before after made c
taken-each each = record { rest = last-each each; made = inr each }

-- nothing changes for it before or after
pub taken-earlier : {s0 s1 s2 : Sets} {before mid after made : List (Cond × Hidden)} {c : List ℕ} → has_each s1 mid c ≡ has_each s0 before c → HasTaken s1 s2 mid after made c → HasTaken s0 s2 before after made c
taken-earlier {s0} {s1} {s2} {before} {mid} {after} {made} {c} each was = record { rest = last-earlier each was.rest; made = by was.made }
  where
    by : (items_at s2 made c ≡ []) ⊎ (has_each s2 after c ≡ has_each s1 mid c) → (items_at s2 made c ≡ []) ⊎ (has_each s2 after c ≡ has_each s0 before c)
    by (inl none) = inl none
    by (inr same) = inr (same ∙ each)

pub taken-later : {s0 s1 s2 : Sets} {before mid after made more : List (Cond × Hidden)} {c : List ℕ} → HasTaken s0 s1 before mid made c → has_each s2 after c ≡ has_each s1 mid c
    → (items_at s1 made c ≡ [] → items_at s2 more c ≡ []) → HasTaken s0 s2 before after more c
taken-later {s0} {s1} {s2} {before} {mid} {after} {made} {more} {c} was each none = record { rest = last-later was.rest each; made = by was.made }
  where
    by : (items_at s1 made c ≡ []) ⊎ (has_each s1 mid c ≡ has_each s0 before c) → (items_at s2 more c ≡ []) ⊎ (has_each s2 after c ≡ has_each s0 before c)
    by (inl empty) = inl (none empty)
    by (inr same) = inr (each ∙ same)

-- ---- what is made stands before the rest

module _ {T : Type 0} (s : Sets) (c : List ℕ) (ys : List (Cond × T)) where
  behind-none : (xs : List (Cond × T)) → items_at s xs c ≡ [] → behind_at s (xs ++ ys) c ≡ behind_at s ys c
  behind-none [] none = refl
  behind-none (x ∷ xs) none = by (s.has x.0.0 c) none (behind-none xs)
    where
      by : (b : Bool) → (if b then x.1 ∷ items_at s xs c else items_at s xs c) ≡ [] → (items_at s xs c ≡ [] → behind_at s (xs ++ ys) c ≡ behind_at s ys c)
          → (if b then length (xs ++ ys) ∷ behind_at s (xs ++ ys) c else behind_at s (xs ++ ys) c) ≡ behind_at s ys c
      by true empty rest = absurd (cc)
      by false empty rest = rest empty

  record Before (list : List (Cond × T)) : Type 0 where
    pub made : List ℕ
    pub is : behind_at s list c ≡ made ++ behind_at s ys c
    pub high : All (λ n. length ys ≤ n) made

  behind-put : (xs : List (Cond × T)) → Before (xs ++ ys)
  behind-put [] = record { made = []; is = refl; high = All-nil (λ n. length ys ≤ n) }
  behind-put (x ∷ xs) = by (s.has x.0.0 c) refl (behind-put xs)
    where
      with-first : (b : Bool) → s.has x.0.0 c ≡ b → behind_at s (x ∷ (xs ++ ys)) c ≡ (if b then length (xs ++ ys) ∷ behind_at s (xs ++ ys) c else behind_at s (xs ++ ys) c)
      with-first b has = ap (λ b. if b then length (xs ++ ys) ∷ behind_at s (xs ++ ys) c else behind_at s (xs ++ ys) c) has

      by : (b : Bool) → s.has x.0.0 c ≡ b → Before (xs ++ ys) → Before (x ∷ (xs ++ ys))
      by true has r = record {
        made = length (xs ++ ys) ∷ r.made;
        is = with-first true has ∙ ap (λ l. length (xs ++ ys) ∷ l) r.is;
        high = All-cons (λ n. length ys ≤ n) (length (xs ++ ys)) r.made (omega (arith, length-append xs ys)) r.high;
      }
      by false has r = record { made = r.made; is = with-first false has ∙ r.is; high = r.high }

-- what is left of some numbers, of which more of the first are taken away
record Left (long most : ℕ) (before after : List ℕ) : Type 0 where
  pub made : List ℕ
  pub gone : ℕ
  pub is : after ≡ made ++ drop gone before
  pub high : All (λ n. long ≤ suc n) made
  pub few : (made ≡ []) ⊎ (gone ≤ most)

left-drop : (long most : ℕ) (before : List ℕ) (k gone : ℕ) (made : List ℕ) → All (λ n. long ≤ suc n) made → (made ≡ []) ⊎ (gone ≤ most) → Left long most before (drop k (made ++ drop gone before))
left-drop long most before zero gone made high bound = record { made = made; gone = gone; is = refl; high = high; few = bound }
left-drop long most before (suc k) gone [] high bound = record { made = []; gone = gone + suc k; is = drop-drop (suc k) gone before; high = high; few = inl refl }
left-drop long most before (suc k) gone (m ∷ made) high bound = left-drop long most before k gone made (All-tail (λ n. long ≤ suc n) m made high) (by bound)
  where
    by : (m ∷ made ≡ []) ⊎ (gone ≤ most) → (made ≡ []) ⊎ (gone ≤ most)
    by (inl empty) = absurd (cc)
    by (inr le) = inr le

module _ {old new : Sets} {before now made : List (Cond × Hidden)} {c : List ℕ} (was : HasTaken old new before now made c) (long : length now ≡ length before) where
  -- the first token goes, and what is made of it stands there
  pub taken-put : HasLast old new before (made ++ drop 1 now) c
  taken-put = by was.made
    where
      first : ℕ
      first = length (items_at new (take 1 now) c)

      left : Left (length before) (length (items_at old (take 1 before) c)) (behind_at old before c) (drop first (was.rest.made ++ drop was.rest.gone (behind_at old before c)))
      left = left-drop (length before) (length (items_at old (take 1 before) c)) (behind_at old before c) first was.rest.gone was.rest.made was.rest.high was.rest.few

      by : (items_at new made c ≡ []) ⊎ (has_each new now c ≡ has_each old before c) → HasLast old new before (made ++ drop 1 now) c
      by (inl none) = record {
        made = left.made;
        gone = left.gone;
        is = behind-none new c (drop 1 now) made none ∙ (behind-drop new 1 now c ∙ (ap (drop first) was.rest.is ∙ left.is));
        high = left.high;
        few = left.few;
      }
      by (inr each) =
          let front = behind-put new c (drop 1 now) made in
          record {
            made = front.made;
            gone = first;
            is = front.is ∙ ap (λ l. front.made ++ l) (behind-drop new 1 now c ∙ ap (drop first) (behind-each new old now before c c each));
            high = λ k d h. let high = front.high k d h in omega (arith, high, length-drop 1 now, long);
            few = inr (let same = first-long new old now before c c each in omega (arith, same));
          }

-- at most one token is gone
pub long-put : (before now made : List (Cond × Hidden)) → length now ≡ length before → length before ≤ suc (length (made ++ drop 1 now))
long-put before now made long = omega (arith, long, length-append made (drop 1 now), length-drop 1 now)

-- who has as many items as before of a list that is as long has the first still
pub first-still : {old new : Sets} {before after : List (Cond × Hidden)} {c : List ℕ} → HasLast old new before after c → length after ≡ length before → length (items_at new after c) ≡ length (items_at old before c)
    → has_first old before c ≡ true → has_first new after c ≡ true
first-still {old} {new} {before} {after} {c} last long count has = from last.made refl
  where
    was : List ℕ
    was = behind_at old before c

    had : (m : ℕ) (ms : List ℕ) → length after ≡ suc m → behind_at new after c ≡ m ∷ ms → has_first new after c ≡ true
    had m ms many is = let it = first-had new c m ms after many is in ap (λ (l : List (Cond × Hidden)). has_first new l c) it.2 ∙ it.3

    all : (list : List (Cond × Hidden)) → before ≡ list → has_first old list c ≡ true → last.made ≡ [] → has_first new after c ≡ true
    all [] same first none = absurd (true≢false (sym first))
    all (x ∷ xs) same first none =
        let mine : was ≡ length xs ∷ behind_at old xs c = ap (λ (l : List (Cond × Hidden)). behind_at old l c) same ∙ ap (λ (b : Bool). if b then length xs ∷ behind_at old xs c else behind_at old xs c) first in
        let left : behind_at new after c ≡ drop last.gone was = last.is ∙ ap (λ l. l ++ drop last.gone was) none in
        let gone : last.gone ≡ 0 = omega (arith, ap length left, length-drop last.gone was, ap length mine, count, length-behind new c after, length-behind old c before) in
        had (length xs) (behind_at old xs c) (long ∙ ap length same) (left ∙ (ap (λ (k : ℕ). drop k was) gone ∙ mine))

    from : (made : List ℕ) → last.made ≡ made → has_first new after c ≡ true
    from [] is = all before refl has is
    from (m ∷ ms) is =
        let High : ℕ → Type 0 = λ n. length before ≤ suc n in
        let high : length before ≤ suc m = All-head High m ms (subst (All High) is last.high) in
        let at : behind_at new after c ≡ m ∷ (ms ++ drop last.gone was) = last.is ∙ ap (λ l. l ++ drop last.gone was) is in
        let falls : Fall (length after) (m ∷ (ms ++ drop last.gone was)) = subst (Fall (length after)) at (behind-falls new c after) in
        had m (ms ++ drop last.gone was) (omega (arith, high, falls.0, long)) at
