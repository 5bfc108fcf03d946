-- Lists whose first items are restricted, of which the last items stand under one condition.
use Rattle.std.proofs.Common.{◌≡◌, ◌<◌, ◌≤◌, Bool, ℕ, zero, suc, ◌+◌, ◌&&◌, List, [], ◌∷◌, ◌++◌, All, Some, map, take, drop, length, min, cond, Ordering, Less, Equal, Greater, set, get_or, slice_get, ap, sym, ◌∙◌, refl, subst, arith, add-zero, append_assoc, ◌-◌, length-drop}
use Rattle.sc_expand.proofs.AlikeLemmas.{none-told}
use Rattle.sc_expand.proofs.Facts.{All-take, Denotes-self, IsConfig-Keeps, IsConfig-kept, Keeps-refl, Keeps-trans, get_or-append_seam, get_or_append_left, items_at-Keeps, length-append, length-map, nil_from_length, set-append_left, set-append_seam, take-append-drop, All-map, same_Some}
use Rattle.sc_expand.proofs.Terms.{AreAlike, Cond, Denotes, Hidden, IsCond, IsConfig, Keeps, KeepsItems, RestrictsFirst, Sets, items_of, DropsAlike}
use Rattle.sc_expand.proofs.WorkListLemmas.{Restricted, has_each-Keeps, restricted_alike, restricted_more}
use Rattle.sc_expand.specs.declared.source.Rest.{Rest}
use Rattle.std.specs.Cmp.{ranks}
use Rattle.std.specs.Ordering.{MatchOrdering, is_lt, nat_cmp, ord_min}

-- the lesser number, by the order of numbers
pub ord_min-min : (a b : ℕ) → ord_min nat_cmp a b ≡ min a b
ord_min-min a b = by (nat_cmp b a) (ranks b a) where
  by : (o : Ordering) → MatchOrdering o (b < a) (b ≡ a) (a < b) → cond (is_lt o) b a ≡ min a b
  by Less below = omega arith
  by Equal same = omega arith
  by Greater above = omega arith

-- without a restriction all stand under one condition
pub items_of-unrestricted : (rest : Rest) → rest.restricted ≡ 0 → items_of rest ≡ map (λ t. (rest.cond, t)) rest.tokens
items_of-unrestricted rest none = ap (λ n. map (λ t. (rest.by, t)) (take n rest.tokens) ++ map (λ t. (rest.cond, t)) (drop n rest.tokens)) none

length-items_of : (rest : Rest) → length (items_of rest) ≡ length rest.tokens
length-items_of rest =
    let met : Hidden → Cond × Hidden = λ t. (rest.by, t) in
    let others : Hidden → Cond × Hidden = λ t. (rest.cond, t) in
    let next : List Hidden = take rest.restricted rest.tokens in
    let behind : List Hidden = drop rest.restricted rest.tokens in
    omega (arith, length-append (map met next) (map others behind), length-map next met, length-map behind others, length-append next behind, ap length (take-append-drop rest.restricted rest.tokens))

-- where no token is left none was restricted
pub items_of-empty : (rest : Rest) → length (items_of rest) ≡ 0 → items_of rest ≡ map (λ t. (rest.cond, t)) rest.tokens
items_of-empty rest empty =
    let all : Hidden → Cond × Hidden = λ t. (rest.cond, t) in
    let none : length (map all rest.tokens) ≡ 0 = length-map rest.tokens all ∙ (sym (length-items_of rest) ∙ empty) in
    nil_from_length (items_of rest) empty ∙ sym (nil_from_length (map all rest.tokens) none)

module _ {T : Type 0} where
  -- the first item behind a list is moved to its end
  pub first_moved : (front items : List T) (x : T) → slice_get items 0 ≡ Some x → (front ++ x ∷ []) ++ drop 1 items ≡ front ++ items
  first_moved front [] x is = absurd (cc)
  first_moved front (y ∷ ys) x is =
      let same : y ≡ x = cc in
      append_assoc front (x ∷ []) ys ∙ ap (λ z. front ++ z ∷ ys) (sym same)

  pub length-Restricted : {first now : Sets} {by n : ℕ} {before after : List (Cond × T)} → Restricted first now by n before after → length after ≡ length before
  length-Restricted {before = before} {after = after} was =
      let only : Cond × T → T = λ item. item.1 in
      sym (length-map after only) ∙ (ap length was.items ∙ length-map before only)

  pub AreAlike-Restricted : {first now : Sets} {by n : ℕ} {before after : List (Cond × T)} → Restricted first now by n before after → (c d : List ℕ) (m : ℕ) → IsConfig first.arities c → IsConfig first.arities d
      → first.has by c ≡ first.has by d → AreAlike first c d (take m before) → AreAlike now c d (take m after)
  AreAlike-Restricted {first} {now} {before = before} {after = after} was c d m at_c at_d same =
      restricted_alike first now c d m before after (length-Restricted was) (λ k z within. was.alike c d k z at_c at_d same within)

  pub restricted_none : (first : Sets) (by : ℕ) (items : List (Cond × T)) → All (λ (item : Cond × T). IsCond first item.0.0) items → Restricted first first by 0 items items
  restricted_none first by items own = record {
    keeps = Keeps-refl first;
    items = refl;
    rest = refl;
    own = own;
    at = λ c listed. none-told (first.has by c);
    same = λ c listed has. refl;
    alike = λ c d k z at_c at_d same low told. told;
  }

  -- what is so of the first items stays so where the conditions mean what they did
  restricted_kept : (first old new : Sets) (by n : ℕ) (before after : List (Cond × T)) → Restricted first old by n before after → Keeps old new → Restricted first new by n before after
  restricted_kept first old new by n before after was keeps = record {
    keeps = Keeps-trans was.keeps keeps;
    items = was.items;
    rest = was.rest;
    own = λ k d h. keeps.own _ (was.own k d h);
    at = λ c listed. items_at-Keeps (take n after) c keeps (All-take (λ (item : Cond × T). IsCond old item.0.0) n after was.own) (IsConfig-Keeps was.keeps listed) ∙ was.at c listed;
    same = λ c listed has. has_each-Keeps after c keeps was.own (IsConfig-Keeps was.keeps listed) ∙ was.same c listed has;
    alike = λ c d k z at_c at_d same low told.
        let own_k : IsCond old (get_or after k z).0.0 = was.own k z (omega (arith, low, length-Restricted was)) in
        keeps.at _ c own_k (IsConfig-Keeps was.keeps at_c) ∙ (was.alike c d k z at_c at_d same low told ∙ sym (keeps.at _ d own_k (IsConfig-Keeps was.keeps at_d)));
  }

  -- so many of the tokens that stand under one condition are restricted at once
  restricted_rest : (first now : Sets) (by k : ℕ) (before front : List (Cond × T)) (tokens : List T) (cond met : Cond)
      → Restricted first now by (length front) before (front ++ map (λ t. (cond, t)) tokens) → k ≤ length tokens
      → All (λ (item : Cond × T). IsCond first item.0.0) before → IsCond first by → Denotes now met.0 (λ c. now.has cond.0 c && now.has by c)
      → Restricted first now by (length front + k) before (front ++ (map (λ t. (met, t)) (take k tokens) ++ map (λ t. (cond, t)) (drop k tokens)))
  restricted_rest first now by zero before front tokens cond met was within own by_own told = subst (λ n. Restricted first now by n before (front ++ map (λ t. (cond, t)) tokens)) (sym (add-zero (length front))) was
  restricted_rest first now by (suc k) before front [] cond met was within own by_own told = absurd (omega arith)
  restricted_rest first now by (suc k) before front (t ∷ ts) cond met was within own by_own told =
      let behind : List (Cond × T) = map (λ t. (cond, t)) ts in
      let next : List (Cond × T) = front ++ (met, t) ∷ [] in
      let long : length next ≡ length front + 1 = length-append front ((met, t) ∷ []) in
      let low : length front < length (front ++ (cond, t) ∷ behind) = omega (arith, length-append front ((cond, t) ∷ behind)) in
      let one : Restricted first now by (length front + 1) before (set (front ++ (cond, t) ∷ behind) (length front) (met, t)) =
      restricted_more first now now by (length front) before (front ++ (cond, t) ∷ behind) (cond, t) met was low (sym (get_or-append_seam front (cond, t) behind (cond, t))) own by_own (Keeps-refl now) told.own told in
      let set_one : set (front ++ (cond, t) ∷ behind) (length front) (met, t) ≡ next ++ behind = set-append_seam front (cond, t) behind (met, t) ∙ sym (append_assoc front ((met, t) ∷ []) behind) in
      let here : Restricted first now by (length next) before (next ++ behind) = subst (λ n. Restricted first now by n before (next ++ behind)) (sym long) (subst (λ l. Restricted first now by (length front + 1) before l) set_one one) in
      let more : List (Cond × T) = map (λ t. (met, t)) (take k ts) ++ map (λ t. (cond, t)) (drop k ts) in
      let count : length next + k ≡ length front + suc k = omega arith in
      subst (λ n. Restricted first now by n before (front ++ (met, t) ∷ more)) count (subst (λ l. Restricted first now by (length next + k) before l) (append_assoc front ((met, t) ∷ []) more)
      (restricted_rest first now by k before next ts cond met here (omega arith) own by_own told))

  own_mapped : (s : Sets) (cond : Cond) (front : List (Cond × T)) (tokens : List T) → length front < length (front ++ map (λ t. (cond, t)) tokens)
      → All (λ (item : Cond × T). IsCond s item.0.0) (front ++ map (λ t. (cond, t)) tokens) → IsCond s cond.0
  own_mapped s cond front [] within own = absurd (omega (arith, length-append front []))
  own_mapped s cond front (t ∷ ts) within own =
      subst (λ (item : Cond × T). IsCond s item.0.0) (get_or-append_seam front (cond, t) (map (λ t. (cond, t)) ts) (cond, t)) (own (length front) (cond, t) within)

-- the condition of a rest is that of each of its tokens
pub own_behind : (s : Sets) (front : List (Cond × Hidden)) (rest : Rest) → rest.restricted ≡ 0 → length front < length (front ++ items_of rest)
    → All (λ item. IsCond s item.0.0) (front ++ items_of rest) → IsCond s rest.cond.0
own_behind s front rest none within own =
    let is : front ++ items_of rest ≡ front ++ map (λ t. (rest.cond, t)) rest.tokens = ap (λ l. front ++ l) (items_of-unrestricted rest none) in
    own_mapped s rest.cond front rest.tokens (subst (λ (l : List (Cond × Hidden)). length front < length l) is within) (subst (λ (l : List (Cond × Hidden)). All (λ item. IsCond s item.0.0) l) is own)

-- behind a list that is restricted, so many of the tokens of a rest are restricted at once
pub restricted_behind : (first old new : Sets) (by k : ℕ) (before front : List (Cond × Hidden)) (rest : Rest) (met : Cond)
    → Restricted first old by (length front) before (front ++ items_of rest) → rest.restricted ≡ 0 → k ≤ length (items_of rest) → All (λ item. IsCond first item.0.0) before → IsCond first by
    → IsCond old rest.cond.0 → Keeps old new → Denotes new met.0 (λ c. old.has rest.cond.0 c && old.has by c)
    → Restricted first new by (length front + k) before (front ++ items_of (record { tokens = rest.tokens; cond = rest.cond; restricted = k; by = met }))
restricted_behind first old new by k before front rest met was none within own by_own cond_own keeps told =
    let here : Restricted first old by (length front) before (front ++ map (λ t. (rest.cond, t)) rest.tokens) =
    subst (λ l. Restricted first old by (length front) before (front ++ l)) (items_of-unrestricted rest none) was in
    let kept = restricted_kept first old new by (length front) before _ here keeps in
    let low : k ≤ length rest.tokens = subst (λ n. k ≤ n) (length-items_of rest) within in
    let met_now : Denotes new met.0 (λ c. new.has rest.cond.0 c && new.has by c) = record {
      own = told.own;
      at = λ c listed.
          let listed_old : IsConfig old.arities c = IsConfig-kept keeps listed in
          told.at c listed ∙ (λ i. sym (keeps.at rest.cond.0 c cond_own listed_old) i && sym (keeps.at by c (was.keeps.own by by_own) listed_old) i);
    } in
    restricted_rest first new by k before front rest.tokens rest.cond met kept low own by_own met_now

-- ---- what is told of a list that was restricted

pub restricts : {first now : Sets} {by n : ℕ} {before after : List (Cond × Hidden)} → Restricted first now by n before after → RestrictsFirst first now by n before after
restricts was = record { rest = was.rest; restricted = was.at; others = was.same; alike = AreAlike-Restricted was }

pub keeps-items : {first old new : Sets} {by n : ℕ} {before after : List (Cond × Hidden)} → Restricted first old by n before after → Keeps old new → KeepsItems new before after
keeps-items was keeps = record { items = was.items; own = λ k d h. keeps.own _ (was.own k d h) }

-- the next item is restricted to what its condition and the other have
pub restricted_next : {first old : Sets} {by i : ℕ} {before list : List (Cond × Hidden)} (new : Sets) (item : Cond × Hidden) (made : Cond) → Restricted first old by i before list → i < length list → item ≡ get_or list i item
    → All (λ item. IsCond first item.0.0) before → IsCond first by → Keeps old new
    → ((f g : List ℕ → Bool) → Denotes old item.0.0 f → Denotes old by g → Denotes new made.0 (λ c. f c && g c)) → Restricted first new by (i + 1) before (set list i (made, item.1))
restricted_next {first} {old} {by} {i} {before} {list} new item made was within at own by_own keeps meaning =
    let P : Cond × Hidden → Type 0 = λ pair. IsCond old pair.0.0 in
    let told = meaning _ _ (Denotes-self old item.0.0 (subst P (sym at) (was.own i item within))) (Denotes-self old by (was.keeps.own _ by_own)) in
    restricted_more first old new by i before list item made was within at own by_own keeps told.own told

-- the next item stands in front of others
module _ {first old : Sets} {by i : ℕ} {before : List (Cond × Hidden)} (front behind : List (Cond × Hidden)) (item : Cond × Hidden) (was : Restricted first old by i before (front ++ behind)) (low : i < length front) (is : item ≡ get_or front i item) where
  within : i < length (front ++ behind)
  within = omega (arith, low, length-append front behind)

  at : item ≡ get_or (front ++ behind) i item
  at = is ∙ sym (get_or_append_left front behind item i low)

  pub front_own : IsCond old item.0.0
  front_own = let P : Cond × Hidden → Type 0 = λ pair. IsCond old pair.0.0 in subst P (sym at) (was.own i item within)

  pub restricted_front : (new : Sets) (made : Cond) → All (λ item. IsCond first item.0.0) before → IsCond first by → Keeps old new
      → ((f g : List ℕ → Bool) → Denotes old item.0.0 f → Denotes old by g → Denotes new made.0 (λ c. f c && g c)) → Restricted first new by (i + 1) before (set front i (made, item.1) ++ behind)
  restricted_front new made own by_own keeps meaning =
      subst (Restricted first new by (i + 1) before) (set-append_left front behind i (made, item.1) low) (restricted_next new item made was within at own by_own keeps meaning)

-- ---- the list of a rest, of which the first tokens stand under a condition of their own

module _ {A B : Type 0} (f g : A → B) where
  -- the first n items by one function, the others by another
  abbrev by_parts : ℕ → List A → List B
  by_parts n xs = map f (take n xs) ++ map g (drop n xs)

  first-by_parts : (n : ℕ) (xs : List A) (i : ℕ) (x : A) → i < n → slice_get xs i ≡ Some x → slice_get (by_parts n xs) i ≡ Some (f x)
  first-by_parts zero xs i x low at = absurd (omega arith)
  first-by_parts (suc n) [] i x low at = absurd (cc)
  first-by_parts (suc n) (y ∷ ys) zero x low at = ap (λ z. Some (f z)) (same_Some y x at)
  first-by_parts (suc n) (y ∷ ys) (suc i) x low at = first-by_parts n ys i x (omega arith) at

  other-by_parts : (n : ℕ) (xs : List A) (i : ℕ) (x : A) → n ≤ i → slice_get xs i ≡ Some x → slice_get (by_parts n xs) i ≡ Some (g x)
  other-by_parts zero [] i x high at = absurd (cc)
  other-by_parts zero (y ∷ ys) zero x high at = ap (λ z. Some (g z)) (same_Some y x at)
  other-by_parts zero (y ∷ ys) (suc i) x high at = other-by_parts zero ys i x (omega arith) at
  other-by_parts (suc n) [] i x high at = absurd (cc)
  other-by_parts (suc n) (y ∷ ys) zero x high at = absurd (omega arith)
  other-by_parts (suc n) (y ∷ ys) (suc i) x high at = other-by_parts n ys i x (omega arith) at

  empty-by_parts : (n : ℕ) → by_parts n [] ≡ []
  empty-by_parts zero = refl
  empty-by_parts (suc n) = refl

  drop-by_parts : (k n : ℕ) (xs : List A) → by_parts (n - k) (drop k xs) ≡ drop k (by_parts n xs)
  drop-by_parts zero n xs = let same : n - zero ≡ n = omega arith in ap (λ m. by_parts m xs) same
  drop-by_parts (suc k) n [] = empty-by_parts (n - suc k) ∙ ap (drop (suc k)) (sym (empty-by_parts n))
  drop-by_parts (suc k) zero (y ∷ ys) = let same : zero - suc k ≡ zero - k = omega arith in ap (λ m. by_parts m (drop k ys)) same ∙ drop-by_parts k zero ys
  drop-by_parts (suc k) (suc n) (y ∷ ys) = let same : suc n - suc k ≡ n - k = omega arith in ap (λ m. by_parts m (drop k ys)) same ∙ drop-by_parts k n ys

  take-by_parts : (k n : ℕ) (xs : List A) → k ≤ n → take k (by_parts n xs) ≡ map f (take k xs)
  take-by_parts zero n xs low = refl
  take-by_parts (suc k) zero xs low = absurd (omega arith)
  take-by_parts (suc k) (suc n) [] low = refl
  take-by_parts (suc k) (suc n) (y ∷ ys) low = ap (λ l. f y ∷ l) (take-by_parts k n ys (omega arith))

  head-by_parts : (n : ℕ) (xs : List A) (y : B) → 0 < n → slice_get (by_parts n xs) 0 ≡ Some y → (x : A) × (y ≡ f x)
  head-by_parts zero xs y some at = absurd (omega arith)
  head-by_parts (suc n) [] y some at = absurd (cc)
  head-by_parts (suc n) (x ∷ xs) y some at = (x, sym (same_Some (f x) y at))

module _ (rest : Rest) where
  pub restricted-items_of : (i : ℕ) (t : Hidden) → i < rest.restricted → slice_get rest.tokens i ≡ Some t → slice_get (items_of rest) i ≡ Some (rest.by, t)
  restricted-items_of = first-by_parts (λ (t : Hidden). (rest.by, t)) (λ (t : Hidden). (rest.cond, t)) rest.restricted rest.tokens

  pub other-items_of : (i : ℕ) (t : Hidden) → rest.restricted ≤ i → slice_get rest.tokens i ≡ Some t → slice_get (items_of rest) i ≡ Some (rest.cond, t)
  other-items_of = other-by_parts (λ (t : Hidden). (rest.by, t)) (λ (t : Hidden). (rest.cond, t)) rest.restricted rest.tokens

  pub drop-items_of : (k : ℕ) → items_of (record rest { tokens = drop k rest.tokens; restricted = rest.restricted - k }) ≡ drop k (items_of rest)
  drop-items_of k = drop-by_parts (λ (t : Hidden). (rest.by, t)) (λ (t : Hidden). (rest.cond, t)) k rest.restricted rest.tokens

  -- those that were restricted stand under one condition
  pub drops-restricted : (count : ℕ) (after : Rest) → 0 < rest.restricted → count ≤ rest.restricted → (0 < length (items_of rest) → 0 < count) → items_of after ≡ drop count (items_of rest)
      → DropsAlike (items_of rest) (items_of after)
  drops-restricted count after some low more is = record {
    count = count;
    is = is;
    alike = λ first at.
        let by : Hidden → Cond × Hidden = λ t. (rest.by, t) in
        let others : Hidden → Cond × Hidden = λ t. (rest.cond, t) in
        let P : Cond × Hidden → Type 0 = λ item. item.0 ≡ first.0 in
        let head = head-by_parts by others rest.restricted rest.tokens first some at in
        subst (All P) (sym (take-by_parts by others count rest.restricted rest.tokens low)) (All-map P by (take count rest.tokens) (λ k d h. ap (λ item. item.0) (sym head.1)));
    less = λ long. omega (arith, long, more long, ap length is, length-drop count (items_of rest));
  }
