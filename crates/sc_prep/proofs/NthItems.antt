-- The n-th elements that a configuration has of a list.
use Rattle.std.proofs.Common.{◌≡◌, ℕ, zero, suc, ◌+◌, ◌-◌, ◌<◌, ◌≤◌, Bool, true, false, List, [], ◌∷◌, ◌++◌, All, append_assoc, length, map, slice_get, take, Some, refl, sym, ap, subst, ◌∙◌, arith, if◌then◌else◌}
use Rattle.std.proofs.lemmas.List.{take-append-le, take_at}
use Rattle.std.proofs.lemmas.Option.{same_Some, slice_get-map, slice_get_within}
use Rattle.sc_expand.proofs.Behind.{length-behind}
use Rattle.sc_expand.specs.Having.{behind_at}
use Rattle.sc_expand.specs.Spans.{indexes_at}
use Rattle.sc_expand.specs.Thin.{IsNth}
use Rattle.sc_model.proofs.ListLemmas.{found_in, slice_get-front, slice_get-seam}
use Rattle.sc_prep.proofs.Facts.{All-head, All-tail, items_at-append, length-append, length-map}
use Rattle.sc_prep.proofs.Terms.{Cond, IsCond, IsConfig, Keeps, Sets, items_at, option_map}

-- ---- lists

pub some-at : {A : Type 0} (xs : List A) (n : ℕ) → n < length xs → (x : A) × (slice_get xs n ≡ Some x)
some-at [] n short = absurd (omega (arith, short))
some-at (x ∷ xs) zero short = (x, refl)
some-at (x ∷ xs) (suc n) short = some-at xs n (omega (arith, short))

-- an element of a mapped list
pub get-map : {A B : Type 0} (f : A → B) (xs : List A) (n : ℕ) (x : A) → slice_get xs n ≡ Some x → slice_get (map f xs) n ≡ Some (f x)
get-map f xs n x at = slice_get-map f xs n ∙ ap (option_map f) at

-- behind a first list
pub get-behind : {A : Type 0} (xs ys : List A) (n : ℕ) → slice_get (xs ++ ys) (length xs + n) ≡ slice_get ys n
get-behind [] ys n = let same : 0 + n ≡ n = omega arith in ap (slice_get ys) same
get-behind (x ∷ xs) ys n = let same : suc (length xs) + n ≡ suc (length xs + n) = omega arith in ap (slice_get (x ∷ (xs ++ ys))) same ∙ get-behind xs ys n

-- a list at one of its elements
pub record SplitsAt {A : Type 0} (list : List A) (i : ℕ) (item : A) : Type 0 where
  pub front : List A
  pub back : List A
  pub is : list ≡ front ++ item ∷ back
  pub index : length front ≡ i
  pub first : front ≡ take i list

pub splits-at : {A : Type 0} (list : List A) (i : ℕ) (item : A) → slice_get list i ≡ Some item → SplitsAt list i item
splits-at [] i item at = absurd (cc)
splits-at (x ∷ xs) zero item at = record { front = []; back = xs; is = ap (λ y. y ∷ xs) (same_Some x item at); index = refl; first = refl }
splits-at (x ∷ xs) (suc i) item at =
    let it = splits-at xs i item at in
    record { front = x ∷ it.front; back = it.back; is = ap (λ l. x ∷ l) it.is; index = ap suc it.index; first = ap (λ l. x ∷ l) it.first }

-- ---- indexes

module _ {T : Type 0} (s : Sets) (c : List ℕ) where
  numbered-next : (k : ℕ) (list : List (Cond × T)) → length list ≤ k → map (λ m. suc k - suc m) (behind_at s list c) ≡ map suc (map (λ m. k - suc m) (behind_at s list c))
  numbered-next k [] short = refl
  numbered-next k (x ∷ xs) short = by (s.has x.0.0 c) (numbered-next k xs (omega (arith, short)))
    where
      F : List ℕ → Type 0
      F l = map (λ m. suc k - suc m) l ≡ map suc (map (λ m. k - suc m) l)

      first : suc k - suc (length xs) ≡ suc (k - suc (length xs))
      first = omega (arith, short)

      by : (b : Bool) → F (behind_at s xs c) → F (if b then length xs ∷ behind_at s xs c else behind_at s xs c)
      by true e = (λ i. first i ∷ e i)
      by false e = e

  indexes-cons : (x : Cond × T) (xs : List (Cond × T)) → indexes_at s (x ∷ xs) c ≡ (if s.has x.0.0 c then 0 ∷ map suc (indexes_at s xs c) else map suc (indexes_at s xs c))
  indexes-cons x xs = by (s.has x.0.0 c) (numbered-next (length xs) xs (omega arith))
    where
      first : suc (length xs) - suc (length xs) ≡ 0
      first = omega arith

      by : (b : Bool) → map (λ m. suc (length xs) - suc m) (behind_at s xs c) ≡ map suc (indexes_at s xs c)
          → map (λ m. suc (length xs) - suc m) (if b then length xs ∷ behind_at s xs c else behind_at s xs c) ≡ (if b then 0 ∷ map suc (indexes_at s xs c) else map suc (indexes_at s xs c))
      by true e = (λ i. first i ∷ e i)
      by false e = e

  -- an index for each element
  length-indexes : (list : List (Cond × T)) → length (indexes_at s list c) ≡ length (items_at s list c)
  length-indexes list = length-map (behind_at s list c) (λ m. length list - suc m) ∙ length-behind s c list

  -- ---- the n-th

  -- the item at this index, and what stands before it and behind it: the configuration has it as
  -- the n-th
  pub record StandsAt (list : List (Cond × T)) (n i : ℕ) : Type 0 where
    pub item : Cond × T
    pub has : s.has item.0.0 c ≡ true
    pub front : List (Cond × T)
    pub back : List (Cond × T)
    pub is : list ≡ front ++ item ∷ back
    pub index : length front ≡ i
    pub many : length (items_at s front c) ≡ n

  pub nth-stands : (list : List (Cond × T)) (n i : ℕ) → IsNth s list c n i → StandsAt list n i
  nth-stands [] n i at = absurd (cc)
  nth-stands (x ∷ xs) n i at = by (s.has x.0.0 c) refl n (ap (λ l. slice_get l n) (sym (indexes-cons x xs)) ∙ at) (nth-stands xs)
    where
      counted : (b : Bool) (k : ℕ) (ts : List T) → length ts ≡ k → length (if b then x.1 ∷ ts else ts) ≡ (if b then suc k else k)
      counted true k ts e = ap suc e
      counted false k ts e = e

      next : (b : Bool) (k : ℕ) → s.has x.0.0 c ≡ b → slice_get (map suc (indexes_at s xs c)) k ≡ Some i → ((n i : ℕ) → IsNth s xs c n i → StandsAt xs n i) → StandsAt (x ∷ xs) (if b then suc k else k) i
      next b k has at again =
          let found = found_in suc (indexes_at s xs c) k i at in
          let it = again k found.0 found.1 in
          record {
            item = it.item;
            has = it.has;
            front = x ∷ it.front;
            back = it.back;
            is = ap (λ l. x ∷ l) it.is;
            index = ap suc it.index ∙ found.2;
            many = ap (λ d. length (if d then x.1 ∷ items_at s it.front c else items_at s it.front c)) has ∙ counted b k (items_at s it.front c) it.many;
          }

      by : (b : Bool) → s.has x.0.0 c ≡ b → (n : ℕ) → slice_get (if b then 0 ∷ map suc (indexes_at s xs c) else map suc (indexes_at s xs c)) n ≡ Some i → ((n i : ℕ) → IsNth s xs c n i → StandsAt xs n i) → StandsAt (x ∷ xs) n i
      by true has zero at again = record { item = x; has = has; front = []; back = xs; is = refl; index = same_Some 0 i at; many = refl }
      by true has (suc k) at again = next true k has at again
      by false has n at again = next false n has at again

  nth-at : (front : List (Cond × T)) (item : Cond × T) (back : List (Cond × T)) → s.has item.0.0 c ≡ true
      → IsNth s (front ++ item ∷ back) c (length (items_at s front c)) (length front)
  nth-at [] item back has = ap (λ l. slice_get l 0) (indexes-cons item back ∙ ap (λ b. if b then 0 ∷ map suc (indexes_at s back c) else map suc (indexes_at s back c)) has)
  nth-at (x ∷ xs) item back has = by (s.has x.0.0 c) (indexes-cons x rest) (get-map suc (indexes_at s rest c) (length (items_at s xs c)) (length xs) (nth-at xs item back has))
    where
      rest : List (Cond × T)
      rest = xs ++ item ∷ back

      by : (b : Bool) → indexes_at s (x ∷ rest) c ≡ (if b then 0 ∷ map suc (indexes_at s rest c) else map suc (indexes_at s rest c))
          → slice_get (map suc (indexes_at s rest c)) (length (items_at s xs c)) ≡ Some (suc (length xs))
          → slice_get (indexes_at s (x ∷ rest) c) (length (if b then x.1 ∷ items_at s xs c else items_at s xs c)) ≡ Some (suc (length xs))
      by true is later = ap (λ l. slice_get l (suc (length (items_at s xs c)))) is ∙ later
      by false is later = ap (λ l. slice_get l (length (items_at s xs c))) is ∙ later

  pub stands-nth : {list : List (Cond × T)} {n i : ℕ} → StandsAt list n i → IsNth s list c n i
  stands-nth at = subst (λ (p : List (Cond × T) × ℕ × ℕ). IsNth s p.0 c p.1 p.2) (λ j. (sym at.is j, at.many j, at.index j)) (nth-at at.front at.item at.back at.has)

  pub stands-get : {list : List (Cond × T)} {n i : ℕ} (at : StandsAt list n i) → slice_get list i ≡ Some at.item
  stands-get at = (λ j. slice_get (at.is j) (sym at.index j)) ∙ slice_get-seam at.front at.item at.back

  pub stands-items : {list : List (Cond × T)} {n i : ℕ} (at : StandsAt list n i) → items_at s list c ≡ items_at s at.front c ++ at.item.1 ∷ items_at s at.back c
  stands-items at =
      ap (λ l. items_at s l c) at.is
      ∙ (items_at-append s at.front (at.item ∷ at.back) c ∙ ap (λ b. items_at s at.front c ++ (if b then at.item.1 ∷ items_at s at.back c else items_at s at.back c)) at.has)

  pub stands-element : {list : List (Cond × T)} {n i : ℕ} (at : StandsAt list n i) → slice_get (items_at s list c) n ≡ Some at.item.1
  stands-element at = (λ j. slice_get (stands-items at j) (sym at.many j)) ∙ slice_get-seam (items_at s at.front c) at.item.1 (items_at s at.back c)

  -- how many it has before it
  pub stands-many : {list : List (Cond × T)} {n i : ℕ} → StandsAt list n i → length (items_at s (take i list) c) ≡ n
  stands-many {list} {n} {i} at = ap (λ l. length (items_at s l c)) (ap (take i) at.is ∙ take_at at.front (at.item ∷ at.back) i at.index) ∙ at.many

  pub nth-within : (list : List (Cond × T)) (n i : ℕ) → IsNth s list c n i → n < length (items_at s list c)
  nth-within list n i at = let less = slice_get_within (indexes_at s list c) n i at in let long = length-indexes list in omega (arith, less, long)

  -- the item that is had stands somewhere among those that the configuration has
  pub had-stands : (list : List (Cond × T)) (i : ℕ) (item : Cond × T) → slice_get list i ≡ Some item → s.has item.0.0 c ≡ true → (n : ℕ) × StandsAt list n i
  had-stands list i item at has =
      let split = splits-at list i item at in
      (length (items_at s split.front c), record { item = item; has = has; front = split.front; back = split.back; is = split.is; index = split.index; many = refl })

  pub some-stands : (list : List (Cond × T)) (n : ℕ) → n < length (items_at s list c) → (i : ℕ) × StandsAt list n i
  some-stands list n less =
      let it = some-at (indexes_at s list c) n (let count = length-indexes list in omega (arith, less, count)) in
      (it.0, nth-stands list n it.0 it.1)

  -- in a longer list
  pub nth-front : (xs ys : List (Cond × T)) (n i : ℕ) → IsNth s xs c n i → IsNth s (xs ++ ys) c n i
  nth-front xs ys n i at =
      let it = nth-stands xs n i at in
      stands-nth (record { item = it.item; has = it.has; front = it.front; back = it.back ++ ys; is = ap (λ l. l ++ ys) it.is ∙ append_assoc it.front (it.item ∷ it.back) ys; index = it.index; many = it.many })

  pub nth-of-front : (xs ys : List (Cond × T)) (n i : ℕ) → i < length xs → IsNth s (xs ++ ys) c n i → IsNth s xs c n i
  nth-of-front xs ys n i less at =
      let whole = nth-stands (xs ++ ys) n i at in
      let it = had-stands xs i whole.item (sym (slice_get-front xs ys i less) ∙ stands-get whole) whole.has in
      let same : it.0 ≡ n = sym (stands-many it.1) ∙ (ap (λ l. length (items_at s l c)) (sym (take-append-le i xs ys (omega (arith, less)))) ∙ stands-many whole) in
      subst (λ k. IsNth s xs c k i) same (stands-nth it.1)

  pub nth-behind : (xs ys : List (Cond × T)) (n i : ℕ) → IsNth s ys c n i → IsNth s (xs ++ ys) c (length (items_at s xs c) + n) (length xs + i)
  nth-behind xs ys n i at =
      let it = nth-stands ys n i at in
      stands-nth (record {
        item = it.item;
        has = it.has;
        front = xs ++ it.front;
        back = it.back;
        is = ap (λ l. xs ++ l) it.is ∙ sym (append_assoc xs it.front (it.item ∷ it.back));
        index = length-append xs it.front ∙ ap (λ k. length xs + k) it.index;
        many = ap length (items_at-append s xs it.front c) ∙ (length-append (items_at s xs c) (items_at s it.front c) ∙ ap (λ k. length (items_at s xs c) + k) it.many);
      })

  -- who has an item has some
  pub some-item : (list : List (Cond × T)) (i : ℕ) (item : Cond × T) → slice_get list i ≡ Some item → s.has item.0.0 c ≡ true → items_at s list c ≡ [] → ⊥
  some-item list i item at has none = let it = had-stands list i item at has in let within = nth-within list it.0 i (stands-nth it.1) in omega (arith, within, ap length none)

-- ---- of other stores, and of other lists under the same conditions

behind-kept : {T : Type 0} {old new : Sets} (list : List (Cond × T)) {c : List ℕ} → Keeps old new → All (λ (item : Cond × T). IsCond old item.0.0) list
    → IsConfig old.arities c → behind_at new list c ≡ behind_at old list c
behind-kept [] keeps own listed = refl
behind-kept {T} {old} {new} (x ∷ xs) {c} keeps own listed =
    let P : Cond × T → Type 0 = λ item. IsCond old item.0.0 in
    let rest = behind-kept xs keeps (All-tail P x xs own) listed in
    (λ i. if keeps.at x.0.0 c (All-head P x xs own) listed i then length xs ∷ rest i else rest i)

pub nth-kept : {T : Type 0} {old new : Sets} (list : List (Cond × T)) {c : List ℕ} → Keeps old new → All (λ (item : Cond × T). IsCond old item.0.0) list → IsConfig old.arities c
    → (n i : ℕ) → IsNth old list c n i → IsNth new list c n i
nth-kept list keeps own listed n i at = ap (λ l. slice_get (map (λ m. length list - suc m) l) n) (behind-kept list keeps own listed) ∙ at

pub nth-mapped : {T S : Type 0} (s : Sets) (f : T → S) (list : List (Cond × T)) (c : List ℕ) (n i : ℕ) → IsNth s list c n i → IsNth s (map (λ (item : Cond × T). (item.0, f item.1)) list) c n i
nth-mapped {T} {S} s f list c n i at =
    (λ j. slice_get (map (λ m. length-map list made j - suc m) (same list j)) n) ∙ at
  where
    made : Cond × T → Cond × S
    made = λ item. (item.0, f item.1)

    same : (l : List (Cond × T)) → behind_at s (map made l) c ≡ behind_at s l c
    same [] = refl
    same (x ∷ xs) = (λ j. if s.has x.0.0 c then length-map xs made j ∷ same xs j else same xs j)
