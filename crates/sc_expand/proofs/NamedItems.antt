-- What is told by the index of an item: what there is of each.
use Rattle.std.proofs.Common.{◌≡◌, ℕ, suc, Bool, true, false, nat_eq, List, [], ◌∷◌, ◌++◌, All, append_assoc, append-nil, drop, length, map, refl, sym, ap, subst, ◌∙◌, if◌then◌else◌}
use Rattle.sc_expand.proofs.AlikeLemmas.{AreAlike-Keeps}
use Rattle.sc_expand.proofs.Facts.{All-append, All-cons, All-head, All-nil, All-tail, eq-eqb, items_at-Keeps, items_at-append, map-append, ne_eqb}
use Rattle.sc_expand.proofs.Terms.{AreAlike, Cond, IsAhead, IsAlike, IsCond, IsConfig, IsSameName, Keeps, Sets, indexes_in, items_at, of_item}
use Rattle.sc_expand.proofs.KeptLemmas.{All-before, All-behind}
use Rattle.sc_expand.specs.Spans as spans

module _ {A : Type 0} where
  pub item-append : (at : ℕ) (xs ys : List (ℕ × A)) → of_item at (xs ++ ys) ≡ of_item at xs ++ of_item at ys
  item-append at [] ys = refl
  item-append at (x ∷ xs) ys = by (nat_eq x.0 at) (item-append at xs ys)
    where
      by : (b : Bool) → of_item at (xs ++ ys) ≡ of_item at xs ++ of_item at ys → (if b then x.1 ∷ of_item at (xs ++ ys) else of_item at (xs ++ ys)) ≡ (if b then x.1 ∷ of_item at xs else of_item at xs) ++ of_item at ys
      by true same = ap (λ l. x.1 ∷ l) same
      by false same = same

  -- none of them is of the item
  pub item-none : (at : ℕ) (xs : List (ℕ × A)) → All (λ x. x.0 ≡ at → ⊥) xs → of_item at xs ≡ []
  item-none at [] others = refl
  item-none at (x ∷ xs) others =
      let Other : ℕ × A → Type 0 = λ x. x.0 ≡ at → ⊥ in
      ap (λ (b : Bool). if b then x.1 ∷ of_item at xs else of_item at xs) (ne_eqb x.0 at (All-head Other x xs others)) ∙ item-none at xs (All-tail Other x xs others)

  -- one more of the item
  pub item-one : (at : ℕ) (x : A) → of_item at ((at, x) ∷ []) ≡ x ∷ []
  item-one at x = ap (λ (b : Bool). if b then x ∷ [] else []) (eq-eqb at at refl)

  pub item-all : (P : A → Type 0) (at : ℕ) (xs : List (ℕ × A)) → All P (map (λ x. x.1) xs) → All P (of_item at xs)
  item-all P at [] all = All-nil P
  item-all P at (x ∷ xs) all = by (nat_eq x.0 at) (item-all P at xs (All-tail P x.1 (map (λ (x : ℕ × A). x.1) xs) all))
    where
      by : (b : Bool) → All P (of_item at xs) → All P (if b then x.1 ∷ of_item at xs else of_item at xs)
      by true rest = All-cons P x.1 (of_item at xs) (All-head P x.1 (map (λ (x : ℕ × A). x.1) xs) all) rest
      by false rest = rest

module _ {T : Type 0} (s : Sets) (c : List ℕ) where
  -- who has the first alone of some, and none of others, has the first alone of all
  pub first-alone : (xs ys : List (Cond × T)) → items_at s (drop 1 xs) c ≡ [] → items_at s ys c ≡ [] → items_at s (drop 1 (xs ++ ys)) c ≡ []
  first-alone [] [] one none = refl
  first-alone [] (y ∷ ys) one none = by (s.has y.0.0 c) none
    where
      by : (b : Bool) → (if b then y.1 ∷ items_at s ys c else items_at s ys c) ≡ [] → items_at s ys c ≡ []
      by true some = absurd (cc)
      by false none = none
  first-alone (x ∷ xs) ys one none = items_at-append s xs ys c ∙ (λ i. one i ++ none i)

  -- who has none of all has none of the item
  pub item-lacks : (at : ℕ) (xs : List (ℕ × (Cond × T))) → items_at s (map (λ x. x.1) xs) c ≡ [] → items_at s (of_item at xs) c ≡ []
  item-lacks at [] none = refl
  item-lacks at (x ∷ xs) none = by (nat_eq x.0 at) (s.has x.1.0.0 c) refl none (λ rest. item-lacks at xs rest)
    where
      by : (b h : Bool) → s.has x.1.0.0 c ≡ h → (if h then x.1.1 ∷ items_at s (map (λ (x : ℕ × (Cond × T)). x.1) xs) c else items_at s (map (λ (x : ℕ × (Cond × T)). x.1) xs) c) ≡ []
          → (items_at s (map (λ (x : ℕ × (Cond × T)). x.1) xs) c ≡ [] → items_at s (of_item at xs) c ≡ []) → items_at s (if b then x.1 ∷ of_item at xs else of_item at xs) c ≡ []
      by b true has none rest = absurd (cc)
      by true false has none rest = ap (λ (h : Bool). if h then x.1.1 ∷ items_at s (of_item at xs) c else items_at s (of_item at xs) c) has ∙ rest none
      by false false has none rest = rest none

-- ---- the indexes that a configuration has

module _ {T : Type 0} (s : Sets) (c : List ℕ) where
  pub indexes-append : (xs ys : List (ℕ × (Cond × T))) → indexes_in s (xs ++ ys) c ≡ indexes_in s xs c ++ indexes_in s ys c
  indexes-append xs ys =
      let f : ℕ × (Cond × T) → Cond × ℕ = λ x. (x.1.0, x.0) in
      ap (λ l. items_at s l c) (map-append f xs ys) ∙ items_at-append s (map f xs) (map f ys) c

  -- one for each element
  pub indexes-long : (xs : List (ℕ × (Cond × T))) → length (indexes_in s xs c) ≡ length (items_at s (map (λ x. x.1) xs) c)
  indexes-long [] = refl
  indexes-long (x ∷ xs) = by (s.has x.1.0.0 c) (indexes-long xs)
    where
      by : (b : Bool) → length (indexes_in s xs c) ≡ length (items_at s (map (λ (x : ℕ × (Cond × T)). x.1) xs) c)
          → length (if b then x.0 ∷ indexes_in s xs c else indexes_in s xs c) ≡ length (if b then x.1.1 ∷ items_at s (map (λ (x : ℕ × (Cond × T)). x.1) xs) c else items_at s (map (λ (x : ℕ × (Cond × T)). x.1) xs) c)
      by true same = ap suc same
      by false same = same

  pub indexes-Keeps : {old : Sets} → Keeps old s → IsConfig old.arities c → (xs : List (ℕ × (Cond × T))) → All (λ (item : Cond × T). IsCond old item.0.0) (map (λ x. x.1) xs) → indexes_in s xs c ≡ indexes_in old xs c
  indexes-Keeps keeps listed [] own = refl
  indexes-Keeps {old} keeps listed (x ∷ xs) own =
      let Own : Cond × T → Type 0 = λ item. IsCond old item.0.0 in
      let rest = map (λ (x : ℕ × (Cond × T)). x.1) xs in
      let first = keeps.at x.1.0.0 c (All-head Own x.1 rest own) listed in
      let later = indexes-Keeps keeps listed xs (All-tail Own x.1 rest own) in
      λ i. if first i then x.0 ∷ later i else later i

-- ---- the store grows

module _ {T : Type 0} {old new : Sets} (keeps : Keeps old new) (done of : List (Cond × T)) (own : All (λ item. IsCond old item.0.0) done) (other : All (λ item. IsCond old item.0.0) of) where
  ahead-Keeps : {c d : List ℕ} → IsConfig old.arities c → IsConfig old.arities d → IsAhead old done of c d → IsAhead new done of c d
  ahead-Keeps {c} {d} p q a =
      let Own : Cond × T → Type 0 = λ item. IsCond old item.0.0 in
      let parts : All Own (a.first ++ a.last) = subst (All Own) a.is own in
      let lasts = All-behind Own a.first a.last parts in
      record {
        first = a.first;
        last = a.last;
        name = a.name;
        is = a.is;
        alike = AreAlike-Keeps keeps p q a.first (All-before Own a.first a.last parts) a.alike;
        one = items_at-Keeps a.last c keeps lasts p ∙ a.one;
        other = items_at-Keeps a.last d keeps lasts q ∙ a.other;
        nothing = items_at-Keeps of c keeps other p ∙ a.nothing;
        waits = items_at-Keeps of d keeps other q ∙ a.waits;
      }

  pub same-name-Keeps : {c d : List ℕ} → IsConfig old.arities c → IsConfig old.arities d → IsSameName old done of c d → IsSameName new done of c d
  same-name-Keeps p q (spans.same one two) = spans.same (AreAlike-Keeps keeps p q done own one) (AreAlike-Keeps keeps p q of other two)
  same-name-Keeps p q (spans.one_ahead a) = spans.one_ahead (ahead-Keeps p q a)
  same-name-Keeps p q (spans.other_ahead a) = spans.other_ahead (ahead-Keeps q p a)

-- ---- what neither has

module _ {A : Type 0} where
  -- all of them are of the item
  pub item-whole : (at : ℕ) (xs : List (ℕ × A)) → All (λ x. x.0 ≡ at) xs → of_item at xs ≡ map (λ x. x.1) xs
  item-whole at [] all = refl
  item-whole at (x ∷ xs) all =
      let Here : ℕ × A → Type 0 = λ x. x.0 ≡ at in
      ap (λ (b : Bool). if b then x.1 ∷ of_item at xs else of_item at xs) (eq-eqb x.0 at (All-head Here x xs all)) ∙ ap (λ l. x.1 ∷ l) (item-whole at xs (All-tail Here x xs all))

module _ {T : Type 0} (s : Sets) (c d : List ℕ) where
  pub lacks-alike : (list : List (Cond × T)) → items_at s list c ≡ [] → items_at s list d ≡ [] → AreAlike s c d list
  lacks-alike [] none other = All-nil (λ (item : Cond × T). IsAlike s c d item.0)
  lacks-alike (x ∷ xs) none other = by (s.has x.0.0 c) (s.has x.0.0 d) refl refl none other (λ one two. lacks-alike xs one two)
    where
      by : (a b : Bool) → s.has x.0.0 c ≡ a → s.has x.0.0 d ≡ b → (if a then x.1 ∷ items_at s xs c else items_at s xs c) ≡ [] → (if b then x.1 ∷ items_at s xs d else items_at s xs d) ≡ []
          → (items_at s xs c ≡ [] → items_at s xs d ≡ [] → AreAlike s c d xs) → AreAlike s c d (x ∷ xs)
      by true b p q one two rest = absurd (cc)
      by false true p q one two rest = absurd (cc)
      by false false p q one two rest = All-cons (λ (item : Cond × T). IsAlike s c d item.0) x xs (p ∙ sym q) (rest one two)

module _ {T : Type 0} (s : Sets) where
  none-more : (c : List ℕ) (xs ys : List (Cond × T)) (is : List T) → items_at s xs c ≡ is → items_at s ys c ≡ [] → items_at s (xs ++ ys) c ≡ is
  none-more c xs ys is here none = items_at-append s xs ys c ∙ ((λ i. here i ++ none i) ∙ append-nil is)

  ahead-more : (c d : List ℕ) (done of last more : List (Cond × T)) → items_at s last c ≡ [] → items_at s last d ≡ [] → items_at s more c ≡ [] → items_at s more d ≡ [] → IsAhead s done of c d → IsAhead s (done ++ last) (of ++ more) c d
  ahead-more c d done of last more put put_other kept kept_other a = record {
    first = a.first;
    last = a.last ++ last;
    name = a.name;
    is = ap (λ l. l ++ last) a.is ∙ append_assoc a.first a.last last;
    alike = a.alike;
    one = none-more c a.last last (a.name ∷ []) a.one put;
    other = none-more d a.last last [] a.other put_other;
    nothing = none-more c of more [] a.nothing kept;
    waits = none-more d of more (a.name ∷ []) a.waits kept_other;
  }

  -- more that neither has
  pub same-name-more : (c d : List ℕ) (done of last more : List (Cond × T)) → items_at s last c ≡ [] → items_at s last d ≡ [] → items_at s more c ≡ [] → items_at s more d ≡ [] → IsSameName s done of c d → IsSameName s (done ++ last) (of ++ more) c d
  same-name-more c d done of last more put put_other kept kept_other (spans.same one two) =
      let P : Cond × T → Type 0 = λ item. IsAlike s c d item.0 in
      spans.same (All-append P done last one (lacks-alike s c d last put put_other)) (All-append P of more two (lacks-alike s c d more kept kept_other))
  same-name-more c d done of last more put put_other kept kept_other (spans.one_ahead a) = spans.one_ahead (ahead-more c d done of last more put put_other kept kept_other a)
  same-name-more c d done of last more put put_other kept kept_other (spans.other_ahead a) = spans.other_ahead (ahead-more d c done of last more put_other put kept_other kept a)
