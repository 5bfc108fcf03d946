-- The walk that looks once at each block.
use Rattle.std.proofs.Common.{◌≡◌, ℕ, zero, suc, ◌+◌, ◌-◌, ◌<◌, ◌≤◌, ◌&&◌, ◌||◌, not, Bool, true, false, List, [], ◌∷◌, ◌++◌, All, drop, length, get_or, refl, ap, sym, ◌∙◌, subst, inl, inr, arith, cond, if◌then◌else◌}
use Rattle.std.specs.Prelude.{nat_le, slice_index}
use Rattle.std.specs.List.{filter, list_any, range_with_len}
use Rattle.std.proofs.lemmas.Bool.{cases_lt, false_from_ne_true, le-leb, leb-true, or_left, or_right, true≢false}
use Rattle.std.proofs.lemmas.List.{drop_more}
use Rattle.std.proofs.lemmas.List.Folds.{list_all_at, list_any-append, list_any_none}
use Rattle.std.proofs.lemmas.List.FromFn.{get_or-range_with_len, length-range_with_len}
use Rattle.std.proofs.lemmas.List.Sums.{list_all-from_AllPass}
use Rattle.sc_base.specs.declared.id.Cond.{Cond}
use Rattle.sc_guarded.specs.Blocks.{cond_at, AreBlocks, IsBlock, heads, is_outside}
use Rattle.sc_guarded.specs.Items.{items_at}
use Rattle.sc_guarded.specs.Next.{next_at, ArePartsBelow}
use Rattle.sc_guarded.proofs.BlockLemmas.{block-none, cond_at-get, nested}
use Rattle.sc_guarded.proofs.NextLemmas.{ArePartsBelow-more, PartsTo, next_at-cons, parts-more}
use Rattle.sc_model.specs.Sets.{Sets, IsConfig, IsCond, Keeps, IsNever}
use Rattle.sc_model.proofs.SetLemmas.{IsConfig-Keeps}

-- what passes in a range passes in its front, where the tests agree there and what is behind fails
passing-same : (P Q : ℕ → Bool) (a n m : ℕ) → n ≤ m → ((i : ℕ) → a ≤ i → i < a + n → Q i ≡ P i) → ((i : ℕ) → a + n ≤ i → i < a + m → Q i ≡ false)
    → filter Q (range_with_len a m) ≡ filter P (range_with_len a n)
passing-same P Q a zero zero le same none = refl
passing-same P Q a (suc n) zero le same none = absurd (omega (arith, le))
passing-same P Q a zero (suc m) le same none =
    let rest = filter Q (range_with_len (a + 1) m) in
    ap (λ b. cond b (a ∷ rest) rest) (none a (omega arith) (omega arith))
    ∙ passing-same P Q (a + 1) zero m (omega arith) (λ i low high. absurd (omega (arith, low, high))) (λ i low high. none i (omega (arith, low)) (omega (arith, high)))
passing-same P Q a (suc n) (suc m) le same none =
    let rest = filter Q (range_with_len (a + 1) m) in
    ap (λ b. cond b (a ∷ rest) rest) (same a (omega arith) (omega arith))
    ∙ ap (λ is. cond (P a) (a ∷ is) is)
    (passing-same P Q (a + 1) n m (omega (arith, le)) (λ i low high. same i (omega (arith, low)) (omega (arith, high))) (λ i low high. none i (omega (arith, low)) (omega (arith, high))))

-- one more passes, and what is behind it fails
passing-more : (P : ℕ → Bool) (a n m : ℕ) → n < m → P (a + n) ≡ true → ((i : ℕ) → a + n < i → i < a + m → P i ≡ false)
    → length (filter P (range_with_len a m)) ≡ length (filter P (range_with_len a n)) + 1
passing-more P a n zero less last none = absurd (omega (arith, less))
passing-more P a zero (suc m) less last none =
    let rest = filter P (range_with_len (a + 1) m) in
    ap (λ b. length (cond b (a ∷ rest) rest)) (ap P (omega arith) ∙ last)
    ∙ ap (λ is. length (a ∷ is)) (passing-same P P (a + 1) zero m (omega arith) (λ i low high. refl) (λ i low high. none i (omega (arith, low)) (omega (arith, high))))
passing-more P a (suc n) (suc m) less last none =
    by (P a) (filter P (range_with_len (a + 1) m)) (filter P (range_with_len (a + 1) n))
    (passing-more P (a + 1) n m (omega (arith, less)) (ap P (omega arith) ∙ last) (λ i low high. none i (omega (arith, low)) (omega (arith, high))))
  where
    by : (b : Bool) (xs ys : List ℕ) → length xs ≡ length ys + 1 → length (cond b (a ∷ xs) xs) ≡ length (cond b (a ∷ ys) ys) + 1
    by true xs ys is = omega (arith, is)
    by false xs ys is = is

-- item i stands in no block of an item from `from` on before it
abbrev IsOutside : List ℕ → ℕ → ℕ → Type 0
IsOutside ends from i = (g : ℕ) → from ≤ g → g < i → slice_index ends g ≤ i

outside-passes : (ends : List ℕ) (from i : ℕ) → IsOutside ends from i → is_outside ends from i ≡ true
outside-passes ends from i out =
    list_all-from_AllPass (λ g. nat_le (slice_index ends g) i) (range_with_len from (i - from))
    (λ k d below.
    let far : k < i - from = omega (arith, below, length-range_with_len from (i - from)) in
    let is = get_or-range_with_len from (i - from) k d far in
    le-leb _ _ (subst (λ g. slice_index ends g ≤ i) (sym is) (out (from + k) (omega arith) (omega (arith, far)))))

inside-fails : (ends : List ℕ) (from g i : ℕ) → from ≤ g → g < i → i < slice_index ends g → is_outside ends from i ≡ false
inside-fails ends from g i low less inside =
    let p : ℕ → Bool = λ g. nat_le (slice_index ends g) i in
    let far : g - from < i - from = omega (arith, low, less) in
    let is : get_or (range_with_len from (i - from)) (g - from) 0 ≡ g = get_or-range_with_len from (i - from) (g - from) 0 far ∙ omega (arith, low) in
    list_all_at p (range_with_len from (i - from)) (g - from) 0 (omega (arith, far, length-range_with_len from (i - from)))
    (ap p is ∙ false_from_ne_true (p g) (λ le. omega (arith, inside, leb-true (slice_index ends g) i le)))

-- the index is that of a part, or of one before
abbrev IsBefore : List (Cond × ℕ) → ℕ → Type 0
IsBefore parts i = list_any (λ part. nat_le i part.1) parts ≡ true

-- The walk from an item on has come to an index, in so many steps.
pub record WalksTo (s : Sets) (ends : List ℕ) (from index : ℕ) (left : Cond) (parts : List (Cond × ℕ)) (before now : ℕ) : Type 0 where
  pub begin : from ≤ index
  pub most : index ≤ length ends
  pub outside : IsOutside ends from index
  pub counted : now ≡ before + length (filter (is_outside ends from) (range_with_len from (index - from)))
  pub needed : IsNever s left.0 → (i : ℕ) → from ≤ i → i < index → is_outside ends from i ≡ true → IsBefore parts i

pub walks-none : {s : Sets} (ends : List ℕ) (from : ℕ) (left : Cond) (parts : List (Cond × ℕ)) (n : ℕ) → from ≤ length ends → WalksTo s ends from from left parts n n
walks-none ends from left parts n most = record {
  begin = omega arith;
  most = most;
  outside = λ g low high. absurd (omega (arith, low, high));
  counted =
      let none : from - from ≡ 0 = omega arith in
      omega (arith, ap (λ k. length (filter (is_outside ends from) (range_with_len from k))) none);
  needed = λ never i low high out. absurd (omega (arith, low, high));
}

or-more : (a a' b b' : Bool) → (a ≡ true → a' ≡ true) → (b ≡ true → b' ≡ true) → (a || b) ≡ true → (a' || b') ≡ true
or-more true a' b b' f g is = or_left a' b' (f refl)
or-more false a' b b' f g is = or_right a' b' (g is)

-- the last one passes
any-last : {X : Type 0} (p : X → Bool) (xs : List X) (x : X) → p x ≡ true → list_any p (xs ++ x ∷ []) ≡ true
any-last p xs x passes = list_any-append p xs (x ∷ []) ∙ or_right (list_any p xs) (p x || false) (or_left (p x) false passes)

before-less : (parts : List (Cond × ℕ)) (i k : ℕ) → i ≤ k → IsBefore parts k → IsBefore parts i
before-less [] i k le is = is
before-less (part ∷ parts) i k le is =
    or-more (nat_le k part.1) (nat_le i part.1) _ _ (λ here. le-leb i part.1 (omega (arith, le, leb-true k part.1 here))) (before-less parts i k le) is

-- the index of a part at a configuration is that of a part
before-items_at : (s : Sets) (parts : List (Cond × ℕ)) (k : ℕ) (c : List ℕ) → list_any (nat_le k) (items_at s parts c) ≡ true → IsBefore parts k
before-items_at s [] k c is = is
before-items_at s (part ∷ parts) k c is = by (s.has part.0.0 c) (before-items_at s parts k c) is
  where
    by : (b : Bool) → (list_any (nat_le k) (items_at s parts c) ≡ true → IsBefore parts k) → list_any (nat_le k) (if b then part.1 ∷ items_at s parts c else items_at s parts c) ≡ true
        → IsBefore (part ∷ parts) k
    by true rest is = or-more (nat_le k part.1) (nat_le k part.1) _ _ (λ here. here) rest is
    by false rest is = or_right (nat_le k part.1) (list_any (λ part. nat_le k part.1) parts) (rest is)

-- where something was left and nothing is any more, the item of the index has taken a part
pub before-taken : {old new : Sets} {left rest : Cond} (item : Cond) (k : ℕ) (parts parts' : List (Cond × ℕ)) → Keeps old new → (IsNever old left.0 → ⊥)
    → ((c : List ℕ) → IsConfig old.arities c → items_at new parts' c ≡ items_at old parts c ++ (if old.has left.0 c && old.has item.0 c then k ∷ [] else []))
    → ((c : List ℕ) → IsConfig old.arities c → new.has rest.0 c ≡ (old.has left.0 c && not (old.has item.0 c))) → IsNever new rest.0 → IsBefore parts' k
before-taken {old} {new} {left} {rest} item k parts parts' keeps some taken others never = by (list_any (λ (part : Cond × ℕ). nat_le k part.1) parts') refl
  where
    at : (l i : Bool) (c : List ℕ) → (IsBefore parts' k → ⊥) → items_at new parts' c ≡ items_at old parts c ++ (if l && i then k ∷ [] else []) → (l && not i) ≡ false → l ≡ false
    at true true c before is none = absurd (before (before-items_at new parts' k c (ap (list_any (nat_le k)) is ∙ any-last (nat_le k) (items_at old parts c) k (le-leb k k (omega arith)))))
    at true false c before is none = none
    at false i c before is none = refl

    by : (b : Bool) → list_any (λ (part : Cond × ℕ). nat_le k part.1) parts' ≡ b → IsBefore parts' k
    by true is = is
    by false is = absurd (some (record {
      none = λ c listed.
          at (old.has left.0 c) (old.has item.0 c) c (λ before. true≢false (sym before ∙ is)) (taken c listed) (sym (others c listed) ∙ never.none c (IsConfig-Keeps keeps listed));
    }))

-- the item of the index was looked at, and the walk goes on behind its block
pub walks-more : {T : Type 0} {s old new : Sets} {items : List (Cond × T)} {ends : List ℕ} {from index : ℕ} {left rest : Cond} {parts parts' : List (Cond × ℕ)} {before now later : ℕ}
    → WalksTo old ends from index left parts before now → AreBlocks s items ends → index < length items → later ≡ now + 1 → (IsNever new rest.0 → IsBefore parts' index)
    → WalksTo new ends from (slice_index ends index) rest parts' before later
walks-more {T} {s} {old} {new} {items} {ends} {from} {index} {left} {rest} {parts} {parts'} {before} {now} {later} was are within one taken =
    let block = are.each index within in
    let next = slice_index ends index in
    record {
      begin = omega (arith, was.begin, block.behind);
      most = omega (arith, block.most, are.long);
      outside = λ g low high. elim (cases_lt g index) [
        | inl less ↦ omega (arith, was.outside g low less, block.behind)
        | inr more ↦ nested items ends index g are within more high
      ];
      counted =
          let P = is_outside ends from in
          let last : P (from + (index - from)) ≡ true = ap P (omega (arith, was.begin)) ∙ outside-passes ends from index was.outside in
          let more = passing-more P from (index - from) (next - from) (omega (arith, was.begin, block.behind)) last
          (λ i low high. inside-fails ends from index i was.begin (omega (arith, low)) (omega (arith, high, was.begin, block.behind)))
          in
          omega (arith, one, was.counted, more);
      needed = λ never i low high out. elim (cases_lt index i) [
        | inl less ↦ absurd (true≢false (sym out ∙ inside-fails ends from index i was.begin less high))
        | inr le ↦ before-less parts' i index le (taken never)
      ];
    }

-- the steps are the items that stand in no other block, where no part is behind the index
pub walk-counted : {s : Sets} {ends : List ℕ} {from index : ℕ} {left : Cond} {parts : List (Cond × ℕ)} {before now : ℕ} (last : List (Cond × ℕ)) → WalksTo s ends from index left parts before now
    → ((i : ℕ) → from ≤ i → i < index → is_outside ends from i ≡ true → IsBefore last i) → (index < length ends → All (λ part. part.1 < index) last) → now ≡ before + length (heads ends from last)
walk-counted {s} {ends} {from} {index} {before = before} last walk needed below =
    let P = is_outside ends from in
    let is_before : ℕ → Bool = λ i. list_any (λ (part : Cond × ℕ). nat_le i part.1) last in
    let same = passing-same P (λ i. is_before i && P i) from (index - from) (length ends - from) (omega (arith, walk.most))
    (λ i low high. both (is_before i) (P i) (needed i low (omega (arith, high, walk.begin))))
    (λ i low high.
    let parts = below (omega (arith, low, high, walk.begin)) in
    ap (λ b. b && P i) (list_any_none (λ (part : Cond × ℕ). nat_le i part.1) last
    (λ k d h. false_from_ne_true _ (λ le. omega (arith, low, walk.begin, parts k d h, leb-true i (get_or last k d).1 le)))))
    in
    walk.counted ∙ ap (λ is. before + length is) (sym same)
  where
    both : (a b : Bool) → (b ≡ true → a ≡ true) → (a && b) ≡ b
    both true b is = refl
    both false true is = is refl
    both false false is = refl

-- the walk has come to the end
pub walk-end : {s : Sets} {ends : List ℕ} {from index : ℕ} {left : Cond} {parts last : List (Cond × ℕ)} {before now : ℕ} (n : ℕ) → WalksTo s ends from index left parts before now → n ≡ length ends
    → n ≤ index → last ≡ parts ++ (left, n) ∷ [] → now ≡ before + length (heads ends from last)
walk-end {s} {ends} {from} {index} {left} {parts} {last} n walk end far is =
    walk-counted last walk
    (λ i low high out. subst (λ ps. IsBefore ps i) (sym is) (any-last (λ (part : Cond × ℕ). nat_le i part.1) parts (left, n) (le-leb i n (omega (arith, high, walk.most, end)))))
    (λ less. absurd (omega (arith, less, end, far)))

module _ {T : Type 0} where
  -- what comes next is behind items that don't have the configuration
  next_at-none : (s : Sets) (items : List (Cond × T)) (d : Cond × T) (c : List ℕ) (n i e : ℕ) → e ≡ i + n → e ≤ length items → ((k : ℕ) → i ≤ k → k < e → s.has (cond_at items k) c ≡ false)
      → i + next_at s (drop i items) c ≡ e + next_at s (drop e items) c
  next_at-none s items d c zero i e far within none = ap (λ i. i + next_at s (drop i items) c) (omega (arith, far))
  next_at-none s items d c (suc n) i e far within none =
      let below : i < length items = omega (arith, far, within) in
      let here : s.has (get_or items i d).0.0 c ≡ false = ap (λ a. s.has a c) (sym (cond_at-get items i d below)) ∙ none i (omega arith) (omega (arith, far)) in
      let next : next_at s (drop i items) c ≡ 1 + next_at s (drop (i + 1) items) c =
      ap (λ xs. next_at s xs c) (drop_more items i d below)
      ∙ (next_at-cons s (get_or items i d) (drop (i + 1) items) c ∙ ap (λ b. if b then 0 else 1 + next_at s (drop (i + 1) items) c) here)
      in
      omega (arith, next, next_at-none s items d c n (i + 1) e (omega (arith, far)) within (λ k from below. none k (omega (arith, from)) below))

  -- the part that the item of the index takes: what is left has nothing of the block
  pub parts-over : {first old new : Sets} {items : List (Cond × T)} {from : ℕ} {cond : Cond} {index end : ℕ} {left rest : Cond} {parts parts' : List (Cond × ℕ)} (item : Cond × T)
      → PartsTo first old items from cond index left parts → Keeps old new → All (λ (item : Cond × T). IsCond first item.0.0) items → IsBlock first items index end → item ≡ get_or items index item
      → ArePartsBelow new (index + 1) parts' → IsCond new rest.0
      → ((c : List ℕ) → IsConfig old.arities c → items_at new parts' c ≡ items_at old parts c ++ (if old.has left.0 c && old.has item.0.0 c then index ∷ [] else []))
      → ((c : List ℕ) → IsConfig old.arities c → new.has rest.0 c ≡ (old.has left.0 c && not (old.has item.0.0 c)))
      → PartsTo first new items from cond end rest parts'
  parts-over {first} {old} {new} {items} {from} {cond} {index} {end} {left} {rest} {parts} {parts'} item was keeps own block is are owned taken others =
      let within : index < length items = omega (arith, block.behind, block.most) in
      let more = parts-more item was keeps own within is are owned taken others in
      record {
        keeps = more.keeps;
        own = owned;
        are = ArePartsBelow-more (omega (arith, block.behind)) are;
        next = λ c listed.
            let same : first.has (cond_at items index) c ≡ old.has item.0.0 c =
            ap (λ a. first.has a c) (cond_at-get items index item within ∙ ap (λ (x : Cond × T). x.0.0) (sym is))
            ∙ sym (was.keeps.at item.0.0 c (subst (λ (x : Cond × T). IsCond first x.0.0) (sym is) (own index item within)) listed)
            in
            let none : new.has rest.0 c ≡ true → first.has (cond_at items index) c ≡ false =
            λ here. same ∙ outside (old.has left.0 c) (old.has item.0.0 c) (sym (others c (IsConfig-Keeps was.keeps listed)) ∙ here)
            in
            ap (λ ns. items_at new parts' c ++ ns)
            (one (new.has rest.0 c) (λ here.
            sym (next_at-none first items item c (end - (index + 1)) (index + 1) end (omega (arith, block.behind)) block.most (λ k low high. block-none items index end k c block (omega (arith, low)) high listed (none here)))))
            ∙ more.next c listed;
      }
    where
      one : {x y : ℕ} (b : Bool) → (b ≡ true → x ≡ y) → (if b then x ∷ [] else []) ≡ (if b then y ∷ [] else [])
      one true same = ap (λ n. n ∷ []) (same refl)
      one false same = refl

      outside : (l i : Bool) → (l && not i) ≡ true → i ≡ false
      outside true true is = sym is
      outside true false is = refl
      outside false i is = absurd (cc)
