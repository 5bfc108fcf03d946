-- Parts of a condition by the next item.
use Rattle.std.proofs.Common.{◌≡◌, ℕ, ◌+◌, ◌<◌, ◌≤◌, ◌&&◌, not, Bool, true, false, List, [], ◌∷◌, ◌++◌, All, drop, length, get_or, refl, ap, sym, ◌∙◌, subst, arith, if◌then◌else◌, append-nil}
use Rattle.std.proofs.lemmas.List.{drop_more, drop_all}
use Rattle.std.proofs.lemmas.List.Elements.{All-nil, All-push}
use Rattle.std.proofs.lemmas.List.Quantifiers.{all_pairs_push}
use Rattle.sc_base.specs.declared.id.Cond.{Cond}
use Rattle.sc_guarded.specs.Items.{items_at}
use Rattle.sc_guarded.specs.Next.{next_at, ArePartsBelow}
use Rattle.sc_guarded.proofs.ItemLemmas.{items_at-append, items_at-Keeps}
use Rattle.sc_model.proofs.SetLemmas.{Keeps-refl, Keeps-trans, IsConfig-Keeps}
use Rattle.sc_model.specs.Sets.{Sets, IsConfig, IsCond, Keeps, IsNever}

pub ArePartsBelow-nil : (s : Sets) (n : ℕ) → ArePartsBelow s n []
ArePartsBelow-nil s n = record {
  own = All-nil (λ (part : Cond × ℕ). IsCond s part.0.0);
  some = All-nil (λ (part : Cond × ℕ). IsNever s part.0.0 → ⊥);
  rising = λ i j d low high. absurd (omega arith);
  below = All-nil (λ (part : Cond × ℕ). part.1 < n);
}

-- parts stay parts as the store grows
pub ArePartsBelow-Keeps : {old new : Sets} {n : ℕ} {parts : List (Cond × ℕ)} → Keeps old new → ArePartsBelow old n parts → ArePartsBelow new n parts
ArePartsBelow-Keeps keeps were = record {
  own = λ k d h. keeps.own _ (were.own k d h);
  some = λ k d h never. were.some k d h (record { none = λ c listed. sym (keeps.at _ c (were.own k d h) listed) ∙ never.none c (IsConfig-Keeps keeps listed) });
  rising = were.rising;
  below = were.below;
}

-- parts with indices below a bound have them below a higher one
pub ArePartsBelow-more : {s : Sets} {n m : ℕ} {parts : List (Cond × ℕ)} → n ≤ m → ArePartsBelow s n parts → ArePartsBelow s m parts
ArePartsBelow-more {s} {n} {m} le were = record {
  own = were.own;
  some = were.some;
  rising = were.rising;
  below = λ k d h. omega (arith, were.below k d h);
}

-- one more part, with the index that the others are below
pub ArePartsBelow-push : {s : Sets} {n : ℕ} (parts : List (Cond × ℕ)) (part : Cond) → ArePartsBelow s n parts → IsCond s part.0 → (IsNever s part.0 → ⊥) → ArePartsBelow s (n + 1) (parts ++ (part, n) ∷ [])
ArePartsBelow-push {s} {n} parts part were own some = record {
  own = All-push (λ (part : Cond × ℕ). IsCond s part.0.0) parts (part, n) were.own own;
  some = All-push (λ (part : Cond × ℕ). IsNever s part.0.0 → ⊥) parts (part, n) were.some some;
  rising = all_pairs_push (λ (a b : Cond × ℕ). a.1 < b.1) parts (part, n) were.rising were.below;
  below = All-push (λ (part : Cond × ℕ). part.1 < n + 1) parts (part, n) (λ k d h. omega (arith, were.below k d h)) (omega arith);
}

-- what one more part adds at a configuration
pub items_at-part : {old new : Sets} (parts : List (Cond × ℕ)) (part : Cond) (n : ℕ) (b : Bool) (c : List ℕ) → Keeps old new → All (λ (part : Cond × ℕ). IsCond old part.0.0) parts
    → IsConfig old.arities c → new.has part.0 c ≡ b → items_at new (parts ++ (part, n) ∷ []) c ≡ items_at old parts c ++ (if b then n ∷ [] else [])
items_at-part {old} {new} parts part n b c keeps own listed test =
    items_at-append new parts ((part, n) ∷ []) c
    ∙ (ap (λ ns. ns ++ (if new.has part.0 c then n ∷ [] else [])) (items_at-Keeps parts c keeps own listed) ∙ ap (λ t. items_at old parts c ++ (if t then n ∷ [] else [])) test)

-- where there is no part, nothing is added
pub items_at-no_part : {old new : Sets} (parts : List (Cond × ℕ)) (n : ℕ) (b : Bool) (c : List ℕ) → Keeps old new → All (λ (part : Cond × ℕ). IsCond old part.0.0) parts
    → IsConfig old.arities c → b ≡ false → items_at new parts c ≡ items_at old parts c ++ (if b then n ∷ [] else [])
items_at-no_part {old} {new} parts n b c keeps own listed test =
    items_at-Keeps parts c keeps own listed ∙ (sym (append-nil (items_at old parts c)) ∙ ap (λ t. items_at old parts c ++ (if t then n ∷ [] else [])) (sym test))

-- a condition that has nothing in common with another is itself without that other
pub and-not_none : (a b : Bool) → (a && b) ≡ false → a ≡ (a && not b)
and-not_none true true none = none
and-not_none true false none = refl
and-not_none false b none = refl

-- the first item is the next one where it stands, and is passed over elsewhere
pub next_at-cons : {T : Type 0} (s : Sets) (x : Cond × T) (xs : List (Cond × T)) (c : List ℕ) → next_at s (x ∷ xs) c ≡ (if s.has x.0.0 c then 0 else 1 + next_at s xs c)
next_at-cons s x xs c = elim (s.has x.0.0 c) as (λ b. (if not b then 1 + next_at s xs c else 0) ≡ (if b then 0 else 1 + next_at s xs c)) [ true ↦ refl | false ↦ refl ]

-- one item: where it takes the configuration its index is the answer, and elsewhere the answer is
-- that of the rest
next_step : (left here : Bool) (found found' answer : List ℕ) (i n n' : ℕ) → found ++ (if left then (i + n) ∷ [] else []) ≡ answer → n ≡ (if here then 0 else 1 + n')
    → found' ≡ found ++ (if left && here then i ∷ [] else []) → found' ++ (if left && not here then (i + 1 + n') ∷ [] else []) ≡ answer
next_step true true found found' answer i n n' was next more =
    let at : i ≡ i + n = omega (arith, next) in
    append-nil found' ∙ (more ∙ (ap (λ k. found ++ k ∷ []) at ∙ was))
next_step true false found found' answer i n n' was next more =
    let at : i + 1 + n' ≡ i + n = omega (arith, next) in
    ap (λ ns. ns ++ (i + 1 + n') ∷ []) (more ∙ append-nil found) ∙ (ap (λ k. found ++ k ∷ []) at ∙ was)
next_step false here found found' answer i n n' was next more = append-nil found' ∙ (more ∙ was)

-- the same at a configuration of an item in a list
next_more : {T : Type 0} (first old new : Sets) (items : List (Cond × T)) (i : ℕ) (item : Cond × T) (left rest : Cond) (parts parts' : List (Cond × ℕ)) (answer : List ℕ) (c : List ℕ) → i < length items
    → item ≡ get_or items i item → Keeps first old → IsCond first item.0.0 → IsConfig first.arities c
    → items_at old parts c ++ (if old.has left.0 c then (i + next_at first (drop i items) c) ∷ [] else []) ≡ answer
    → items_at new parts' c ≡ items_at old parts c ++ (if old.has left.0 c && old.has item.0.0 c then i ∷ [] else [])
    → new.has rest.0 c ≡ (old.has left.0 c && not (old.has item.0.0 c))
    → items_at new parts' c ++ (if new.has rest.0 c then (i + 1 + next_at first (drop (i + 1) items) c) ∷ [] else []) ≡ answer
next_more {T} first old new items i item left rest parts parts' answer c within is keeps own listed was taken others =
    let same : old.has item.0.0 c ≡ first.has item.0.0 c = keeps.at _ c own listed in
    let front : drop i items ≡ item ∷ drop (i + 1) items = drop_more items i item within ∙ ap (λ x. x ∷ drop (i + 1) items) (sym is) in
    let next : next_at first (drop i items) c ≡ (if old.has item.0.0 c then 0 else 1 + next_at first (drop (i + 1) items) c) =
    ap (λ xs. next_at first xs c) front ∙ (next_at-cons first item (drop (i + 1) items) c ∙ ap (λ b. if b then 0 else 1 + next_at first (drop (i + 1) items) c) (sym same)) in
    ap (λ b. items_at new parts' c ++ (if b then (i + 1 + next_at first (drop (i + 1) items) c) ∷ [] else [])) others
    ∙ next_step (old.has left.0 c) (old.has item.0.0 c) (items_at old parts c) (items_at new parts' c) answer i (next_at first (drop i items) c) (next_at first (drop (i + 1) items) c) was next taken

-- nothing is left
next_none : (left : Bool) (found answer : List ℕ) (n : ℕ) → left ≡ false → found ++ (if left then n ∷ [] else []) ≡ answer → found ≡ answer
next_none left found answer n none was = sym (append-nil found) ∙ (ap (λ b. found ++ (if b then n ∷ [] else [])) (sym none) ∙ was)

-- no item is left
next_end : {T : Type 0} (s : Sets) (items : List (Cond × T)) (i : ℕ) (c : List ℕ) → i ≡ length items → i + next_at s (drop i items) c ≡ length items
next_end s items i c end =
    let past : length items ≤ i = omega arith in
    let none : next_at s (drop i items) c ≡ 0 = ap (λ xs. next_at s xs c) (drop_all i items past) in
    omega (arith, none)

-- the parts of a condition by the items from an index on and before another, and what is left
pub record PartsTo {T : Type 0} (first now : Sets) (items : List (Cond × T)) (from : ℕ) (cond : Cond) (index : ℕ) (left : Cond) (parts : List (Cond × ℕ)) : Type 0 where
  pub keeps : Keeps first now
  pub own : IsCond now left.0
  pub are : ArePartsBelow now index parts
  pub next : (c : List ℕ) → IsConfig first.arities c → items_at now parts c ++ (if now.has left.0 c then (index + next_at first (drop index items) c) ∷ [] else [])
      ≡ (if first.has cond.0 c then (from + next_at first (drop from items) c) ∷ [] else [])

module _ {T : Type 0} {first : Sets} {items : List (Cond × T)} {from : ℕ} {cond : Cond} where
  pub parts-none : {parts : List (Cond × ℕ)} → IsCond first cond.0 → parts ≡ [] → PartsTo first first items from cond from cond parts
  parts-none own none = record {
    keeps = Keeps-refl first;
    own = own;
    are = subst (ArePartsBelow first from) (sym none) (ArePartsBelow-nil first from);
    next = λ c listed. ap (λ (ps : List (Cond × ℕ)). items_at first ps c ++ (if first.has cond.0 c then (from + next_at first (drop from items) c) ∷ [] else [])) none;
  }

  -- the part that the item of the index takes
  pub parts-more : {old new : Sets} {index : ℕ} {left rest : Cond} {parts parts' : List (Cond × ℕ)} (item : Cond × T) → PartsTo first old items from cond index left parts → Keeps old new
      → All (λ (item : Cond × T). IsCond first item.0.0) items → index < length items → item ≡ get_or items index item → ArePartsBelow new (index + 1) parts' → IsCond new rest.0
      → ((c : List ℕ) → IsConfig old.arities c → items_at new parts' c ≡ items_at old parts c ++ (if old.has left.0 c && old.has item.0.0 c then index ∷ [] else []))
      → ((c : List ℕ) → IsConfig old.arities c → new.has rest.0 c ≡ (old.has left.0 c && not (old.has item.0.0 c)))
      → PartsTo first new items from cond (index + 1) rest parts'
  parts-more {old} {new} {index} {left} {rest} {parts} {parts'} item was keeps own within is are owned taken others = record {
    keeps = Keeps-trans was.keeps keeps;
    own = owned;
    are = are;
    next = λ c listed.
        let here = IsConfig-Keeps was.keeps listed in
        next_more first old new items index item left rest parts parts' _ c within is was.keeps (subst (λ (item : Cond × T). IsCond first item.0.0) (sym is) (own index item within)) listed
        (was.next c listed) (taken c here) (others c here);
  }

  module _ {now : Sets} {index : ℕ} {left : Cond} {parts : List (Cond × ℕ)} (was : PartsTo first now items from cond index left parts) where
    -- nothing is left
    pub parts-all : IsNever now left.0 → (c : List ℕ) → IsConfig first.arities c → items_at now parts c ≡ (if first.has cond.0 c then (from + next_at first (drop from items) c) ∷ [] else [])
    parts-all never c listed = next_none _ _ _ _ (never.none c (IsConfig-Keeps was.keeps listed)) (was.next c listed)

    -- the part that no item takes
    pub parts-last : {last : List (Cond × ℕ)} → index ≡ length items → last ≡ parts ++ (left, length items) ∷ [] → (c : List ℕ) → IsConfig first.arities c
        → items_at now last c ≡ (if first.has cond.0 c then (from + next_at first (drop from items) c) ∷ [] else [])
    parts-last {last} end is c listed =
        let n = length items in
        ap (λ (ps : List (Cond × ℕ)). items_at now ps c) is
        ∙ (items_at-part parts left n (now.has left.0 c) c (Keeps-refl now) was.are.own (IsConfig-Keeps was.keeps listed) refl
        ∙ (ap (λ (k : ℕ). items_at now parts c ++ (if now.has left.0 c then k ∷ [] else [])) (sym (next_end first items index c end)) ∙ was.next c listed))

    pub parts-last-are : {last : List (Cond × ℕ)} → index ≡ length items → (IsNever now left.0 → ⊥) → last ≡ parts ++ (left, length items) ∷ [] → ArePartsBelow now (length items + 1) last
    parts-last-are {last} end some is =
        subst (ArePartsBelow now (length items + 1)) (sym is) (ArePartsBelow-push parts left (ArePartsBelow-more (omega (arith, end)) was.are) was.own some)
