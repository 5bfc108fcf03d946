-- The productions that can be reduced, in rising order.
use Rattle.std.proofs.Common.{◌≡◌, ◌<◌, ◌≤◌, ◌+◌, ℕ, Bool, true, cond, List, [], ◌∷◌, ◌++◌, length, get_or, slice_index, take, drop, count_by, option_and_then, None, All, refl, sym, ap, ◌∙◌, subst, arith}
use Rattle.std.specs.List.{Contains}
use Rattle.std.specs.List.Sorted.{IsStrictlyIncreasing}
use Rattle.std.proofs.lemmas.List.{get_or-map, take-append-drop, take-take}
use Rattle.std.proofs.lemmas.List.Elements.{Contains-append_left, All-contains}
use Rattle.std.proofs.lemmas.List.Sums.{count_by_more_yes, sum_by-append}
use Rattle.std.proofs.lemmas.Option.{slice_get-get_or, none-some}
use Rattle.lr_tables.specs.Grammar.{after, right_in, is_left, production_at, symbol_number}
use Rattle.lr_tables.specs.declared.grammar.Grammar.{Grammar}
use Rattle.lr_tables.specs.declared.grammar.Entry.{Entry}
use Rattle.lr_tables.specs.declared.grammar.Entry.TheVariants.{Left, Right}
use Rattle.lr_tables.proofs.Members.{slice_some}
use Rattle.sc_items.proofs.Listing.{IsCollected, IsCollected-kept, IsCollected-left, IsCollected-none, rising-collected, rising-none}
use Rattle.sc_lalr.specs.Marks.{HasMark}
use Rattle.sc_items.specs.Kernel.{IsListOf}
use Rattle.sc_items.specs.States.{HasItem}
use Rattle.sc_lalr.specs.Tables.{AreEnds, EndsIn, IsAtEnd}

-- ---- a later item has a later production
count_take_le : {A : Type 0} (p : A → Bool) (xs : List A) (m n : ℕ) → m ≤ n → count_by p (take m xs) ≤ count_by p (take n xs)
count_take_le {A} p xs m n h =
    let split : count_by p (take n xs) ≡ count_by p (take m xs) + count_by p (drop m (take n xs)) =
    ap (count_by p) (sym (take-append-drop m (take n xs))) ∙ sum_by-append (λ (x : A). cond (p x) 1 0) (take m (take n xs)) (drop m (take n xs)) ∙ ap (λ zs. count_by p zs + count_by p (drop m (take n xs))) (take-take m n xs h) in
    omega (arith, split)

left_from_none : (t : ℕ) (e : Entry) → right_in t e ≡ None → is_left e ≡ true
left_from_none t (Left n mark) h = refl
left_from_none t (Right x) h = absurd (none-some (symbol_number t x) (sym h))

left_next : (g : Grammar) (i : ℕ) (d : Entry) → i + 1 < length g.entries.now → after g i ≡ None → is_left (get_or g.entries.now (i + 1) d) ≡ true
left_next g i d within h =
    let at = slice_get-get_or g.entries.now (i + 1) d within in
    left_from_none g.terminals (get_or g.entries.now (i + 1) d) (sym (ap (λ o. option_and_then (right_in g.terminals) o) at) ∙ h)

production_less : (g : Grammar) (i j : ℕ) → after g i ≡ None → i < j → j < length g.entries.now → production_at g i < production_at g j
production_less g i j h lower within =
    let d = get_or g.entries.now j (first_of_list g j within) in
    let next : i + 1 < length g.entries.now = omega arith in
    let one = count_by_more_yes is_left g.entries.now (i + 1) d next (left_next g i d next h) in
    let rest = count_take_le is_left g.entries.now (i + 1 + 1) (j + 1) (omega arith) in
    omega (arith, one, rest)
  where
    first_of_list : (g : Grammar) (j : ℕ) → j < length g.entries.now → Entry
    first_of_list g j within = (slice_some g.entries.now j within).0

take_member : (xs : List ℕ) (k v : ℕ) → Contains (take k xs) v → Contains xs v
take_member xs k v h = subst (λ zs. Contains zs v) (take-append-drop k xs) (Contains-append_left (take k xs) (drop k xs) v h)

-- ---- the productions of the first items
abbrev pub MarkedWith : Grammar → List ℕ → ℕ → List ℕ → ℕ → ℕ → ℕ → Type 0
MarkedWith g words b numbers base i p = HasMark words b (slice_index numbers (base + i)) × (production_at g i ≡ p)

pub record MarkedSoFar (g : Grammar) (words : List ℕ) (b : ℕ) (numbers : List ℕ) (base : ℕ) (items found : List ℕ) : Type 0 where
  pub rising : IsStrictlyIncreasing found
  pub collected : IsCollected (MarkedWith g words b numbers base) items found

pub MarkedSoFar-none : (g : Grammar) (words : List ℕ) (b : ℕ) (numbers : List ℕ) (base : ℕ) → MarkedSoFar g words b numbers base [] []
MarkedSoFar-none g words b numbers base = record { rising = rising-none; collected = IsCollected-none (MarkedWith g words b numbers base) }

pub MarkedSoFar-left : (g : Grammar) (words : List ℕ) (b : ℕ) (numbers : List ℕ) (base k : ℕ) (items found : List ℕ) → k < length items → MarkedSoFar g words b numbers base (take k items) found → (HasMark words b (slice_index numbers (base + get_or items k 0)) → ⊥) → MarkedSoFar g words b numbers base (take (k + 1) items) found
MarkedSoFar-left g words b numbers base k items found k_in h not =
    record { rising = h.rising; collected = IsCollected-left (MarkedWith g words b numbers base) items found k k_in h.collected (λ p r. not r.0) }

pub MarkedSoFar-kept : (g : Grammar) (words : List ℕ) (b : ℕ) (numbers : List ℕ) (base k : ℕ) (items found : List ℕ) → IsStrictlyIncreasing items → All (λ i. i < length g.entries.now) items → All (IsAtEnd g) items → k < length items → MarkedSoFar g words b numbers base (take k items) found → HasMark words b (slice_index numbers (base + get_or items k 0)) → MarkedSoFar g words b numbers base (take (k + 1) items) (found ++ production_at g (get_or items k 0) ∷ [])
MarkedSoFar-kept g words b numbers base k items found inc within ends k_in h has_mark = record {
  rising = rising-collected (MarkedWith g words b numbers base) items found k (production_at g (get_or items k 0)) inc k_in h.collected h.rising below;
  collected = IsCollected-kept (MarkedWith g words b numbers base) items found k (production_at g (get_or items k 0)) k_in h.collected (has_mark, refl) (λ p r. r.1);
}
  where
    below : (i p : ℕ) → Contains (take k items) i → i < get_or items k 0 → MarkedWith g words b numbers base i p → p < production_at g (get_or items k 0)
    below i p w lower r =
        let end = All-contains (IsAtEnd g) items i ends (take_member items k i w) in
        let less = production_less g i (get_or items k 0) end.none lower (within k 0 k_in) in
        omega (arith, less, r.1)

-- the same, by the productions that were made of the items before
pub MarkedSoFar-next : (g : Grammar) (words : List ℕ) (b : ℕ) (numbers : List ℕ) (base k : ℕ) (items produced found : List ℕ) → AreEnds g items produced → k < length items → MarkedSoFar g words b numbers base (take k items) found → HasMark words b (slice_index numbers (base + get_or items k 0)) → MarkedSoFar g words b numbers base (take (k + 1) items) (found ++ slice_index produced k ∷ [])
MarkedSoFar-next g words b numbers base k items produced found ends k_in h has_mark =
    let here : slice_index produced k ≡ production_at g (get_or items k 0) = ap (λ zs. slice_index zs k) ends.produced_are ∙ get_or-map (production_at g) items k 0 0 k_in in
    rw here (MarkedSoFar-kept g words b numbers base k items found ends.rising ends.within ends.at_end k_in h has_mark)

-- ---- the ends among the first items
abbrev pub EndsAt : Grammar → ℕ → ℕ → Type 0
EndsAt g i j = (after g i ≡ None) × (i ≡ j)

pub record EndsSoFar (g : Grammar) (items ends : List ℕ) : Type 0 where
  pub rising : IsStrictlyIncreasing ends
  pub collected : IsCollected (EndsAt g) items ends

pub EndsSoFar-none : (g : Grammar) → EndsSoFar g [] []
EndsSoFar-none g = record { rising = rising-none; collected = IsCollected-none (EndsAt g) }

pub EndsSoFar-left : (g : Grammar) (items ends : List ℕ) (k : ℕ) → k < length items → EndsSoFar g (take k items) ends → (after g (get_or items k 0) ≡ None → ⊥) → EndsSoFar g (take (k + 1) items) ends
EndsSoFar-left g items ends k k_in h not = record { rising = h.rising; collected = IsCollected-left (EndsAt g) items ends k k_in h.collected (λ j r. not r.0) }

pub EndsSoFar-kept : (g : Grammar) (items ends : List ℕ) (k : ℕ) → IsStrictlyIncreasing items → k < length items → EndsSoFar g (take k items) ends → after g (get_or items k 0) ≡ None → EndsSoFar g (take (k + 1) items) (ends ++ get_or items k 0 ∷ [])
EndsSoFar-kept g items ends k inc k_in h end = record {
  rising = rising-collected (EndsAt g) items ends k (get_or items k 0) inc k_in h.collected h.rising (λ i j w lower r. omega (arith, r.1, lower));
  collected = IsCollected-kept (EndsAt g) items ends k (get_or items k 0) k_in h.collected (end, refl) (λ j r. r.1);
}

pub EndsSoFar-done : (g : Grammar) (states : List (List ℕ)) (s : ℕ) (items ends : List ℕ) → IsListOf (length g.entries.now) (HasItem g states s) items → EndsSoFar g items ends → IsListOf (length g.entries.now) (EndsIn g states s) ends
EndsSoFar-done g states s items ends are h = record {
  rising = h.rising;
  below = λ i w. let o = h.collected.sound i w in subst (λ z. z < length g.entries.now) o.2.1 (are.below o.0 o.1);
  sound = λ i w. let o = h.collected.sound i w in subst (EndsIn g states s) o.2.1 (record { has = are.sound o.0 o.1; at_end = o.2.0 });
  complete = λ i i_in e. h.collected.complete i i (are.complete i i_in e.has) (e.at_end, refl);
}
