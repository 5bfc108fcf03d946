-- Lists of the numbers of which a fact holds.
use Rattle.std.proofs.Common.{◌≡◌, ◌<◌, ◌≤◌, ◌+◌, ◌⊎◌, ℕ, List, [], ◌∷◌, ◌++◌, length, get_or, take, inl, inr, sym, ◌∙◌, subst, arith}
use Rattle.std.specs.List.{Contains}
use Rattle.std.specs.List.Sorted.{IsStrictlyIncreasing}
use Rattle.std.proofs.lemmas.List.{get_or_append_left, get_or_push, length_push, take_more, get_or-take, length-take-le, get_or_default, take_all}
use Rattle.std.proofs.lemmas.List.Elements.{Contains-push, Contains-append_left, Contains-push_cases, Contains-get_or}
use Rattle.std.proofs.lemmas.Map.Keys.{below_from_sorted, sorted_from_strictly_increasing}
use Rattle.std.proofs.lemmas.Bool.{cases_lt}
use Rattle.lr_tables.proofs.Members.{no_member}
use Rattle.sc_items.specs.Kernel.{IsListOf}

-- a greater number goes to the end
pub rising-push : (xs : List ℕ) (z : ℕ) → IsStrictlyIncreasing xs → ((y : ℕ) → Contains xs y → y < z) → IsStrictlyIncreasing (xs ++ z ∷ [])
rising-push xs z inc above = λ k h.
    let long = length_push xs z in
    elim (cases_lt (k + 1) (length xs)) [
      | inl a ↦ rw (get_or_append_left xs (z ∷ []) 0 k (omega arith), get_or_append_left xs (z ∷ []) 0 (k + 1) a) (inc k a)
      | inr b ↦ rw (get_or_append_left xs (z ∷ []) 0 k (omega (arith, long, h)), get_or_push xs z 0 (k + 1) (omega (arith, long, h))) (above (get_or xs k 0) (Contains-get_or xs k 0 (omega (arith, long, h))))
    ]

pub rising-none : IsStrictlyIncreasing []
rising-none = λ k h. omega (arith, h)

pub IsListOf-none : (P : ℕ → Type 0) → IsListOf 0 P []
IsListOf-none P = record {
  rising = rising-none;
  below = λ i h. absurd (no_member i h);
  sound = λ i h. absurd (no_member i h);
  complete = λ i h p. absurd (omega (arith, h));
}

pub IsListOf-empty : (P : ℕ → Type 0) (n : ℕ) → ((i : ℕ) → P i → ⊥) → IsListOf n P []
IsListOf-empty P n none = record {
  rising = rising-none;
  below = λ i h. absurd (no_member i h);
  sound = λ i h. absurd (no_member i h);
  complete = λ i h p. absurd (none i p);
}

pub IsListOf-skip : (P : ℕ → Type 0) (n : ℕ) (xs : List ℕ) → IsListOf n P xs → (P n → ⊥) → IsListOf (n + 1) P xs
IsListOf-skip P n xs h not = record {
  rising = h.rising;
  below = λ i w. omega (arith, h.below i w);
  sound = h.sound;
  complete = λ i w p. elim (cases_lt i n) [ inl a ↦ h.complete i a p | inr b ↦ absurd (not (subst P (same i w b) p)) ];
}
  where
    same : (i : ℕ) → i < n + 1 → n ≤ i → i ≡ n
    same i a b = omega arith

pub IsListOf-push : (P : ℕ → Type 0) (n : ℕ) (xs : List ℕ) → IsListOf n P xs → P n → IsListOf (n + 1) P (xs ++ n ∷ [])
IsListOf-push P n xs h one = record {
  rising = rising-push xs n h.rising h.below;
  below = λ i w. elim (Contains-push_cases xs n i w) [ inl a ↦ omega (arith, h.below i a) | inr e ↦ omega arith ];
  sound = λ i w. elim (Contains-push_cases xs n i w) [ inl a ↦ h.sound i a | inr e ↦ subst P e one ];
  complete = λ i w p. elim (cases_lt i n) [ inl a ↦ Contains-append_left xs (n ∷ []) i (h.complete i a p) | inr b ↦ subst (Contains (xs ++ n ∷ [])) (same i w b) (Contains-push xs n) ];
}
  where
    same : (i : ℕ) → i < n + 1 → n ≤ i → n ≡ i
    same i a b = omega arith

-- the step of a loop that keeps the number
pub IsListOf-kept : (P : ℕ → Type 0) (n : ℕ) (xs ys : List ℕ) → IsListOf n P xs → ys ≡ xs ++ n ∷ [] → P n → IsListOf (n + 1) P ys
IsListOf-kept P n xs ys h e one = subst (λ zs. IsListOf (n + 1) P zs) (sym e) (IsListOf-push P n xs h one)

-- the step of a loop that leaves the number out
pub IsListOf-left : (P : ℕ → Type 0) (n : ℕ) (xs ys : List ℕ) → IsListOf n P xs → ys ≡ xs → (P n → ⊥) → IsListOf (n + 1) P ys
IsListOf-left P n xs ys h e not = subst (λ zs. IsListOf (n + 1) P zs) (sym e) (IsListOf-skip P n xs h not)

pub IsListOf-done : (P : ℕ → Type 0) (n m : ℕ) (xs : List ℕ) → n ≤ m → m ≤ n → IsListOf n P xs → IsListOf m P xs
IsListOf-done P n m xs a b h = let e : n ≡ m = omega arith in subst (λ k. IsListOf k P xs) e h

-- an item of the first k + 1 items of a list is one of the first k, or the next one
pub take-more_cases : (xs : List ℕ) (k v : ℕ) → k < length xs → Contains (take (k + 1) xs) v → Contains (take k xs) v ⊎ (get_or xs k 0 ≡ v)
take-more_cases xs k v within h = Contains-push_cases (take k xs) (get_or xs k 0) v (subst (λ ys. Contains ys v) (take_more xs k 0 within) h)

pub take-more_old : (xs : List ℕ) (k v : ℕ) → k < length xs → Contains (take k xs) v → Contains (take (k + 1) xs) v
take-more_old xs k v within h = subst (λ ys. Contains ys v) (sym (take_more xs k 0 within)) (Contains-append_left (take k xs) (get_or xs k 0 ∷ []) v h)

pub take-more_new : (xs : List ℕ) (k : ℕ) → k < length xs → Contains (take (k + 1) xs) (get_or xs k 0)
take-more_new xs k within = subst (λ ys. Contains ys (get_or xs k 0)) (sym (take_more xs k 0 within)) (Contains-push (take k xs) (get_or xs k 0))

-- in a rising list the items before a place are below the one at it
pub take-below : (xs : List ℕ) (k v : ℕ) → IsStrictlyIncreasing xs → k < length xs → Contains (take k xs) v → v < get_or xs k 0
take-below xs k v inc within h =
    let long = length-take-le k xs (omega arith) in
    let e : get_or xs h.0 v ≡ v = sym (get_or-take k xs h.0 v (omega (arith, h.1, long))) ∙ h.2 in
    let f : get_or xs h.0 0 ≡ v = get_or_default xs h.0 0 v (omega (arith, h.1, long)) ∙ e in
    subst (λ y. y < get_or xs k 0) f (below_from_sorted xs h.0 k 0 (sorted_from_strictly_increasing xs inc) (omega (arith, h.1, long)) within)

-- ---- what a loop collects: the values to which the first items of a list are related
pub record IsCollected (relates : ℕ → ℕ → Type 0) (items found : List ℕ) : Type 0 where
  pub sound : (v : ℕ) → Contains found v → (i : ℕ) × Contains items i × relates i v
  pub complete : (i v : ℕ) → Contains items i → relates i v → Contains found v

pub IsCollected-none : (relates : ℕ → ℕ → Type 0) → IsCollected relates [] []
IsCollected-none relates = record { sound = λ v w. absurd (no_member v w); complete = λ i v w r. absurd (no_member i w) }

pub IsCollected-left : (relates : ℕ → ℕ → Type 0) (items found : List ℕ) (k : ℕ) → k < length items → IsCollected relates (take k items) found
    → ((v : ℕ) → relates (get_or items k 0) v → ⊥) → IsCollected relates (take (k + 1) items) found
IsCollected-left relates items found k k_in h not = record {
  sound = λ v w. let o = h.sound v w in (o.0, take-more_old items k o.0 k_in o.1, o.2);
  complete = λ i v w r. elim (take-more_cases items k i k_in w) [ inl a ↦ h.complete i v a r | inr e ↦ absurd (not v (subst (λ j. relates j v) (sym e) r)) ];
}

pub IsCollected-kept : (relates : ℕ → ℕ → Type 0) (items found : List ℕ) (k x : ℕ) → k < length items → IsCollected relates (take k items) found
    → relates (get_or items k 0) x → ((v : ℕ) → relates (get_or items k 0) v → x ≡ v) → IsCollected relates (take (k + 1) items) (found ++ x ∷ [])
IsCollected-kept relates items found k x k_in h one only = record {
  sound = λ v w. elim (Contains-push_cases found x v w) [
    | inl a ↦ (let o = h.sound v a in (o.0, take-more_old items k o.0 k_in o.1, o.2))
    | inr e ↦ (get_or items k 0, take-more_new items k k_in, subst (relates (get_or items k 0)) e one)
  ];
  complete = λ i v w r. elim (take-more_cases items k i k_in w) [
    | inl a ↦ Contains-append_left found (x ∷ []) v (h.complete i v a r)
    | inr e ↦ subst (Contains (found ++ x ∷ [])) (only v (subst (λ j. relates j v) (sym e) r)) (Contains-push found x)
  ];
}

pub IsCollected-done : (relates : ℕ → ℕ → Type 0) (items found : List ℕ) (k : ℕ) → length items ≤ k → IsCollected relates (take k items) found → IsCollected relates items found
IsCollected-done relates items found k all h = subst (λ xs. IsCollected relates xs found) (take_all k items all) h

-- they rise where those of later items are greater
pub rising-collected : (relates : ℕ → ℕ → Type 0) (items found : List ℕ) (k x : ℕ) → IsStrictlyIncreasing items → k < length items → IsCollected relates (take k items) found
    → IsStrictlyIncreasing found → ((i v : ℕ) → Contains (take k items) i → i < get_or items k 0 → relates i v → v < x) → IsStrictlyIncreasing (found ++ x ∷ [])
rising-collected relates items found k x inc k_in h rising below =
    rising-push found x rising (λ v w. let o = h.sound v w in below o.0 v o.1 (take-below items k o.0 inc k_in o.1) o.2)
