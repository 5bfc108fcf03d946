-- Faults in another order, and faults of one pair as one.
use Rattle.std.proofs.Common.{◌≡◌, ℕ, zero, suc, ◌+◌, ◌<◌, ◌≤◌, ◌⊎◌, inl, inr, ◌||◌, Bool, true, false, List, [], ◌∷◌, ◌++◌, length, map, take, slice_get, get_or, Some, All, Contains, refl, sym, ap, subst, ◌∙◌, arith, append-nil, length-append, if◌then◌else◌}
use Rattle.std.specs.List.Sorted.{IsPermutation}
use Rattle.std.specs.List.{sum_by}
use Rattle.std.proofs.lemmas.List.{map-append, length-map}
use Rattle.std.proofs.lemmas.List.Sorted.{Contains-permutation, IsPermutation-sym, sum_by-IsPermutation}
use Rattle.std.proofs.lemmas.List.Sums.{sum_by-cons}
use Rattle.sc_base.specs.declared.fault.Fault.{Fault}
use Rattle.sc_base.specs.declared.id.Cond.{Cond}
use Rattle.sc_guarded.specs.Items.{faults_at, seen_fault}
use Rattle.sc_guarded.proofs.ItemLemmas.{map-one, faults_at-append, faults_at-Keeps}
use Rattle.sc_model.specs.Fault as model
use Rattle.sc_model.specs.Sets.{Sets, IsConfig, IsCond, Denotes, Keeps}
use Rattle.sc_model.proofs.SetLemmas.{IsConfig-kept, IsConfig-Keeps}
use Rattle.sc_guarded.specs.Printable.{AreApart}
use Rattle.sc_show.proofs.TokensShows.{when, faults_more}

-- an item stands in a list
In : {X : Type 0} → X → List X → Type 0
In x [] = ⊥
In x (y ∷ ys) = (x ≡ y) ⊎ In x ys

In-Contains : {X : Type 0} (x : X) (xs : List X) → Contains xs x → In x xs
unfolding In
In-Contains x [] has = absurd (omega (arith, has.1))
In-Contains {X} x (y ∷ ys) has = by has.0 has.1 has.2 (In-Contains x ys)
  where
    by : (k : ℕ) → k < length (y ∷ ys) → get_or (y ∷ ys) k x ≡ x → (Contains ys x → In x ys) → (x ≡ y) ⊎ In x ys
    by zero h e ih = inl (sym e)
    by (suc k) h e ih = inr (ih (k, (let h2 : k < length ys = omega arith in h2), e))

Contains-In : {X : Type 0} (x : X) (xs : List X) → In x xs → Contains xs x
unfolding In
Contains-In x [] at = absurd at
Contains-In x (y ∷ ys) (inl e) = (0, (let h : 0 < length (y ∷ ys) = omega arith in h), sym e)
Contains-In x (y ∷ ys) (inr at) = let has = Contains-In x ys at in (suc has.0, (let h : suc has.0 < length (y ∷ ys) = omega (arith, has.1) in h), has.2)

In-faults_at : (s : Sets) (xs : List Fault) (c : List ℕ) (x : Fault) → In x xs → s.has x.cond.0 c ≡ true → In x (faults_at s xs c)
unfolding In
In-faults_at s [] c x at has = absurd at
In-faults_at s (y ∷ ys) c x (inl e) has = by (s.has y.cond.0 c) (ap (λ (z : Fault). s.has z.cond.0 c) (sym e) ∙ has)
  where
    by : (b : Bool) → b ≡ true → In x (if b then y ∷ faults_at s ys c else faults_at s ys c)
    by true h = inl e
    by false h = absurd (cc)
In-faults_at s (y ∷ ys) c x (inr at) has = by (s.has y.cond.0 c) (In-faults_at s ys c x at has)
  where
    by : (b : Bool) → In x (faults_at s ys c) → In x (if b then y ∷ faults_at s ys c else faults_at s ys c)
    by true ih = inr ih
    by false ih = ih

faults_at-In : (s : Sets) (xs : List Fault) (c : List ℕ) (x : Fault) → In x (faults_at s xs c) → In x xs × (s.has x.cond.0 c ≡ true)
unfolding In
faults_at-In s [] c x at = absurd at
faults_at-In s (y ∷ ys) c x at = by (s.has y.cond.0 c) refl (faults_at-In s ys c x) at
  where
    by : (b : Bool) → s.has y.cond.0 c ≡ b → (In x (faults_at s ys c) → In x ys × (s.has x.cond.0 c ≡ true))
        → In x (if b then y ∷ faults_at s ys c else faults_at s ys c) → In x (y ∷ ys) × (s.has x.cond.0 c ≡ true)
    by true has ih (inl e) = (inl e, ap (λ (z : Fault). s.has z.cond.0 c) e ∙ has)
    by true has ih (inr at) = let more = ih at in (inr more.0, more.1)
    by false has ih at = let more = ih at in (inr more.0, more.1)

-- two lists of at most one item are the same if one's items are the other's
same_short : {X : Type 0} (xs ys : List X) → length ys ≡ length xs → length xs ≤ 1 → ((x : X) → In x ys → In x xs) → ys ≡ xs
unfolding In
same_short [] [] e short each = refl
same_short [] (y ∷ ys) e short each = absurd (omega arith)
same_short (x ∷ xs) [] e short each = absurd (omega arith)
same_short (x ∷ []) (y ∷ []) e short each = by (each y (inl refl))
  where
    by : (y ≡ x) ⊎ ⊥ → y ∷ [] ≡ x ∷ []
    by (inl e) = ap (λ z. z ∷ []) e
    by (inr never) = absurd never
same_short (x ∷ []) (y ∷ z ∷ ys) e short each = absurd (omega arith)
same_short (x ∷ w ∷ xs) (y ∷ ys) e short each = absurd (omega arith)

abbrev one_at : Sets → List ℕ → Fault → ℕ
one_at s c f = if s.has f.cond.0 c then 1 else 0

length-faults_at : (s : Sets) (xs : List Fault) (c : List ℕ) → length (faults_at s xs c) ≡ sum_by (one_at s c) xs
length-faults_at s [] c = refl
length-faults_at s (x ∷ xs) c = by (s.has x.cond.0 c) (length-faults_at s xs c) ∙ sym (sum_by-cons (one_at s c) x xs)
  where
    by : (b : Bool) → length (faults_at s xs c) ≡ sum_by (one_at s c) xs → length (if b then x ∷ faults_at s xs c else faults_at s xs c) ≡ (if b then 1 else 0) + sum_by (one_at s c) xs
    by true ih = omega (arith, ih)
    by false ih = omega (arith, ih)

-- the order makes no difference where there is one fault
pub faults_at-permutation : (s : Sets) (xs ys : List Fault) (c : List ℕ) → IsPermutation xs ys → length (faults_at s xs c) ≤ 1 → faults_at s ys c ≡ faults_at s xs c
faults_at-permutation s xs ys c moved few =
    let long : length (faults_at s ys c) ≡ length (faults_at s xs c) =
    length-faults_at s ys c ∙ sum_by-IsPermutation (one_at s c) xs ys moved ∙ sym (length-faults_at s xs c) in
    same_short (faults_at s xs c) (faults_at s ys c) long few (λ x at.
    let found = faults_at-In s ys c x at in
    In-faults_at s xs c x (In-Contains x xs (Contains-permutation ys xs x (IsPermutation-sym xs ys moved) (Contains-In x ys found.0))) found.1)

pub AreApart-permutation : {s : Sets} (xs ys : List Fault) → IsPermutation xs ys → AreApart s xs → AreApart s ys
AreApart-permutation {s} xs ys moved apart = record {
  few = λ c listed. let few = apart.few c listed in subst (λ fs. length fs ≤ 1) (sym (faults_at-permutation s xs ys c moved few)) few;
}

-- the faults so far are no more than all of them
faults_at-take : (s : Sets) (xs : List Fault) (k : ℕ) (c : List ℕ) → length (faults_at s (take k xs) c) ≤ length (faults_at s xs c)
faults_at-take s [] k c = by k
  where
    by : (k : ℕ) → length (faults_at s (take k []) c) ≤ 0
    by zero = omega arith
    by (suc k) = omega arith
faults_at-take s (x ∷ xs) zero c = omega arith
faults_at-take s (x ∷ xs) (suc k) c = by (s.has x.cond.0 c) (faults_at-take s xs k c)
  where
    by : (b : Bool) → length (faults_at s (take k xs) c) ≤ length (faults_at s xs c)
        → length (if b then x ∷ faults_at s (take k xs) c else faults_at s (take k xs) c) ≤ length (if b then x ∷ faults_at s xs c else faults_at s xs c)
    by true ih = omega (arith, ih)
    by false ih = ih

module _ {old now : Sets} (files : List (List ℕ)) (sorted merged : List Fault) (i : ℕ) (fault : Fault) (keeps : Keeps old now) (own : IsCond old fault.cond.0) (at : slice_get sorted i ≡ Some fault)
    (same : (c : List ℕ) → IsConfig old.arities c → map (seen_fault files) (faults_at now merged c) ≡ map (seen_fault files) (faults_at old (take i sorted) c)) where
  -- the faults so far, merged, with the next one
  pub same_more : (c : List ℕ) → IsConfig old.arities c → map (seen_fault files) (faults_at now (merged ++ fault ∷ []) c) ≡ map (seen_fault files) (faults_at old (take (i + 1) sorted) c)
  same_more c listed =
      ap (map (seen_fault files)) (faults_at-append now merged (fault ∷ []) c) ∙ map-append (seen_fault files) (faults_at now merged c) (when (now.has fault.cond.0 c) fault)
      ∙ ap (λ r. map (seen_fault files) (faults_at now merged c) ++ r) (map-one (seen_fault files) (now.has fault.cond.0 c) fault)
      ∙ ap (λ r. r ++ when (now.has fault.cond.0 c) (seen_fault files fault)) (same c listed)
      ∙ faults_more (seen_fault files) old now sorted i fault c keeps own listed at

  pub apart_more : AreApart old sorted → AreApart now (merged ++ fault ∷ [])
  apart_more apart = record {
    few = λ c listed.
        let was = IsConfig-kept keeps listed in
        let long : length (faults_at now (merged ++ fault ∷ []) c) ≡ length (faults_at old (take (i + 1) sorted) c) =
        sym (length-map (faults_at now (merged ++ fault ∷ []) c) (seen_fault files)) ∙ ap length (same_more c was) ∙ length-map (faults_at old (take (i + 1) sorted) c) (seen_fault files) in
        omega (arith, long, faults_at-take old sorted (i + 1) c, apart.few c was);
  }

once : {X : Type 0} (rest : List X) (a b : Bool) (x : X) → length ((rest ++ when a x) ++ when b x) ≤ 1 → rest ++ when (a || b) x ≡ (rest ++ when a x) ++ when b x
once rest true true x few = absurd (omega (arith, few, length-append (rest ++ x ∷ []) (x ∷ []), length-append rest (x ∷ [])))
once rest true false x few = sym (append-nil (rest ++ x ∷ []))
once rest false true x few = ap (λ r. r ++ x ∷ []) (sym (append-nil rest))
once rest false false x few = sym (append-nil (rest ++ []))

-- a fault of the last one's pair makes that one's condition larger
pub same_merged : {old now : Sets} (files : List (List ℕ)) (rest : List Fault) (last fault : Fault) (cond : Cond) → seen_fault files last ≡ seen_fault files fault → All (λ (f : Fault). IsCond old f.cond.0) rest
    → AreApart old ((rest ++ last ∷ []) ++ fault ∷ []) → Keeps old now → Denotes now cond.0 (λ c. old.has last.cond.0 c || old.has fault.cond.0 c) → (c : List ℕ) → IsConfig old.arities c
    → map (seen_fault files) (faults_at now (rest ++ record { cond = cond; cause = last.cause; place = last.place } ∷ []) c) ≡ map (seen_fault files) (faults_at old ((rest ++ last ∷ []) ++ fault ∷ []) c)
same_merged {old} {now} files rest last fault cond pair own apart keeps means c listed =
    let it : Fault = record { cond = cond; cause = last.cause; place = last.place } in
    let f = seen_fault files in
    let a = old.has last.cond.0 c in
    let b = old.has fault.cond.0 c in
    let shown : model.Fault = f last in
    let other : f fault ≡ shown = sym pair in
    let now_is : map f (faults_at now (rest ++ it ∷ []) c) ≡ map f (faults_at old rest c) ++ when (a || b) shown =
    ap (map f) (faults_at-append now rest (it ∷ []) c) ∙ map-append f (faults_at now rest c) (when (now.has cond.0 c) it)
    ∙ ap (λ r. map f (faults_at now rest c) ++ r) (map-one f (now.has cond.0 c) it)
    ∙ ap (λ r. map f r ++ when (now.has cond.0 c) shown) (faults_at-Keeps rest c keeps own listed)
    ∙ ap (λ h. map f (faults_at old rest c) ++ when h shown) (means.at c (IsConfig-Keeps keeps listed)) in
    let was_is : map f (faults_at old ((rest ++ last ∷ []) ++ fault ∷ []) c) ≡ (map f (faults_at old rest c) ++ when a shown) ++ when b shown =
    ap (map f) (faults_at-append old (rest ++ last ∷ []) (fault ∷ []) c ∙ ap (λ r. r ++ when b fault) (faults_at-append old rest (last ∷ []) c))
    ∙ map-append f (faults_at old rest c ++ when a last) (when b fault)
    ∙ ap (λ r. r ++ map f (when b fault)) (map-append f (faults_at old rest c) (when a last) ∙ ap (λ r. map f (faults_at old rest c) ++ r) (map-one f a last))
    ∙ ap (λ r. (map f (faults_at old rest c) ++ when a shown) ++ r) (map-one f b fault ∙ ap (when b) other) in
    let few : length ((map f (faults_at old rest c) ++ when a shown) ++ when b shown) ≤ 1 =
    omega (arith, ap length was_is, length-map (faults_at old ((rest ++ last ∷ []) ++ fault ∷ []) c) f, apart.few c listed) in
    now_is ∙ once (map f (faults_at old rest c)) a b shown few ∙ sym was_is
