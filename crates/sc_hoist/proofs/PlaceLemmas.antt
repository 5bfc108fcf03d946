-- The places of configurations that the items tell apart, or don't.
use Rattle.std.proofs.Common.{◌≡◌, ℕ, zero, suc, ◌+◌, ◌<◌, ◌≤◌, Bool, true, false, List, [], ◌∷◌, ◌++◌, length, take, get_or, slice_get, Some, map, refl, ap, sym, ◌∙◌, arith, if◌then◌else◌}
use Rattle.std.proofs.lemmas.List.{take_more, length-take-le, map-append}
use Rattle.std.proofs.lemmas.Option.{slice_get_within, get_or_from_slice_get}
use Rattle.sc_base.specs.declared.id.Cond.{Cond}
use Rattle.sc_hoist.specs.Leaves.{SameBelow, placed}
use Rattle.sc_hoist.specs.Places.{places_from}
use Rattle.sc_model.specs.Sets.{Sets}

-- one item more
pub places_from-push : (s : Sets) (n : ℕ) (items : List Cond) (item : Cond) (c : List ℕ) → places_from s n (items ++ item ∷ []) c ≡ placed (s.has item.0 c) (n + length items) (places_from s n items c)
places_from-push s n [] item c = by (s.has item.0 c)
  where
    by : (b : Bool) → (if b then n ∷ [] else []) ≡ placed b (n + 0) []
    by true = let same : n ≡ n + 0 = omega arith in ap (λ (k : ℕ). k ∷ []) same
    by false = refl
places_from-push s n (x ∷ items) item c =
    let count : n + 1 + length items ≡ n + length (x ∷ items) = omega arith in
    by (s.has x.0 c) (s.has item.0 c) (places_from-push s (n + 1) items item c ∙ ap (λ k. placed (s.has item.0 c) k (places_from s (n + 1) items c)) count)
  where
    by : (h b : Bool) → places_from s (n + 1) (items ++ item ∷ []) c ≡ placed b (n + length (x ∷ items)) (places_from s (n + 1) items c)
        → (if h then n ∷ places_from s (n + 1) (items ++ item ∷ []) c else places_from s (n + 1) (items ++ item ∷ []) c)
        ≡ placed b (n + length (x ∷ items)) (if h then n ∷ places_from s (n + 1) items c else places_from s (n + 1) items c)
    by true true e = ap (λ ps. n ∷ ps) e
    by true false e = ap (λ ps. n ∷ ps) e
    by false b e = e

pub places_from-take : (s : Sets) (n : ℕ) (items : List Cond) (i : ℕ) (x : Cond) (c : List ℕ) → i < length items
    → places_from s n (take (i + 1) items) c ≡ placed (s.has (get_or items i x).0 c) (n + i) (places_from s n (take i items) c)
places_from-take s n items i x c within =
    let count : length (take i items) ≡ i = length-take-le i items (omega arith) in
    ap (λ (ks : List Cond). places_from s n ks c) (take_more items i x within)
    ∙ (places_from-push s n (take i items) (get_or items i x) c ∙ ap (λ k. placed (s.has (get_or items i x).0 c) (n + k) (places_from s n (take i items) c)) count)

-- no place is below the first index
pub places_above : (s : Sets) (n m : ℕ) (items : List Cond) (c ps : List ℕ) → places_from s n items c ≡ m ∷ ps → n ≤ m
places_above s n m [] c ps is = absurd (cc)
places_above s n m (x ∷ items) c ps is = by (s.has x.0 c) is (λ e. places_above s (n + 1) m items c ps e)
  where
    by : (b : Bool) → (if b then n ∷ places_from s (n + 1) items c else places_from s (n + 1) items c) ≡ m ∷ ps → (places_from s (n + 1) items c ≡ m ∷ ps → n + 1 ≤ m) → n ≤ m
    by true e rest = let same : n ≡ m = cc in omega arith
    by false e rest = omega (arith, rest e)

-- equal places are those of configurations that no item tells apart
pub same_places : (s : Sets) (n : ℕ) (items : List Cond) (c d : List ℕ) → places_from s n items c ≡ places_from s n items d → (k : ℕ) (x : Cond) → k < length items → s.has (get_or items k x).0 c ≡ s.has (get_or items k x).0 d
same_places s n [] c d same k x within = absurd (omega arith)
same_places s n (y ∷ items) c d same k x within = at k within (λ j below. same_places s (n + 1) items c d parts.1 j x below)
  where
    rest_c : List ℕ
    rest_c = places_from s (n + 1) items c

    rest_d : List ℕ
    rest_d = places_from s (n + 1) items d

    by : (a b : Bool) → (if a then n ∷ rest_c else rest_c) ≡ (if b then n ∷ rest_d else rest_d) → (a ≡ b) × (rest_c ≡ rest_d)
    by true true e = (refl, cc)
    by true false e = absurd (let above = places_above s (n + 1) n items d rest_c (sym e) in omega arith)
    by false true e = absurd (let above = places_above s (n + 1) n items c rest_d e in omega arith)
    by false false e = (refl, e)

    parts : (s.has y.0 c ≡ s.has y.0 d) × (rest_c ≡ rest_d)
    parts = by (s.has y.0 c) (s.has y.0 d) same

    at : (k : ℕ) → k < length (y ∷ items) → ((j : ℕ) → j < length items → s.has (get_or items j x).0 c ≡ s.has (get_or items j x).0 d) → s.has (get_or (y ∷ items) k x).0 c ≡ s.has (get_or (y ∷ items) k x).0 d
    at zero within rest = parts.0
    at (suc k) within rest = rest k (omega arith)

pub SameBelow-places : (s : Sets) (n : ℕ) (items : List Cond) (c d : List ℕ) (i : ℕ) → i ≤ length items → places_from s n items c ≡ places_from s n items d → SameBelow s items i c d
SameBelow-places s n items c d i within same = record { each = λ k x below. same_places s n items c d same k x (omega arith) }

-- and configurations that no item so far tells apart were so before
pub SameBelow-fewer : {s : Sets} {items : List Cond} {c d : List ℕ} (i : ℕ) → SameBelow s items (i + 1) c d → SameBelow s items i c d
SameBelow-fewer i same = record { each = λ k x below. same.each k x (omega arith) }

-- the conditions of one item more
pub conditions_more : {T : Type 0} (items : List (Cond × T)) (i : ℕ) (item : Cond × T) → slice_get items i ≡ Some item → map (λ (item : Cond × T). item.0) (take (i + 1) items) ≡ map (λ (item : Cond × T). item.0) (take i items) ++ item.0 ∷ []
conditions_more {T} items i item is =
    let f : Cond × T → Cond = λ item. item.0 in
    let within = slice_get_within items i item is in
    ap (map f) (take_more items i item within) ∙ (ap (λ (x : Cond × T). map f (take i items ++ x ∷ [])) (get_or_from_slice_get items i item item is) ∙ map-append f (take i items) (item ∷ []))
