-- Items in order, none of them without a configuration, are told by what each configuration has of
-- them.
use Rattle.std.proofs.Common.{◌≡◌, ℕ, Bool, true, false, List, [], ◌∷◌, map, All, refl, sym, ap, ◌∙◌, if◌then◌else◌}
use Rattle.std.proofs.lemmas.Cmp.{tied_itself}
use Rattle.std.proofs.lemmas.List.Elements.{All-nil, All-head, All-tail}
use Rattle.std.specs.List.{AllZip}
use Rattle.std.specs.Ordering.{ordering_reverse}
use Rattle.std.specs.declared.cmp.Ordering.{Ordering}
use Rattle.std.specs.declared.cmp.Ordering.TheVariants.{Less, Equal, Greater}
use Rattle.sc_text.specs.Layout.{fault_order, IsAscending, AreSame, IsEmpty, AreAlike, no_item, left_out, left_out_there, both}
use Rattle.sc_model.specs.Fault.{Fault}
use Rattle.sc_model.specs.Sets.{IsConfig}
use Rattle.sc_model.specs.Space.{Space, arities_of}
use Rattle.sc_text.specs.Answer.{Condition, project}
use Rattle.sc_text.proofs.Ascending.{IsBefore, All-before, IsAscending-tail, IsAscending-head, fault_total}
use Rattle.sc_text.proofs.FaultOrder.{faults_equal}

-- the same item under the same condition
pub record IsSamePair {T : Type 0} (space : Space) (x y : Condition × T) : Type 0 where
  pub cond : AreSame space x.0 y.0
  pub item : x.1 ≡ y.1

-- some configuration has it
abbrev pub IsShown : {T : Type 0} → Space → Condition × T → Type 0
IsShown space pair = IsEmpty space pair.0 → ⊥

module _ {T : Type 0} {space : Space} where
  -- where no item is without a configuration, none is left out
  pub pairs_from_alike : {xs ys : List (Condition × T)} → AreAlike space xs ys → All (IsShown space) xs → All (IsShown space) ys → AllZip (IsSamePair space) xs ys
  pairs_from_alike no_item shown shown_too = tt
  pairs_from_alike (left_out f item xs ys empty rest) shown shown_too = absurd (All-head (IsShown space) (f, item) xs shown empty)
  pairs_from_alike (left_out_there f item xs ys empty rest) shown shown_too = absurd (All-head (IsShown space) (f, item) ys shown_too empty)
  pairs_from_alike (both f g item xs ys same rest) shown shown_too =
      (record { cond = same; item = refl }, pairs_from_alike rest (All-tail (IsShown space) (f, item) xs shown) (All-tail (IsShown space) (g, item) ys shown_too))

-- the faults, each under its condition
abbrev faults_of : List (Condition × Fault) → List Fault
faults_of pairs = map (λ (pair : Condition × Fault). pair.1) pairs

-- a fault that is before all of them is not among those of a configuration
not_among : (f : Fault) (pairs : List (Condition × Fault)) (config : List ℕ) {rest : List Fault} → All (IsBefore f) (faults_of pairs) → f ∷ rest ≡ project pairs config → ⊥
not_among f [] config before e = cc
not_among f (pair ∷ pairs) config {rest} before e = by (pair.0 config) e (not_among f pairs config (All-tail (IsBefore f) pair.1 (faults_of pairs) before))
  where
    by : (b : Bool) → f ∷ rest ≡ (if b then pair.1 ∷ project pairs config else project pairs config) → (f ∷ rest ≡ project pairs config → ⊥) → ⊥
    by true e later =
        let same : f ≡ pair.1 = cc in
        let less = All-head (IsBefore f) pair.1 (faults_of pairs) before in
        let equal : fault_order f pair.1 ≡ Equal = ap (fault_order f) (sym same) ∙ tied_itself fault_total f in
        cc
    by false e later = later e

absent : (x : Condition × Fault) (xs ys : List (Condition × Fault)) (config : List ℕ) → All (IsBefore x.1) (faults_of ys) → project (x ∷ xs) config ≡ project ys config → x.0 config ≡ false
absent x xs ys config before e = by (x.0 config) e
  where
    by : (b : Bool) → (if b then x.1 ∷ project xs config else project xs config) ≡ project ys config → b ≡ false
    by true e = absurd (not_among x.1 ys config before e)
    by false e = refl

-- where the first ones are one fault, both have it or neither, and the others are the same
alike_first : (x y : Condition × Fault) (xs ys : List (Condition × Fault)) (config : List ℕ) → x.1 ≡ y.1 → All (IsBefore x.1) (faults_of xs) → All (IsBefore y.1) (faults_of ys) → project (x ∷ xs) config ≡ project (y ∷ ys) config
    → (x.0 config ≡ y.0 config) × (project xs config ≡ project ys config)
alike_first x y xs ys config one before before_too e = by (x.0 config) (y.0 config) e
  where
    by : (b c : Bool) → (if b then x.1 ∷ project xs config else project xs config) ≡ (if c then y.1 ∷ project ys config else project ys config) → (b ≡ c) × (project xs config ≡ project ys config)
    by true true e = (refl, cc)
    by false false e = (refl, e)
    by true false e = absurd (not_among y.1 ys config before_too (ap (λ f. f ∷ project xs config) (sym one) ∙ e))
    by false true e = absurd (not_among x.1 xs config before (ap (λ f. f ∷ project ys config) one ∙ sym e))

pub pairs_from_projections : {space : Space} (xs ys : List (Condition × Fault)) → IsAscending (faults_of xs) → IsAscending (faults_of ys)
    → All (IsShown space) xs → All (IsShown space) ys → ((config : List ℕ) → IsConfig (arities_of space) config → project xs config ≡ project ys config) → AllZip (IsSamePair space) xs ys
pairs_from_projections [] [] ascending ascending_too shown shown_too same = tt
pairs_from_projections {space} [] (y ∷ ys) ascending ascending_too shown shown_too same =
    absurd (All-head (IsShown space) y ys shown_too (record { none = λ config listed. absent y ys [] config (All-nil (IsBefore y.1)) (sym (same config listed)) }))
pairs_from_projections {space} (x ∷ xs) [] ascending ascending_too shown shown_too same =
    absurd (All-head (IsShown space) x xs shown (record { none = λ config listed. absent x xs [] config (All-nil (IsBefore x.1)) (same config listed) }))
pairs_from_projections {space} (x ∷ xs) (y ∷ ys) ascending ascending_too shown shown_too same =
    by (fault_order x.1 y.1) refl
    (pairs_from_projections xs ys (IsAscending-tail ascending) (IsAscending-tail ascending_too)
    (All-tail (IsShown space) x xs shown) (All-tail (IsShown space) y ys shown_too))
  where
    by : (o : Ordering) → fault_order x.1 y.1 ≡ o → (((config : List ℕ) → IsConfig (arities_of space) config → project xs config ≡ project ys config) → AllZip (IsSamePair space) xs ys)
        → AllZip (IsSamePair space) (x ∷ xs) (y ∷ ys)
    by Less less later =
        absurd (All-head (IsShown space) x xs shown (record { none = λ config listed. absent x xs (y ∷ ys) config (All-before x.1 y.1 (faults_of ys) less (IsAscending-head y.1 (faults_of ys) ascending_too)) (same config listed) }))
    by Greater greater later =
        let less : fault_order y.1 x.1 ≡ Less = fault_total.antisymm y.1 x.1 ∙ ap ordering_reverse greater in
        absurd (All-head (IsShown space) y ys shown_too (record { none = λ config listed. absent y ys (x ∷ xs) config (All-before y.1 x.1 (faults_of xs) less (IsAscending-head x.1 (faults_of xs) ascending)) (sym (same config listed)) }))
    by Equal equal later =
        let one = faults_equal x.1 y.1 equal in
        let each = λ (config : List ℕ) (listed : IsConfig (arities_of space) config). alike_first x y xs ys config one (IsAscending-head x.1 (faults_of xs) ascending) (IsAscending-head y.1 (faults_of ys) ascending_too) (same config listed) in
        (record { cond = record { at = λ config listed. (each config listed).0 }; item = one }, later (λ config listed. (each config listed).1))
