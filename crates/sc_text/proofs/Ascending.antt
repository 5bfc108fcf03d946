-- Faults in their order.
use Rattle.std.proofs.Common.{◌≡◌, ℕ, zero, suc, ◌+◌, List, [], ◌∷◌, slice_get, Some, All, refl, sym, ap, subst, ◌∙◌, arith}
use Rattle.std.specs.Cmp.{IsTotalOrder}
use Rattle.std.specs.declared.cmp.Ordering.TheVariants.{Less}
use Rattle.std.proofs.lemmas.Cmp.{then_total, on_total, nat_cmp_total, nat_list_cmp_total}
use Rattle.std.proofs.lemmas.List.Elements.{All-nil, All-cons, All-head, All-weaker}
use Rattle.std.proofs.lemmas.Option.{none-some, same_Some, slice_get_within}
use Rattle.sc_model.specs.Cause.{code_of}
use Rattle.sc_text.specs.Layout.{fault_order, IsAscending}
use Rattle.sc_model.specs.Fault.{Fault}

pub fault_total : IsTotalOrder fault_order
fault_total =
    then_total
    (then_total (then_total (on_total (λ (f : Fault). f.place.file) nat_list_cmp_total) (on_total (λ (f : Fault). f.place.position.line) nat_cmp_total)) (on_total (λ (f : Fault). f.place.position.column) nat_cmp_total))
    (on_total (λ (f : Fault). code_of f.cause) nat_cmp_total)

-- the fault stands before this one
abbrev pub IsBefore : Fault → Fault → Type 0
IsBefore f g = fault_order f g ≡ Less

-- what is before the first of them is before them all
pub All-before : (f g : Fault) (fs : List Fault) → IsBefore f g → All (IsBefore g) fs → All (IsBefore f) (g ∷ fs)
All-before f g fs first later = All-cons (IsBefore f) g fs first (All-weaker (IsBefore g) (IsBefore f) (λ h before. fault_total.trans f g h first before) fs later)

-- past the first
next_place : (f : Fault) (fs : List Fault) (k : ℕ) → slice_get (f ∷ fs) (suc k + 1) ≡ slice_get fs (k + 1)
next_place f fs k = let place : suc k + 1 ≡ suc (k + 1) = omega arith in ap (slice_get (f ∷ fs)) place

pub IsAscending-nil : IsAscending []
IsAscending-nil = record { each = λ k f g at next. absurd (none-some f at) }

pub IsAscending-tail : {f : Fault} {fs : List Fault} → IsAscending (f ∷ fs) → IsAscending fs
IsAscending-tail {f} {fs} ascending = record { each = λ k x y at next. ascending.each (suc k) x y at (next_place f fs k ∙ next) }

-- the first is before all others
pub IsAscending-head : (f : Fault) (fs : List Fault) → IsAscending (f ∷ fs) → All (IsBefore f) fs
IsAscending-head f [] ascending = All-nil (IsBefore f)
IsAscending-head f (g ∷ fs) ascending = All-before f g fs (ascending.each 0 f g refl refl) (IsAscending-head g fs (IsAscending-tail ascending))

pub IsAscending-cons : (f : Fault) (fs : List Fault) → All (IsBefore f) fs → IsAscending fs → IsAscending (f ∷ fs)
IsAscending-cons f [] before ascending = record { each = λ k g h at next. absurd (omega (arith, slice_get_within (f ∷ []) (k + 1) h next)) }
IsAscending-cons f (x ∷ fs) before ascending = record { each = by }
  where
    by : (k : ℕ) (g h : Fault) → slice_get (f ∷ x ∷ fs) k ≡ Some g → slice_get (f ∷ x ∷ fs) (k + 1) ≡ Some h → fault_order g h ≡ Less
    by zero g h at next =
        let first : f ≡ g = same_Some f g at in
        let second : x ≡ h = same_Some x h next in
        subst (λ y. fault_order y h ≡ Less) first (subst (λ y. fault_order f y ≡ Less) second (All-head (IsBefore f) x fs before))
    by (suc k) g h at next = ascending.each k g h at (sym (next_place f (x ∷ fs) k) ∙ next)
