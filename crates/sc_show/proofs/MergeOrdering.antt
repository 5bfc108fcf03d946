-- Faults in order.
use Rattle.std.proofs.Common.{◌≡◌, ℕ, zero, suc, ◌+◌, ◌<◌, ◌≤◌, ◌⊎◌, inl, inr, false, List, [], ◌∷◌, ◌++◌, length, map, take, slice_get, get_or, Some, All, sym, ap, subst, ◌∙◌, arith, length-append, Bor}
use Rattle.std.specs.Cmp.Lexicographic.{slice_cmp}
use Rattle.std.specs.Ordering.{nat_cmp, ordering_then, ordering_reverse, is_lt}
use Rattle.std.specs.List.Sorted.{IsSortedByKey}
use Rattle.std.specs.declared.cmp.Ordering.{Ordering}
use Rattle.std.specs.declared.cmp.Ordering.TheVariants.{Less, Equal, Greater}
use Rattle.std.proofs.lemmas.Bool.{cases_lt, true≢false}
use Rattle.std.proofs.lemmas.Option.{same_Some, slice_get_within, get_or_from_slice_get}
use Rattle.std.proofs.lemmas.List.{map-append, take_more}
use Rattle.std.proofs.lemmas.List.Elements.{All-append, All-cons}
use Rattle.sc_base.specs.declared.fault.Fault as base
use Rattle.sc_guarded.specs.Items.{seen_fault}
use Rattle.sc_text.specs.Layout.{fault_order, IsAscending}
use Rattle.sc_model.specs.Fault.{Fault}
use Rattle.sc_text.proofs.Ascending.{fault_total}
use Rattle.sc_model.proofs.ListLemmas.{slice_get-front, slice_get-seam, found_in}
use Rattle.sc_show.specs.Order.{IsKeyOf, IsInOrder, MayFollow, EndsWith}

-- the last of a list that is longer by one
last_same : {X : Type 0} (fs gs : List X) (f g : X) → fs ++ f ∷ [] ≡ gs ++ g ∷ [] → f ≡ g
last_same fs gs f g e =
    let long : length fs ≡ length gs = omega (arith, ap length e, length-append fs (f ∷ []), length-append gs (g ∷ [])) in
    same_Some f g (sym (slice_get-seam fs f []) ∙ ap (λ xs. slice_get xs (length fs)) e ∙ ap (slice_get (gs ++ g ∷ [])) long ∙ slice_get-seam gs g [])

pub IsAscending-push : (fs : List Fault) (g : Fault) → IsAscending fs → ((front : List Fault) (f : Fault) → fs ≡ front ++ f ∷ [] → fault_order f g ≡ Less) → IsAscending (fs ++ g ∷ [])
IsAscending-push fs g ascending less = record { each = λ k x y at next. by k x y at next (cases_lt (k + 1) (length fs)) }
  where
    last_of : (xs : List Fault) (k : ℕ) (x : Fault) → slice_get xs k ≡ Some x → k + 1 ≡ length xs → (front : List Fault) × (xs ≡ front ++ x ∷ [])
    last_of [] k x at e = absurd (omega arith)
    last_of (z ∷ []) zero x at e = ([], ap (λ y. y ∷ []) (same_Some z x at))
    last_of (z ∷ w ∷ xs) zero x at e = absurd (omega arith)
    last_of (z ∷ xs) (suc k) x at e = let more = last_of xs k x at (omega arith) in (z ∷ more.0, ap (λ ys. z ∷ ys) more.1)

    by : (k : ℕ) (x y : Fault) → slice_get (fs ++ g ∷ []) k ≡ Some x → slice_get (fs ++ g ∷ []) (k + 1) ≡ Some y → (k + 1 < length fs) ⊎ (length fs ≤ k + 1) → fault_order x y ≡ Less
    by k x y at next (inl below) =
        ascending.each k x y (sym (slice_get-front fs (g ∷ []) k (omega arith)) ∙ at) (sym (slice_get-front fs (g ∷ []) (k + 1) below) ∙ next)
    by k x y at next (inr above) =
        let within = slice_get_within (fs ++ g ∷ []) (k + 1) y next in
        let here : k + 1 ≡ length fs = omega (arith, length-append fs (g ∷ [])) in
        let same : g ≡ y = same_Some g y (sym (slice_get-seam fs g []) ∙ ap (slice_get (fs ++ g ∷ [])) (sym here) ∙ next) in
        let end = last_of fs k x (sym (slice_get-front fs (g ∷ []) k (omega arith)) ∙ at) here in
        subst (λ z. fault_order x z ≡ Less) same (less end.0 x end.1)

pub MayFollow-none : (g : Fault) → MayFollow [] g
MayFollow-none g = record { last = λ front f e. absurd (omega (arith, ap length e, length-append front (f ∷ []))) }

-- the next one after the last
pub MayFollow-next : (fs : List Fault) (f g : Fault) → EndsWith fs f → is_lt (fault_order g f) ≡ false → MayFollow fs g
MayFollow-next fs f g ends h = record { last = λ front x e. subst (λ y. is_lt (fault_order g y) ≡ false) (last_same ends.front front f x (sym ends.is ∙ e)) h }

-- of two different faults one is before the other
pub strictly : (f g : Fault) → is_lt (fault_order g f) ≡ false → (fault_order f g ≡ Equal → ⊥) → fault_order f g ≡ Less
strictly f g h other = by (fault_order g f) h (fault_total.antisymm f g)
  where
    by : (o : Ordering) → is_lt o ≡ false → fault_order f g ≡ ordering_reverse o → fault_order f g ≡ Less
    by Less h e = absurd (true≢false h)
    by Equal h e = absurd (other e)
    by Greater h e = e

abbrev pub Key : Type 0
Key = Bor (List ℕ) × ℕ × ℕ × ℕ

-- the order of the keys, as tuples are ordered
abbrev pub key_order : Key → Key → Ordering
key_order x y = ordering_then (ordering_then (ordering_then (slice_cmp nat_cmp x.0.now y.0.now) (nat_cmp x.1 y.1)) (nat_cmp x.2 y.2)) (nat_cmp x.3 y.3)

pub key_order_is : (f g : Fault) (x y : Key) → IsKeyOf f x → IsKeyOf g y → key_order x y ≡ fault_order f g
key_order_is f g x y a b = λ i.
    ordering_then (ordering_then (ordering_then (slice_cmp nat_cmp (a.name i) (b.name i)) (nat_cmp (a.line i) (b.line i))) (nat_cmp (a.column i) (b.column i))) (nat_cmp (a.code i) (b.code i))

-- what is sorted by keys is in order
pub in_order_from_sort : (files : List (List ℕ)) (pairs : List (Key × base.Fault)) → All (λ (pair : Key × base.Fault). IsKeyOf (seen_fault files pair.1) pair.0) pairs
    → IsSortedByKey (λ (pair : Key × base.Fault). pair.0) key_order pairs → IsInOrder (map (seen_fault files) (map (λ (pair : Key × base.Fault). pair.1) pairs))
in_order_from_sort files pairs keyed sorted = record { each = each }
  where
    its_key : (k : ℕ) (pair : Key × base.Fault) → slice_get pairs k ≡ Some pair → IsKeyOf (seen_fault files pair.1) pair.0
    its_key k pair at = subst (λ (x : Key × base.Fault). IsKeyOf (seen_fault files x.1) x.0) (get_or_from_slice_get pairs k pair pair at) (keyed k pair (slice_get_within pairs k pair at))

    each : (k : ℕ) (f g : Fault) → slice_get (map (seen_fault files) (map (λ (pair : Key × base.Fault). pair.1) pairs)) k ≡ Some f
        → slice_get (map (seen_fault files) (map (λ (pair : Key × base.Fault). pair.1) pairs)) (k + 1) ≡ Some g → is_lt (fault_order g f) ≡ false
    each k f g at next =
        let a = found_in (seen_fault files) (map (λ (pair : Key × base.Fault). pair.1) pairs) k f at in
        let b = found_in (seen_fault files) (map (λ (pair : Key × base.Fault). pair.1) pairs) (k + 1) g next in
        let x = found_in (λ (pair : Key × base.Fault). pair.1) pairs k a.0 a.1 in
        let y = found_in (λ (pair : Key × base.Fault). pair.1) pairs (k + 1) b.0 b.1 in
        let first : seen_fault files x.0.1 ≡ f = ap (seen_fault files) x.2 ∙ a.2 in
        let second : seen_fault files y.0.1 ≡ g = ap (seen_fault files) y.2 ∙ b.2 in
        let here : get_or pairs k x.0 ≡ x.0 = get_or_from_slice_get pairs k x.0 x.0 x.1 in
        let there : get_or pairs (k + 1) x.0 ≡ y.0 = get_or_from_slice_get pairs (k + 1) y.0 x.0 y.1 in
        let fact : is_lt (key_order y.0.0 x.0.0) ≡ false =
        sym (λ i. is_lt (key_order (there i).0 (here i).0)) ∙ sorted k x.0 (omega arith) (slice_get_within pairs (k + 1) y.0 y.1) in
        sym (ap is_lt (key_order_is (seen_fault files y.0.1) (seen_fault files x.0.1) y.0.0 x.0.0 (its_key (k + 1) y.0 y.1) (its_key k x.0 x.1)) ∙ (λ i. is_lt (fault_order (second i) (first i)))) ∙ fact

-- the faults with their keys so far, with the next one
module _ (files : List (List ℕ)) (pairs more : List (Key × base.Fault)) (faults : List base.Fault) (i : ℕ) (d : base.Fault) (key : Key) (pushed : more ≡ pairs ++ (key, get_or faults i d) ∷ []) where
  pub keyed_faults : i < length faults → map (λ (pair : Key × base.Fault). pair.1) pairs ≡ take i faults → map (λ (pair : Key × base.Fault). pair.1) more ≡ take (i + 1) faults
  keyed_faults below was =
      ap (map (λ (pair : Key × base.Fault). pair.1)) pushed ∙ map-append (λ (pair : Key × base.Fault). pair.1) pairs ((key, get_or faults i d) ∷ [])
      ∙ ap (λ fs. fs ++ get_or faults i d ∷ []) was ∙ sym (take_more faults i d below)

  pub keyed_keys : All (λ (pair : Key × base.Fault). IsKeyOf (seen_fault files pair.1) pair.0) pairs → IsKeyOf (seen_fault files (get_or faults i d)) key
      → All (λ (pair : Key × base.Fault). IsKeyOf (seen_fault files pair.1) pair.0) more
  keyed_keys was is =
      let is_keyed = λ (pair : Key × base.Fault). IsKeyOf (seen_fault files pair.1) pair.0 in
      subst (All is_keyed) (sym pushed) (All-append is_keyed pairs ((key, get_or faults i d) ∷ []) was (All-cons is_keyed (key, get_or faults i d) [] is (λ k e h. absurd (omega arith))))

-- the faults with one more, or with a larger last one
module _ (files : List (List ℕ)) (old new rest : List base.Fault) (last fault : base.Fault) (were : old ≡ rest ++ last ∷ []) where
  pub ascending_pushed : new ≡ old ++ fault ∷ [] → IsAscending (map (seen_fault files) old) → MayFollow (map (seen_fault files) old) (seen_fault files fault)
      → (fault_order (seen_fault files last) (seen_fault files fault) ≡ Equal → ⊥) → IsAscending (map (seen_fault files) new)
  ascending_pushed pushed ascending may other =
      subst IsAscending (sym (ap (map (seen_fault files)) pushed ∙ map-append (seen_fault files) old (fault ∷ [])))
      (IsAscending-push (map (seen_fault files) old) (seen_fault files fault) ascending (λ front f e. strictly f (seen_fault files fault) (may.last front f e) (λ equal. other (same front f e equal))))
    where
      same : (front : List Fault) (f : Fault) → map (seen_fault files) old ≡ front ++ f ∷ [] → fault_order f (seen_fault files fault) ≡ Equal → fault_order (seen_fault files last) (seen_fault files fault) ≡ Equal
      same front f e equal =
          let is : seen_fault files last ≡ f =
          last_same (map (seen_fault files) rest) front (seen_fault files last) f (sym (map-append (seen_fault files) rest (last ∷ [])) ∙ ap (map (seen_fault files)) (sym were) ∙ e) in
          ap (λ x. fault_order x (seen_fault files fault)) is ∙ equal

  pub ascending_merged : (it : base.Fault) → new ≡ rest ++ it ∷ [] → seen_fault files it ≡ seen_fault files last → IsAscending (map (seen_fault files) old) → IsAscending (map (seen_fault files) new)
  ascending_merged it merged same ascending =
      subst IsAscending
      (ap (map (seen_fault files)) were ∙ map-append (seen_fault files) rest (last ∷ []) ∙ ap (λ f. map (seen_fault files) rest ++ f ∷ []) (sym same) ∙ sym (map-append (seen_fault files) rest (it ∷ []))
      ∙ ap (map (seen_fault files)) (sym merged)) ascending

pub ends_with : (files : List (List ℕ)) (new rest : List base.Fault) (it : base.Fault) (g : Fault) → new ≡ rest ++ it ∷ [] → seen_fault files it ≡ g → EndsWith (map (seen_fault files) new) g
ends_with files new rest it g is same = record {
  front = map (seen_fault files) rest;
  is = ap (map (seen_fault files)) is ∙ map-append (seen_fault files) rest (it ∷ []) ∙ ap (λ f. map (seen_fault files) rest ++ f ∷ []) same;
}
