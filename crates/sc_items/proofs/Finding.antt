-- The states are found in the order of their least pairs.
use Rattle.std.proofs.Common.{zero, suc, ◌≡◌, ◌↔◌, ◌<◌, ◌≤◌, ◌+◌, ◌⊎◌, ℕ, List, [], ◌∷◌, ◌++◌, length, get_or, slice_get, Some, inl, inr, refl, sym, ap, ◌∙◌, subst, arith}
use Rattle.std.specs.List.{Contains}
use Rattle.std.specs.List.Sorted.{IsStrictlyIncreasing}
use Rattle.std.proofs.lemmas.List.{length_push}
use Rattle.std.proofs.lemmas.Option.{same_Some, slice_get-get_or, slice_get_within, none-some}
use Rattle.std.proofs.lemmas.Bool.{cases_lt}
use Rattle.lr_tables.specs.Grammar.{IsStart, after}
use Rattle.lr_tables.specs.Tables.{Moved, IsGoto, IsLeastPair, IsStates, Before}
use Rattle.lr_tables.specs.declared.grammar.Grammar.{Grammar}
use Rattle.sc_model.proofs.ListLemmas.{slice_get-seam}
use Rattle.sc_items.specs.Found.{Found, FoundAt}
use Rattle.lr_tables.proofs.Determined.{goto_member}
use Rattle.lr_tables.proofs.Members.{rising_same}
use Rattle.lr_tables.proofs.Pairs.{before_from_least, before_or_not}
use Rattle.sc_base.proofs.Growth.{Extends-keeps, Extends-push, IsOneToOne-push, push_cases}

-- ---- the order of pairs
before_next : (r y s x : ℕ) → Before r y s (x + 1) → Before r y s x ⊎ ((r ≡ s) × (y ≡ x))
before_next r y s x (inl a) = inl (inl a)
before_next r y s x (inr a) = elim (cases_lt y x) [ inl b ↦ inl (inr (a.0, b)) | inr b ↦ inr (a.0, omega (arith, a.1)) ]

before_later : (r y s x : ℕ) → Before r y s x → Before r y s (x + 1)
before_later r y s x (inl a) = inl a
before_later r y s x (inr a) = inr (a.0, omega (arith, a.1))

before_self : (s x : ℕ) → Before s x s (x + 1)
before_self s x = inr (refl, omega arith)

before_trans : (r y s x p z : ℕ) → Before r y s x → Before s x p z → Before r y p z
before_trans r y s x p z (inl a) (inl b) = inl (omega arith)
before_trans r y s x p z (inl a) (inr b) = inl (omega (arith, b.0))
before_trans r y s x p z (inr a) (inl b) = inl (omega (arith, a.0))
before_trans r y s x p z (inr a) (inr b) = inr (a.0 ∙ b.0, omega (arith, a.1, b.1))

before_within : (r y s x : ℕ) → Before r y s x → r ≤ s
before_within r y s x (inl a) = omega arith
before_within r y s x (inr a) = omega (arith, a.0)

-- ---- gotos and least pairs when a state is added
module _ (g : Grammar) (states : List (List ℕ)) (k : List ℕ) where
  old_at : (i : ℕ) (kernel : List ℕ) → i < length states → slice_get (states ++ k ∷ []) i ≡ Some kernel → slice_get states i ≡ Some kernel
  old_at i kernel within at = elim (push_cases states k i kernel at) [ inl a ↦ a | inr b ↦ absurd (omega (arith, b.0)) ]

  pub goto_push : (s x t : ℕ) → IsGoto g states s x t → IsGoto g (states ++ k ∷ []) s x t
  goto_push s x t h = record {
    source = h.source;
    target = h.target;
    source_at = Extends-keeps s h.source h.source_at (Extends-push states k);
    target_at = Extends-keeps t h.target h.target_at (Extends-push states k);
    some = h.some;
    moved = h.moved;
  }

  goto_old : (s x t : ℕ) → s < length states → t < length states → IsGoto g (states ++ k ∷ []) s x t → IsGoto g states s x t
  goto_old s x t a b h = record {
    source = h.source;
    target = h.target;
    source_at = old_at s h.source a h.source_at;
    target_at = old_at t h.target b h.target_at;
    some = h.some;
    moved = h.moved;
  }

  least_old : (t s x : ℕ) → t < length states → IsLeastPair g (states ++ k ∷ []) t s x → IsLeastPair g states t s x
  least_old t s x within h = record {
    leads = goto_old s x t (omega (arith, h.earlier)) within h.leads;
    earlier = h.earlier;
    least = λ r y goto lower before. h.least r y (goto_push r y t goto) lower before;
  }

  least_push : (t s x : ℕ) → t < length states → IsLeastPair g states t s x → IsLeastPair g (states ++ k ∷ []) t s x
  least_push t s x within h = record {
    leads = goto_push s x t h.leads;
    earlier = h.earlier;
    least = λ r y goto lower before. h.least r y (goto_old r y t (omega arith) within goto) lower before;
  }

pub goto_source : (g : Grammar) (states : List (List ℕ)) (s x t : ℕ) (kernel : List ℕ) (h : IsGoto g states s x t) → slice_get states s ≡ Some kernel → h.source ≡ kernel
goto_source g states s x t kernel h at = same_Some h.source kernel (sym h.source_at ∙ at)

-- a pair before those that are done does not lead to a new state
new_not_before : (g : Grammar) (states : List (List ℕ)) (k : List ℕ) (s x : ℕ) → Found g states s x → IsStrictlyIncreasing k → ((t : ℕ) → slice_get states t ≡ Some k → ⊥) → (r y : ℕ) → r < length states → Before r y s x → IsGoto g (states ++ k ∷ []) r y (length states) → ⊥
new_not_before g states k s x f inc new r y r_in before h =
    let source_at = old_at g states k r h.source r_in h.source_at in
    let other = f.closed r y (get_or h.target 0 0) h.source before source_at (goto_member g (states ++ k ∷ []) r y (length states) h) in
    let target_is : h.target ≡ k = same_Some h.target k (sym h.target_at ∙ slice_get-seam states k []) in
    let source_is : other.1.source ≡ h.source = goto_source g states r y other.0 h.source other.1 source_at in
    let to : (v : ℕ) → Contains other.1.target v → Contains k v = λ v w. subst (λ zs. Contains zs v) target_is ((h.moved v).1 (subst (λ zs. Moved g zs y v) source_is ((other.1.moved v).0 w))) in
    let back : (v : ℕ) → Contains k v → Contains other.1.target v = λ v w. (other.1.moved v).1 (subst (λ zs. Moved g zs y v) (sym source_is) ((h.moved v).0 (subst (λ zs. Contains zs v) (sym target_is) w))) in
    let same : other.1.target ≡ k = rising_same other.1.target k (f.rising other.0 other.1.target other.1.target_at) inc to back in
    new other.0 (other.1.target_at ∙ ap (λ zs. Some zs) same)

-- ---- the steps of the search
pub Found-begin : (g : Grammar) (k : List ℕ) → IsStrictlyIncreasing k → ((i : ℕ) → Contains k i → i < length g.entries.now) → ((i : ℕ) → Contains k i ↔ IsStart g i) → Found g (k ∷ []) 0 0
Found-begin g k inc within starts = record {
  first = k;
  first_at = refl;
  starts = starts;
  rising = λ r kernel at. subst IsStrictlyIncreasing (only r kernel at).1 inc;
  within = λ r i kernel at w. within i (subst (λ zs. Contains zs i) (sym (only r kernel at).1) w);
  different = record { same = λ i j z a b. (only i z a).0 ∙ sym (only j z b).0 };
  closed = λ r y m kernel before. absurd (nothing_before r y before);
  found = λ t a b. absurd (omega (arith, a, b));
  in_order = λ t u r y p z lower a b. absurd (omega (arith, slice_get_within (k ∷ []) u b.leads.target b.leads.target_at));
}
  where
    only : (i : ℕ) (kernel : List ℕ) → slice_get (k ∷ []) i ≡ Some kernel → (i ≡ 0) × (k ≡ kernel)
    only zero kernel at = (refl, same_Some k kernel at)
    only (suc i) kernel at = absurd (none-some kernel at)

    nothing_before : (r y : ℕ) → Before r y 0 0 → ⊥
    nothing_before r y (inl a) = omega arith
    nothing_before r y (inr a) = omega (arith, a.1)

later_found : (g : Grammar) (states : List (List ℕ)) (t s x : ℕ) → FoundAt g states t s x → FoundAt g states t s (x + 1)
later_found g states t s x h = record { from = h.from; by = h.by; pair = h.pair; before = before_later h.from h.by s x h.before }

-- the pair leads nowhere
pub Found-skip : (g : Grammar) (states : List (List ℕ)) (s x : ℕ) (source : List ℕ) → Found g states s x → slice_get states s ≡ Some source → ((m : ℕ) → Moved g source x m → ⊥) → Found g states s (x + 1)
Found-skip g states s x source f at none = record { first = f.first; first_at = f.first_at; starts = f.starts; rising = f.rising; within = f.within; different = f.different; closed = closed; found = λ t a b. later_found g states t s x (f.found t a b); in_order = f.in_order }
  where
    closed : (r y m : ℕ) (kernel : List ℕ) → Before r y s (x + 1) → slice_get states r ≡ Some kernel → Moved g kernel y m → (t : ℕ) × IsGoto g states r y t
    closed r y m kernel before kernel_at moved = elim (before_next r y s x before) [
      | inl a ↦ f.closed r y m kernel a kernel_at moved
      | inr e ↦ (
          let same : kernel ≡ source = same_Some kernel source (sym kernel_at ∙ subst (λ i. slice_get states i ≡ Some source) (sym e.0) at) in
          absurd (none m (subst (λ z. Moved g source z m) e.1 (subst (λ zs. Moved g zs y m) same moved))))
    ]

-- the pair leads to a state that was found before
pub Found-old : (g : Grammar) (states : List (List ℕ)) (s x t : ℕ) → Found g states s x → IsGoto g states s x t → Found g states s (x + 1)
Found-old g states s x t f goto = record { first = f.first; first_at = f.first_at; starts = f.starts; rising = f.rising; within = f.within; different = f.different; closed = closed; found = λ u a b. later_found g states u s x (f.found u a b); in_order = f.in_order }
  where
    closed : (r y m : ℕ) (kernel : List ℕ) → Before r y s (x + 1) → slice_get states r ≡ Some kernel → Moved g kernel y m → (u : ℕ) × IsGoto g states r y u
    closed r y m kernel before kernel_at moved = elim (before_next r y s x before) [
      | inl a ↦ f.closed r y m kernel a kernel_at moved
      | inr e ↦ (t, subst (λ z. IsGoto g states r z t) (sym e.1) (subst (λ i. IsGoto g states i x t) (sym e.0) goto))
    ]

-- the pair leads to a new state
pub Found-new : (g : Grammar) (states : List (List ℕ)) (k : List ℕ) (s x : ℕ) (source : List ℕ) → Found g states s x → slice_get states s ≡ Some source → IsStrictlyIncreasing k → ((i : ℕ) → Contains k i → i < length g.entries.now) → 0 < length k → ((m : ℕ) → Contains k m ↔ Moved g source x m) → ((t : ℕ) → slice_get states t ≡ Some k → ⊥) → Found g (states ++ k ∷ []) s (x + 1)
Found-new g states k s x source f at inc within some moved new = record {
  first = f.first;
  first_at = Extends-keeps 0 f.first f.first_at (Extends-push states k);
  starts = f.starts;
  rising = λ r kernel kernel_at. elim (push_cases states k r kernel kernel_at) [ inl a ↦ f.rising r kernel a | inr e ↦ subst IsStrictlyIncreasing e.1 inc ];
  within = λ r i kernel kernel_at w. elim (push_cases states k r kernel kernel_at) [ inl a ↦ f.within r i kernel a w | inr e ↦ within i (subst (λ zs. Contains zs i) (sym e.1) w) ];
  different = IsOneToOne-push states k f.different (λ h. new h.0 (slice_get-get_or states h.0 k h.1 ∙ ap (λ zs. Some zs) h.2));
  closed = closed;
  found = found;
  in_order = in_order;
}
  where
    s_in : s < length states
    s_in = slice_get_within states s source at

    long : length (states ++ k ∷ []) ≡ length states + 1
    long = length_push states k

    here : IsGoto g (states ++ k ∷ []) s x (length states)
    here = record {
      source = source;
      target = k;
      source_at = Extends-keeps s source at (Extends-push states k);
      target_at = slice_get-seam states k [];
      some = some;
      moved = moved;
    }

    closed : (r y m : ℕ) (kernel : List ℕ) → Before r y s (x + 1) → slice_get (states ++ k ∷ []) r ≡ Some kernel → Moved g kernel y m → (t : ℕ) × IsGoto g (states ++ k ∷ []) r y t
    closed r y m kernel before kernel_at w = elim (before_next r y s x before) [
      | inl a ↦ (
          let old = f.closed r y m kernel a (old_at g states k r kernel (omega (arith, before_within r y s x a, s_in)) kernel_at) w in
          (old.0, goto_push g states k r y old.0 old.1))
      | inr e ↦ (length states, subst (λ z. IsGoto g (states ++ k ∷ []) r z (length states)) (sym e.1) (subst (λ i. IsGoto g (states ++ k ∷ []) i x (length states)) (sym e.0) here))
    ]

    found : (t : ℕ) → 0 < t → t < length (states ++ k ∷ []) → FoundAt g (states ++ k ∷ []) t s (x + 1)
    found t a b = elim (cases_lt t (length states)) [
      | inl c ↦ (
          let old = f.found t a c in
          record { from = old.from; by = old.by; pair = least_push g states k t old.from old.by c old.pair; before = before_later old.from old.by s x old.before })
      | inr c ↦ (
          let e : length states ≡ t = omega (arith, long, b) in
          subst (λ u. FoundAt g (states ++ k ∷ []) u s (x + 1)) e (record {
            from = s;
            by = x;
            pair = record { leads = here; earlier = s_in; least = λ r y goto lower before. new_not_before g states k s x f inc new r y lower before goto };
            before = before_self s x;
          }))
    ]

    in_order : (t u r y p z : ℕ) → t < u → IsLeastPair g (states ++ k ∷ []) t r y → IsLeastPair g (states ++ k ∷ []) u p z → Before r y p z
    in_order t u r y p z lower a b =
        let u_in : u < length (states ++ k ∷ []) = slice_get_within (states ++ k ∷ []) u b.leads.target b.leads.target_at in
        elim (cases_lt u (length states)) [
          | inl c ↦ f.in_order t u r y p z lower (least_old g states k t r y (omega arith) a) (least_old g states k u p z c b)
          | inr c ↦ (
              let e : u ≡ length states = omega (arith, long, u_in) in
              let t_in : t < length states = omega (arith, e, lower) in
              let first = least_old g states k t r y t_in a in
              let known = f.found t (omega (arith, first.earlier)) t_in in
              let before_here : Before r y s x = before_from_least r y known.from known.by s x (first.least known.from known.by known.pair.leads known.pair.earlier) known.before in
              let last : IsGoto g (states ++ k ∷ []) p z (length states) = subst (λ v. IsGoto g (states ++ k ∷ []) p z v) e b.leads in
              let p_in : p < length states = omega (arith, e, b.earlier) in
              before_or_not s x p z (λ early. new_not_before g states k s x f inc new p z p_in early last) r y before_here)
        ]

-- all symbols of the state were tried
pub Found-next : (g : Grammar) (states : List (List ℕ)) (s n : ℕ) → Found g states s n → ((i x : ℕ) → after g i ≡ Some x → x < n) → Found g states (s + 1) 0
Found-next g states s n f small = record { first = f.first; first_at = f.first_at; starts = f.starts; rising = f.rising; within = f.within; different = f.different; closed = closed; found = found; in_order = f.in_order }
  where
    closed : (r y m : ℕ) (kernel : List ℕ) → Before r y (s + 1) 0 → slice_get states r ≡ Some kernel → Moved g kernel y m → (t : ℕ) × IsGoto g states r y t
    closed r y m kernel before at moved = f.closed r y m kernel (earlier before) at moved
      where
        earlier : Before r y (s + 1) 0 → Before r y s n
        earlier (inl a) = elim (cases_lt r s) [ inl b ↦ inl b | inr b ↦ inr (omega arith, small moved.from y moved.over) ]
        earlier (inr a) = absurd (omega (arith, a.1))

    found : (t : ℕ) → 0 < t → t < length states → FoundAt g states t (s + 1) 0
    found t a b = let old = f.found t a b in record { from = old.from; by = old.by; pair = old.pair; before = inl (omega (arith, before_within old.from old.by s n old.before)) }

-- all states were tried
pub IsStates-done : (g : Grammar) (states : List (List ℕ)) (s : ℕ) → length states ≤ s → Found g states s 0 → IsStates g states
IsStates-done g states s all f = record {
  first = f.first;
  first_at = f.first_at;
  starts = f.starts;
  rising = f.rising;
  different = f.different;
  closed = λ r y m kernel at moved. f.closed r y m kernel (inl (omega (arith, slice_get_within states r kernel at))) at moved;
  found = λ t a b. let h = f.found t a b in (h.from, (h.by, h.pair));
  in_order = f.in_order;
}
