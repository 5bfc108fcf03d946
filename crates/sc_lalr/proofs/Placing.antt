-- The items that stand in the states, as nodes.
use Rattle.std.proofs.Common.{zero, suc, ◌≡◌, ◌<◌, ◌≤◌, ◌+◌, ◌-◌, ◌*◌, ◌/◌, ◌%◌, ◌⊎◌, take, ℕ, List, [], ◌∷◌, ◌++◌, length, get_or, set, slice_get, slice_index, Some, inl, inr, refl, sym, ap, ◌∙◌, subst, arith}
use Rattle.std.specs.List.{Contains}
use Rattle.std.specs.List.Sorted.{IsStrictlyIncreasing}
use Rattle.std.proofs.lemmas.Bool.{cases_lt}
use Rattle.std.proofs.lemmas.List.Elements.{Contains-append_left, Contains-get_or, Contains-push, Contains-push_cases}
use Rattle.std.proofs.lemmas.List.{length-set, get_or-set_other, get_or-set_same}
use Rattle.std.proofs.lemmas.Option.{same_Some, slice_get_within, slice_get-get_or, slice_get_read, get_or_from_slice_get, none-some}
use Rattle.std.proofs.lemmas.Nat.{same_from_place, mul-add-lt, div-add-mod', mod_below}
use Rattle.lr_tables.specs.declared.grammar.Grammar.{Grammar}
use Rattle.sc_items.specs.Kernel.{IsListOf}
use Rattle.lr_tables.specs.Tables.{Closure}
use Rattle.sc_items.specs.declared.automaton.State.{State}
use Rattle.sc_items.specs.declared.automaton.States.{States}
use Rattle.sc_items.specs.States.{AreStates, HasItem, kernels_of}
use Rattle.lr_tables.proofs.Members.{no_member}
use Rattle.sc_items.proofs.Listing.{rising-none, rising-push, take-below, take-more_cases, take-more_new, take-more_old}
use Rattle.sc_base.proofs.Growth.{push_cases}
use Rattle.sc_lalr.specs.Propagation.{IsPlace, HasPlace, AreNodes, IsNode}
use Rattle.sc_lalr.specs.declared.nodes.Nodes.{Nodes}

-- ---- places
pub some_entries : (k n p : ℕ) → p < k * n → 0 < n
some_entries k zero p h = omega (arith, h)
some_entries k (suc n) p h = omega arith

pub place_same : (n p s i r j : ℕ) → IsPlace n p s i → IsPlace n p r j → (s ≡ r) × (i ≡ j)
place_same n p s i r j a b = same_from_place s i r j n a.within b.within (sym a.is ∙ b.is)

pub place_at : (n p : ℕ) → 0 < n → IsPlace n p (p / n) (p % n)
place_at n p h = record { within = mod_below p n h; is = sym (div-add-mod' p n) }

pub place_in : (g : Grammar) (states : List (List ℕ)) (s i : ℕ) → HasItem g states s i → i < length g.entries.now → s * length g.entries.now + i < length states * length g.entries.now
place_in g states s i h within = omega (arith, mul-add-lt s (length g.entries.now) i (length states) (slice_get_within states s h.kernel h.kernel_at) within)

-- the item that stands at a place
pub has_at : (g : Grammar) (states : List (List ℕ)) (p s i : ℕ) → IsPlace (length g.entries.now) p s i → HasPlace g states p → HasItem g states s i
has_at g states p s i at h =
    let same = place_same (length g.entries.now) p h.s h.i s i h.at at in
    subst (λ z. HasItem g states z i) same.0 (subst (λ z. HasItem g states h.s z) same.1 h.has)

-- ---- nodes
pub node_same : (n : ℕ) (nodes : Nodes) (u s i r j : ℕ) → IsNode n nodes u s i → IsNode n nodes u r j → (s ≡ r) × (i ≡ j)
node_same n nodes u s i r j a b = same_from_place s i r j n a.within b.within (same_Some (s * n + i) (r * n + j) (sym a.is ∙ b.is))

pub node_in : (n : ℕ) (nodes : Nodes) (u s i : ℕ) → IsNode n nodes u s i → u < length nodes.places.items
node_in n nodes u s i at = slice_get_within nodes.places.items u (s * n + i) at.is

member_at : (xs : List ℕ) (u p : ℕ) → slice_get xs u ≡ Some p → Contains xs p
member_at xs u p at = (u, slice_get_within xs u p at, get_or_from_slice_get xs u p p at)

module _ (g : Grammar) (states : List (List ℕ)) (nodes : Nodes) (are : AreNodes g states nodes) where
  pub node_number : (u s i : ℕ) → IsNode (length g.entries.now) nodes u s i → u ≡ slice_index nodes.numbers.items (s * length g.entries.now + i)
  node_number u s i at = sym (are.numbers u (s * length g.entries.now + i) at.is)

  pub node_has : (u s i : ℕ) → IsNode (length g.entries.now) nodes u s i → HasItem g states s i
  node_has u s i at =
      has_at g states (s * length g.entries.now + i) s i (record { within = at.within; is = refl }) (are.places.sound (s * length g.entries.now + i) (member_at nodes.places.items u (s * length g.entries.now + i) at.is))

  pub node_of : (s i : ℕ) → HasItem g states s i → i < length g.entries.now → IsNode (length g.entries.now) nodes (slice_index nodes.numbers.items (s * length g.entries.now + i)) s i
  node_of s i has within =
      let p = s * length g.entries.now + i in
      let w = are.places.complete p (place_in g states s i has within) (record { s = s; i = i; at = record { within = within; is = refl }; has = has }) in
      let at : slice_get nodes.places.items w.0 ≡ Some p = slice_get-get_or nodes.places.items w.0 p w.1 ∙ ap (λ z. Some z) w.2 in
      record { within = within; is = subst (λ u. slice_get nodes.places.items u ≡ Some p) (sym (are.numbers w.0 p at)) at }

  -- the place of a node
  pub node_place : (u p : ℕ) → u < length nodes.places.items → p ≡ get_or nodes.places.items u p → (p < length states * length g.entries.now) × IsNode (length g.entries.now) nodes u (p / length g.entries.now) (p % length g.entries.now)
  node_place u p u_in e =
      let at = slice_get_read nodes.places.items (length nodes.places.items) u p refl u_in e in
      let below = are.places.below p (member_at nodes.places.items u p at) in
      let positive = some_entries (length states) (length g.entries.now) p below in
      (below, record { within = mod_below p (length g.entries.now) positive; is = at ∙ ap (λ z. Some z) (sym (div-add-mod' p (length g.entries.now))) })

  -- an item of a state has a number
  pub number_in : (s i : ℕ) → s < length states → i < length g.entries.now → s * length g.entries.now + i < length nodes.numbers.items
  number_in s i s_in i_in = omega (arith, mul-add-lt s (length g.entries.now) i (length states) s_in i_in, are.long)

-- ---- the items of a state
pub items_of_state : (g : Grammar) (states : States) (s : ℕ) (row : State) (view : List ℕ) → AreStates g states → s < length (kernels_of states) → row ≡ get_or states.rows.items s row → view ≡ row.members.items → IsListOf (length g.entries.now) (HasItem g (kernels_of states) s) view
items_of_state g states s row view h within e f =
    let is = h.each s row (slice_get_read states.rows.items (length states.rows.items) s row refl (omega (arith, h.long, within)) e) in
    rw f (record {
      rising = is.members.rising;
      below = is.members.below;
      sound = λ i w. record { kernel = is.kernel; kernel_at = is.kernel_at; within = is.members.sound i w };
      complete = λ i i_in w. is.members.complete i i_in (subst (λ zs. Closure g zs i) (same_Some w.kernel is.kernel (sym w.kernel_at ∙ is.kernel_at)) w.within);
    })

-- ---- the nodes of the first states and of the first items of the next one
-- the place is one of these
abbrev pub IsEarly : ℕ → ℕ → List ℕ → ℕ → Type 0
IsEarly n s items p = (p < s * n) ⊎ ((i : ℕ) × Contains items i × (p ≡ s * n + i))

pub record NodesBelow (g : Grammar) (states : List (List ℕ)) (s : ℕ) (items places numbers : List ℕ) : Type 0 where
  pub long : length numbers ≡ length states * length g.entries.now
  pub rising : IsStrictlyIncreasing places
  pub early : (p : ℕ) → Contains places p → IsEarly (length g.entries.now) s items p
  pub sound : (p : ℕ) → Contains places p → HasPlace g states p
  pub complete : (p : ℕ) → HasPlace g states p → IsEarly (length g.entries.now) s items p → Contains places p
  pub numbers_are : (u p : ℕ) → slice_get places u ≡ Some p → slice_index numbers p ≡ u

pub NodesBelow-none : (g : Grammar) (states : List (List ℕ)) (numbers : List ℕ) → length numbers ≡ length states * length g.entries.now → NodesBelow g states 0 [] [] numbers
NodesBelow-none g states numbers e = record {
  long = e;
  rising = rising-none;
  early = λ p w. absurd (no_member p w);
  sound = λ p w. absurd (no_member p w);
  complete = λ p h early. absurd (nothing p early);
  numbers_are = λ u p at. absurd (none-some p at);
}
  where
    nothing : (p : ℕ) → IsEarly (length g.entries.now) 0 [] p → ⊥
    nothing p (inl h) = omega (arith, h)
    nothing p (inr h) = no_member h.0 h.1

module _ (g : Grammar) (states : List (List ℕ)) (s : ℕ) (items : List ℕ) (are : IsListOf (length g.entries.now) (HasItem g states s) items) (s_in : s < length states) where
  pub NodesBelow-push : (k : ℕ) (places numbers : List ℕ) → k < length items → NodesBelow g states s (take k items) places numbers
      → NodesBelow g states s (take (k + 1) items) (places ++ (s * length g.entries.now + get_or items k 0) ∷ []) (set numbers (s * length g.entries.now + get_or items k 0) (length places))
  NodesBelow-push k places numbers k_in h = record {
    long = length-set numbers p (length places) ∙ h.long;
    rising = rising-push places p h.rising below;
    early = λ q w. elim (Contains-push_cases places p q w) [ inl a ↦ later q (h.early q a) | inr e ↦ inr (get_or items k 0, take-more_new items k k_in, sym e) ];
    sound = λ q w. elim (Contains-push_cases places p q w) [ inl a ↦ h.sound q a | inr e ↦ subst (HasPlace g states) e here ];
    complete = λ q has early. elim (sooner q early) [ inl a ↦ Contains-append_left places (p ∷ []) q (h.complete q has a) | inr e ↦ subst (Contains (places ++ p ∷ [])) e (Contains-push places p) ];
    numbers_are = λ u q at. elim (push_cases places p u q at) [
      | inl a ↦ (get_or-set_other numbers p q (length places) 0 (λ f. omega (arith, f, below q (member_at places u q a))) ∙ h.numbers_are u q a)
      | inr a ↦ (ap (λ z. slice_index (set numbers p (length places)) z) (sym a.1) ∙ get_or-set_same numbers p (length places) 0 p_in ∙ sym a.0)
    ];
  }
    where
      p : ℕ
      p = s * length g.entries.now + get_or items k 0

      within : get_or items k 0 < length g.entries.now
      within = are.below (get_or items k 0) (Contains-get_or items k 0 k_in)

      here : HasPlace g states (s * length g.entries.now + get_or items k 0)
      here = record { s = s; i = get_or items k 0; at = record { within = within; is = refl }; has = are.sound (get_or items k 0) (Contains-get_or items k 0 k_in) }

      p_in : s * length g.entries.now + get_or items k 0 < length numbers
      p_in = omega (arith, mul-add-lt s (length g.entries.now) (get_or items k 0) (length states) s_in within, h.long)

      below : (q : ℕ) → Contains places q → q < s * length g.entries.now + get_or items k 0
      below q w = go (h.early q w)
        where
          go : IsEarly (length g.entries.now) s (take k items) q → q < s * length g.entries.now + get_or items k 0
          go (inl a) = omega (arith, a)
          go (inr a) = omega (arith, a.2, take-below items k a.0 are.rising k_in a.1)

      later : (q : ℕ) → IsEarly (length g.entries.now) s (take k items) q → IsEarly (length g.entries.now) s (take (k + 1) items) q
      later q (inl a) = inl a
      later q (inr a) = inr (a.0, take-more_old items k a.0 k_in a.1, a.2)

      sooner : (q : ℕ) → IsEarly (length g.entries.now) s (take (k + 1) items) q → IsEarly (length g.entries.now) s (take k items) q ⊎ (s * length g.entries.now + get_or items k 0 ≡ q)
      sooner q (inl a) = inl (inl a)
      sooner q (inr a) = elim (take-more_cases items k a.0 k_in a.1) [ inl b ↦ inl (inr (a.0, b, a.2)) | inr e ↦ inr (ap (λ z. s * length g.entries.now + z) e ∙ sym a.2) ]

  -- after the last item of a state the next state begins
  pub NodesBelow-next : (places numbers : List ℕ) → NodesBelow g states s items places numbers → NodesBelow g states (s + 1) [] places numbers
  NodesBelow-next places numbers h = record {
    long = h.long;
    rising = h.rising;
    early = λ p w. inl (up p (h.early p w));
    sound = h.sound;
    complete = λ p has early. h.complete p has (down p has early);
    numbers_are = h.numbers_are;
  }
    where
      up : (p : ℕ) → IsEarly (length g.entries.now) s items p → p < (s + 1) * length g.entries.now
      up p (inl a) = omega (arith, a)
      up p (inr a) = omega (arith, a.2, are.below a.0 a.1)

      down : (p : ℕ) → HasPlace g states p → IsEarly (length g.entries.now) (s + 1) [] p → IsEarly (length g.entries.now) s items p
      down p has (inr a) = absurd (no_member a.0 a.1)
      down p has (inl a) = elim (cases_lt p (s * length g.entries.now)) [ inl b ↦ inl b | inr b ↦ inr (last b) ]
        where
          last : s * length g.entries.now ≤ p → (i : ℕ) × Contains items i × (p ≡ s * length g.entries.now + i)
          last b =
              let i = p - s * length g.entries.now in
              let i_in : p - s * length g.entries.now < length g.entries.now = omega (arith, a, b) in
              let is : p ≡ s * length g.entries.now + (p - s * length g.entries.now) = omega (arith, b) in
              (i, are.complete i i_in (has_at g states p s i (record { within = i_in; is = is }) has), is)

pub AreNodes-done : (g : Grammar) (states : List (List ℕ)) (s : ℕ) (nodes : Nodes) → s ≡ length states → NodesBelow g states s [] nodes.places.items nodes.numbers.items → AreNodes g states nodes
AreNodes-done g states s nodes e h = record {
  long = h.long;
  places = record {
    rising = h.rising;
    below = λ p w. let has = h.sound p w in subst (λ z. z < length states * length g.entries.now) (sym has.at.is) (place_in g states has.s has.i has.has has.at.within);
    sound = h.sound;
    complete = λ p below has. h.complete p has (inl (subst (λ z. p < z * length g.entries.now) (sym e) below));
  };
  numbers = h.numbers_are;
}
