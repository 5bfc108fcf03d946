-- The rows of what each item opens, what is moved over a symbol, and the numbers of kernels.
use Rattle.std.proofs.Common.{◌≡◌, ◌<◌, ◌≤◌, ◌+◌, ℕ, List, [], ◌∷◌, ◌++◌, length, get_or, set, take, slice_get, Some, Vec, inl, inr, refl, sym, ap, ◌∙◌, subst, arith}
use Rattle.std.specs.List.Sorted.{IsStrictlyIncreasing}
use Rattle.std.specs.declared.alloc.Global.{Global}
use Rattle.std.proofs.lemmas.List.{length_push, length-set, get_or-set_same, get_or-set_other, take_all}
use Rattle.std.proofs.lemmas.List.Elements.{Contains-get_or}
use Rattle.std.proofs.lemmas.Bool.{cases_eq}
use Rattle.std.proofs.lemmas.Option.{same_Some, get_or_from_slice_get, slice_get_within, slice_get-get_or, option_and_then_some}
use Rattle.lr_tables.specs.Grammar.{after, begun, left_in, right_in}
use Rattle.lr_tables.specs.declared.grammar.Grammar.{Grammar}
use Rattle.sc_base.proofs.Growth.{push_cases}
use Rattle.lr_tables.proofs.Members.{slice_some}
use Rattle.sc_items.specs.Reach.{Edge, EdgesWithin}
use Rattle.sc_items.specs.Kernel.{AreEmpty, AreMoved, Begins, IsListOf, IsMoved, Opens, IsOpened}
use Rattle.sc_items.proofs.Listing.{IsCollected, IsCollected-kept, IsCollected-left, IsCollected-none, IsListOf-none, IsListOf-push, IsListOf-skip, rising-collected, rising-none}

-- what holds of each entry at its place, with one entry more
pub each-push : {A : Type 0} (P : ℕ → A → Type 0) (xs : List A) (y : A) (n : ℕ) → length xs ≡ n → ((i : ℕ) (x : A) → slice_get xs i ≡ Some x → P i x) → P n y
    → (i : ℕ) (x : A) → slice_get (xs ++ y ∷ []) i ≡ Some x → P i x
each-push P xs y n long each one i x at = elim (push_cases xs y i x at) [
  | inl a ↦ each i x a
  | inr e ↦ subst (P i) e.1 (subst (λ k. P k y) (sym (e.0 ∙ long)) one)
]

-- what holds of each entry at its place, with another entry at one place
pub each-set : {A : Type 0} (P Q : ℕ → A → Type 0) (xs : List A) (i : ℕ) (y : A) → i < length xs → ((k : ℕ) (x : A) → slice_get xs k ≡ Some x → P k x) → ((k : ℕ) (x : A) → (k ≡ i → ⊥) → P k x → Q k x) → Q i y
    → (k : ℕ) (x : A) → slice_get (set xs i y) k ≡ Some x → Q k x
each-set P Q xs i y within each others one k x at = elim (cases_eq k i) [
  | inl e ↦ (
      let same : y ≡ x = sym (get_or-set_same xs i y x within) ∙ subst (λ z. get_or (set xs i y) z x ≡ x) e (get_or_from_slice_get (set xs i y) k x x at) in
      subst (λ z. Q z x) (sym e) (subst (Q i) same one))
  | inr f ↦ (
      let is : get_or xs k x ≡ x = sym (get_or-set_other xs i k y x f) ∙ get_or_from_slice_get (set xs i y) k x x at in
      others k x f (each k x (slice_get-get_or xs k x (omega (arith, slice_get_within (set xs i y) k x at, length-set xs i y)) ∙ ap (λ z. Some z) is)))
]

-- what holds of each entry as it was before
pub at-place : {A : Type 0} (P : ℕ → A → Type 0) (xs : List A) (i : ℕ) (y : A) → i < length xs → y ≡ get_or xs i y → ((k : ℕ) (x : A) → slice_get xs k ≡ Some x → P k x) → P i y
at-place P xs i y within e each = each i y (slice_get-get_or xs i y within ∙ ap (λ z. Some z) (sym e))

-- ---- the beginnings of the productions, by the first items
pub record BeginningsBelow (g : Grammar) (n : ℕ) (rows : List (Vec ℕ Global)) : Type 0 where
  pub long : length rows ≡ g.terminals + g.nonterminals
  pub each : (x : ℕ) (row : Vec ℕ Global) → slice_get rows x ≡ Some row → IsListOf n (Begins g x) row.items

pub BeginningsBelow-none : (g : Grammar) (rows : List (Vec ℕ Global)) → AreEmpty (g.terminals + g.nonterminals) rows → BeginningsBelow g 0 rows
BeginningsBelow-none g rows h = record { long = h.long; each = λ x row at. rw (h.each x row at) (IsListOf-none (Begins g x)) }

pub BeginningsBelow-skip : (g : Grammar) (n : ℕ) (rows : List (Vec ℕ Global)) → BeginningsBelow g n rows → ((x : ℕ) → begun g n ≡ Some x → ⊥) → BeginningsBelow g (n + 1) rows
BeginningsBelow-skip g n rows h none = record { long = h.long; each = λ x row at. IsListOf-skip (Begins g x) n row.items (h.each x row at) (λ b. none x b.begins) }

pub BeginningsBelow-push : (g : Grammar) (n x : ℕ) (rows : List (Vec ℕ Global)) (row grown : Vec ℕ Global) → BeginningsBelow g n rows → begun g n ≡ Some x → x < length rows → row ≡ get_or rows x row → grown.items ≡ row.items ++ n ∷ [] → BeginningsBelow g (n + 1) (set rows x grown)
BeginningsBelow-push g n x rows row grown h begins within row_is grown_is = record {
  long = length-set rows x grown ∙ h.long;
  each = each-set (λ y (r : Vec ℕ Global). IsListOf n (Begins g y) r.items) (λ y (r : Vec ℕ Global). IsListOf (n + 1) (Begins g y) r.items) rows x grown within h.each
      (λ y r other list. IsListOf-skip (Begins g y) n r.items list (λ b. other (same_Some y x (sym b.begins ∙ begins))))
      (rw grown_is (IsListOf-push (Begins g x) n row.items (at-place (λ y (r : Vec ℕ Global). IsListOf n (Begins g y) r.items) rows x row within row_is h.each) (record { begins = begins })));
}

-- an item opens the beginnings of the productions of the symbol after its dot
pub opens_beginnings : (g : Grammar) (i x n : ℕ) (items : List ℕ) → after g i ≡ Some x → IsListOf n (Begins g x) items → IsListOf n (Opens g i) items
opens_beginnings g i x n items over h = record {
  rising = h.rising;
  below = h.below;
  sound = λ j w. record { symbol = x; over = over; begins = (h.sound j w).begins };
  complete = λ j j_in o. h.complete j j_in (record { begins = o.begins ∙ ap (λ y. Some y) (same_Some o.symbol x (sym o.over ∙ over)) });
}

-- ---- what each item opens
pub record IsOpenedBelow (g : Grammar) (n : ℕ) (rows : List (Vec ℕ Global)) : Type 0 where
  pub long : length rows ≡ n
  pub each : (i : ℕ) (row : Vec ℕ Global) → slice_get rows i ≡ Some row → IsListOf (length g.entries.now) (Opens g i) row.items

pub IsOpenedBelow-push : (g : Grammar) (n : ℕ) (rows : List (Vec ℕ Global)) (row : Vec ℕ Global) → IsOpenedBelow g n rows → IsListOf (length g.entries.now) (Opens g n) row.items → IsOpenedBelow g (n + 1) (rows ++ row ∷ [])
IsOpenedBelow-push g n rows row h one = record {
  long = length_push rows row ∙ ap (λ k. k + 1) h.long;
  each = each-push (λ i (r : Vec ℕ Global). IsListOf (length g.entries.now) (Opens g i) r.items) rows row n h.long h.each one;
}

-- an item with something after its dot or its dot at the beginning is one of the entries
pub begun_within : (g : Grammar) (j x : ℕ) → begun g j ≡ Some x → j < length g.entries.now
begun_within g j x h = option_and_then_some (left_in g.terminals) (slice_get g.entries.now j) x h (λ entry at is. slice_get_within g.entries.now j entry at)

pub after_within : (g : Grammar) (i x : ℕ) → after g i ≡ Some x → i + 1 < length g.entries.now
after_within g i x h = option_and_then_some (right_in g.terminals) (slice_get g.entries.now (i + 1)) x h (λ entry at is. slice_get_within g.entries.now (i + 1) entry at)

pub IsOpened-done : (g : Grammar) (n : ℕ) (rows : List (Vec ℕ Global)) → n ≡ length g.entries.now → IsOpenedBelow g n rows → IsOpened g rows
IsOpened-done g n rows e h = record {
  long = h.long ∙ e;
  sound = λ i j edge. (h.each i edge.row edge.row_at).sound j edge.in_row;
  complete = complete;
}
  where
    complete : (i j : ℕ) → Opens g i j → Edge rows i j
    complete i j o =
        let here : i < length rows = omega (arith, h.long, e, after_within g i o.symbol o.over) in
        let row = slice_some rows i here in
        record { row = row.0; row_at = row.1; in_row = (h.each i row.0 row.1).complete j (begun_within g j o.symbol o.begins) o }

pub EdgesWithin-done : (g : Grammar) (n : ℕ) (rows : List (Vec ℕ Global)) → n ≡ length g.entries.now → IsOpenedBelow g n rows → EdgesWithin rows
EdgesWithin-done g n rows e h = record {
  within = λ i d i_in k y k_in.
      let row = get_or rows i d in
      let at : slice_get rows i ≡ Some row = slice_get-get_or rows i d i_in in
      let below = (h.each i row at).below (get_or row.items k y) (Contains-get_or row.items k y k_in) in
      omega (arith, below, e, h.long);
}

-- ---- what is moved over a symbol
abbrev pub MovesTo : Grammar → ℕ → ℕ → ℕ → Type 0
MovesTo g x i m = (after g i ≡ Some x) × (m ≡ i + 1)

pub record MovedSoFar (g : Grammar) (items : List ℕ) (x : ℕ) (kernel : List ℕ) : Type 0 where
  pub rising : IsStrictlyIncreasing kernel
  pub collected : IsCollected (MovesTo g x) items kernel

pub MovedSoFar-none : (g : Grammar) (x : ℕ) → MovedSoFar g [] x []
MovedSoFar-none g x = record { rising = rising-none; collected = IsCollected-none (MovesTo g x) }

pub MovedSoFar-left : (g : Grammar) (items : List ℕ) (x k : ℕ) (kernel : List ℕ) → k < length items → MovedSoFar g (take k items) x kernel → (after g (get_or items k 0) ≡ Some x → ⊥) → MovedSoFar g (take (k + 1) items) x kernel
MovedSoFar-left g items x k kernel k_in h not =
    record { rising = h.rising; collected = IsCollected-left (MovesTo g x) items kernel k k_in h.collected (λ m r. not r.0) }

pub MovedSoFar-kept : (g : Grammar) (items : List ℕ) (x k : ℕ) (kernel : List ℕ) → IsStrictlyIncreasing items → k < length items → MovedSoFar g (take k items) x kernel → after g (get_or items k 0) ≡ Some x → MovedSoFar g (take (k + 1) items) x (kernel ++ (get_or items k 0 + 1) ∷ [])
MovedSoFar-kept g items x k kernel inc k_in h over = record {
  rising = rising-collected (MovesTo g x) items kernel k (get_or items k 0 + 1) inc k_in h.collected h.rising (λ i m w lower r. omega (arith, r.1, lower));
  collected = IsCollected-kept (MovesTo g x) items kernel k (get_or items k 0 + 1) k_in h.collected (over, refl) (λ m r. sym r.1);
}

pub MovedSoFar-done : (g : Grammar) (items : List ℕ) (x k : ℕ) (kernel : List ℕ) → length items ≤ k → MovedSoFar g (take k items) x kernel → IsMoved g items x kernel
MovedSoFar-done g items x k kernel all h =
    let m : MovedSoFar g items x kernel = subst (λ xs. MovedSoFar g xs x kernel) (take_all k items all) h in
    record {
      rising = m.rising;
      moved = λ y. (
        λ w. let o = m.collected.sound y w in record { from = o.0; within = o.1; over = o.2.0; to = o.2.1 },
        λ o. m.collected.complete o.from y o.within (o.over, o.to),
      );
    }

-- the rows of what is moved over each symbol
pub record RowsSoFar (g : Grammar) (items : List ℕ) (rows : List (Vec ℕ Global)) : Type 0 where
  pub long : length rows ≡ g.terminals + g.nonterminals
  pub each : (x : ℕ) (row : Vec ℕ Global) → slice_get rows x ≡ Some row → MovedSoFar g items x row.items

pub RowsSoFar-none : (g : Grammar) (rows : List (Vec ℕ Global)) → AreEmpty (g.terminals + g.nonterminals) rows → RowsSoFar g [] rows
RowsSoFar-none g rows h = record { long = h.long; each = λ x row at. rw (h.each x row at) (MovedSoFar-none g x) }

pub RowsSoFar-left : (g : Grammar) (items : List ℕ) (k : ℕ) (rows : List (Vec ℕ Global)) → k < length items → RowsSoFar g (take k items) rows → ((x : ℕ) → after g (get_or items k 0) ≡ Some x → ⊥) → RowsSoFar g (take (k + 1) items) rows
RowsSoFar-left g items k rows k_in h none = record { long = h.long; each = λ x row at. MovedSoFar-left g items x k row.items k_in (h.each x row at) (none x) }

pub RowsSoFar-kept : (g : Grammar) (items : List ℕ) (k x : ℕ) (rows : List (Vec ℕ Global)) (row grown : Vec ℕ Global) → IsStrictlyIncreasing items → k < length items → RowsSoFar g (take k items) rows → after g (get_or items k 0) ≡ Some x → x < length rows → row ≡ get_or rows x row → grown.items ≡ row.items ++ (get_or items k 0 + 1) ∷ [] → RowsSoFar g (take (k + 1) items) (set rows x grown)
RowsSoFar-kept g items k x rows row grown inc k_in h over within row_is grown_is = record {
  long = length-set rows x grown ∙ h.long;
  each = each-set (λ y (r : Vec ℕ Global). MovedSoFar g (take k items) y r.items) (λ y (r : Vec ℕ Global). MovedSoFar g (take (k + 1) items) y r.items) rows x grown within h.each
      (λ y r other m. MovedSoFar-left g items y k r.items k_in m (λ e. other (same_Some y x (sym e ∙ over))))
      (rw grown_is (MovedSoFar-kept g items x k row.items inc k_in (at-place (λ y (r : Vec ℕ Global). MovedSoFar g (take k items) y r.items) rows x row within row_is h.each) over));
}

-- ---- the rows, of which those of the first symbols were taken
pub record TakenBelow (g : Grammar) (items : List ℕ) (n : ℕ) (rows : List (Vec ℕ Global)) : Type 0 where
  pub long : length rows ≡ g.terminals + g.nonterminals
  pub each : (x : ℕ) (row : Vec ℕ Global) → slice_get rows x ≡ Some row → (x < n → row.items ≡ []) × (n ≤ x → IsMoved g items x row.items)

pub TakenBelow-none : (g : Grammar) (items : List ℕ) (rows : List (Vec ℕ Global)) → AreMoved g items rows → TakenBelow g items 0 rows
TakenBelow-none g items rows h = record { long = h.long; each = λ x row at. (λ below. absurd (omega (arith, below)), λ all. h.each x row at) }

pub TakenBelow-more : (g : Grammar) (items : List ℕ) (n : ℕ) (rows : List (Vec ℕ Global)) (empty : Vec ℕ Global) → TakenBelow g items n rows → n < length rows → empty.items ≡ [] → TakenBelow g items (n + 1) (set rows n empty)
TakenBelow-more g items n rows empty h within e = record {
  long = length-set rows n empty ∙ h.long;
  each = each-set (λ x (row : Vec ℕ Global). (x < n → row.items ≡ []) × (n ≤ x → IsMoved g items x row.items)) (λ x (row : Vec ℕ Global). (x < n + 1 → row.items ≡ []) × (n + 1 ≤ x → IsMoved g items x row.items)) rows n empty within h.each
      (λ x row other t. (λ below. t.0 (omega (arith, below, other)), λ from. t.1 (omega (arith, from))))
      (λ below. e, λ from. absurd (omega (arith, from)));
}

pub TakenBelow-done : (g : Grammar) (items : List ℕ) (n : ℕ) (rows : List (Vec ℕ Global)) → n ≡ g.terminals + g.nonterminals → TakenBelow g items n rows → AreEmpty (g.terminals + g.nonterminals) rows
TakenBelow-done g items n rows e h = record { long = h.long; each = λ x row at. (h.each x row at).0 (omega (arith, slice_get_within rows x row at, h.long, e)) }

-- the row that is taken next
pub taken_at : (g : Grammar) (items : List ℕ) (n : ℕ) (rows : List (Vec ℕ Global)) (row kernel : Vec ℕ Global) → TakenBelow g items n rows → n < length rows → row ≡ get_or rows n row → kernel ≡ row → IsMoved g items n kernel.items
taken_at g items n rows row kernel h within row_is e = rw e ((at-place (λ x (r : Vec ℕ Global). (x < n → r.items ≡ []) × (n ≤ x → IsMoved g items x r.items)) rows n row within row_is h.each).1 (omega arith))
