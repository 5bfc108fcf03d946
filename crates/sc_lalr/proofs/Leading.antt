-- The rows of what each symbol leads.
use Rattle.std.proofs.Common.{◌≡◌, ◌↔◌, ◌<◌, ◌≤◌, ◌+◌, ℕ, List, [], ◌∷◌, ◌++◌, length, get_or, set, slice_get, Some, Vec, inl, inr, refl, sym, ap, ◌∙◌, subst, arith}
use Rattle.std.specs.Int.{bit_at}
use Rattle.std.specs.List.{Contains}
use Rattle.std.specs.declared.alloc.Global.{Global}
use Rattle.std.proofs.lemmas.List.{length-set}
use Rattle.std.proofs.lemmas.List.Elements.{Contains-push, Contains-append_left, Contains-push_cases, Contains-get_or}
use Rattle.std.proofs.lemmas.Option.{same_Some, slice_get-get_or, get_or_from_slice_get}
use Rattle.std.proofs.lemmas.Bool.{cases_lt}
use Rattle.lr_tables.specs.Grammar.{IsGrammar, after, begun}
use Rattle.lr_tables.specs.Tables.{First, itself, derived}
use Rattle.lr_tables.specs.declared.grammar.Grammar.{Grammar}
use Rattle.sc_items.specs.Kernel.{AreEmpty}
use Rattle.sc_items.specs.Reach.{EdgesWithin}
use Rattle.lr_tables.proofs.Members.{no_member, slice_some}
use Rattle.sc_items.proofs.Opening.{at-place, begun_within, each-set}
use Rattle.sc_items.proofs.Exploring.{after_small, begun_small}
use Rattle.sc_lalr.specs.First.{Leads, IsLeading}
use Rattle.sc_lalr.specs.Marks.{HasMark, HaveOwnMarks, IsSpread, Spreads, start, step}
use Rattle.sc_lalr.proofs.Spreading.{mark_within}

-- the symbols that a symbol leads by the first items
pub record IsLedBelow (g : Grammar) (y n : ℕ) (row : List ℕ) : Type 0 where
  pub sound : (x : ℕ) → Contains row x → Leads g x y
  pub complete : (x : ℕ) (l : Leads g x y) → l.item < n → Contains row x

pub IsLedBelow-none : (g : Grammar) (y : ℕ) → IsLedBelow g y 0 []
IsLedBelow-none g y = record { sound = λ x w. absurd (no_member x w); complete = λ x l h. absurd (omega (arith, h)) }

pub IsLedBelow-skip : (g : Grammar) (y n : ℕ) (row : List ℕ) → IsLedBelow g y n row → ((x : ℕ) → begun g n ≡ Some x → after g n ≡ Some y → ⊥) → IsLedBelow g y (n + 1) row
IsLedBelow-skip g y n row h not = record {
  sound = h.sound;
  complete = λ x l below. elim (cases_lt l.item n) [ inl a ↦ h.complete x l a | inr b ↦ absurd (here x l (same l.item below b)) ];
}
  where
    same : (i : ℕ) → i < n + 1 → n ≤ i → i ≡ n
    same i a b = omega arith

    here : (x : ℕ) (l : Leads g x y) → l.item ≡ n → ⊥
    here x l e = not x (subst (λ i. begun g i ≡ Some x) e l.begins) (subst (λ i. after g i ≡ Some y) e l.first)

pub IsLedBelow-push : (g : Grammar) (y n x : ℕ) (row : List ℕ) → IsLedBelow g y n row → begun g n ≡ Some x → after g n ≡ Some y → IsLedBelow g y (n + 1) (row ++ x ∷ [])
IsLedBelow-push g y n x row h begins first = record { sound = sound; complete = complete }
  where
    same : (i : ℕ) → i < n + 1 → n ≤ i → i ≡ n
    same i a b = omega arith

    sound : (z : ℕ) → Contains (row ++ x ∷ []) z → Leads g z y
    sound z w = elim (Contains-push_cases row x z w) [ inl a ↦ h.sound z a | inr e ↦ subst (λ v. Leads g v y) e (record { item = n; begins = begins; first = first }) ]

    complete : (z : ℕ) (l : Leads g z y) → l.item < n + 1 → Contains (row ++ x ∷ []) z
    complete z l below = elim (cases_lt l.item n) [
      | inl a ↦ Contains-append_left row (x ∷ []) z (h.complete z l a)
      | inr b ↦ subst (Contains (row ++ x ∷ [])) (same_Some x z (sym begins ∙ subst (λ i. begun g i ≡ Some z) (same l.item below b) l.begins)) (Contains-push row x)
    ]

-- the rows, by the first items
pub record IsLeadingBelow (g : Grammar) (n : ℕ) (rows : List (Vec ℕ Global)) : Type 0 where
  pub long : length rows ≡ g.terminals + g.nonterminals
  pub each : (y : ℕ) (row : Vec ℕ Global) → slice_get rows y ≡ Some row → IsLedBelow g y n row.items

pub IsLeadingBelow-none : (g : Grammar) (rows : List (Vec ℕ Global)) → AreEmpty (g.terminals + g.nonterminals) rows → IsLeadingBelow g 0 rows
IsLeadingBelow-none g rows h = record { long = h.long; each = λ y row at. rw (h.each y row at) (IsLedBelow-none g y) }

pub IsLeadingBelow-skip : (g : Grammar) (n : ℕ) (rows : List (Vec ℕ Global)) → IsLeadingBelow g n rows → ((x y : ℕ) → begun g n ≡ Some x → after g n ≡ Some y → ⊥) → IsLeadingBelow g (n + 1) rows
IsLeadingBelow-skip g n rows h none = record { long = h.long; each = λ y row at. IsLedBelow-skip g y n row.items (h.each y row at) (λ x. none x y) }

pub IsLeadingBelow-push : (g : Grammar) (n x y : ℕ) (rows : List (Vec ℕ Global)) (row grown : Vec ℕ Global) → IsLeadingBelow g n rows → begun g n ≡ Some x → after g n ≡ Some y → y < length rows → row ≡ get_or rows y row → grown.items ≡ row.items ++ x ∷ [] → IsLeadingBelow g (n + 1) (set rows y grown)
IsLeadingBelow-push g n x y rows row grown h begins first within row_is grown_is = record {
  long = length-set rows y grown ∙ h.long;
  each = each-set (λ z (r : Vec ℕ Global). IsLedBelow g z n r.items) (λ z (r : Vec ℕ Global). IsLedBelow g z (n + 1) r.items) rows y grown within h.each
      (λ z r other led. IsLedBelow-skip g z n r.items led (λ w b f. other (same_Some z y (sym f ∙ first))))
      (rw grown_is (IsLedBelow-push g y n x row.items (at-place (λ z (r : Vec ℕ Global). IsLedBelow g z n r.items) rows y row within row_is h.each) begins first));
}

pub IsLeading-done : (g : Grammar) (n : ℕ) (rows : List (Vec ℕ Global)) → IsGrammar g → length g.entries.now ≤ n → IsLeadingBelow g n rows → IsLeading g rows
IsLeading-done g n rows grammar all h = record {
  long = h.long;
  sound = λ y x edge. (h.each y edge.row edge.row_at).sound x edge.in_row;
  complete = λ y x l. (
      let row = slice_some rows y (omega (arith, h.long, after_small g l.item y grammar l.first)) in
      record { row = row.0; row_at = row.1; in_row = (h.each y row.0 row.1).complete x l (omega (arith, all, begun_within g l.item x l.begins)) });
}

pub EdgesWithin-done : (g : Grammar) (n : ℕ) (rows : List (Vec ℕ Global)) → IsGrammar g → IsLeadingBelow g n rows → EdgesWithin rows
EdgesWithin-done g n rows grammar h = record {
  within = λ y d y_in k z k_in.
      let row = get_or rows y d in
      let at : slice_get rows y ≡ Some row = slice_get-get_or rows y d y_in in
      let l = (h.each y row at).sound (get_or row.items k z) (Contains-get_or row.items k z k_in) in
      omega (arith, begun_small g l.item (get_or row.items k z) grammar l.begins, h.long);
}

-- what a symbol begins is what has its mark, once all marks are passed on
pub first_is : (g : Grammar) (rows : List (Vec ℕ Global)) (from b : ℕ) (own words : List ℕ) → IsLeading g rows → b < 64 → from + b < length rows → length own ≡ length rows → HaveOwnMarks from own → IsSpread rows own words → (x : ℕ) → HasMark words b x ↔ First g (from + b) x
first_is g rows from b own words h b_in t_in long are spread x = (λ m. to x (spread.sound b x m), λ f. spread.complete b x (back x f))
  where
    to : (z : ℕ) → Spreads rows own b z → First g (from + b) z
    to z (start v m) =
        let word = slice_some own v (mark_within own b v m) in
        let same : v ≡ from + b = (are.each v word.0 word.1 b b_in).0 (ap (λ w. bit_at w b) (sym (get_or_from_slice_get own v word.0 0 word.1)) ∙ m) in
        subst (First g (from + b)) (sym same) itself
    to z (step u v reaches edge) = let l = h.sound u v edge in derived v l.item u l.begins l.first (to u reaches)

    back : (z : ℕ) → First g (from + b) z → Spreads rows own b z
    back z itself =
        let word = slice_some own (from + b) (omega (arith, t_in, long)) in
        start (from + b) (ap (λ w. bit_at w b) (get_or_from_slice_get own (from + b) word.0 0 word.1) ∙ (are.each (from + b) word.0 word.1 b b_in).1 refl)
    back z (derived v i y begins first f) = step y v (back y f) (h.complete y v (record { item = i; begins = begins; first = first }))
