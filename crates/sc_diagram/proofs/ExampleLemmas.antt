-- A configuration that a node has, found on the way to always.
use Rattle.std.proofs.Common.{◌≡◌, ℕ, zero, suc, ◌<◌, ◌≤◌, true, List, length, replicate, refl, sym, ◌∙◌, ap, subst, arith}
use Rattle.std.specs.Prelude.{slice_index, slice_set}
use Rattle.std.proofs.lemmas.Bool.{false≢true}
use Rattle.std.proofs.lemmas.List.{get_or-set_same, get_or-set_other}
use Rattle.sc_model.specs.Sets.{IsConfig, IsNever}
use Rattle.sc_model.proofs.SetLemmas.{IsConfig-set}
use Rattle.sc_diagram.specs.Diagram.{Diagram, IsDiagram, branch_of, variable_of, child_of, sets_of}
use Rattle.sc_diagram.specs.Applied.{cofactor}
use Rattle.sc_diagram.proofs.DiagramLemmas.{has_end, IsConfig-first, later_child}
use Rattle.sc_diagram.proofs.AppliedLemmas.{has_cofactor, own_cofactor, cofactor_child}

-- the steps of each configuration that begins as into does lead from n to at, which is not never
pub record LeadsTo (d : Diagram) (n at : ℕ) (into : List ℕ) : Type 0 where
  pub listed : IsConfig d.arities into
  pub own : at < length d.nodes
  pub some : at ≡ 0 → ⊥
  pub same : (c : List ℕ) → IsConfig d.arities c → ((u : ℕ) → u < variable_of d at → slice_index c u ≡ slice_index into u) → (sets_of d).has n c ≡ (sets_of d).has at c

module _ {d : Diagram} (valid : IsDiagram d) where
  pub LeadsTo-start : (n : ℕ) (into : List ℕ) → n < length d.nodes → (n ≡ 0 → ⊥) → into ≡ replicate (length d.arities) 0 → LeadsTo d n n into
  LeadsTo-start n into own some cleared = record {
    listed = subst (IsConfig d.arities) (sym cleared) (IsConfig-first d.arities valid.options);
    own = own;
    some = some;
    same = λ c listed begins. refl;
  }

  pub LeadsTo-step : (n at k : ℕ) (into : List ℕ) → 2 ≤ at → LeadsTo d n at into → k < length (branch_of d at).children → ((j : ℕ) → j < length (branch_of d at).children → child_of d at k ≡ 0 → child_of d at j ≡ 0)
      → LeadsTo d n (cofactor d at (variable_of d at) k) (slice_set into (variable_of d at) k)
  LeadsTo-step n at k into inner leads within left =
      let v = variable_of d at in
      let is = valid.decisions at inner leads.own in
      let in_range : k < slice_index d.arities v = omega (arith, within, is.wide) in
      let child = cofactor_child valid at leads.own v k refl in
      let placed : v < length into = omega (arith, leads.listed.long, is.within) in
      let later = later_child valid at leads.own is.within k within in
      record {
        listed = IsConfig-set v k leads.listed is.within in_range;
        own = own_cofactor valid at leads.own v k is.within in_range;
        some = λ none. is.reduced (λ j within_j. left j within_j (sym child ∙ none) ∙ sym (left 0 (omega (arith, within)) (sym child ∙ none)));
        same = λ c listed begins.
            let before : v < variable_of d (cofactor d at v k) = omega (arith, later, ap (variable_of d) child) in
            let chosen : slice_index c v ≡ k = begins v before ∙ get_or-set_same into v k 0 placed in
            leads.same c listed (λ u low. begins u (omega (arith, before)) ∙ get_or-set_other into v u k 0 (omega arith)) ∙ sym (has_cofactor valid at leads.own v k c listed chosen);
      }

  pub has_example : (n at : ℕ) (into : List ℕ) → at < 2 → LeadsTo d n at into → (sets_of d).has n into ≡ true
  has_example n zero into low leads = absurd (leads.some refl)
  has_example n (suc zero) into low leads = leads.same into leads.listed (λ u before. refl) ∙ has_end valid into leads.listed 1 (omega arith)
  has_example n (suc (suc at)) into low leads = absurd (omega arith)

  pub IsNever-zero : (n : ℕ) → n ≡ 0 → IsNever (sets_of d) n
  IsNever-zero n at = subst (IsNever (sets_of d)) (sym at) (record { none = λ c listed. has_end valid c listed 0 (omega arith) })

  pub not_never : (n : ℕ) (into : List ℕ) → IsConfig d.arities into → (sets_of d).has n into ≡ true → IsNever (sets_of d) n → ⊥
  not_never n into listed has never = false≢true (sym (never.none into listed) ∙ has)
