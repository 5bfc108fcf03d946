-- The entries of the table, and the nodes that they are.
use Rattle.std.proofs.Common.{◌≡◌, ℕ, zero, suc, ◌<◌, List, [], ◌∷◌, ◌++◌, length, get_or, slice_get, Contains, ◌∙◌, ap, subst, arith}
use Rattle.std.specs.Prelude.{slice_index}
use Rattle.sc_model.specs.Sets.{HasOptions}
use Rattle.sc_base.specs.Interns.{Interns, known, fresh}
use Rattle.sc_base.proofs.InternLemmas.{IsOneToOne-Interns}
use Rattle.sc_diagram.specs.Diagram.{Branch, IsDiagram, end_at, ends_over}

-- the two ends are different
ends_differ : (ns : List ℕ) → end_at ns 0 ≡ end_at ns 1 → ⊥
ends_differ ns same = let e : 0 ≡ 1 = ap (λ b. slice_index b.children 0) same in omega (arith, e)

-- the first nodes
pub nodes_at_first : (ns : List ℕ) (one two : List Branch) → Interns [] one (end_at ns 0) → Interns one two (end_at ns 1) → two ≡ ends_over ns
nodes_at_first ns one two (known has same) second = absurd (omega (arith, has.1))
nodes_at_first ns one two (fresh lacks last) (known has same) =
    let there : Contains (end_at ns 0 ∷ []) (end_at ns 1) = subst (λ nodes. Contains nodes (end_at ns 1)) last has in
    absurd (none there.0 there.1 there.2)
  where
    none : (k : ℕ) → k < 1 → get_or (end_at ns 0 ∷ []) k (end_at ns 1) ≡ end_at ns 1 → ⊥
    none zero within same = ends_differ ns same
    none (suc k) within same = absurd (omega arith)
nodes_at_first ns one two (fresh lacks last) (fresh lacks2 last2) = last2 ∙ ap (λ nodes. nodes ++ end_at ns 1 ∷ []) last

pub IsDiagram-first : (ns : List ℕ) (one two : List Branch) → HasOptions ns → Interns [] one (end_at ns 0) → Interns one two (end_at ns 1) → IsDiagram (record { arities = ns; nodes = two })
IsDiagram-first ns one two some first second =
    let same = nodes_at_first ns one two first second in
    record {
      options = some;
      never = ap (λ nodes. slice_get nodes 0) same;
      always = ap (λ nodes. slice_get nodes 1) same;
      decisions = λ n inner own. absurd (omega (arith, own, ap length same));
      different = IsOneToOne-Interns second (IsOneToOne-Interns first (record { same = λ i j x at_i at_j. cc }));
    }
