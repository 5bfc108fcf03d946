-- What operations make: from what they make of the children, and as the diagram grows.
use Rattle.std.proofs.Common.{◌≡◌, ◌≢◌, ℕ, ◌<◌, ◌≤◌, ◌==◌, ◌&&◌, ◌||◌, not, min, false, List, length, Contains, Option, Some, ◌⊎◌, inl, inr, refl, sym, ◌∙◌, ap, subst, arith, if◌then◌else◌}
use Rattle.std.specs.Prelude.{slice_index, slice_set}
use Rattle.std.proofs.lemmas.Bool.{cases_Bool, cases_lt, eqb-true, eq-eqb, true≢false}
use Rattle.std.proofs.lemmas.List.{get_or-set_other}
use Rattle.std.proofs.lemmas.Option.{get_or_from_slice_get}
use Rattle.sc_model.specs.Sets.{IsConfig}
use Rattle.sc_model.proofs.SetLemmas.{IsConfig-set}
use Rattle.sc_diagram.specs.declared.operation.Operation.{Operation}
use Rattle.sc_diagram.specs.declared.operation.Operation.TheVariants.{And, Or, Without, Negate, Part}
use Rattle.sc_diagram.specs.declared.operation.Application.{Application}
use Rattle.sc_diagram.specs.Diagram.{Diagram, IsDiagram, branch, branch_of, end_at, variable_of, child_of, sets_of}
use Rattle.sc_diagram.specs.Grown.{Grows, IsChoice, only, decides}
use Rattle.sc_diagram.specs.Applied.{combine, IsOperation, IsApplication, Applies, AppliesEach, cofactor, application_at, first_of, IsBefore, IsKnown, IsForgotten, Adds}
use Rattle.sc_diagram.proofs.DiagramLemmas.{decision, has_child, has_free, has_next, own_part, later_child}
use Rattle.sc_diagram.proofs.GrownLemmas.{branch_of-Grows, variable_of-Grows, own-Grows, has-Grows}

-- the first of two variables
pub first-le : (a b : ℕ) → record { left : min a b ≤ a; right : min a b ≤ b; one : (min a b ≡ a) ⊎ (min a b ≡ b) }
first-le a b = elim (cases_lt a b) [
  | inl less ↦ (let e : min a b ≡ a = grind arith in record { left = omega (arith, e); right = omega (arith, e); one = inl e })
  | inr more ↦ (let e : min a b ≡ b = grind arith in record { left = omega (arith, e); right = omega (arith, e); one = inr e })
]

module _ {d : Diagram} (valid : IsDiagram d) (n : ℕ) (own : n < length d.nodes) (v k : ℕ) where
  pub cofactor_child : variable_of d n ≡ v → cofactor d n v k ≡ child_of d n k
  cofactor_child here = ap (λ b. if b then child_of d n k else n) (eq-eqb (variable_of d n) v here)

  pub cofactor_itself : (variable_of d n == v) ≡ false → cofactor d n v k ≡ n
  cofactor_itself other = ap (λ b. if b then child_of d n k else n) other

  -- what remains where a configuration has its option has the configuration where the node has
  pub has_cofactor : (c : List ℕ) → IsConfig d.arities c → slice_index c v ≡ k → (sets_of d).has (cofactor d n v k) c ≡ (sets_of d).has n c
  has_cofactor c listed chosen = elim (cases_Bool (variable_of d n == v)) [
    | inl is ↦ (
        let here = eqb-true (variable_of d n) v is in
        let option : slice_index c (variable_of d n) ≡ k = ap (slice_index c) here ∙ chosen in
        ap (λ m. (sets_of d).has m c) (cofactor_child here ∙ ap (child_of d n) (sym option)) ∙ sym (has_next valid c listed n own)
        )
    | inr other ↦ ap (λ m. (sets_of d).has m c) (cofactor_itself other)
  ]

  module _ (within : v < length d.arities) (in_range : k < slice_index d.arities v) where
    pub wide : variable_of d n ≡ v → k < length (branch_of d n).children
    wide here = omega (arith, in_range, (decision valid n own (omega arith)).wide, ap (slice_index d.arities) here)

    pub own_cofactor : cofactor d n v k < length d.nodes
    own_cofactor = elim (cases_Bool (variable_of d n == v)) [
      | inl is ↦ (let here = eqb-true (variable_of d n) v is in omega (arith, cofactor_child here, own_part valid n k own (wide here)))
      | inr other ↦ omega (arith, cofactor_itself other)
    ]

    pub cofactor-lt : variable_of d n ≡ v → cofactor d n v k < n
    cofactor-lt here = omega (arith, cofactor_child here, (decision valid n own (omega arith)).lower k (wide here))

    -- it decides by a later variable
    pub later_cofactor : v ≤ variable_of d n → v < variable_of d (cofactor d n v k)
    later_cofactor from = elim (cases_Bool (variable_of d n == v)) [
      | inl is ↦ (
          let here = eqb-true (variable_of d n) v is in
          let later = later_child valid n own (omega arith) k (wide here) in
          omega (arith, later, ap (variable_of d) (cofactor_child here))
          )
      | inr other ↦ (
          let apart : v ≢ variable_of d n = λ same. true≢false (sym (eq-eqb (variable_of d n) v (sym same)) ∙ other) in
          omega (arith, apart, ap (variable_of d) (cofactor_itself other))
          )
    ]

    pub from_cofactor : (u : ℕ) → u ≤ variable_of d n → u ≤ variable_of d (cofactor d n v k)
    from_cofactor u from = elim (cases_Bool (variable_of d n == v)) [
      | inl is ↦ (
          let here = eqb-true (variable_of d n) v is in
          let later = later_child valid n own (omega arith) k (wide here) in
          omega (arith, later, ap (variable_of d) (cofactor_child here))
          )
      | inr other ↦ omega (arith, ap (variable_of d) (cofactor_itself other))
    ]

    -- it has what the node has where the variable is set to the option
    pub has_cofactor-set : v ≤ variable_of d n → (c : List ℕ) → IsConfig d.arities c → (sets_of d).has (cofactor d n v k) c ≡ (sets_of d).has n (slice_set c v k)
    has_cofactor-set from c listed = elim (cases_Bool (variable_of d n == v)) [
      | inl told ↦ (
          let here = eqb-true (variable_of d n) v told in
          ap (λ m. (sets_of d).has m c) (cofactor_child here) ∙ sym (has_child valid n own (omega arith) k (wide here) c listed) ∙ ap (λ u. (sets_of d).has n (slice_set c u k)) here
          )
      | inr other ↦ (
          let apart : v ≢ variable_of d n = λ e. true≢false (sym (eq-eqb (variable_of d n) v (sym e)) ∙ other) in
          ap (λ m. (sets_of d).has m c) (cofactor_itself other) ∙ sym (has_free valid c listed v k n own (omega (arith, apart)))
          )
    ]

    -- what has nothing with any option is never
    pub never-cofactors : ((j : ℕ) → j < slice_index d.arities v → cofactor d n v j ≡ 0) → n ≡ 0
    never-cofactors none = elim (cases_Bool (variable_of d n == v)) [
      | inl told ↦ (
          let here = eqb-true (variable_of d n) v told in
          let is = decision valid n own (omega arith) in
          absurd (is.reduced (λ j in_range. child here j (omega (arith, in_range, is.wide, ap (slice_index d.arities) here)) ∙ sym (child here 0 (omega (arith, in_range, is.wide, ap (slice_index d.arities) here)))))
          )
      | inr other ↦ sym (ap (λ b. if b then child_of d n k else n) other) ∙ none k in_range
    ]
      where
        child : variable_of d n ≡ v → (j : ℕ) → j < slice_index d.arities v → child_of d n j ≡ 0
        child here j below = sym (ap (λ b. if b then child_of d n j else n) (eq-eqb (variable_of d n) v here)) ∙ none j below

module _ {d : Diagram} (valid : IsDiagram d) (what : Application) (is : IsApplication d what) where
  -- the operation on what remains is one
  pub IsApplication-at : (v k : ℕ) → v < length d.arities → k < slice_index d.arities v → IsApplication d (application_at d what v k)
  IsApplication-at v k within in_range = record {
    operation = is.operation;
    left = own_cofactor valid what.left is.left v k within in_range;
    right = own_cofactor valid what.right is.right v k within in_range;
  }

  combine_cofactors : (op : Operation) → IsOperation d.arities op → IsBefore d op what.left → (v k : ℕ) → v ≤ variable_of d what.left → (c : List ℕ) → IsConfig d.arities c → slice_index c v ≡ k
      → combine op ((sets_of d).has (cofactor d what.left v k)) ((sets_of d).has (cofactor d what.right v k)) c ≡ combine op ((sets_of d).has what.left) ((sets_of d).has what.right) c
  combine_cofactors And operation before v k from c listed chosen = λ i. has_cofactor valid what.left is.left v k c listed chosen i && has_cofactor valid what.right is.right v k c listed chosen i
  combine_cofactors Or operation before v k from c listed chosen = λ i. has_cofactor valid what.left is.left v k c listed chosen i || has_cofactor valid what.right is.right v k c listed chosen i
  combine_cofactors Without operation before v k from c listed chosen = λ i. has_cofactor valid what.left is.left v k c listed chosen i && not (has_cofactor valid what.right is.right v k c listed chosen i)
  combine_cofactors Negate operation before v k from c listed chosen = ap not (has_cofactor valid what.left is.left v k c listed chosen)
  combine_cofactors (Part w o) operation before v k from c listed chosen =
      let other : v ≢ w = omega (arith, before) in
      has_cofactor valid what.left is.left v k (slice_set c w o) (IsConfig-set w o listed operation.within operation.in_range) (get_or-set_other c w v o 0 other ∙ chosen)

  -- the choice between what the operation makes for each option is what it makes
  pub Applies-IsChoice : (r v : ℕ) (results : List ℕ) → IsBefore d what.operation what.left → v ≡ first_of d what → v < length d.arities → length results ≡ slice_index d.arities v
      → r < length d.nodes → AppliesEach d what v results → IsChoice d r v results → Applies d what r
  Applies-IsChoice r v results before first within full own each choice =
      let least = first-le (variable_of d what.left) (variable_of d what.right) in
      let from : v ≤ variable_of d what.left = omega (arith, first, least.left) in
      let some : 0 < length results = omega (arith, full, valid.options.each v within) in
      record {
        application = is;
        own = own;
        from = λ u from_left from_right. start u from_left from_right (elim least.one [ inl at ↦ omega (arith, first, at) | inr at ↦ omega (arith, first, at) ]) some choice;
        at = λ c listed.
            let k = slice_index c v in
            let in_range : k < length results = omega (arith, listed.each v within, full) in
            chosen c listed in_range choice ∙ (each.each k in_range).at c listed ∙ combine_cofactors what.operation is.operation before v k from c listed refl;
      }
    where
      start : (u : ℕ) → u ≤ variable_of d what.left → u ≤ variable_of d what.right → u ≤ v → 0 < length results → IsChoice d r v results → u ≤ variable_of d r
      start u from_left from_right low some (only all) =
          let first = each.each 0 some in
          let in_range : 0 < slice_index d.arities v = omega (arith, full) in
          let at = first.from u (from_cofactor valid what.left is.left v 0 within in_range u from_left) (from_cofactor valid what.right is.right v 0 within in_range u from_right) in
          subst (λ m. u ≤ variable_of d m) (all 0 some) at
      start u from_left from_right low some (decides at) = omega (arith, ap (λ b. b.variable) (get_or_from_slice_get d.nodes r (branch v results) (end_at d.arities r) at))

      chosen : (c : List ℕ) → IsConfig d.arities c → slice_index c v < length results → IsChoice d r v results → (sets_of d).has r c ≡ (sets_of d).has (slice_index results (slice_index c v)) c
      chosen c listed in_range (only all) = ap (λ m. (sets_of d).has m c) (sym (all (slice_index c v) in_range))
      chosen c listed in_range (decides at) =
          has_next valid c listed r own
          ∙ ap (λ b. (sets_of d).has (slice_index b.children (slice_index c b.variable)) c) (get_or_from_slice_get d.nodes r (branch v results) (end_at d.arities r) at)

-- what was made stays so as the diagram grows
module _ {d e : Diagram} (grows : Grows d e) where
  pub IsApplication-Grows : {what : Application} → IsApplication d what → IsApplication e what
  IsApplication-Grows {what} is = record {
    operation = subst (λ ns. IsOperation ns what.operation) (sym grows.arities) is.operation;
    left = own-Grows grows what.left is.left;
    right = own-Grows grows what.right is.right;
  }

  combine-Grows : (op : Operation) (l r : ℕ) (c : List ℕ) → IsOperation d.arities op → l < length d.nodes → r < length d.nodes → IsConfig d.arities c
      → combine op ((sets_of e).has l) ((sets_of e).has r) c ≡ combine op ((sets_of d).has l) ((sets_of d).has r) c
  combine-Grows And l r c operation own_l own_r listed = λ i. has-Grows grows l c own_l listed i && has-Grows grows r c own_r listed i
  combine-Grows Or l r c operation own_l own_r listed = λ i. has-Grows grows l c own_l listed i || has-Grows grows r c own_r listed i
  combine-Grows Without l r c operation own_l own_r listed = λ i. has-Grows grows l c own_l listed i && not (has-Grows grows r c own_r listed i)
  combine-Grows Negate l r c operation own_l own_r listed = ap not (has-Grows grows l c own_l listed)
  combine-Grows (Part w o) l r c operation own_l own_r listed = has-Grows grows l (slice_set c w o) own_l (IsConfig-set w o listed operation.within operation.in_range)

  pub Applies-Grows : {what : Application} {r : ℕ} → Applies d what r → Applies e what r
  Applies-Grows {what} {r} applies =
      let is = applies.application in
      record {
        application = IsApplication-Grows is;
        own = own-Grows grows r applies.own;
        from = λ u from_left from_right.
            let low = applies.from u (omega (arith, from_left, variable_of-Grows grows what.left is.left)) (omega (arith, from_right, variable_of-Grows grows what.right is.right)) in
            omega (arith, low, variable_of-Grows grows r applies.own);
        at = λ c listed.
            let was = subst (λ ns. IsConfig ns c) grows.arities listed in
            has-Grows grows r c applies.own was ∙ applies.at c was ∙ sym (combine-Grows what.operation what.left what.right c is.operation is.left is.right was);
      }

  pub IsKnown-Grows : {known : List (Option (Application × ℕ))} → IsKnown d known → IsKnown e known
  IsKnown-Grows each = record { each = λ p has. Applies-Grows (each.each p has) }

  cofactor-Grows : (n v k : ℕ) → n < length d.nodes → cofactor e n v k ≡ cofactor d n v k
  cofactor-Grows n v k own = ap (λ b. if b.variable == v then slice_index b.children k else n) (branch_of-Grows grows n own)

  pub application_at-Grows : (what : Application) (v k : ℕ) → IsApplication d what → application_at e what v k ≡ application_at d what v k
  application_at-Grows what v k is =
      let left = cofactor-Grows what.left v k is.left in
      let right = cofactor-Grows what.right v k is.right in
      λ i. record { operation = what.operation; left = left i; right = right i }

  pub first_of-Grows : (what : Application) → IsApplication d what → first_of e what ≡ first_of d what
  first_of-Grows what is =
      let left = variable_of-Grows grows what.left is.left in
      let right = variable_of-Grows grows what.right is.right in
      λ i. min (left i) (right i)

  pub IsBefore-Grows : (op : Operation) (n : ℕ) → n < length d.nodes → IsBefore d op n → IsBefore e op n
  IsBefore-Grows And n own before = before
  IsBefore-Grows Or n own before = before
  IsBefore-Grows Without n own before = before
  IsBefore-Grows Negate n own before = before
  IsBefore-Grows (Part w o) n own before = omega (arith, before, variable_of-Grows grows n own)

-- where all is forgotten, nothing false is known
pub IsKnown-bound : {d : Diagram} {old new : List (Option (Application × ℕ))} → (new ≡ old) ⊎ IsForgotten new → IsKnown d old → IsKnown d new
IsKnown-bound {d} (inl same) known = subst (IsKnown d) (sym same) known
IsKnown-bound {d} (inr none) known = record { each = λ e has. absurd (none e has) }

-- one more pair that is known
pub IsKnown-Adds : {d : Diagram} {old new : List (Option (Application × ℕ))} {what : Application} {r : ℕ} → Adds old new what r → IsKnown d old → Applies d what r → IsKnown d new
IsKnown-Adds {d} {old} {new} {what} {r} adds each applies = record { each = λ p has. by p (adds.each p has) }
  where
    by : (p : Application × ℕ) → Contains old (Some p) ⊎ ((p.0 ≡ what) × (p.1 ≡ r)) → Applies d p.0 p.1
    by p (inl has) = each.each p has
    by p (inr same) = subst (λ w. Applies d w p.1) (sym same.0) (subst (Applies d what) (sym same.1) applies)
