-- What the nodes of a diagram mean, and that nodes of one meaning are one.
use Rattle.std.proofs.Common.{◌≡◌, ◌≢◌, ℕ, zero, suc, ◌+◌, ◌<◌, ◌≤◌, ◌==◌, List, [], ◌∷◌, length, Some, replicate, ◌⊎◌, inl, inr, refl, sym, ◌∙◌, ap, arith}
use Rattle.std.specs.Prelude.{slice_index, slice_set}
use Rattle.std.proofs.lemmas.Bool.{cases_eq, cases_lt, cases_order, true≢false, false≢true}
use Rattle.std.proofs.lemmas.List.{length-replicate, get_or-replicate, get_or-set_same, get_or-set_other, get_or_past}
use Rattle.std.proofs.lemmas.Option.{get_or_from_slice_get, slice_get-get_or}
use Rattle.sc_model.specs.Sets.{IsConfig, HasOptions, IsCanonical}
use Rattle.sc_model.proofs.SetLemmas.{IsConfig-set}
use Rattle.sc_diagram.specs.Diagram.{Diagram, IsDiagram, IsDecision, end_at, branch_of, variable_of, child_of, next, walk, sets_of}

-- a list has another item than x, or only x
pub find_other : (xs : List ℕ) (x : ℕ) → ((k : ℕ) → k < length xs → slice_index xs k ≡ x) ⊎ record { place : ℕ; within : place < length xs; other : slice_index xs place ≡ x → ⊥ }
find_other [] x = inl (λ k within. absurd (omega arith))
find_other (y ∷ ys) x = elim (cases_eq y x) [
  | inr other ↦ inr (record { place = 0; within = omega arith; other = other })
  | inl same ↦ elim (find_other ys x) [
    | inr found ↦ inr (record { place = suc found.place; within = omega (arith, found.within); other = found.other })
    | inl all ↦ inl (each y ys same all)
  ]
]
  where
    each : (y : ℕ) (ys : List ℕ) → y ≡ x → ((k : ℕ) → k < length ys → slice_index ys k ≡ x) → (k : ℕ) → k < length (y ∷ ys) → slice_index (y ∷ ys) k ≡ x
    each y ys same all zero within = same
    each y ys same all (suc k) within = all k (omega arith)

-- two lists of one length are the same, or differ at a place
pub find_difference : (xs ys : List ℕ) → length xs ≡ length ys → (xs ≡ ys) ⊎ record { place : ℕ; within : place < length xs; other : slice_index xs place ≡ slice_index ys place → ⊥ }
find_difference [] [] long = inl refl
find_difference [] (y ∷ ys) long = absurd (omega (arith, long))
find_difference (x ∷ xs) [] long = absurd (omega (arith, long))
find_difference (x ∷ xs) (y ∷ ys) long = elim (cases_eq x y) [
  | inr other ↦ inr (record { place = 0; within = omega arith; other = other })
  | inl same ↦ elim (find_difference xs ys (omega (arith, long))) [
    | inr found ↦ inr (record { place = suc found.place; within = omega (arith, found.within); other = found.other })
    | inl all ↦ inl (λ i. same i ∷ all i)
  ]
]

-- the configuration of first options
pub IsConfig-first : (ns : List ℕ) → HasOptions ns → IsConfig ns (replicate (length ns) 0)
IsConfig-first ns some = record {
  long = length-replicate (length ns) 0;
  each = λ v below. rw (get_or-replicate {A = ℕ} (length ns) v 0 0 below) (some.each v below);
}

module _ {d : Diagram} (valid : IsDiagram d) where
  branch_end : (n : ℕ) → n < 2 → branch_of d n ≡ end_at d.arities n
  branch_end zero low = get_or_from_slice_get d.nodes 0 _ _ valid.never
  branch_end (suc zero) low = get_or_from_slice_get d.nodes 1 _ _ valid.always
  branch_end (suc (suc n)) low = absurd (omega arith)

  pub variable_end : (n : ℕ) → n < 2 → variable_of d n ≡ length d.arities
  variable_end n low = ap (λ b. b.variable) (branch_end n low)

  -- where a variable comes first, the node is a decision
  pub decision : (n : ℕ) → n < length d.nodes → variable_of d n < length d.arities → IsDecision d n (branch_of d n)
  decision n own within = elim (cases_lt n 2) [
    | inl low ↦ absurd (omega (arith, variable_end n low))
    | inr inner ↦ valid.decisions n inner own
  ]

  pub variable-le : (n : ℕ) → n < length d.nodes → variable_of d n ≤ length d.arities
  variable-le n own = elim (cases_lt n 2) [
    | inl low ↦ omega (arith, variable_end n low)
    | inr inner ↦ omega (arith, (valid.decisions n inner own).within)
  ]

  -- the children are nodes
  pub own_part : (n k : ℕ) → n < length d.nodes → k < length (branch_of d n).children → child_of d n k < length d.nodes
  own_part n k own in_range = elim (cases_lt n 2) [
    | inl low ↦ (
        let one : length (branch_of d n).children ≡ 1 = ap (λ b. length b.children) (branch_end n low) in
        let first : k ≡ 0 = omega (arith, in_range, one) in
        let itself : child_of d n k ≡ n = ap (λ b. slice_index b.children k) (branch_end n low) ∙ ap (slice_index (n ∷ [])) first in
        omega (arith, itself)
        )
    | inr inner ↦ omega (arith, (valid.decisions n inner own).lower k in_range)
  ]

  module _ (c : List ℕ) (listed : IsConfig d.arities c) where
    next_end : (n : ℕ) → n < 2 → next d c n ≡ n
    next_end n low =
        ap (λ b. slice_index b.children (slice_index c b.variable)) (branch_end n low)
        ∙ ap (slice_index (n ∷ [])) (get_or_past c (length d.arities) 0 (omega (arith, listed.long)))

    walk_end : (steps n : ℕ) → n < 2 → walk steps d c n ≡ n
    walk_end zero n low = refl
    walk_end (suc steps) n low = ap (walk steps d c) (next_end n low) ∙ walk_end steps n low

    lower_next : (n : ℕ) → 2 ≤ n → n < length d.nodes → next d c n < n
    lower_next n inner own =
        let decides = valid.decisions n inner own in
        decides.lower _ (omega (arith, listed.each _ decides.within, decides.wide))

    pub own_next : (n : ℕ) → n < length d.nodes → next d c n < length d.nodes
    own_next n own = elim (cases_lt n 2) [
      | inl low ↦ omega (arith, next_end n low)
      | inr inner ↦ omega (arith, lower_next n inner own)
    ]

    -- as many steps as the number are enough
    settle : (j k n : ℕ) → n ≤ j → n ≤ k → n < length d.nodes → walk j d c n ≡ walk k d c n
    settle zero k n at_j at_k own = let low : n < 2 = omega arith in sym (walk_end k n low ∙ omega arith)
    settle (suc j) zero n at_j at_k own = let low : n < 2 = omega arith in walk_end (suc j) n low ∙ omega arith
    settle (suc j) (suc k) n at_j at_k own = elim (cases_lt n 2) [
      | inl low ↦ walk_end (suc j) n low ∙ sym (walk_end (suc k) n low)
      | inr inner ↦ (let less = lower_next n inner own in settle j k (next d c n) (omega (arith, less)) (omega (arith, less)) (own_next n own))
    ]

    -- a node has what the child for the option has
    pub has_next : (n : ℕ) → n < length d.nodes → (sets_of d).has n c ≡ (sets_of d).has (next d c n) c
    has_next zero own = ap (λ m. (sets_of d).has m c) (sym (next_end 0 (omega arith)))
    has_next (suc n) own = elim (cases_lt (suc n) 2) [
      | inl low ↦ ap (λ m. (sets_of d).has m c) (sym (next_end (suc n) low))
      | inr inner ↦ ap (λ m. m == 1) (settle n (next d c (suc n)) (next d c (suc n)) (omega (arith, lower_next (suc n) inner own)) (omega arith) (own_next (suc n) own))
    ]

    pub has_end : (n : ℕ) → n < 2 → (sets_of d).has n c ≡ (n == 1)
    has_end n low = ap (λ m. m == 1) (walk_end n n low)

    -- the steps go to later variables
    later_next : (u n : ℕ) → n < length d.nodes → u < variable_of d n → u < variable_of d (next d c n)
    later_next u n own before = elim (cases_lt n 2) [
      | inl low ↦ rw (next_end n low) before
      | inr inner ↦ (let decides = valid.decisions n inner own in let later = decides.ordered (slice_index c (variable_of d n)) (omega (arith, listed.each _ decides.within, decides.wide)) in omega (arith, later))
    ]

    walk_free : (steps u x n : ℕ) → n < length d.nodes → u < variable_of d n → walk steps d (slice_set c u x) n ≡ walk steps d c n
    walk_free zero u x n own before = refl
    walk_free (suc steps) u x n own before =
        let other : variable_of d n ≢ u = omega arith in
        ap (λ o. walk steps d (slice_set c u x) (child_of d n o)) (get_or-set_other c u (variable_of d n) x 0 other)
        ∙ walk_free steps u x (next d c n) (own_next n own) (later_next u n own before)

    -- an option of a variable before a node's makes no difference to it
    pub has_free : (u x n : ℕ) → n < length d.nodes → u < variable_of d n → (sets_of d).has n (slice_set c u x) ≡ (sets_of d).has n c
    has_free u x n own before = ap (λ m. m == 1) (walk_free n u x n own before)

  module _ (n : ℕ) (own : n < length d.nodes) (within : variable_of d n < length d.arities) (k : ℕ) (in_range : k < length (branch_of d n).children) where
    pub own_child : child_of d n k < length d.nodes
    own_child = omega (arith, (decision n own within).lower k in_range)

    pub later_child : variable_of d n < variable_of d (child_of d n k)
    later_child = (decision n own within).ordered k in_range

    -- with an option of its variable, a node has what the child for that option has
    pub has_child : (c : List ℕ) → IsConfig d.arities c → (sets_of d).has n (slice_set c (variable_of d n) k) ≡ (sets_of d).has (child_of d n k) c
    has_child c listed =
        let v = variable_of d n in
        let placed : v < length c = omega (arith, listed.long) in
        let set = IsConfig-set v k listed within (omega (arith, in_range, (decision n own within).wide)) in
        has_next (slice_set c v k) set n own
        ∙ ap (λ o. (sets_of d).has (child_of d n o) (slice_set c v k)) (get_or-set_same c v k 0 placed)
        ∙ has_free c listed v k (child_of d n k) own_child later_child

-- a configuration that one node has and the other has not
pub record Differ (d : Diagram) (n m : ℕ) : Type 0 where
  pub config : List ℕ
  pub listed : IsConfig d.arities config
  pub differs : (sets_of d).has n config ≡ (sets_of d).has m config → ⊥

Differ-sym : {d : Diagram} {n m : ℕ} → Differ d n m → Differ d m n
Differ-sym differ = record { config = differ.config; listed = differ.listed; differs = λ e. differ.differs (sym e) }

module _ {d : Diagram} (valid : IsDiagram d) where
  -- two nodes differ where both take an option of a variable, and what they lead to differs
  Differ-under : (v k n m x y : ℕ) → v < length d.arities → k < slice_index d.arities v
      → ((c : List ℕ) → IsConfig d.arities c → (sets_of d).has n (slice_set c v k) ≡ (sets_of d).has x c)
      → ((c : List ℕ) → IsConfig d.arities c → (sets_of d).has m (slice_set c v k) ≡ (sets_of d).has y c)
      → Differ d x y → Differ d n m
  Differ-under v k n m x y within in_range at_n at_m differ = record {
    config = slice_set differ.config v k;
    listed = IsConfig-set v k differ.listed within in_range;
    differs = λ same. differ.differs (sym (at_n _ differ.listed) ∙ same ∙ at_m _ differ.listed);
  }

  Differ-ends : (n m : ℕ) → n < 2 → m < 2 → (n ≡ m → ⊥) → Differ d n m
  Differ-ends n m low_n low_m other =
      let c = replicate (length d.arities) 0 in
      let listed = IsConfig-first d.arities valid.options in
      record {
        config = c;
        listed = listed;
        differs = λ same. by n m low_n low_m other (sym (has_end valid c listed n low_n) ∙ same ∙ has_end valid c listed m low_m);
      }
    where
      by : (n m : ℕ) → n < 2 → m < 2 → (n ≡ m → ⊥) → (n == 1) ≡ (m == 1) → ⊥
      by zero zero low_n low_m other same = other refl
      by zero (suc zero) low_n low_m other same = false≢true same
      by (suc zero) zero low_n low_m other same = true≢false same
      by (suc zero) (suc zero) low_n low_m other same = other refl
      by n (suc (suc m)) low_n low_m other same = absurd (omega arith)
      by (suc (suc n)) m low_n low_m other same = absurd (omega arith)

  low_past : (n : ℕ) → n < length d.nodes → length d.arities ≤ variable_of d n → n < 2
  low_past n own past = elim (cases_lt n 2) [
    | inl low ↦ low
    | inr inner ↦ absurd (omega (arith, (valid.decisions n inner own).within))
  ]

  -- a node that decides by the earlier variable has a child that is not the other node
  Differ-first : (bound n m : ℕ) → ((x y : ℕ) → x + y < bound → x < length d.nodes → y < length d.nodes → (x ≡ y → ⊥) → Differ d x y)
      → n + m ≤ bound → n < length d.nodes → m < length d.nodes → variable_of d n < variable_of d m → Differ d n m
  Differ-first bound n m smaller low own_n own_m before =
      let within : variable_of d n < length d.arities = omega (arith, variable-le valid m own_m) in
      let decides = decision valid n own_n within in
      elim (find_other (branch_of d n).children m) [
        | inl all ↦ absurd (decides.reduced (λ k in_range. all k in_range ∙ sym (all 0 (omega arith))))
        | inr found ↦ (
            let k = found.place in
            let in_range : k < slice_index d.arities (variable_of d n) = omega (arith, found.within, decides.wide) in
            let less = decides.lower k found.within in
            Differ-under (variable_of d n) k n m (child_of d n k) m within in_range
            (has_child valid n own_n within k found.within)
            (λ c listed. has_free valid c listed (variable_of d n) k m own_m before)
            (smaller (child_of d n k) m (omega (arith, less)) (own_child valid n own_n within k found.within) own_m found.other)
            )
      ]

  -- two nodes that decide by one variable have different children for some option
  Differ-level : (bound n m : ℕ) → ((x y : ℕ) → x + y < bound → x < length d.nodes → y < length d.nodes → (x ≡ y → ⊥) → Differ d x y)
      → n + m ≤ bound → n < length d.nodes → m < length d.nodes → variable_of d n ≡ variable_of d m → variable_of d n < length d.arities → (n ≡ m → ⊥) → Differ d n m
  Differ-level bound n m smaller low own_n own_m level within other =
      let within_m : variable_of d m < length d.arities = omega arith in
      let at_n = decision valid n own_n within in
      let at_m = decision valid m own_m within_m in
      let wide : length (branch_of d n).children ≡ length (branch_of d m).children = at_n.wide ∙ ap (slice_index d.arities) level ∙ sym at_m.wide in
      elim (find_difference (branch_of d n).children (branch_of d m).children wide) [
        | inl all ↦ (
            let same : branch_of d n ≡ branch_of d m = λ i. record { variable = level i; children = all i } in
            absurd (other (valid.different.same n m (branch_of d n) (slice_get-get_or d.nodes n _ own_n) (slice_get-get_or d.nodes m _ own_m ∙ ap (λ b. Some b) (sym same))))
            )
        | inr found ↦ (
            let k = found.place in
            let in_range : k < slice_index d.arities (variable_of d n) = omega (arith, found.within, at_n.wide) in
            let within_k : k < length (branch_of d m).children = omega (arith, found.within, wide) in
            let less_n = at_n.lower k found.within in
            let less_m = at_m.lower k within_k in
            Differ-under (variable_of d n) k n m (child_of d n k) (child_of d m k) within in_range
            (has_child valid n own_n within k found.within)
            (λ c listed. ap (λ v. (sets_of d).has m (slice_set c v k)) level ∙ has_child valid m own_m within_m k within_k c listed)
            (smaller (child_of d n k) (child_of d m k) (omega (arith, less_n, less_m)) (own_child valid n own_n within k found.within) (own_child valid m own_m within_m k within_k) found.other)
            )
      ]

  -- different nodes differ
  differ_below : (bound n m : ℕ) → n + m < bound → n < length d.nodes → m < length d.nodes → (n ≡ m → ⊥) → Differ d n m
  differ_below zero n m low own_n own_m other = absurd (omega arith)
  differ_below (suc bound) n m low own_n own_m other = elim (cases_order (variable_of d n) (variable_of d m)) [
    | inr (inl before) ↦ Differ-first bound n m (differ_below bound) (omega arith) own_n own_m before
    | inr (inr after) ↦ Differ-sym (Differ-first bound m n (differ_below bound) (omega arith) own_m own_n after)
    | inl level ↦ elim (cases_lt (variable_of d n) (length d.arities)) [
      | inl within ↦ Differ-level bound n m (differ_below bound) (omega arith) own_n own_m level within other
      | inr past ↦ Differ-ends n m (low_past n own_n past) (low_past m own_m (omega arith)) other
    ]
  ]

  pub differ : (n m : ℕ) → n < length d.nodes → m < length d.nodes → (n ≡ m → ⊥) → Differ d n m
  differ n m own_n own_m other = differ_below (suc (n + m)) n m (omega arith) own_n own_m other

  -- the main theorem: nodes of one meaning are one
  pub IsCanonical-IsDiagram : IsCanonical (sets_of d)
  IsCanonical-IsDiagram = record {
    one = λ a b own_a own_b same. elim (cases_eq a b) [
      | inl equal ↦ equal
      | inr other ↦ (let found = differ a b own_a.made own_b.made other in absurd (found.differs (same.at found.config found.listed)))
    ];
  }
