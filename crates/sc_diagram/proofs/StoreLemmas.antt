-- What the calls of a store say of the sets that its nodes stand for.
use Rattle.std.proofs.Common.{◌≡◌, ℕ, zero, suc, ◌+◌, ◌<◌, ◌≤◌, ◌==◌, ◌&&◌, ◌||◌, not, Bool, true, false, All, List, [], ◌∷◌, take, length, ◌⊎◌, inl, inr, refl, sym, ◌∙◌, ap, subst, arith, if◌then◌else◌}
use Rattle.std.specs.Prelude.{slice_index, slice_set}
use Rattle.std.proofs.lemmas.Bool.{cases_lt}
use Rattle.std.proofs.lemmas.List.{set-set, take_all, length-map}
use Rattle.std.proofs.lemmas.List.Elements.{All-head, All-tail}
use Rattle.std.proofs.lemmas.Option.{slice_get_within, get_or_from_slice_get}
use Rattle.sc_model.specs.Sets.{IsConfig, Denotes, IsNever, IsAlways, IsTop, DependsFrom}
use Rattle.sc_model.proofs.SetLemmas.{IsConfig-set, IsConfig-kept, Denotes-Keeps, IsNever-DependsOn, IsAlways-DependsOn, le-IsTop}
use Rattle.sc_diagram.specs.declared.operation.Operation.{Operation}
use Rattle.sc_diagram.specs.declared.operation.Operation.TheVariants.{And, Or, Without, Negate, Part}
use Rattle.sc_diagram.specs.declared.operation.Application.{Application}
use Rattle.sc_diagram.specs.Decision.{IsDecisionOf, numbers_of}
use Rattle.sc_diagram.specs.declared.node.Node.{Node}
use Rattle.sc_diagram.specs.Diagram.{Diagram, IsDiagram, branch, branch_of, end_at, variable_of, child_of, sets_of}
use Rattle.sc_diagram.specs.Grown.{Grows, Reaches, here, AddsOnly, IsChoice, only, decides}
use Rattle.sc_diagram.specs.Applied.{combine, IsOperation, Applies, cofactor}
use Rattle.sc_diagram.proofs.AppliedLemmas.{has_cofactor, own_cofactor, cofactor-lt}
use Rattle.sc_diagram.proofs.DiagramLemmas.{decision, variable_end, find_other, has_end, has_free, has_child, has_next, own_child, differ}
use Rattle.sc_diagram.proofs.GrownLemmas.{Keeps-Grows, has-Grows}

-- an operation on nodes that pass tests passes what it makes of the tests
combine_told : {ns : List ℕ} (op : Operation) (f g p q : List ℕ → Bool) → IsOperation ns op → ((c : List ℕ) → IsConfig ns c → f c ≡ p c) → ((c : List ℕ) → IsConfig ns c → g c ≡ q c)
    → (c : List ℕ) → IsConfig ns c → combine op f g c ≡ combine op p q c
combine_told And f g p q operation at_f at_g c listed = λ i. at_f c listed i && at_g c listed i
combine_told Or f g p q operation at_f at_g c listed = λ i. at_f c listed i || at_g c listed i
combine_told Without f g p q operation at_f at_g c listed = λ i. at_f c listed i && not (at_g c listed i)
combine_told Negate f g p q operation at_f at_g c listed = ap not (at_f c listed)
combine_told (Part v k) f g p q operation at_f at_g c listed = at_f (slice_set c v k) (IsConfig-set v k listed operation.within operation.in_range)

pub Denotes-Applies : {d e : Diagram} {what : Application} {r : ℕ} → Grows d e → Applies e what r → (f g : List ℕ → Bool) → Denotes (sets_of d) what.left f → Denotes (sets_of d) what.right g
    → Denotes (sets_of e) r (combine what.operation f g)
Denotes-Applies {d} {e} {what} {r} grows applies f g told_f told_g =
    let now_f = Denotes-Keeps (Keeps-Grows grows) told_f in
    let now_g = Denotes-Keeps (Keeps-Grows grows) told_g in
    record {
      own = record { made = applies.own };
      at = λ c listed. applies.at c listed ∙ combine_told what.operation _ _ f g applies.application.operation now_f.at now_g.at c listed;
    }

pub Denotes-made : {d e : Diagram} {r : ℕ} (f : List ℕ → Bool) → Grows d e → r < length e.nodes → ((c : List ℕ) → IsConfig d.arities c → (sets_of e).has r c ≡ f c) → Denotes (sets_of e) r f
Denotes-made f grows own told = record { own = record { made = own }; at = λ c listed. told c (IsConfig-kept (Keeps-Grows grows) listed) }

-- m is the node after n on the way of a configuration
pub record IsStep (d : Diagram) (n : ℕ) (c : List ℕ) (m : ℕ) : Type 0 where
  pub within : variable_of d n < length d.arities
  pub in_config : variable_of d n < length c
  pub in_range : slice_index c (variable_of d n) < slice_index d.arities (variable_of d n)
  pub lower : m < n
  pub own : m < length d.nodes
  pub same : (sets_of d).has m c ≡ (sets_of d).has n c

module _ {d : Diagram} (valid : IsDiagram d) where
  pub own_end : (n : ℕ) → n < 2 → n < length d.nodes
  own_end n low = omega (arith, slice_get_within d.nodes 1 _ valid.always)

  pub Denotes-end : (n : ℕ) → n < 2 → Denotes (sets_of d) n (λ _. n == 1)
  Denotes-end n low = record { own = record { made = own_end n low }; at = λ c listed. has_end valid c listed n low }

  -- a choice has what the child for the option has
  pub has_IsChoice : (r v : ℕ) (children c : List ℕ) → IsConfig d.arities c → r < length d.nodes → slice_index c v < length children → IsChoice d r v children
      → (sets_of d).has r c ≡ (sets_of d).has (slice_index children (slice_index c v)) c
  has_IsChoice r v children c listed own in_range (only all) = ap (λ m. (sets_of d).has m c) (sym (all (slice_index c v) in_range))
  has_IsChoice r v children c listed own in_range (decides at) =
      has_next valid c listed r own
      ∙ ap (λ b. (sets_of d).has (slice_index b.children (slice_index c b.variable)) c) (get_or_from_slice_get d.nodes r (branch v children) (end_at d.arities r) at)

  -- a node depends on no variable before the one by which it decides
  pub DependsFrom-first : (n v : ℕ) → n < length d.nodes → v ≤ variable_of d n → DependsFrom (sets_of d) n v
  DependsFrom-first n v own first = record { free = λ u before depends. depends.changes (sym (has_free valid depends.config depends.listed u depends.option n own (omega arith))) }

  -- a decision depends on its variable, and on none before it
  pub IsTop-decision : (n : ℕ) → n < length d.nodes → variable_of d n < length d.arities → IsTop (sets_of d) n (variable_of d n)
  IsTop-decision n own within =
      let is = decision valid n own within in
      let v = variable_of d n in
      elim (find_other (branch_of d n).children (child_of d n 0)) [
        | inl all ↦ absurd (is.reduced all)
        | inr found ↦ (
            let k = found.place in
            let first : 0 < length (branch_of d n).children = omega (arith, found.within) in
            let low : 0 < slice_index d.arities v = omega (arith, first, is.wide) in
            let found_in : k < slice_index d.arities v = omega (arith, found.within, is.wide) in
            let apart = differ valid (child_of d n k) (child_of d n 0) (own_child valid n own within k found.within) (own_child valid n own within 0 first) found.other in
            record {
              depends = record {
                config = slice_set apart.config v k;
                option = 0;
                listed = IsConfig-set v k apart.listed within found_in;
                within = within;
                in_range = low;
                changes = λ same. apart.differs (sym (has_child valid n own within k found.within apart.config apart.listed) ∙ same
                    ∙ ap ((sets_of d).has n) (set-set apart.config v k 0) ∙ has_child valid n own within 0 first apart.config apart.listed);
              };
              first = DependsFrom-first n v own (omega arith);
            }
            )
      ]

  -- and an end on none
  pub constant_end : (n : ℕ) → n < 2 → IsNever (sets_of d) n ⊎ IsAlways (sets_of d) n
  constant_end zero low = inl (record { none = λ c listed. has_end valid c listed 0 low })
  constant_end (suc zero) low = inr (record { all = λ c listed. has_end valid c listed 1 low })
  constant_end (suc (suc n)) low = absurd (omega arith)

  pub not_constant : (n v : ℕ) → IsTop (sets_of d) n v → IsNever (sets_of d) n ⊎ IsAlways (sets_of d) n → ⊥
  not_constant n v top (inl never) = IsNever-DependsOn top.depends never
  not_constant n v top (inr always) = IsAlways-DependsOn top.depends always

  pub IsTop-inner : (n : ℕ) → 2 ≤ n → n < length d.nodes → IsTop (sets_of d) n (variable_of d n)
  IsTop-inner n inner own = IsTop-decision n own (valid.decisions n inner own).within

  -- a variable before all on which a node depends is before the one by which it decides
  pub before_first : (n v : ℕ) → n < length d.nodes → v < length d.arities → DependsFrom (sets_of d) n (v + 1) → v < variable_of d n
  before_first n v own within from = elim (cases_lt n 2) [
    | inl low ↦ omega (arith, variable_end valid n low)
    | inr inner ↦ omega (arith, le-IsTop (IsTop-inner n inner own) from)
  ]

  pub IsDecisionOf-inner : (n : ℕ) → 2 ≤ n → n < length d.nodes → IsDecisionOf (sets_of d) n (variable_of d n) (branch_of d n).children
  IsDecisionOf-inner n inner own =
      let is = valid.decisions n inner own in
      record {
        top = IsTop-inner n inner own;
        wide = is.wide;
        each = λ k in_range. record {
          own = record { made = own_child valid n own is.within k in_range };
          later = DependsFrom-first (child_of d n k) (variable_of d n + 1) (own_child valid n own is.within k in_range) (omega (arith, is.ordered k in_range));
          part = λ c listed. sym (has_child valid n own is.within k in_range c listed);
        };
      }

  -- and so the node decides by the first variable on which it depends
  pub IsDecisionOf-read : (n v : ℕ) → n < length d.nodes → IsTop (sets_of d) n v → IsDecisionOf (sets_of d) n v (branch_of d n).children
  IsDecisionOf-read n v own top = elim (cases_lt n 2) [
    | inl low ↦ absurd (not_constant n v top (constant_end n low))
    | inr inner ↦ (
        let is = IsDecisionOf-inner n inner own in
        let same : variable_of d n ≡ v = omega (arith, le-IsTop is.top top.first, le-IsTop top is.top.first) in
        subst (λ u. IsDecisionOf (sets_of d) n u (branch_of d n).children) same is
        )
  ]

  -- a step of a configuration
  pub step : (n : ℕ) (c : List ℕ) → 2 ≤ n → n < length d.nodes → IsConfig d.arities c → IsStep d n c (cofactor d n (variable_of d n) (slice_index c (variable_of d n)))
  step n c inner own listed =
      let v = variable_of d n in
      let within = (valid.decisions n inner own).within in
      let in_range = listed.each v within in
      record {
        within = within;
        in_config = omega (arith, listed.long, within);
        in_range = in_range;
        lower = cofactor-lt valid n own v (slice_index c v) within in_range refl;
        own = own_cofactor valid n own v (slice_index c v) within in_range;
        same = has_cofactor valid n own v (slice_index c v) c listed refl;
      }

-- the numbers of all children, after the last
pub numbers_whole : (numbers : List ℕ) (children : List Node) (i : ℕ) → numbers ≡ numbers_of (take i children) → length children ≤ i → numbers ≡ numbers_of children
numbers_whole numbers children i same past = same ∙ ap numbers_of (take_all i children past)

pub length-numbers : (children : List Node) → length (numbers_of children) ≡ length children
length-numbers children = length-map children (λ x. x.0)

pub All-numbers : (P : ℕ → Type 0) (children : List Node) → All (λ child. P child.0) children → (k : ℕ) → k < length (numbers_of children) → P (slice_index (numbers_of children) k)
All-numbers P [] all k within = absurd (omega arith)
All-numbers P (child ∷ children) all zero within = All-head (λ x. P x.0) child children all
All-numbers P (child ∷ children) all (suc k) within = All-numbers P children (All-tail (λ x. P x.0) child children all) k (omega (arith, within))

-- a choice between nodes that were there
pub has_between : {d e : Diagram} (r v : ℕ) (children : List ℕ) → Grows d e → IsChoice e r v children → r < length e.nodes → v < length d.arities → length children ≡ slice_index d.arities v
    → ((j : ℕ) → j < length children → slice_index children j < length d.nodes) → (c : List ℕ) → IsConfig d.arities c → (sets_of e).has r c ≡ (sets_of d).has (slice_index children (slice_index c v)) c
has_between {d} {e} r v children grows choice own within full own_children c listed =
    let now = subst (λ ns. IsConfig ns c) (sym grows.arities) listed in
    let in_range : slice_index c v < length children = omega (arith, listed.each v within, full) in
    has_IsChoice grows.valid r v children c now own in_range choice ∙ has-Grows grows (slice_index children (slice_index c v)) c (own_children (slice_index c v) in_range) listed

-- the ends of a choice of one option
pub has_choose : {d e : Diagram} (r v k : ℕ) (children : List ℕ) → Grows d e → IsChoice e r v children → r < length e.nodes → v < length d.arities → length children ≡ slice_index d.arities v
    → ((j : ℕ) → j < length children → slice_index children j ≡ (if j == k then 1 else 0)) → (c : List ℕ) → IsConfig d.arities c → (sets_of e).has r c ≡ (slice_index c v == k)
has_choose {d} {e} r v k children grows choice own within full ends c listed =
    let now = subst (λ ns. IsConfig ns c) (sym grows.arities) listed in
    let in_range : slice_index c v < length children = omega (arith, listed.each v within, full) in
    has_IsChoice grows.valid r v children c now own in_range choice ∙ ap (λ m. (sets_of e).has m c) (ends (slice_index c v) in_range) ∙ at_end (slice_index c v == k) now
  where
    at_end : (b : Bool) → IsConfig e.arities c → (sets_of e).has (if b then 1 else 0) c ≡ b
    at_end true now = has_end grows.valid c now 1 (omega arith)
    at_end false now = has_end grows.valid c now 0 (omega arith)

-- the one node that was added is the result
pub AddsOnly-last : {d e : Diagram} {r : ℕ} → ((n : ℕ) → length d.nodes ≤ n → n < length e.nodes → n ≡ r) → AddsOnly d e r
AddsOnly-last {d} {e} {r} last = record { each = λ n past own. subst (Reaches e r) (sym (last n past own)) (here r) }
