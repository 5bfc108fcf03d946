-- What stays of a diagram as it grows.
use Rattle.std.proofs.Common.{◌≡◌, ℕ, zero, suc, ◌<◌, ◌≤◌, ◌==◌, List, [], ◌∷◌, ◌++◌, length, get_or, slice_get, Some, inl, inr, refl, sym, ◌∙◌, ap, subst, arith}
use Rattle.std.specs.Prelude.{slice_index}
use Rattle.std.proofs.lemmas.Bool.{cases_lt}
use Rattle.std.proofs.lemmas.List.{length_push, get_or_push, get_or_append_left}
use Rattle.std.proofs.lemmas.Option.{get_or_from_slice_get, slice_get-get_or}
use Rattle.sc_model.specs.Growth.{Extends}
use Rattle.sc_model.specs.Sets.{IsConfig, Keeps}
use Rattle.sc_base.specs.Interns.{Interns, known, fresh}
use Rattle.sc_base.proofs.Growth.{Extends-refl, Extends-trans, Extends-keeps}
use Rattle.sc_base.proofs.InternLemmas.{Extends-Interns, IsOneToOne-Interns}
use Rattle.sc_diagram.specs.Diagram.{Branch, Diagram, IsDiagram, IsDecision, branch, end_at, branch_of, variable_of, child_of, next, walk, sets_of}
use Rattle.sc_diagram.specs.Grown.{Grows, Reaches, here, below, AddsOnly, AddsBelow, IsChoice, only, decides}
use Rattle.sc_diagram.proofs.DiagramLemmas.{own_next, own_part}

-- a node that was there is as it was
branch_of-Extends : (d e : Diagram) → Extends d.nodes e.nodes → (n : ℕ) → n < length d.nodes → branch_of e n ≡ branch_of d n
branch_of-Extends d e extends n own = get_or_from_slice_get e.nodes n (branch_of d n) (end_at e.arities n) (extends.kept n own ∙ slice_get-get_or d.nodes n (end_at d.arities n) own)

IsDecision-Extends : (d : Diagram) (nodes : List Branch) → Extends d.nodes nodes → (n : ℕ) (b : Branch) → n ≤ length d.nodes → IsDecision d n b → IsDecision (record { arities = d.arities; nodes = nodes }) n b
IsDecision-Extends d nodes extends n b there is = record {
  within = is.within;
  wide = is.wide;
  lower = is.lower;
  ordered = λ k in_range.
      let less = is.lower k in_range in
      let same = branch_of-Extends d (record { arities = d.arities; nodes = nodes }) extends (slice_index b.children k) (omega (arith, less)) in
      omega (arith, is.ordered k in_range, ap (λ x. x.variable) same);
  reduced = is.reduced;
}

decision_at : (d : Diagram) (nodes : List Branch) (b : Branch) → IsDiagram d → IsDecision d (length d.nodes) b → Interns d.nodes nodes b → (n : ℕ) → 2 ≤ n → n < length nodes
    → IsDecision (record { arities = d.arities; nodes = nodes }) n (branch_of (record { arities = d.arities; nodes = nodes }) n)
decision_at d nodes b valid new adds n inner own = elim (cases_lt n (length d.nodes)) [
  | inl old ↦ subst (IsDecision e n) (sym (branch_of-Extends d e extends n old)) (IsDecision-Extends d nodes extends n (branch_of d n) (omega arith) (valid.decisions n inner old))
  | inr past ↦ last adds past
]
  where
    extends : Extends d.nodes nodes
    extends = Extends-Interns adds

    e : Diagram
    e = record { arities = d.arities; nodes = nodes }

    last : Interns d.nodes nodes b → length d.nodes ≤ n → IsDecision e n (branch_of e n)
    last (known has same) past = absurd (omega (arith, own, ap length same))
    last (fresh lacks grown) past =
        let at : n ≡ length d.nodes = omega (arith, own, ap length grown, length_push d.nodes b) in
        let read : branch_of e n ≡ b = ap (λ xs. get_or xs n (end_at d.arities n)) grown ∙ get_or_push d.nodes b (end_at d.arities n) n (sym at) in
        subst (IsDecision e n) (sym read) (subst (λ m. IsDecision e m b) (sym at) (IsDecision-Extends d nodes extends (length d.nodes) b (omega arith) new))

-- a diagram with one more decision
pub IsDiagram-Interns : (d : Diagram) (nodes : List Branch) (b : Branch) → IsDiagram d → IsDecision d (length d.nodes) b → Interns d.nodes nodes b → IsDiagram (record { arities = d.arities; nodes = nodes })
IsDiagram-Interns d nodes b valid new adds = record {
  options = valid.options;
  never = Extends-keeps 0 _ valid.never (Extends-Interns adds);
  always = Extends-keeps 1 _ valid.always (Extends-Interns adds);
  decisions = decision_at d nodes b valid new adds;
  different = IsOneToOne-Interns adds valid.different;
}

-- the node that was added is the one that is answered
pub added : (d : Diagram) (nodes : List Branch) (b : Branch) (r : ℕ) → IsDiagram (record { arities = d.arities; nodes = nodes }) → Interns d.nodes nodes b → slice_get nodes r ≡ Some b
    → (n : ℕ) → length d.nodes ≤ n → n < length nodes → n ≡ r
added d nodes b r valid (known has same) stored n past own = absurd (omega (arith, own, ap length same))
added d nodes b r valid (fresh lacks grown) stored n past own =
    let at : n ≡ length d.nodes = omega (arith, own, ap length grown, length_push d.nodes b) in
    let read : get_or nodes n b ≡ b = ap (λ xs. get_or xs n b) grown ∙ get_or_push d.nodes b b n (sym at) in
    valid.different.same n r b (slice_get-get_or nodes n b own ∙ ap (λ x. Some x) read) stored

pub Grows-refl : (d : Diagram) → IsDiagram d → Grows d d
Grows-refl d valid = record { was = valid; valid = valid; arities = refl; extends = Extends-refl d.nodes }

pub Grows-trans : {d e f : Diagram} → Grows d e → Grows e f → Grows d f
Grows-trans a b = record { was = a.was; valid = b.valid; arities = b.arities ∙ a.arities; extends = Extends-trans a.extends b.extends }

module _ {d e : Diagram} (grows : Grows d e) where
  pub branch_of-Grows : (n : ℕ) → n < length d.nodes → branch_of e n ≡ branch_of d n
  branch_of-Grows = branch_of-Extends d e grows.extends

  pub variable_of-Grows : (n : ℕ) → n < length d.nodes → variable_of e n ≡ variable_of d n
  variable_of-Grows n own = ap (λ b. b.variable) (branch_of-Grows n own)

  pub own-Grows : (n : ℕ) → n < length d.nodes → n < length e.nodes
  own-Grows n own = omega (arith, grows.extends.longer)

  walk-Grows : (steps n : ℕ) (c : List ℕ) → n < length d.nodes → IsConfig d.arities c → walk steps e c n ≡ walk steps d c n
  walk-Grows zero n c own listed = refl
  walk-Grows (suc steps) n c own listed =
      ap (λ b. walk steps e c (slice_index b.children (slice_index c b.variable))) (branch_of-Grows n own)
      ∙ walk-Grows steps (next d c n) c (own_next grows.was c listed n own) listed

  -- it means what it meant
  pub has-Grows : (n : ℕ) (c : List ℕ) → n < length d.nodes → IsConfig d.arities c → (sets_of e).has n c ≡ (sets_of d).has n c
  has-Grows n c own listed = ap (λ m. m == 1) (walk-Grows n n c own listed)

  pub Keeps-Grows : Keeps (sets_of d) (sets_of e)
  Keeps-Grows = record {
    arities = grows.arities;
    own = λ n is. record { made = own-Grows n is.made };
    at = λ n c is listed. has-Grows n c is.made listed;
  }

  -- and its diagram is the one that it was
  pub Reaches-Grows : (n m : ℕ) → n < length d.nodes → Reaches d n m → Reaches e n m
  Reaches-Grows n m own (here x) = here x
  Reaches-Grows n m own (below x y k in_range reaches) =
      let same = branch_of-Grows x own in
      let rest = Reaches-Grows (child_of d x k) y (own_part grows.was x k own in_range) reaches in
      below x y k (subst (λ b. k < length b.children) (sym same) in_range) (subst (λ b. Reaches e (slice_index b.children k) y) (sym same) rest)

-- what was added before is reached, where each of the tops is
pub AddsOnly-refl : (d : Diagram) (r : ℕ) → AddsOnly d d r
AddsOnly-refl d r = record { each = λ n past own. absurd (omega arith) }

pub AddsBelow-refl : (d : Diagram) (tops : List ℕ) → AddsBelow d d tops
AddsBelow-refl d tops = record { each = λ n past own. absurd (omega arith) }

-- one more top
pub AddsBelow-push : {d e f : Diagram} {tops : List ℕ} {r : ℕ} → Grows e f → ((k : ℕ) → k < length tops → slice_index tops k < length e.nodes) → AddsBelow d e tops → AddsOnly e f r → AddsBelow d f (tops ++ r ∷ [])
AddsBelow-push {d} {e} {f} {tops} {r} grows own_tops before more = record {
  each = λ n past own. elim (cases_lt n (length e.nodes)) [
    | inl old ↦ (
        let found = before.each n past old in
        let k = found.place in
        record {
          place = k;
          within = omega (arith, found.within, length_push tops r);
          reaches = subst (λ t. Reaches f t n) (sym (get_or_append_left tops (r ∷ []) 0 k found.within)) (Reaches-Grows grows (slice_index tops k) n (own_tops k found.within) found.reaches);
        }
        )
    | inr new ↦ record {
      place = length tops;
      within = omega (arith, length_push tops r);
      reaches = subst (λ t. Reaches f t n) (sym (get_or_push tops r 0 (length tops) refl)) (more.each n new own);
    }
  ];
}

-- the node between the tops leads to all of it
pub AddsOnly-IsChoice : {d e f : Diagram} {tops : List ℕ} {r v : ℕ} → Grows e f → ((k : ℕ) → k < length tops → slice_index tops k < length e.nodes) → AddsBelow d e tops
    → IsChoice f r v tops → ((n : ℕ) → length e.nodes ≤ n → n < length f.nodes → n ≡ r) → AddsOnly d f r
AddsOnly-IsChoice {d} {e} {f} {tops} {r} {v} grows own_tops before choice last = record {
  each = λ n past own. elim (cases_lt n (length e.nodes)) [
    | inl old ↦ (
        let found = before.each n past old in
        lead choice found.place n found.within (Reaches-Grows grows (slice_index tops found.place) n (own_tops found.place found.within) found.reaches)
        )
    | inr new ↦ subst (λ m. Reaches f r m) (sym (last n new own)) (here r)
  ];
}
  where
    lead : IsChoice f r v tops → (k n : ℕ) → k < length tops → Reaches f (slice_index tops k) n → Reaches f r n
    lead (only all) k n within reaches = subst (λ t. Reaches f t n) (all k within) reaches
    lead (decides at) k n within reaches =
        let read : branch_of f r ≡ branch v tops = get_or_from_slice_get f.nodes r (branch v tops) (end_at f.arities r) at in
        below r n k (subst (λ b. k < length b.children) (sym read) within) (subst (λ b. Reaches f (slice_index b.children k) n) (sym read) reaches)
