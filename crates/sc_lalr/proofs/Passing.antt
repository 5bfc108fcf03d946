-- How lookaheads are passed on.
use Rattle.std.proofs.Common.{zero, suc, ◌≡◌, ◌↔◌, ◌<◌, ◌+◌, ◌*◌, ◌⊎◌, ℕ, List, [], ◌∷◌, ◌++◌, length, get_or, slice_get, slice_index, Option, Some, None, MatchOption, Vec, inl, inr, refl, sym, ap, ◌∙◌, subst, arith}
use Rattle.std.specs.List.{Contains}
use Rattle.std.specs.declared.alloc.Global.{Global}
use Rattle.std.proofs.lemmas.List.{length_push}
use Rattle.std.proofs.lemmas.List.Elements.{Contains-append_left, Contains-append_right, Contains-append_cases, Contains-get_or}
use Rattle.std.proofs.lemmas.Option.{same_Some, slice_get-get_or, none-some}
use Rattle.lr_tables.specs.Grammar.{after, begun}
use Rattle.lr_tables.specs.Tables.{Closure, opened as closure_opened, given as closure_given, IsGoto, IsStates, NoGoto}
use Rattle.lr_tables.specs.declared.grammar.Grammar.{Grammar}
use Rattle.sc_items.specs.Reach.{EdgesWithin}
use Rattle.sc_items.specs.Kernel.{IsOpened, Opens}
use Rattle.lr_tables.proofs.Determined.{goto_unique}
use Rattle.lr_tables.proofs.Members.{map_has, map_member, no_member}
use Rattle.sc_items.specs.States.{HasItem}
use Rattle.sc_items.proofs.Opening.{each-push, begun_within, after_within}
use Rattle.sc_lalr.specs.Propagation.{AreNodes, IsNode, Passes, along, into, PassesTo, IsPropagation, along_part, numbers_at, into_part}
use Rattle.sc_lalr.specs.declared.nodes.Nodes.{Nodes}
use Rattle.sc_lalr.proofs.Placing.{node_same, node_in, node_number, node_has, node_of}

-- ---- membership in lists that are made of others
contains_only : (x v : ℕ) → Contains (x ∷ []) v → x ≡ v
contains_only x v (zero, a, b) = b
contains_only x v (suc k, a, b) = absurd (omega (arith, a))

-- ---- an item to which lookaheads are passed stands in its state
pub passes_has : (g : Grammar) (states : List (List ℕ)) (s i r j : ℕ) → Passes g states s i r j → HasItem g states r j
passes_has g states s i r j (along x q h over goto) =
    let same = same_Some h.kernel goto.source (sym h.kernel_at ∙ goto.source_at) in
    record { kernel = goto.target; kernel_at = goto.target_at; within = closure_given (i + 1) ((goto.moved (i + 1)).1 (record { from = i; within = subst (λ zs. Closure g zs i) same h.within; over = over; to = refl })) }
passes_has g states s i r j (into x k h over end begins) = record { kernel = h.kernel; kernel_at = h.kernel_at; within = closure_opened i k x h.within over begins }

-- ---- the nodes to which one node passes
pub passes_none : (g : Grammar) (states : List (List ℕ)) (nodes : Nodes) (u v s i : ℕ) → IsNode (length g.entries.now) nodes u s i → ((x : ℕ) → after g i ≡ Some x → ⊥) → PassesTo g states nodes u v → ⊥
passes_none g states nodes u v s i at none p = go p.r p.j p.passes
  where
    same : (p.s ≡ s) × (p.i ≡ i)
    same = node_same (length g.entries.now) nodes u p.s p.i s i p.from at

    go : (r j : ℕ) → Passes g states p.s p.i r j → ⊥
    go r j (along x q h over goto) = none x (subst (λ z. after g z ≡ Some x) same.1 over)
    go r j (into x k h over end begins) = none x (subst (λ z. after g z ≡ Some x) same.1 over)

module _ (g : Grammar) (states : List (List ℕ)) (nodes : Nodes) (u s i x : ℕ) (to next : Option ℕ) (row : List ℕ) (h : IsStates g states) (are : AreNodes g states nodes) (at : IsNode (length g.entries.now) nodes u s i) (over : after g i ≡ Some x) (goto : MatchOption to (NoGoto g states s x) (IsGoto g states s x)) (next_is : next ≡ after g (i + 1)) (row_is : (j : ℕ) → Contains row j ↔ Opens g i j) where
  has : HasItem g states s i
  has = node_has g states nodes are u s i at

  -- an item to which lookaheads are passed, by its number
  passed_to : (v r j : ℕ) → Passes g states s i r j → j < length g.entries.now → v ≡ slice_index nodes.numbers.items (r * length g.entries.now + j) → PassesTo g states nodes u v
  passed_to v r j p within e = record {
    s = s;
    i = i;
    r = r;
    j = j;
    from = at;
    to = subst (λ z. IsNode (length g.entries.now) nodes z r j) (sym e) (node_of g states nodes are r j (passes_has g states s i r j p) within);
    passes = p;
  }

  from_along : (v : ℕ) (o : Option ℕ) → MatchOption o (NoGoto g states s x) (IsGoto g states s x) → Contains (along_part nodes.numbers.items (length g.entries.now) i o) v → PassesTo g states nodes u v
  from_along v None m w = absurd (no_member v w)
  from_along v (Some t) m w = passed_to v t (i + 1) (along x t has over m) (after_within g i x over) (sym (contains_only (slice_index nodes.numbers.items (t * length g.entries.now + (i + 1))) v w))

  from_into : (v : ℕ) (o : Option ℕ) → o ≡ after g (i + 1) → Contains (into_part nodes.numbers.items (s * length g.entries.now) o row) v → PassesTo g states nodes u v
  from_into v None f w =
      let m = map_member (λ j. slice_index nodes.numbers.items (s * length g.entries.now + j)) v row w in
      let opens = (row_is m.0).0 m.1 in
      passed_to v s m.0 (into opens.symbol m.0 has opens.over (sym f) opens.begins) (begun_within g m.0 opens.symbol opens.begins) (sym m.2)
  from_into v (Some y) f w = absurd (no_member v w)

  forward : (v : ℕ) → Contains (along_part nodes.numbers.items (length g.entries.now) i to) v ⊎ Contains (into_part nodes.numbers.items (s * length g.entries.now) next row) v → PassesTo g states nodes u v
  forward v (inl w) = from_along v to goto w
  forward v (inr w) = from_into v next next_is w

  to_along : (v : ℕ) (o : Option ℕ) → MatchOption o (NoGoto g states s x) (IsGoto g states s x) → (r : ℕ) → IsGoto g states s x r → v ≡ slice_index nodes.numbers.items (r * length g.entries.now + (i + 1)) → Contains (along_part nodes.numbers.items (length g.entries.now) i o) v
  to_along v None m r w f = absurd (m.none r w)
  to_along v (Some t) m r w f = (0, omega arith, ap (λ z. slice_index nodes.numbers.items (z * length g.entries.now + (i + 1))) (goto_unique g states s x t r h m w) ∙ sym f)

  to_into : (v : ℕ) (o : Option ℕ) → o ≡ after g (i + 1) → (j : ℕ) → after g (i + 1) ≡ None → begun g j ≡ Some x → v ≡ slice_index nodes.numbers.items (s * length g.entries.now + j) → Contains (into_part nodes.numbers.items (s * length g.entries.now) o row) v
  to_into v None f j end begins k = subst (λ z. Contains (numbers_at nodes.numbers.items (s * length g.entries.now) row) z) (sym k) (map_has (λ i. slice_index nodes.numbers.items (s * length g.entries.now + i)) j row ((row_is j).1 (record { symbol = x; over = over; begins = begins })))
  to_into v (Some y) f j end begins k = absurd (none-some y (sym (f ∙ end)))

  backward : (v : ℕ) → PassesTo g states nodes u v → Contains (along_part nodes.numbers.items (length g.entries.now) i to ++ into_part nodes.numbers.items (s * length g.entries.now) next row) v
  backward v p = go p.r p.j p.to p.passes
    where
      same : (p.s ≡ s) × (p.i ≡ i)
      same = node_same (length g.entries.now) nodes u p.s p.i s i p.from at

      symbol : (z : ℕ) → after g p.i ≡ Some z → z ≡ x
      symbol z f = same_Some z x (sym f ∙ subst (λ k. after g k ≡ Some x) (sym same.1) over)

      go : (r j : ℕ) → IsNode (length g.entries.now) nodes v r j → Passes g states p.s p.i r j → Contains (along_part nodes.numbers.items (length g.entries.now) i to ++ into_part nodes.numbers.items (s * length g.entries.now) next row) v
      go r j node (along z q has' over' goto') =
          let goto'' : IsGoto g states s x q = subst (λ k. IsGoto g states k x q) same.0 (subst (λ k. IsGoto g states p.s k q) (symbol z over') goto') in
          Contains-append_left (along_part nodes.numbers.items (length g.entries.now) i to) (into_part nodes.numbers.items (s * length g.entries.now) next row) v
          (to_along v to goto q goto'' (node_number g states nodes are v q (p.i + 1) node ∙ ap (λ k. slice_index nodes.numbers.items (q * length g.entries.now + (k + 1))) same.1))
      go r j node (into z k has' over' end begins) =
          Contains-append_right (along_part nodes.numbers.items (length g.entries.now) i to) (into_part nodes.numbers.items (s * length g.entries.now) next row) v
          (to_into v next next_is k (subst (λ z. after g (z + 1) ≡ None) same.1 end) (begins ∙ ap (λ z. Some z) (symbol z over')) (node_number g states nodes are v p.s k node ∙ ap (λ z. slice_index nodes.numbers.items (z * length g.entries.now + k)) same.0))

  pub passes_exact : (targets : List ℕ) → targets ≡ along_part nodes.numbers.items (length g.entries.now) i to ++ into_part nodes.numbers.items (s * length g.entries.now) next row → (v : ℕ) → Contains targets v ↔ PassesTo g states nodes u v
  passes_exact targets e v = (
    λ w. forward v (Contains-append_cases (along_part nodes.numbers.items (length g.entries.now) i to) (into_part nodes.numbers.items (s * length g.entries.now) next row) v (subst (λ zs. Contains zs v) e w)),
    λ p. subst (λ zs. Contains zs v) (sym e) (backward v p),
  )

-- ---- the rows of the first nodes
pub record IsPropagationBelow (g : Grammar) (states : List (List ℕ)) (nodes : Nodes) (n : ℕ) (rows : List (Vec ℕ Global)) : Type 0 where
  pub long : length rows ≡ n
  pub each : (u : ℕ) (row : Vec ℕ Global) → slice_get rows u ≡ Some row → (v : ℕ) → Contains row.items v ↔ PassesTo g states nodes u v

pub IsPropagationBelow-push : (g : Grammar) (states : List (List ℕ)) (nodes : Nodes) (n : ℕ) (rows : List (Vec ℕ Global)) (row : Vec ℕ Global) → IsPropagationBelow g states nodes n rows → ((v : ℕ) → Contains row.items v ↔ PassesTo g states nodes n v) → IsPropagationBelow g states nodes (n + 1) (rows ++ row ∷ [])
IsPropagationBelow-push g states nodes n rows row h one = record {
  long = length_push rows row ∙ ap (λ k. k + 1) h.long;
  each = each-push (λ u (r : Vec ℕ Global). (v : ℕ) → Contains r.items v ↔ PassesTo g states nodes u v) rows row n h.long h.each one;
}

pub IsPropagation-done : (g : Grammar) (states : List (List ℕ)) (nodes : Nodes) (n : ℕ) (rows : List (Vec ℕ Global)) → n ≡ length nodes.places.items → IsPropagationBelow g states nodes n rows → IsPropagation g states nodes rows
IsPropagation-done g states nodes n rows e h = record { long = h.long ∙ e; each = h.each }

-- an edge leads to a node of the graph
pub EdgesWithin-passed : (g : Grammar) (states : List (List ℕ)) (nodes : Nodes) (n : ℕ) (rows : List (Vec ℕ Global)) → n ≡ length nodes.places.items → IsPropagationBelow g states nodes n rows → EdgesWithin rows
EdgesWithin-passed g states nodes n rows e h = record {
  within = λ u d u_in k v k_in.
      let row = get_or rows u d in
      let at : slice_get rows u ≡ Some row = slice_get-get_or rows u d u_in in
      let p = (h.each u row at (get_or row.items k v)).0 (Contains-get_or row.items k v k_in) in
      omega (arith, node_in (length g.entries.now) nodes (get_or row.items k v) p.r p.j p.to, h.long, e);
}

-- the row of an item has what the item opens
pub row_opens : (g : Grammar) (rows : List (Vec ℕ Global)) (i : ℕ) (row : Vec ℕ Global) (view : List ℕ) → IsOpened g rows → slice_get rows i ≡ Some row → view ≡ row.items → (j : ℕ) → Contains view j ↔ Opens g i j
row_opens g rows i row view h at e j = (
  λ w. h.sound i j (record { row = row; row_at = at; in_row = subst (λ zs. Contains zs j) e w }),
  λ o. let edge = h.complete i j o in subst (λ zs. Contains zs j) (sym e) (subst (λ (r : Vec ℕ Global). Contains r.items j) (same_Some edge.row row (sym edge.row_at ∙ at)) edge.in_row),
)
