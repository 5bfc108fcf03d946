-- Which action is kept, and which are lost.
use Rattle.std.proofs.Common.{zero, suc, ◌≡◌, ◌↔◌, ◌<◌, ◌≤◌, ◌+◌, ◌*◌, ◌⊎◌, ℕ, List, [], ◌∷◌, ◌++◌, length, slice_get, slice_index, map, zero-add, Option, Some, None, MatchOption, Vec, inl, inr, refl, sym, ap, ◌∙◌, subst, arith}
use Rattle.std.specs.List.{Contains}
use Rattle.std.specs.Option.{option_map}
use Rattle.std.specs.List.Sorted.{IsStrictlyIncreasing, IsStrictlySortedBy}
use Rattle.std.specs.Ordering.{nat_cmp}
use Rattle.std.specs.declared.alloc.Global.{Global}
use Rattle.std.proofs.lemmas.List.{length_push}
use Rattle.std.proofs.lemmas.List.Elements.{Contains-append_left, Contains-append_right, Contains-append_cases}
use Rattle.std.proofs.lemmas.Map.Keys.{below_from_sorted, sorted_from_strictly_increasing, sorted_tail}
use Rattle.std.proofs.lemmas.Option.{same_Some, slice_get_within, slice_get-map, get_or_from_slice_get, none-some}
use Rattle.std.proofs.lemmas.Bool.{cases_lt}
use Rattle.lr_tables.specs.Tables.{IsStates, IsGoto, Lookahead, CanReduce, IsAction, shifts, reduces, none, IsConflict, Before, ConflictBefore, InOrder, NoGoto}
use Rattle.lr_tables.specs.declared.grammar.Grammar.{Grammar}
use Rattle.lr_tables.specs.declared.grammar.Action.{Action}
use Rattle.lr_tables.specs.declared.grammar.Action.TheVariants.{Shift, Reduce}
use Rattle.lr_tables.specs.declared.grammar.Conflict.{Conflict}
use Rattle.sc_items.specs.Kernel.{IsListOf}
use Rattle.sc_items.specs.States.{HasItem}
use Rattle.lr_tables.proofs.Determined.{action_unique}
use Rattle.lr_tables.proofs.Members.{cons_cases, cons_head, cons_tail, head_below, map_has, map_member, no_member}
use Rattle.sc_items.proofs.Opening.{each-push}
use Rattle.sc_lalr.specs.Marks.{HasMark}
use Rattle.sc_lalr.specs.Propagation.{AreNodes, AreLookaheads}
use Rattle.sc_lalr.specs.declared.nodes.Nodes.{Nodes}
use Rattle.sc_lalr.proofs.Placing.{node_of}
use Rattle.sc_lalr.specs.Tables.{EndsIn, IsMarkedEnd, kept_of, conflict_at, conflicts_at}
use Rattle.sc_lalr.specs.Building.{AreActions, AreConflicts}
use Rattle.sc_lalr.proofs.Looking.{lookahead_has}

-- ---- what can be reduced
pub can_reduce : (g : Grammar) (states : List (List ℕ)) (nodes : Nodes) (s k b : ℕ) (rows : List (Vec ℕ Global)) (row : Vec ℕ Global) (ends : List ℕ) → AreNodes g states nodes → AreLookaheads g states nodes rows → slice_get rows k ≡ Some row → b < 64 → k * 64 + b < g.terminals → IsListOf (length g.entries.now) (EndsIn g states s) ends → (p : ℕ) → IsMarkedEnd g row.items b nodes.numbers.items (s * length g.entries.now) ends p ↔ CanReduce g states s (k * 64 + b) p
can_reduce g states nodes s k b rows row ends are ahead at b_in t_in list p = (
  λ m. record {
    item = m.item;
    ends = record { within = list.below m.item m.within; at_end = (list.sound m.item m.within).at_end; production = m.production };
    ahead = (exact m.item (list.sound m.item m.within).has (list.below m.item m.within)).0 m.has_mark;
  },
  λ r. record {
    item = r.item;
    within = list.complete r.item r.ends.within (record { has = lookahead_has g states (k * 64 + b) s r.item r.ahead; at_end = r.ends.at_end });
    has_mark = (exact r.item (lookahead_has g states (k * 64 + b) s r.item r.ahead) r.ends.within).1 r.ahead;
    production = r.ends.production;
  },
)
  where
    exact : (i : ℕ) → HasItem g states s i → i < length g.entries.now → HasMark row.items b (slice_index nodes.numbers.items (s * length g.entries.now + i)) ↔ Lookahead g states (k * 64 + b) s i
    exact i has within = ahead.exact k row at b (slice_index nodes.numbers.items (s * length g.entries.now + i)) s i b_in t_in (node_of g states nodes are s i has within)

-- ---- one action
module _ (g : Grammar) (states : List (List ℕ)) (s t : ℕ) (are : IsStates g states) where
  pub kept_is : (shift : Option ℕ) (ps : List ℕ) → MatchOption shift (NoGoto g states s t) (IsGoto g states s t) → IsStrictlyIncreasing ps → ((p : ℕ) → Contains ps p ↔ CanReduce g states s t p) → IsAction g states s t (kept_of shift ps)
  kept_is (Some r) ps m inc can = shifts r m
  kept_is None [] m inc can = none m.none (λ p c. no_member p ((can p).1 c))
  kept_is None (p ∷ ps) m inc can = reduces p m.none ((can p).0 (cons_head p ps)) least
    where
      least : (q : ℕ) → CanReduce g states s t q → p ≤ q
      least q c = elim (cons_cases p q ps ((can q).1 c)) [ inl e ↦ omega arith | inr w ↦ omega (arith, head_below p q ps inc w) ]

-- ---- the conflicts of one state at one terminal
-- a conflict of this state at this terminal
pub record IsHere (s t : ℕ) (shift : Option ℕ) (ps : List ℕ) (c : Conflict) : Type 0 where
  pub state : c.state ≡ s
  pub terminal : c.terminal.0 ≡ t
  pub kept : kept_of shift ps ≡ Some c.kept
  pub lost : Contains ps c.lost
  pub apart : c.kept ≡ Reduce c.lost → ⊥

shift_apart : (r p : ℕ) → Shift r ≡ Reduce p → ⊥
shift_apart r p e = cc

reduce_same : (p q : ℕ) → Reduce p ≡ Reduce q → p ≡ q
reduce_same p q e = cc

here_of : (s t : ℕ) (shift : Option ℕ) (ps : List ℕ) (c : Conflict) → IsStrictlyIncreasing ps → Contains (conflicts_at s t shift ps) c → IsHere s t shift ps c
here_of s t (Some r) ps c inc w =
    let m = map_member (conflict_at s t (Shift r)) c ps w in
    subst (IsHere s t (Some r) ps) m.2 (record { state = refl; terminal = refl; kept = refl; lost = m.1; apart = shift_apart r m.0 })
here_of s t None [] c inc (k, a, b) = absurd (omega (arith, a))
here_of s t None (p ∷ ps) c inc w =
    let m = map_member (conflict_at s t (Reduce p)) c ps w in
    let less = head_below p m.0 ps inc m.1 in
    subst (IsHere s t None (p ∷ ps)) m.2 (record { state = refl; terminal = refl; kept = refl; lost = cons_tail p m.0 ps m.1; apart = λ e. omega (arith, less, reduce_same p m.0 e) })

conflict_same : (s t : ℕ) (k : Action) (c : Conflict) → c.state ≡ s → c.terminal.0 ≡ t → k ≡ c.kept → conflict_at s t k c.lost ≡ c
conflict_same s t k c e f h = subst (λ a. conflict_at a t k c.lost ≡ c) e (subst (λ b. conflict_at c.state b k c.lost ≡ c) f (subst (λ z. conflict_at c.state c.terminal.0 z c.lost ≡ c) (sym h) refl))

here_in : (s t : ℕ) (shift : Option ℕ) (ps : List ℕ) (c : Conflict) → IsHere s t shift ps c → Contains (conflicts_at s t shift ps) c
here_in s t (Some r) ps c h = subst (Contains (map (conflict_at s t (Shift r)) ps)) (conflict_same s t (Shift r) c h.state h.terminal (same_Some (Shift r) c.kept h.kept)) (map_has (conflict_at s t (Shift r)) c.lost ps h.lost)
here_in s t None [] c h = absurd (no_member c.lost h.lost)
here_in s t None (p ∷ ps) c h = elim (cons_cases p c.lost ps h.lost) [
  | inl e ↦ absurd (h.apart (sym (same_Some (Reduce p) c.kept h.kept) ∙ ap (λ z. Reduce z) e))
  | inr w ↦ subst (Contains (map (conflict_at s t (Reduce p)) ps)) (conflict_same s t (Reduce p) c h.state h.terminal (same_Some (Reduce p) c.kept h.kept)) (map_has (conflict_at s t (Reduce p)) c.lost ps w)
]

-- the conflicts of one state at one terminal are in order
map_order : (s t : ℕ) (k : Action) (ps : List ℕ) → IsStrictlySortedBy nat_cmp ps → InOrder (map (conflict_at s t k) ps)
map_order s t k ps sorted = record { before = before }
  where
    place : (i : ℕ) (c : Conflict) → slice_get (map (conflict_at s t k) ps) i ≡ Some c → (p : ℕ) × (slice_get ps i ≡ Some p) × (conflict_at s t k p ≡ c)
    place i c h = go (slice_get ps i) refl
      where
        go : (o : Option ℕ) → slice_get ps i ≡ o → (p : ℕ) × (slice_get ps i ≡ Some p) × (conflict_at s t k p ≡ c)
        go None e = absurd (none-some c (sym (slice_get-map (conflict_at s t k) ps i ∙ ap (option_map (conflict_at s t k)) e) ∙ h))
        go (Some p) e = (p, e, same_Some (conflict_at s t k p) c (sym (slice_get-map (conflict_at s t k) ps i ∙ ap (option_map (conflict_at s t k)) e) ∙ h))

    before : (i j : ℕ) (c d : Conflict) → i < j → slice_get (map (conflict_at s t k) ps) i ≡ Some c → slice_get (map (conflict_at s t k) ps) j ≡ Some d → ConflictBefore c d
    before i j c d lower a b =
        let p = place i c a in
        let q = place j d b in
        let less = below_from_sorted ps i j 0 sorted lower (slice_get_within ps j q.0 q.1) in
        let p_is = get_or_from_slice_get ps i p.0 0 p.1 in
        let q_is = get_or_from_slice_get ps j q.0 0 q.1 in
        let lost : p.0 < q.0 = omega (arith, less, p_is, q_is) in
        subst (λ z. ConflictBefore z d) p.2 (subst (λ z. ConflictBefore (conflict_at s t k p.0) z) q.2 (inr (refl, refl, lost)))

here_order : (s t : ℕ) (shift : Option ℕ) (ps : List ℕ) → IsStrictlyIncreasing ps → InOrder (conflicts_at s t shift ps)
here_order s t (Some r) ps inc = map_order s t (Shift r) ps (sorted_from_strictly_increasing ps inc)
here_order s t None [] inc = record { before = λ i j c d lower a b. absurd (none-some c a) }
here_order s t None (p ∷ ps) inc = map_order s t (Reduce p) ps (sorted_tail nat_cmp p ps (sorted_from_strictly_increasing (p ∷ ps) inc))

-- ---- lists that are joined
append_place : {A : Type 0} (xs ys : List A) (i : ℕ) (x : A) → slice_get (xs ++ ys) i ≡ Some x → (slice_get xs i ≡ Some x) ⊎ ((k : ℕ) × (i ≡ length xs + k) × (slice_get ys k ≡ Some x))
append_place [] ys i x h = inr (i, sym (zero-add i), h)
append_place (z ∷ zs) ys zero x h = inl h
append_place (z ∷ zs) ys (suc i) x h = elim (append_place zs ys i x h) [ inl a ↦ inl a | inr a ↦ inr (a.0, omega (arith, a.1), a.2) ]

slice_contains : {A : Type 0} (xs : List A) (i : ℕ) (x : A) → slice_get xs i ≡ Some x → Contains xs x
slice_contains xs i x h = (i, slice_get_within xs i x h, get_or_from_slice_get xs i x x h)

order_append : (xs ys : List Conflict) → InOrder xs → InOrder ys → ((c d : Conflict) → Contains xs c → Contains ys d → ConflictBefore c d) → InOrder (xs ++ ys)
order_append xs ys h k across = record { before = before }
  where
    before : (i j : ℕ) (c d : Conflict) → i < j → slice_get (xs ++ ys) i ≡ Some c → slice_get (xs ++ ys) j ≡ Some d → ConflictBefore c d
    before i j c d lower a b = go (append_place xs ys i c a) (append_place xs ys j d b)
      where
        go : (slice_get xs i ≡ Some c) ⊎ ((k : ℕ) × (i ≡ length xs + k) × (slice_get ys k ≡ Some c)) → (slice_get xs j ≡ Some d) ⊎ ((k : ℕ) × (j ≡ length xs + k) × (slice_get ys k ≡ Some d)) → ConflictBefore c d
        go (inl p) (inl q) = h.before i j c d lower p q
        go (inl p) (inr q) = across c d (slice_contains xs i c p) (slice_contains ys q.0 d q.2)
        go (inr p) (inl q) = absurd (omega (arith, p.1, slice_get_within xs j d q))
        go (inr p) (inr q) = k.before p.0 q.0 c d (omega (arith, p.1, q.1)) p.2 q.2

-- ---- one terminal more
pub record RowSoFar (g : Grammar) (states : List (List ℕ)) (s t : ℕ) (row : List (Option Action)) (conflicts : List Conflict) : Type 0 where
  pub actions : AreActions g states s t row
  pub conflicts_are : AreConflicts g states s t conflicts

pub RowSoFar-step : (g : Grammar) (states : List (List ℕ)) (s t : ℕ) (row : List (Option Action)) (conflicts : List Conflict) (shift : Option ℕ) (ps : List ℕ) → IsStates g states → s < length states → t < g.terminals → MatchOption shift (NoGoto g states s t) (IsGoto g states s t) → IsStrictlyIncreasing ps → ((p : ℕ) → Contains ps p ↔ CanReduce g states s t p) → RowSoFar g states s t row conflicts → RowSoFar g states s (t + 1) (row ++ kept_of shift ps ∷ []) (conflicts ++ conflicts_at s t shift ps)
RowSoFar-step g states s t row conflicts shift ps are s_in t_in goto inc can h = record {
  actions = record {
    long = length_push row (kept_of shift ps) ∙ ap (λ n. n + 1) h.actions.long;
    each = each-push (IsAction g states s) row (kept_of shift ps) t h.actions.long h.actions.each kept;
  };
  conflicts_are = record { sound = sound; earlier = earlier; complete = complete; in_order = order_append conflicts (conflicts_at s t shift ps) h.conflicts_are.in_order (here_order s t shift ps inc) across };
}
  where
    kept : IsAction g states s t (kept_of shift ps)
    kept = kept_is g states s t are shift ps goto inc can

    conflict_here : (c : Conflict) → IsHere s t shift ps c → IsConflict g states c
    conflict_here c k = record {
      state = omega (arith, k.state, s_in);
      terminal = omega (arith, k.terminal, t_in);
      kept = subst (λ a. IsAction g states a c.terminal.0 (Some c.kept)) (sym k.state) (subst (λ b. IsAction g states s b (Some c.kept)) (sym k.terminal) (subst (IsAction g states s t) k.kept kept));
      possible = subst (λ a. CanReduce g states a c.terminal.0 c.lost) (sym k.state) (subst (λ b. CanReduce g states s b c.lost) (sym k.terminal) ((can c.lost).0 k.lost));
      lost = k.apart;
    }

    here_conflict : (c : Conflict) → IsConflict g states c → c.state ≡ s → c.terminal.0 ≡ t → IsHere s t shift ps c
    here_conflict c k e f =
        let action : IsAction g states s t (Some c.kept) = subst (λ a. IsAction g states a t (Some c.kept)) e (subst (λ b. IsAction g states c.state b (Some c.kept)) f k.kept) in
        let possible : CanReduce g states s t c.lost = subst (λ a. CanReduce g states a t c.lost) e (subst (λ b. CanReduce g states c.state b c.lost) f k.possible) in
        record { state = e; terminal = f; kept = action_unique g states s t (kept_of shift ps) (Some c.kept) are kept action; lost = (can c.lost).1 possible; apart = k.lost }

    sound : (c : Conflict) → Contains (conflicts ++ conflicts_at s t shift ps) c → IsConflict g states c
    sound c w = elim (Contains-append_cases conflicts (conflicts_at s t shift ps) c w) [ inl a ↦ h.conflicts_are.sound c a | inr a ↦ conflict_here c (here_of s t shift ps c inc a) ]

    later : (c : Conflict) → Before c.state c.terminal.0 s t → Before c.state c.terminal.0 s (t + 1)
    later c (inl a) = inl a
    later c (inr a) = inr (a.0, omega (arith, a.1))

    earlier : (c : Conflict) → Contains (conflicts ++ conflicts_at s t shift ps) c → Before c.state c.terminal.0 s (t + 1)
    earlier c w = elim (Contains-append_cases conflicts (conflicts_at s t shift ps) c w) [
      | inl a ↦ later c (h.conflicts_are.earlier c a)
      | inr a ↦ (let k = here_of s t shift ps c inc a in inr (k.state, omega (arith, k.terminal)))
    ]

    complete : (c : Conflict) → IsConflict g states c → Before c.state c.terminal.0 s (t + 1) → Contains (conflicts ++ conflicts_at s t shift ps) c
    complete c k before = go before (cases_lt c.terminal.0 t)
      where
        go : Before c.state c.terminal.0 s (t + 1) → (c.terminal.0 < t) ⊎ (t ≤ c.terminal.0) → Contains (conflicts ++ conflicts_at s t shift ps) c
        go (inl a) other = Contains-append_left conflicts (conflicts_at s t shift ps) c (h.conflicts_are.complete c k (inl a))
        go (inr a) (inl b) = Contains-append_left conflicts (conflicts_at s t shift ps) c (h.conflicts_are.complete c k (inr (a.0, b)))
        go (inr a) (inr b) = Contains-append_right conflicts (conflicts_at s t shift ps) c (here_in s t shift ps c (here_conflict c k a.0 (omega (arith, a.1, b))))

    across : (c d : Conflict) → Contains conflicts c → Contains (conflicts_at s t shift ps) d → ConflictBefore c d
    across c d a b =
        let k = here_of s t shift ps d inc b in
        inl (subst (λ z. Before c.state c.terminal.0 z d.terminal.0) (sym k.state) (subst (λ z. Before c.state c.terminal.0 s z) (sym k.terminal) (h.conflicts_are.earlier c a)))

pub RowSoFar-begin : (g : Grammar) (states : List (List ℕ)) (s : ℕ) (conflicts : List Conflict) → AreConflicts g states s 0 conflicts → RowSoFar g states s 0 [] conflicts
RowSoFar-begin g states s conflicts h = record { actions = record { long = refl; each = λ t a at. absurd (none-some a at) }; conflicts_are = h }

-- ---- one state more
pub AreConflicts-next : (g : Grammar) (states : List (List ℕ)) (s t : ℕ) (conflicts : List Conflict) → g.terminals ≤ t → AreConflicts g states s t conflicts → AreConflicts g states (s + 1) 0 conflicts
AreConflicts-next g states s t conflicts all h = record { sound = h.sound; earlier = earlier; complete = complete; in_order = h.in_order }
  where
    next : (c : Conflict) → Before c.state c.terminal.0 s t → Before c.state c.terminal.0 (s + 1) 0
    next c (inl a) = inl (omega (arith, a))
    next c (inr a) = inl (omega (arith, a.0))

    earlier : (c : Conflict) → Contains conflicts c → Before c.state c.terminal.0 (s + 1) 0
    earlier c w = next c (h.earlier c w)

    complete : (c : Conflict) → IsConflict g states c → Before c.state c.terminal.0 (s + 1) 0 → Contains conflicts c
    complete c k (inl a) = elim (cases_lt c.state s) [ inl b ↦ h.complete c k (inl b) | inr b ↦ h.complete c k (inr (omega (arith, a, b), omega (arith, k.terminal, all))) ]
    complete c k (inr a) = absurd (omega (arith, a.1))
