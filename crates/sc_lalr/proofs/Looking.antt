-- Lookaheads are what can be reached from the spontaneous ones.
use Rattle.std.proofs.Common.{◌≡◌, ◌↔◌, ◌<◌, ◌+◌, ◌*◌, ◌/◌, ◌%◌, ℕ, List, [], ◌∷◌, ◌++◌, length, slice_get, slice_index, Some, None, Vec, refl, sym, ap, ◌∙◌, subst, arith, mul-le-mul_left, ◌⊎◌, get_or, replicate, take, inl, inr}
use Rattle.std.specs.Int.{bit_at}
use Rattle.std.specs.List.{Contains}
use Rattle.std.specs.Option.{option_map_or}
use Rattle.std.specs.declared.alloc.Global.{Global}
use Rattle.std.proofs.lemmas.List.{length_push}
use Rattle.std.proofs.lemmas.Option.{same_Some, none-some}
use Rattle.std.proofs.lemmas.Nat.{div_below}
use Rattle.lr_tables.specs.Grammar.{after, begun}
use Rattle.lr_tables.specs.Tables.{opened as closure_opened, First, Lookahead, spontaneous, opened, moved}
use Rattle.lr_tables.specs.declared.grammar.Grammar.{Grammar}
use Rattle.lr_tables.proofs.Members.{map_has, map_member, no_member, slice_some}
use Rattle.sc_items.specs.Reach.{Edge}
use Rattle.sc_items.specs.Kernel.{IsOpened, Opens}
use Rattle.sc_items.specs.States.{HasItem}
use Rattle.sc_items.proofs.Listing.{IsCollected, take-more_cases, take-more_new, take-more_old}
use Rattle.sc_items.proofs.Opening.{each-push, begun_within, after_within}
use Rattle.sc_lalr.specs.Propagation.{AreNodes, IsNode, Passes, along, into, PassesTo, IsPropagation, HasPlace, IsFollowed, IsSource, AreSources, IsSpontaneous, PlaceFits, SeedFits, Seeds, behind_of, numbers_at, opened_part, row_at}
use Rattle.sc_lalr.specs.Marks.{HasMark, IsGiven, IsSpread, Spreads, start, step}
use Rattle.sc_lalr.specs.declared.nodes.Nodes.{Nodes}
use Rattle.sc_lalr.proofs.Placing.{some_entries, place_same, place_at, place_in, has_at, node_same, node_in, node_number, node_of}
use Rattle.sc_lalr.proofs.Passing.{row_opens, passes_has}
use Rattle.sc_lalr.proofs.Spreading.{no_mark_yet}

-- ---- the row of an item
pub row_at_is : (rows : List (Vec ℕ Global)) (i : ℕ) (row : Vec ℕ Global) → slice_get rows i ≡ Some row → row_at rows i ≡ row.items
row_at_is rows i row at = ap (λ o. option_map_or (λ (r : Vec ℕ Global). r.items) o []) at

pub opened_is : (g : Grammar) (numbers : List ℕ) (rows : List (Vec ℕ Global)) (p : ℕ) (row : Vec ℕ Global) (view : List ℕ) → slice_get rows (p % length g.entries.now) ≡ Some row → view ≡ row.items → opened_part g numbers rows p ≡ numbers_at numbers (p / length g.entries.now * length g.entries.now) view
opened_is g numbers rows p row view at f = ap (numbers_at numbers (p / length g.entries.now * length g.entries.now)) (row_at_is rows (p % length g.entries.now) row at ∙ sym f)

-- ---- an item with a lookahead stands in the state
pub lookahead_has : (g : Grammar) (states : List (List ℕ)) (t s i : ℕ) → Lookahead g states t s i → HasItem g states s i
lookahead_has g states t s i (spontaneous r k j x y kernel at c over next first begins) = record { kernel = kernel; kernel_at = at; within = closure_opened k j x c over begins }
lookahead_has g states t s i (opened r k j x l over end begins) = passes_has g states r k r j (into x j (lookahead_has g states t r k l) over end begins)
lookahead_has g states t s i (moved q k x r l over goto) = passes_has g states q k r (k + 1) (along x r (lookahead_has g states t q k l) over goto)

-- ---- what a source opens
module _ (g : Grammar) (states : List (List ℕ)) (nodes : Nodes) (rows : List (Vec ℕ Global)) (nodes_are : AreNodes g states nodes) (rows_are : IsOpened g rows) (p : ℕ) (source : IsSource g states p) where
  place : (source.s ≡ p / length g.entries.now) × (source.i ≡ p % length g.entries.now)
  place = place_same (length g.entries.now) p source.s source.i (p / length g.entries.now) (p % length g.entries.now) source.at (place_at (length g.entries.now) p (omega (arith, source.at.within)))

  pub behind_is : behind_of g p ≡ Some source.followed.y
  behind_is = subst (λ z. after g (z + 1) ≡ Some source.followed.y) place.1 source.followed.next

  row : (j : ℕ) → Contains (row_at rows (p % length g.entries.now)) j ↔ Opens g (p % length g.entries.now) j
  row j =
      let row = slice_some rows (p % length g.entries.now) (omega (arith, rows_are.long, source.at.within, place.1)) in
      row_opens g rows (p % length g.entries.now) row.0 (row_at rows (p % length g.entries.now)) rows_are row.1 (row_at_is rows (p % length g.entries.now) row.0 row.1) j

  pub opened_to : (v : ℕ) → Contains (opened_part g nodes.numbers.items rows p) v → (j : ℕ) × IsNode (length g.entries.now) nodes v source.s j × (begun g j ≡ Some source.followed.x)
  opened_to v w =
      let m = map_member (λ j. slice_index nodes.numbers.items (p / length g.entries.now * length g.entries.now + j)) v (row_at rows (p % length g.entries.now)) w in
      let opens = (row m.0).0 m.1 in
      let over_same : opens.symbol ≡ source.followed.x = same_Some opens.symbol source.followed.x (sym opens.over ∙ subst (λ z. after g z ≡ Some source.followed.x) place.1 source.followed.over) in
      let begins : begun g m.0 ≡ Some source.followed.x = opens.begins ∙ ap (λ z. Some z) over_same in
      let has : HasItem g states source.s m.0 = record { kernel = source.has.kernel; kernel_at = source.has.kernel_at; within = closure_opened source.i m.0 source.followed.x source.has.within source.followed.over begins } in
      let number : slice_index nodes.numbers.items (source.s * length g.entries.now + m.0) ≡ v = ap (λ z. slice_index nodes.numbers.items (z * length g.entries.now + m.0)) place.0 ∙ m.2 in
      (m.0, subst (λ z. IsNode (length g.entries.now) nodes z source.s m.0) number (node_of g states nodes nodes_are source.s m.0 has (begun_within g m.0 opens.symbol opens.begins)), begins)

  pub opened_from : (v j : ℕ) → IsNode (length g.entries.now) nodes v source.s j → begun g j ≡ Some source.followed.x → Contains (opened_part g nodes.numbers.items rows p) v
  opened_from v j at begins =
      let opens : Opens g (p % length g.entries.now) j = record { symbol = source.followed.x; over = subst (λ z. after g z ≡ Some source.followed.x) place.1 source.followed.over; begins = begins } in
      let here : v ≡ slice_index nodes.numbers.items (p / length g.entries.now * length g.entries.now + j) = node_number g states nodes nodes_are v source.s j at ∙ ap (λ z. slice_index nodes.numbers.items (z * length g.entries.now + j)) place.0 in
      rw here (map_has (λ j. slice_index nodes.numbers.items (p / length g.entries.now * length g.entries.now + j)) j (row_at rows (p % length g.entries.now)) ((row j).1 opens))

-- ---- all of them, for one mark
module _ (g : Grammar) (states : List (List ℕ)) (nodes : Nodes) (t b : ℕ) (rows edges : List (Vec ℕ Global)) (first starts marks sources : List ℕ) (nodes_are : AreNodes g states nodes) (rows_are : IsOpened g rows) (edges_are : IsPropagation g states nodes edges) (first_is : (x : ℕ) → HasMark first b x ↔ First g t x) (sources_are : AreSources g states sources) (starts_are : (v : ℕ) → HasMark starts b v ↔ Seeds g nodes rows first sources b v) where
  start_to : (v : ℕ) → HasMark starts b v → IsSpontaneous g states nodes t v
  start_to v m =
      let s = (starts_are v).0 m in
      let source = sources_are.sound s.place s.within in
      let o = opened_to g states nodes rows nodes_are rows_are s.place source v s.opens in
      let next_same : s.next ≡ source.followed.y = same_Some s.next source.followed.y (sym s.next_is ∙ behind_is g states nodes rows nodes_are rows_are s.place source) in
      record { by = s.place; seeded = record { source = source; j = o.0; to = o.1; first = subst (First g t) next_same ((first_is s.next).0 s.has); begins = o.2 } }

  start_from : (v : ℕ) → IsSpontaneous g states nodes t v → HasMark starts b v
  start_from v q =
      let h = q.seeded in (starts_are v).1 (record {
        place = q.by;
        within = sources_are.complete q.by h.source;
        next = h.source.followed.y;
        next_is = behind_is g states nodes rows nodes_are rows_are q.by h.source;
        has = (first_is h.source.followed.y).1 h.first;
        opens = opened_from g states nodes rows nodes_are rows_are q.by h.source v h.j h.to h.begins;
      })

  lookahead_to : (v : ℕ) → Spreads edges starts b v → (s i : ℕ) → IsNode (length g.entries.now) nodes v s i → Lookahead g states t s i
  lookahead_to v (start z w) s i at =
      let p = start_to z w in
      let h = p.seeded in
      let same = node_same (length g.entries.now) nodes z h.source.s h.j s i h.to at in
      subst (λ a. Lookahead g states t a i) same.0 (subst (λ b. Lookahead g states t h.source.s b) same.1
      (spontaneous h.source.s h.source.i h.j h.source.followed.x h.source.followed.y h.source.has.kernel h.source.has.kernel_at h.source.has.within h.source.followed.over h.source.followed.next h.first h.begins))
  lookahead_to v (step u z reaches edge) s i at =
      let p = (edges_are.each u edge.row edge.row_at z).0 edge.in_row in
      let same = node_same (length g.entries.now) nodes z p.r p.j s i p.to at in
      subst (λ a. Lookahead g states t a i) same.0 (subst (λ b. Lookahead g states t p.r b) same.1 (passed p.s p.i p.r p.j (lookahead_to u reaches p.s p.i p.from) p.passes))
    where
      passed : (a b r j : ℕ) → Lookahead g states t a b → Passes g states a b r j → Lookahead g states t r j
      passed a b r j l (along x q has over goto) = moved a b x q l over goto
      passed a b r j l (into x k has over end begins) = opened a b k x l over end begins

  edge_of : (u v : ℕ) → PassesTo g states nodes u v → Edge edges u v
  edge_of u v p =
      let row = slice_some edges u (omega (arith, edges_are.long, node_in (length g.entries.now) nodes u p.s p.i p.from)) in
      record { row = row.0; row_at = row.1; in_row = (edges_are.each u row.0 row.1 v).1 p }

  -- the node of an item that stands in the state
  number : ℕ → ℕ → ℕ
  number s i = slice_index nodes.numbers.items (s * length g.entries.now + i)

  node : (s i : ℕ) → HasItem g states s i → i < length g.entries.now → IsNode (length g.entries.now) nodes (number s i) s i
  unfolding number
  node s i has within = node_of g states nodes nodes_are s i has within

  reaches_next : (s i r j : ℕ) → Spreads edges starts b (number s i) → HasItem g states s i → i < length g.entries.now → j < length g.entries.now → Passes g states s i r j → Spreads edges starts b (number r j)
  reaches_next s i r j reaches has i_in j_in p =
      step (number s i) (number r j) reaches
      (edge_of (number s i) (number r j) (record {
        s = s;
        i = i;
        r = r;
        j = j;
        from = node s i has i_in;
        to = node r j (passes_has g states s i r j p) j_in;
        passes = p;
      }))

  lookahead_from : (s i : ℕ) → Lookahead g states t s i → Spreads edges starts b (number s i)
  lookahead_from s i (spontaneous r k j x y kernel at c over next first begins) =
      let has : HasItem g states r k = record { kernel = kernel; kernel_at = at; within = c } in
      let k_in : k < length g.entries.now = omega (arith, after_within g k x over) in
      start (number r j) (start_from (number r j) (record {
        by = r * length g.entries.now + k;
        seeded = record {
          source = record { s = r; i = k; at = record { within = k_in; is = refl }; has = has; followed = record { x = x; y = y; over = over; next = next } };
          j = j;
          to = node r j (record { kernel = kernel; kernel_at = at; within = closure_opened k j x c over begins }) (begun_within g j x begins);
          first = first;
          begins = begins;
        };
      }))
  lookahead_from s i (opened r k j x l over end begins) =
      let has = lookahead_has g states t r k l in
      reaches_next r k r j (lookahead_from r k l) has (omega (arith, after_within g k x over)) (begun_within g j x begins) (into x j has over end begins)
  lookahead_from s i (moved q k x r l over goto) =
      let has = lookahead_has g states t q k l in
      reaches_next q k r (k + 1) (lookahead_from q k l) has (omega (arith, after_within g k x over)) (after_within g k x over) (along x r has over goto)

  pub lookahead_exact : IsSpread edges starts marks → (u s i : ℕ) → IsNode (length g.entries.now) nodes u s i → HasMark marks b u ↔ Lookahead g states t s i
  unfolding number
  lookahead_exact spread u s i at = (
    λ m. lookahead_to u (spread.sound b u m) s i at,
    λ l. spread.complete b u (subst (Spreads edges starts b) (sym (node_number g states nodes nodes_are u s i at)) (lookahead_from s i l)),
  )

-- ---- the words of the first terminals
pub record AreLookaheadsBelow (g : Grammar) (states : List (List ℕ)) (nodes : Nodes) (n : ℕ) (rows : List (Vec ℕ Global)) : Type 0 where
  pub long : length rows ≡ n
  pub each : (k : ℕ) (row : Vec ℕ Global) → slice_get rows k ≡ Some row → length row.items ≡ length nodes.places.items
  pub exact : (k : ℕ) (row : Vec ℕ Global) → slice_get rows k ≡ Some row → (b u s i : ℕ) → b < 64 → k * 64 + b < g.terminals → IsNode (length g.entries.now) nodes u s i → HasMark row.items b u ↔ Lookahead g states (k * 64 + b) s i

pub AreLookaheadsBelow-push : (g : Grammar) (states : List (List ℕ)) (nodes : Nodes) (n : ℕ) (rows : List (Vec ℕ Global)) (row : Vec ℕ Global) → AreLookaheadsBelow g states nodes n rows → length row.items ≡ length nodes.places.items → ((b u s i : ℕ) → b < 64 → n * 64 + b < g.terminals → IsNode (length g.entries.now) nodes u s i → HasMark row.items b u ↔ Lookahead g states (n * 64 + b) s i) → AreLookaheadsBelow g states nodes (n + 1) (rows ++ row ∷ [])
AreLookaheadsBelow-push g states nodes n rows row h long exact = record {
  long = length_push rows row ∙ ap (λ k. k + 1) h.long;
  each = each-push (λ k (r : Vec ℕ Global). length r.items ≡ length nodes.places.items) rows row n h.long h.each long;
  exact = each-push (λ k (r : Vec ℕ Global). (b u s i : ℕ) → b < 64 → k * 64 + b < g.terminals → IsNode (length g.entries.now) nodes u s i → HasMark r.items b u ↔ Lookahead g states (k * 64 + b) s i) rows row n h.long h.exact exact;
}

-- ---- each item of the state of a place has a number
place_fits : (k n p : ℕ) → p < k * n → PlaceFits n (k * n) p
place_fits k n p within =
    let positive = some_entries k n p within in
    let row : p / n < k = div_below p n k positive within in
    record { positive = positive; fits = omega (arith, mul-le-mul_left n row) }

-- ---- the sources among the first places
abbrev pub IsSourceAt : Grammar → List (List ℕ) → ℕ → ℕ → Type 0
IsSourceAt g states p q = IsSource g states p × (p ≡ q)

abbrev pub SourcesSoFar : Grammar → List (List ℕ) → List ℕ → List ℕ → Type 0
SourcesSoFar g states places sources = IsCollected (IsSourceAt g states) places sources

-- a place that is followed is a source
pub source_of : (g : Grammar) (states : List (List ℕ)) (p : ℕ) → HasPlace g states p → IsFollowed g (p % length g.entries.now) → IsSource g states p
source_of g states p h followed =
    let positive : 0 < length g.entries.now = omega (arith, h.at.within) in
    let at = place_at (length g.entries.now) p positive in
    record { s = p / length g.entries.now; i = p % length g.entries.now; at = at; has = has_at g states p (p / length g.entries.now) (p % length g.entries.now) at h; followed = followed }

pub followed_of_source : (g : Grammar) (states : List (List ℕ)) (p : ℕ) → IsSource g states p → IsFollowed g (p % length g.entries.now)
followed_of_source g states p h =
    let positive : 0 < length g.entries.now = omega (arith, h.at.within) in
    subst (IsFollowed g) (place_same (length g.entries.now) p h.s h.i (p / length g.entries.now) (p % length g.entries.now) h.at (place_at (length g.entries.now) p positive)).1 h.followed

pub AreSources-done : (g : Grammar) (states : List (List ℕ)) (nodes : Nodes) (sources : List ℕ) → AreNodes g states nodes → SourcesSoFar g states nodes.places.items sources → AreSources g states sources
AreSources-done g states nodes sources are h = record {
  sound = λ p w. let o = h.sound p w in subst (IsSource g states) o.2.1 o.2.0;
  complete = λ p s. h.complete p p (are.places.complete p (subst (λ z. z < length states * length g.entries.now) (sym s.at.is) (place_in g states s.s s.i s.has s.at.within)) (record { s = s.s; i = s.i; at = s.at; has = s.has })) (s, refl);
}

pub source_fits : (g : Grammar) (states : List (List ℕ)) (p : ℕ) → IsSource g states p → PlaceFits (length g.entries.now) (length states * length g.entries.now) p
source_fits g states p h = place_fits (length states) (length g.entries.now) p (subst (λ z. z < length states * length g.entries.now) (sym h.at.is) (place_in g states h.s h.i h.has h.at.within))

pub seed_fits : (g : Grammar) (states : List (List ℕ)) (nodes : Nodes) (rows : List (Vec ℕ Global)) (p : ℕ) → AreNodes g states nodes → IsOpened g rows → IsSource g states p → SeedFits g nodes rows p
seed_fits g states nodes rows p are rows_are source = record {
  place = subst (λ z. PlaceFits (length g.entries.now) z p) (sym are.long) (source_fits g states p source);
  within = λ v w. let o = opened_to g states nodes rows are rows_are p source v w in node_in (length g.entries.now) nodes v source.s o.0 o.1;
}

-- ---- what the first sources give
module _ (g : Grammar) (nodes : Nodes) (rows : List (Vec ℕ Global)) (first : List ℕ) where
  pub Seeds-none : (n b v : ℕ) → HasMark (replicate n 0) b v ↔ Seeds g nodes rows first [] b v
  Seeds-none n b v = (λ m. absurd (no_mark_yet n b v m), λ s. absurd (no_member s.place s.within))

  Seeds-old : (sources : List ℕ) (k b v : ℕ) → k < length sources → Seeds g nodes rows first (take k sources) b v → Seeds g nodes rows first (take (k + 1) sources) b v
  Seeds-old sources k b v k_in s = record { place = s.place; within = take-more_old sources k s.place k_in s.within; next = s.next; next_is = s.next_is; has = s.has; opens = s.opens }

  -- a seed of the first k + 1 sources is one of the first k, or of the next one
  Seeds-cases : (sources : List ℕ) (k b v : ℕ) → k < length sources → (s : Seeds g nodes rows first (take (k + 1) sources) b v) → Seeds g nodes rows first (take k sources) b v ⊎ (s.place ≡ get_or sources k 0)
  Seeds-cases sources k b v k_in s = elim (take-more_cases sources k s.place k_in s.within) [
    | inl a ↦ inl (record { place = s.place; within = a; next = s.next; next_is = s.next_is; has = s.has; opens = s.opens })
    | inr e ↦ inr (sym e)
  ]

  pub Seeds-left : (sources words : List ℕ) (k : ℕ) → k < length sources → behind_of g (get_or sources k 0) ≡ None → ((b v : ℕ) → HasMark words b v ↔ Seeds g nodes rows first (take k sources) b v) → (b v : ℕ) → HasMark words b v ↔ Seeds g nodes rows first (take (k + 1) sources) b v
  Seeds-left sources words k k_in none h b v = (
    λ m. Seeds-old sources k b v k_in ((h b v).0 m),
    λ s. elim (Seeds-cases sources k b v k_in s) [ inl a ↦ (h b v).1 a | inr e ↦ absurd (none-some s.next (sym none ∙ ap (behind_of g) (sym e) ∙ s.next_is)) ],
  )

  pub Seeds-more : (sources now new : List ℕ) (k next word : ℕ) → k < length sources → behind_of g (get_or sources k 0) ≡ Some next → word ≡ slice_index first next → IsGiven now new (opened_part g nodes.numbers.items rows (get_or sources k 0)) word → ((b v : ℕ) → HasMark now b v ↔ Seeds g nodes rows first (take k sources) b v) → (b v : ℕ) → HasMark new b v ↔ Seeds g nodes rows first (take (k + 1) sources) b v
  Seeds-more sources now new k next word k_in some word_is given h b v = (
    λ m. elim ((given.each b v).0 m) [
      | inl a ↦ Seeds-old sources k b v k_in ((h b v).0 a)
      | inr a ↦ record { place = get_or sources k 0; within = take-more_new sources k k_in; next = next; next_is = some; has = subst (λ w. bit_at w b ≡ 1) word_is a.1; opens = a.0 }
    ],
    λ s. (given.each b v).1 (elim (Seeds-cases sources k b v k_in s) [
      | inl a ↦ inl ((h b v).1 a)
      | inr e ↦ inr (subst (λ p. Contains (opened_part g nodes.numbers.items rows p) v) e s.opens, same_next s e)
    ]),
  )
    where
      same_next : (s : Seeds g nodes rows first (take (k + 1) sources) b v) → s.place ≡ get_or sources k 0 → bit_at word b ≡ 1
      same_next s e = rw (word_is, same_Some next s.next (sym some ∙ ap (behind_of g) (sym e) ∙ s.next_is)) s.has
