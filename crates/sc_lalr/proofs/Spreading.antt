-- Marks that are passed on.
use Rattle.std.proofs.Common.{◌≡◌, ◌↔◌, ◌<◌, ◌≤◌, ◌+◌, ◌-◌, ◌^◌, ◌⊎◌, max, ℕ, List, [], ◌∷◌, ◌++◌, length, replicate, set, slice_get, slice_index, Some, Vec, inl, inr, refl, sym, ap, ◌∙◌, subst, arith}
use Rattle.std.specs.Int.{bit_at}
use Rattle.std.specs.Int.RustNames.{bit_or}
use Rattle.std.specs.List.{Contains, sum_by}
use Rattle.std.specs.declared.alloc.Global.{Global}
use Rattle.std.proofs.lemmas.Bool.{cases_eq, cases_lt}
use Rattle.std.proofs.lemmas.Nat.{le_or_l}
use Rattle.std.proofs.lemmas.Nat.Bits.{bit_at_or, bit_at-lt, bit_at-zero}
use Rattle.std.proofs.lemmas.List.{get_or-set_same, get_or-set_other, get_or_past, get_or-replicate, length-replicate, length-set, length-append}
use Rattle.std.proofs.lemmas.List.Elements.{Contains-push, Contains-append_left, Contains-push_cases}
use Rattle.std.proofs.lemmas.List.Sums.{sum_by-set}
use Rattle.std.proofs.lemmas.Option.{same_Some, slice_get_within}
use Rattle.lr_tables.proofs.Members.{no_member}
use Rattle.sc_items.specs.Reach.{Edge}
use Rattle.sc_lalr.specs.Marks.{HasMark, Spreads, start, step, IsSpread, IsGiven, IsPassed, room}

-- the numbers below one, from the highest
pub all-more : (numbers : List ℕ) (count n : ℕ) → n < count → ((v : ℕ) → Contains numbers v ↔ (v < count) × (count ≤ v + n)) → (v : ℕ) → Contains (numbers ++ (count - 1 - n) ∷ []) v ↔ (v < count) × (count ≤ v + (n + 1))
all-more numbers count n n_in h v = (
  λ w. elim (Contains-push_cases numbers (count - 1 - n) v w) [ inl a ↦ (((h v).0 a).0, omega (arith, ((h v).0 a).1)) | inr e ↦ (omega (arith, e, n_in), omega (arith, e, n_in)) ],
  λ k. elim (cases_lt (v + n) count) [
    | inl a ↦ (let e : count - 1 - n ≡ v = omega (arith, a, k.1) in subst (Contains (numbers ++ (count - 1 - n) ∷ [])) e (Contains-push numbers (count - 1 - n)))
    | inr b ↦ Contains-append_left numbers ((count - 1 - n) ∷ []) v ((h v).1 (k.0, b))
  ],
)

-- ---- one word
or_bit : (a w b : ℕ) → bit_at (bit_or a w) b ≡ 1 ↔ (bit_at a b ≡ 1) ⊎ (bit_at w b ≡ 1)
or_bit a w b = go (bit_at a b) (bit_at w b) (bit_at_or a w b) (bit_at-lt a b) (bit_at-lt w b)
  where
    go : (x y : ℕ) → bit_at (bit_or a w) b ≡ max x y → x < 2 → y < 2 → bit_at (bit_or a w) b ≡ 1 ↔ (x ≡ 1) ⊎ (y ≡ 1)
    go x y e h k = (
      λ is. elim (cases_lt 0 x) [ inl p ↦ inl (omega (arith, p)) | inr p ↦ inr (omega (arith, p, e, is)) ],
      λ o. elim o [ inl p ↦ omega (arith, e, p) | inr p ↦ omega (arith, e, p) ],
    )

pub mark_within : (words : List ℕ) (b v : ℕ) → HasMark words b v → v < length words
mark_within words b v m = elim (cases_lt v (length words)) [ inl h ↦ h | inr h ↦ absurd (omega (arith, m, ap (λ w. bit_at w b) (get_or_past words v 0 h), bit_at-zero b)) ]

pub no_mark_yet : (n b v : ℕ) → HasMark (replicate n 0) b v → ⊥
no_mark_yet n b v m = elim (cases_lt v n) [
  | inl h ↦ absurd (omega (arith, m, ap (λ w. bit_at w b) (get_or-replicate n v 0 0 h), bit_at-zero b))
  | inr h ↦ absurd (omega (arith, m, ap (λ w. bit_at w b) (get_or_past (replicate n 0) v 0 (omega (arith, h, length-replicate {A = ℕ} n 0))), bit_at-zero b))
]

-- ---- nodes that get the marks of a word
pub IsGiven-none : (words : List ℕ) (word : ℕ) → IsGiven words words [] word
IsGiven-none words word = record { long = refl; each = λ b v. (λ m. inl m, λ o. elim o [ inl m ↦ m | inr m ↦ absurd (no_member v m.0) ]) }

-- the words, where the node got the marks of a word
abbrev pub joined_at : List ℕ → ℕ → ℕ → List ℕ
joined_at words node word = set words node (bit_or (slice_index words node) word)

module _ (words : List ℕ) (node word b : ℕ) where
  joined_same : node < length words → HasMark (joined_at words node word) b node ↔ HasMark words b node ⊎ (bit_at word b ≡ 1)
  joined_same within = rw (get_or-set_same words node (bit_or (slice_index words node) word) 0 within) (or_bit (slice_index words node) word b)

  joined_other : (v : ℕ) → (v ≡ node → ⊥) → slice_index (joined_at words node word) v ≡ slice_index words v
  joined_other v f = get_or-set_other words node v (bit_or (slice_index words node) word) 0 f

  joined_kept : (v : ℕ) → node < length words → HasMark words b v → HasMark (joined_at words node word) b v
  joined_kept v within m = elim (cases_eq v node) [
    | inl e ↦ subst (HasMark (joined_at words node word) b) (sym e) ((joined_same within).1 (inl (subst (HasMark words b) e m)))
    | inr f ↦ subst (λ w. bit_at w b ≡ 1) (sym (joined_other v f)) m
  ]

  joined_cases : (v : ℕ) → node < length words → HasMark (joined_at words node word) b v → HasMark words b v ⊎ ((node ≡ v) × (bit_at word b ≡ 1))
  joined_cases v within m = elim (cases_eq v node) [
    | inl e ↦ elim ((joined_same within).0 (subst (HasMark (joined_at words node word) b) e m)) [ inl k ↦ inl (subst (HasMark words b) (sym e) k) | inr k ↦ inr (sym e, k) ]
    | inr f ↦ inl (subst (λ w. bit_at w b ≡ 1) (joined_other v f) m)
  ]

pub IsGiven-more : (old now new nodes : List ℕ) (word node : ℕ) → IsGiven old now nodes word → node < length now → new ≡ joined_at now node word → IsGiven old new (nodes ++ node ∷ []) word
IsGiven-more old now new nodes word node h within e = rw e (record { long = length-set now node (bit_or (slice_index now node) word) ∙ h.long; each = λ b v. (λ m. to b v m, λ m. from b v m) })
  where
    to : (b v : ℕ) → HasMark (joined_at now node word) b v → HasMark old b v ⊎ (Contains (nodes ++ node ∷ []) v × (bit_at word b ≡ 1))
    to b v m = elim (joined_cases now node word b v within m) [
      | inl k ↦ elim ((h.each b v).0 k) [ inl a ↦ inl a | inr a ↦ inr (Contains-append_left nodes (node ∷ []) v a.0, a.1) ]
      | inr k ↦ inr (subst (Contains (nodes ++ node ∷ [])) k.0 (Contains-push nodes node), k.1)
    ]

    from : (b v : ℕ) → HasMark old b v ⊎ (Contains (nodes ++ node ∷ []) v × (bit_at word b ≡ 1)) → HasMark (joined_at now node word) b v
    from b v (inl a) = joined_kept now node word b v within ((h.each b v).1 (inl a))
    from b v (inr a) = elim (Contains-push_cases nodes node v a.0) [
      | inl w ↦ joined_kept now node word b v within ((h.each b v).1 (inr (w, a.1)))
      | inr f ↦ subst (HasMark (joined_at now node word) b) f ((joined_same now node word b within).1 (inr a.1))
    ]

-- ---- the same, with those that wait
pub IsPassed-none : (words waiting : List ℕ) (word : ℕ) → IsPassed words words waiting waiting [] word
IsPassed-none words waiting word = record { given = IsGiven-none words word; waits = λ v h. h; from = λ v h. inl h; others = λ v. inl refl; left = omega arith }

-- a node that has all the marks
pub IsPassed-skip : (old now waiting pending nodes : List ℕ) (word node : ℕ) → IsPassed old now waiting pending nodes word → bit_or (slice_index now node) word ≤ slice_index now node → IsPassed old now waiting pending (nodes ++ node ∷ []) word
IsPassed-skip old now waiting pending nodes word node h all = record {
  given = record { long = h.given.long; each = λ b v. (λ m. more b v ((h.given.each b v).0 m), λ m. less b v m) };
  waits = h.waits;
  from = λ v w. elim (h.from v w) [ inl a ↦ inl a | inr a ↦ inr (Contains-append_left nodes (node ∷ []) v a) ];
  others = h.others;
  left = h.left;
}
  where
    more : (b v : ℕ) → HasMark old b v ⊎ (Contains nodes v × (bit_at word b ≡ 1)) → HasMark old b v ⊎ (Contains (nodes ++ node ∷ []) v × (bit_at word b ≡ 1))
    more b v (inl a) = inl a
    more b v (inr a) = inr (Contains-append_left nodes (node ∷ []) v a.0, a.1)

    same : bit_or (slice_index now node) word ≡ slice_index now node
    same = omega (arith, all, le_or_l (slice_index now node) word)

    less : (b v : ℕ) → HasMark old b v ⊎ (Contains (nodes ++ node ∷ []) v × (bit_at word b ≡ 1)) → HasMark now b v
    less b v (inl a) = (h.given.each b v).1 (inl a)
    less b v (inr a) = elim (Contains-push_cases nodes node v a.0) [
      | inl w ↦ (h.given.each b v).1 (inr (w, a.1))
      | inr f ↦ subst (HasMark now b) f (subst (λ w. bit_at w b ≡ 1) same ((or_bit (slice_index now node) word b).1 (inr a.1)))
    ]

pub IsPassed-mark : (old now new waiting pending later nodes : List ℕ) (word node : ℕ) → IsPassed old now waiting pending nodes word → node < length now → slice_index now node < bit_or (slice_index now node) word → bit_or (slice_index now node) word < 2 ^ 64
    → new ≡ joined_at now node word → later ≡ pending ++ node ∷ [] → IsPassed old new waiting later (nodes ++ node ∷ []) word
IsPassed-mark old now new waiting pending later nodes word node h within more bound e f = record {
  given = IsGiven-more old now new nodes word node h.given within e;
  waits = λ v w. rw f (Contains-append_left pending (node ∷ []) v (h.waits v w));
  from = λ v w. elim (Contains-push_cases pending node v (subst (λ zs. Contains zs v) f w)) [
    | inl a ↦ elim (h.from v a) [ inl b ↦ inl b | inr b ↦ inr (Contains-append_left nodes (node ∷ []) v b) ]
    | inr g ↦ inr (subst (Contains (nodes ++ node ∷ [])) g (Contains-push nodes node))
  ];
  others = λ v. elim (cases_eq v node) [
    | inl g ↦ inr (rw (f, g) (Contains-push pending node))
    | inr g ↦ elim (h.others v) [ inl a ↦ inl (ap (λ zs. slice_index zs v) e ∙ joined_other now node word 0 v g ∙ a) | inr a ↦ inr (rw f (Contains-append_left pending (node ∷ []) v a)) ]
  ];
  left = omega (arith, h.left, ap (sum_by room) e, sum_by-set room now node (bit_or (slice_index now node) word) 0 within, less, ap length f, length-append pending (node ∷ []));
}
  where
    less : room (bit_or (slice_index now node) word) + 1 ≤ room (slice_index now node)
    less = omega (arith, more, bound)

-- ---- The marks of a search: each node waits, or has its marks passed on.
pub record Spreading (edges : List (Vec ℕ Global)) (old words waiting : List ℕ) : Type 0 where
  pub long : length words ≡ length old
  pub sound : (b v : ℕ) → HasMark words b v → Spreads edges old b v
  pub kept : (b v : ℕ) → HasMark old b v → HasMark words b v
  pub within : (v : ℕ) → Contains waiting v → v < length edges
  pub closed : (u : ℕ) → u < length edges → Contains waiting u ⊎ ((b v : ℕ) → Edge edges u v → HasMark words b u → HasMark words b v)

-- at first all wait
pub Spreading-begin : (edges : List (Vec ℕ Global)) (words waiting : List ℕ) → ((v : ℕ) → Contains waiting v ↔ (v < length edges)) → Spreading edges words words waiting
Spreading-begin edges words waiting all = record { long = refl; sound = λ b v m. start v m; kept = λ b v m. m; within = λ v w. (all v).0 w; closed = λ u h. inl ((all u).1 h) }

-- one step: the marks of a node that waited are passed on
pub Spreading-step : (edges : List (Vec ℕ Global)) (old now new rest later : List ℕ) (node : ℕ) (row : Vec ℕ Global) → Spreading edges old now (rest ++ node ∷ []) → slice_get edges node ≡ Some row → ((v : ℕ) → Contains row.items v → v < length edges) → IsPassed now new rest later row.items (slice_index now node) → Spreading edges old new later
Spreading-step edges old now new rest later node row h at fits p = record {
  long = p.given.long ∙ h.long;
  sound = λ b v m. elim ((p.given.each b v).0 m) [ inl a ↦ h.sound b v a | inr a ↦ step node v (h.sound b node a.1) (record { row = row; row_at = at; in_row = a.0 }) ];
  kept = λ b v m. grown b v (h.kept b v m);
  within = λ v w. elim (p.from v w) [ inl a ↦ h.within v (Contains-append_left rest (node ∷ []) v a) | inr a ↦ fits v a ];
  closed = λ u u_in. elim (p.others u) [ inl e ↦ still u e (h.closed u u_in) | inr w ↦ inl w ];
}
  where
    grown : (b v : ℕ) → HasMark now b v → HasMark new b v
    grown b v m = (p.given.each b v).1 (inl m)

    -- where the node keeps its marks
    still : (u : ℕ) → slice_index new u ≡ slice_index now u → Contains (rest ++ node ∷ []) u ⊎ ((b v : ℕ) → Edge edges u v → HasMark now b u → HasMark now b v) → Contains later u ⊎ ((b v : ℕ) → Edge edges u v → HasMark new b u → HasMark new b v)
    still u e (inr f) = inr (λ b v edge m. grown b v (f b v edge (subst (λ w. bit_at w b ≡ 1) e m)))
    still u e (inl w) = elim (Contains-push_cases rest node u w) [
      | inl a ↦ inl (p.waits u a)
      | inr g ↦ inr (λ b v edge m. (p.given.each b v).1 (inr (subst (λ (r : Vec ℕ Global). Contains r.items v) (same_Some edge.row row (sym edge.row_at ∙ subst (λ x. slice_get edges x ≡ Some row) g at)) edge.in_row, subst (HasMark now b) (sym g) (subst (λ w. bit_at w b ≡ 1) e m))))
    ]

pub IsSpread-done : (edges : List (Vec ℕ Global)) (old words : List ℕ) → Spreading edges old words [] → IsSpread edges old words
IsSpread-done edges old words h = record { long = h.long; sound = h.sound; complete = complete }
  where
    complete : (b v : ℕ) → Spreads edges old b v → HasMark words b v
    complete b v (start w m) = h.kept b w m
    complete b v (step u w s edge) = elim (h.closed u (slice_get_within edges u edge.row edge.row_at)) [ inl a ↦ absurd (no_member u a) | inr f ↦ f b w edge (complete b u s) ]
