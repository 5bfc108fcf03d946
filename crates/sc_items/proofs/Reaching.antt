-- Marking the nodes that can be reached.
use Rattle.std.proofs.Common.{◌≡◌, ◌<◌, ◌+◌, ◌⊎◌, ℕ, Bool, true, false, not, List, [], ◌∷◌, ◌++◌, length, get_or, set, take, count_by, IsTrue, inl, inr, refl, sym, ap, replicate, ◌∙◌, subst, arith, Some, Vec, slice_get}
use Rattle.std.specs.List.{Contains}
use Rattle.std.specs.declared.alloc.Global.{Global}
use Rattle.std.proofs.lemmas.List.Elements.{Contains-push, Contains-append_left, Contains-push_cases}
use Rattle.std.proofs.lemmas.Bool.{cases_eq, cases_lt, false≢true}
use Rattle.std.proofs.lemmas.Grind.{common_steps}
use Rattle.std.proofs.lemmas.Option.{same_Some}
use Rattle.std.proofs.lemmas.List.{get_or-set_same, get_or-set_other, get_or-replicate, get_or_past, length-set, length-append, length-replicate, take_more}
use Rattle.lr_tables.proofs.Members.{no_member}
use Rattle.sc_items.specs.Reach.{marked, Edge, Reaches, start, step, IsReached, Marks}

pub Marks-none : (marks : List Bool) (waiting : List ℕ) → Marks marks marks waiting waiting []
Marks-none marks waiting = record {
  long = refl;
  kept = λ v h. h;
  each = λ v h. absurd (no_member v h);
  only = λ v h. inl h;
  waits = λ v h. h;
  from = λ v h. inl h;
  left = refl;
}

pub Marks-skip : (old new : List Bool) (waiting now nodes : List ℕ) (node : ℕ) → Marks old new waiting now nodes → IsTrue (marked new node) → Marks old new waiting now (nodes ++ node ∷ [])
Marks-skip old new waiting now nodes node h marked_one = record {
  long = h.long;
  kept = h.kept;
  each = λ v within. elim (Contains-push_cases nodes node v within) [ inl w ↦ h.each v w | inr e ↦ subst (λ x. IsTrue (marked new x)) e marked_one ];
  only = λ v m. elim (h.only v m) [ inl w ↦ inl w | inr w ↦ inr (Contains-append_left nodes (node ∷ []) v w.0, w.1) ];
  waits = h.waits;
  from = λ v w. elim (h.from v w) [ inl a ↦ inl a | inr a ↦ inr (Contains-append_left nodes (node ∷ []) v a) ];
  left = h.left;
}

count-set : (marks : List Bool) (i : ℕ) → i < length marks → get_or marks i false ≡ false → count_by not (set marks i true) + 1 ≡ count_by not marks
count-set marks i within is = grind (arith, common_steps)

pub marked_other : (marks : List Bool) (i v : ℕ) → i < length marks → IsTrue (marked (set marks i true) v) → (v ≡ i) ⊎ IsTrue (marked marks v)
marked_other marks i v within m =
    elim (cases_eq v i) [ inl e ↦ inl e | inr ne ↦ inr (subst IsTrue (get_or-set_other marks i v true false ne) m) ]

pub marked_same : (marks : List Bool) (i : ℕ) → i < length marks → IsTrue (marked (set marks i true) i)
marked_same marks i within = subst IsTrue (sym (get_or-set_same marks i true false within)) refl

pub marked_kept : (marks : List Bool) (i v : ℕ) → i < length marks → IsTrue (marked marks v) → IsTrue (marked (set marks i true) v)
marked_kept marks i v within m =
    elim (cases_eq v i) [ inl e ↦ subst (λ x. IsTrue (marked (set marks i true) x)) (sym e) (marked_same marks i within) | inr ne ↦ subst IsTrue (sym (get_or-set_other marks i v true false ne)) m ]

pub Marks-mark : (old new : List Bool) (waiting now nodes : List ℕ) (node : ℕ) → Marks old new waiting now nodes → node < length new → get_or new node false ≡ false → Marks old (set new node true) waiting (now ++ node ∷ []) (nodes ++ node ∷ [])
Marks-mark old new waiting now nodes node h within unmarked = record {
  long = length-set new node true ∙ h.long;
  kept = λ v m. marked_kept new node v within (h.kept v m);
  each = λ v w. elim (Contains-push_cases nodes node v w) [ inl a ↦ marked_kept new node v within (h.each v a) | inr e ↦ subst (λ x. IsTrue (marked (set new node true) x)) e (marked_same new node within) ];
  only = λ v m. elim (marked_other new node v within m) [ inl e ↦ inr (subst (λ x. Contains (nodes ++ node ∷ []) x) (sym e) (Contains-push nodes node), subst (λ x. Contains (now ++ node ∷ []) x) (sym e) (Contains-push now node)) | inr a ↦ elim (h.only v a) [ inl b ↦ inl b | inr b ↦ inr (Contains-append_left nodes (node ∷ []) v b.0, Contains-append_left now (node ∷ []) v b.1) ] ];
  waits = λ v w. Contains-append_left now (node ∷ []) v (h.waits v w);
  from = λ v w. elim (Contains-push_cases now node v w) [ inl a ↦ elim (h.from v a) [ inl b ↦ inl b | inr b ↦ inr (Contains-append_left nodes (node ∷ []) v b) ] | inr e ↦ inr (subst (λ x. Contains (nodes ++ node ∷ []) x) e (Contains-push nodes node)) ];
  left = omega (arith, h.left, count-set new node within unmarked, length-append now (node ∷ []));
}

-- one node more of a list, which was marked already
pub Marks-more_skip : (old new : List Bool) (waiting now xs : List ℕ) (k : ℕ) → Marks old new waiting now (take k xs) → k < length xs → IsTrue (marked new (get_or xs k 0)) → Marks old new waiting now (take (k + 1) xs)
Marks-more_skip old new waiting now xs k h within is =
    subst (λ ys. Marks old new waiting now ys) (sym (take_more xs k 0 within)) (Marks-skip old new waiting now (take k xs) (get_or xs k 0) h is)

-- one node more of a list, which is marked now
pub Marks-more_mark : (old new new' : List Bool) (waiting now now' xs : List ℕ) (k : ℕ) → Marks old new waiting now (take k xs) → k < length xs → new' ≡ set new (get_or xs k 0) true → now' ≡ now ++ get_or xs k 0 ∷ [] → get_or xs k 0 < length new → get_or new (get_or xs k 0) false ≡ false → Marks old new' waiting now' (take (k + 1) xs)
Marks-more_mark old new new' waiting now now' xs k h within e f node_in is =
    rw (e, f, take_more xs k 0 within) (Marks-mark old new waiting now (take k xs) (get_or xs k 0) h node_in is)

-- The marks of a search: the nodes that wait are marked, and each other marked node has its
-- neighbours marked.
pub record Progress (edges : List (Vec ℕ Global)) (starts : List ℕ) (marks : List Bool) (waiting : List ℕ) : Type 0 where
  pub long : length marks ≡ length edges
  pub sound : (v : ℕ) → IsTrue (marked marks v) → Reaches edges starts v
  pub begun : (v : ℕ) → Contains starts v → IsTrue (marked marks v)
  pub waits : (v : ℕ) → Contains waiting v → IsTrue (marked marks v)
  pub closed : (v : ℕ) → IsTrue (marked marks v) → Contains waiting v ⊎ ((w : ℕ) → Edge edges v w → IsTrue (marked marks w))

pub Progress-none : (edges : List (Vec ℕ Global)) (starts : List ℕ) (old new : List Bool) (waiting : List ℕ) → length old ≡ length edges → ((v : ℕ) → IsTrue (marked old v) → ⊥) → Marks old new [] waiting starts → Progress edges starts new waiting
Progress-none edges starts old new waiting long none h = record {
  long = h.long ∙ long;
  sound = λ v m. elim (h.only v m) [ inl a ↦ absurd (none v a) | inr a ↦ start v a.0 ];
  begun = h.each;
  waits = λ v w. elim (h.from v w) [ inl a ↦ absurd (no_member v a) | inr a ↦ h.each v a ];
  closed = λ v m. elim (h.only v m) [ inl a ↦ absurd (none v a) | inr a ↦ inl a.1 ];
}

pub none_marked : (n v : ℕ) → IsTrue (marked (replicate n false) v) → ⊥
none_marked n v m = elim (cases_lt v n) [ inl h ↦ false≢true (sym (get_or-replicate n v false false h) ∙ m) | inr h ↦ false≢true (sym (get_or_past (replicate n false) v false (omega (arith, length-replicate {A = Bool} n false))) ∙ m) ]

-- before the first step: nothing but the starts is marked
pub Progress-begin : (edges : List (Vec ℕ Global)) (starts : List ℕ) (old new : List Bool) (none waiting : List ℕ) → old ≡ replicate (length edges) false → none ≡ [] → Marks old new none waiting starts → Progress edges starts new waiting
Progress-begin edges starts old new none waiting e f h =
    Progress-none edges starts old new waiting
    (ap length e ∙ length-replicate (length edges) false)
    (λ v m. none_marked (length edges) v (subst (λ marks. IsTrue (marked marks v)) e m))
    (subst (λ xs. Marks old new xs waiting starts) f h)

-- a node that waits is in the graph
pub Progress-within : (edges : List (Vec ℕ Global)) (starts : List ℕ) (marks : List Bool) (waiting rest : List ℕ) (node : ℕ) → Progress edges starts marks waiting → waiting ≡ rest ++ node ∷ [] → node < length edges
Progress-within edges starts marks waiting rest node p e =
    let in_waiting : Contains waiting node = rw e (Contains-push rest node) in
    marked_within (p.waits node in_waiting)
  where
    marked_within : IsTrue (marked marks node) → node < length edges
    marked_within m = elim (cases_lt node (length edges)) [ inl h ↦ h | inr h ↦ absurd (false≢true (sym (get_or_past marks node false (omega (arith, p.long))) ∙ m)) ]

-- one step: the edges of a node that waited are followed
pub Progress-step : (edges : List (Vec ℕ Global)) (starts : List ℕ) (old new : List Bool) (rest now : List ℕ) (node : ℕ) (row : Vec ℕ Global) → Progress edges starts old (rest ++ node ∷ []) → slice_get edges node ≡ Some row → Marks old new rest now row.items → Progress edges starts new now
Progress-step edges starts old new rest now node row p at h =
    let node_in = p.waits node (Contains-push rest node) in
    record {
      long = h.long ∙ p.long;
      sound = λ v m. elim (h.only v m) [
        | inl a ↦ p.sound v a
        | inr a ↦ step node v (p.sound node node_in) (record { row = row; row_at = at; in_row = a.0 })
      ];
      begun = λ v s. h.kept v (p.begun v s);
      waits = λ v w. elim (h.from v w) [ inl a ↦ h.kept v (p.waits v (Contains-append_left rest (node ∷ []) v a)) | inr a ↦ h.each v a ];
      closed = λ v m. elim (h.only v m) [ inl a ↦ closed_old v a | inr a ↦ inl a.1 ];
    }
  where
    closed_old : (v : ℕ) → IsTrue (marked old v) → Contains now v ⊎ ((w : ℕ) → Edge edges v w → IsTrue (marked new w))
    closed_old v m = elim (p.closed v m) [
      | inl a ↦ elim (Contains-push_cases rest node v a) [
        | inl b ↦ inl (h.waits v b)
        | inr e ↦ inr (λ w edge. h.each w (subst (λ (r : Vec ℕ Global). Contains r.items w) (same_row v e edge.row edge.row_at) edge.in_row))
      ]
      | inr b ↦ inr (λ w edge. h.kept w (b w edge))
    ]
      where
        same_row : (v : ℕ) → node ≡ v → (other : Vec ℕ Global) → slice_get edges v ≡ Some other → other ≡ row
        same_row v e other other_at = same_Some other row (sym (subst (λ x. slice_get edges x ≡ Some other) (sym e) other_at) ∙ at)

pub IsReached-done : (edges : List (Vec ℕ Global)) (starts : List ℕ) (marks : List Bool) → Progress edges starts marks [] → IsReached edges starts marks
IsReached-done edges starts marks p = record { sound = p.sound; complete = complete }
  where
    complete : (v : ℕ) → Reaches edges starts v → IsTrue (marked marks v)
    complete v (start w s) = p.begun v s
    complete v (step from to r edge) = elim (p.closed from (complete from r)) [ inl a ↦ absurd (no_member from a) | inr b ↦ b to edge ]
