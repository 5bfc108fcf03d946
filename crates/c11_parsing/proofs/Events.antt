-- Every event keeps each configuration at the one piece where its parsing has come to.
use Rattle.std.proofs.Common.{zero, suc, ◌≡◌, ◌<◌, ◌≤◌, ◌+◌, ◌==◌, ◌&&◌, ◌||◌, not, ℕ, Bool, true, false, List, [], ◌∷◌, ◌++◌, length, map, drop, slice_get, Option, Some, None, inl, inr, refl, sym, ap, ◌∙◌, subst, arith, if◌then◌else◌}
use Rattle.std.specs.Prelude.{slice_set, slice_index_or, All, AllPairs}
use Rattle.std.specs.List.{Contains, position_or_len}
use Rattle.std.proofs.lemmas.List.Elements.{All-head, All-tail, All-cons, All-append, All-map, All-nil, All-contains}
use Rattle.std.proofs.lemmas.Option.{same_Some, none-some}
use Rattle.std.proofs.lemmas.Bool.{true≢false, eqb-true}
use Rattle.std.proofs.lemmas.Bool.Decides.{eqb_tells}
use Rattle.std.proofs.lemmas.List.{drop-drop}
use Rattle.lr_tables.proofs.Members.{no_member, cons_cases, cons_head, cons_tail, map_has}
use Rattle.sc_model.specs.Sets.{IsConfig}
use Rattle.sc_model.specs.Token.{Place, Token}
use Rattle.c11_parsing.specs.Classes.{Input, left_from, next_from, project}
use Rattle.c11_parsing.specs.Core.{Phase, between, at, Subparser, Ended, Core, frames, index_of, plain_phase, run_of, Has, Piece, going, over, IsStepped, part, AreParts, is_typedef, is_variable, Classified, none, one, IsMerged, Event, Makes, splits, reduces, shifts, classifies, going_in, over_in, without, with_pieces, CoreStep, alone, merged, filled, pieces_of, count, IsReached, Stands, CoreRun, nothing, after_event, IsStart, no_live, some_live, first_of, IsFinished, IsAnswered}
use Rattle.c11_parsing.specs.LR as lr
use Rattle.c11_parsing.specs.LR.{Run, Point, on, answered, Reaches, here, later, start, step}
use Rattle.c11_parsing.specs.Bindings.{Level}
use Rattle.c11_parsing.specs.Parser.{Parser}
use Rattle.c11_parsing.specs.Trees.{Condition, Tree}

-- ---- counting
abbrev unit : Bool → ℕ
unit b = if b then 1 else 0

pub count-append : (c : List ℕ) (xs ys : List Piece) → count c (xs ++ ys) ≡ count c xs + count c ys
count-append c [] ys = omega arith
count-append c (x ∷ xs) ys = omega (arith, count-append c xs ys)

filled-append : (xs ys : List (Option Subparser)) → filled (xs ++ ys) ≡ filled xs ++ filled ys
filled-append [] ys = refl
filled-append (None ∷ xs) ys = filled-append xs ys
filled-append (Some s ∷ xs) ys = ap (λ ps. going s ∷ ps) (filled-append xs ys)

over-append : (xs ys : List Ended) → map over (xs ++ ys) ≡ map over xs ++ map over ys
over-append [] ys = refl
over-append (x ∷ xs) ys = ap (λ ps. over x ∷ ps) (over-append xs ys)

count-removed : (c : List ℕ) (rows : List (Option Subparser)) (n : ℕ) (s : Subparser) → slice_get rows n ≡ Some (Some s)
    → count c (filled (slice_set rows n None)) + unit (s.condition c) ≡ count c (filled rows)
count-removed c [] n s e = absurd (none-some (Some s) e)
count-removed c (row ∷ rows) zero s e = subst (λ r. count c (filled rows) + unit (s.condition c) ≡ count c (filled (r ∷ rows))) (sym (same_Some row (Some s) e)) (omega arith)
count-removed c (None ∷ rows) (suc n) s e = count-removed c rows n s e
count-removed c (Some t ∷ rows) (suc n) s e = omega (arith, count-removed c rows n s e)

count-parted : (c : List ℕ) (ps : List Piece) → count c (filled (going_in ps)) + count c (map over (over_in ps)) ≡ count c ps
count-parted c [] = omega arith
count-parted c (going s ∷ ps) = omega (arith, count-parted c ps)
count-parted c (over e ∷ ps) = omega (arith, count-parted c ps)

count-with : (c : List ℕ) (ps : List Piece) (core : Core) → count c (pieces_of (with_pieces ps core)) ≡ count c (pieces_of core) + count c ps
count-with c ps core =
    omega (
      arith,
      count-append c (filled (core.rows ++ going_in ps)) (map over (core.ended ++ over_in ps)),
      ap (count c) (filled-append core.rows (going_in ps)),
      count-append c (filled core.rows) (filled (going_in ps)),
      ap (count c) (over-append core.ended (over_in ps)),
      count-append c (map over core.ended) (map over (over_in ps)),
      count-parted c ps,
      count-append c (filled core.rows) (map over core.ended),
    )

count-without : (c : List ℕ) (n : ℕ) (s : Subparser) (core : Core) → slice_get core.rows n ≡ Some (Some s)
    → count c (pieces_of (without n core)) + unit (s.condition c) ≡ count c (pieces_of core)
count-without c n s core e =
    omega (arith, count-append c (filled (slice_set core.rows n None)) (map over core.ended), count-append c (filled core.rows) (map over core.ended), count-removed c core.rows n s e)

-- ---- all pieces
module _ (P : Piece → Type 0) where
  all-removed : (rows : List (Option Subparser)) (n : ℕ) → All P (filled rows) → All P (filled (slice_set rows n None))
  all-removed [] n h = h
  all-removed (None ∷ rows) zero h = h
  all-removed (Some s ∷ rows) zero h = All-tail P (going s) (filled rows) h
  all-removed (None ∷ rows) (suc n) h = all-removed rows n h
  all-removed (Some s ∷ rows) (suc n) h =
      All-cons P (going s) (filled (slice_set rows n None)) (All-head P (going s) (filled rows) h) (all-removed rows n (All-tail P (going s) (filled rows) h))

  pub all-row : (rows : List (Option Subparser)) (n : ℕ) (s : Subparser) → slice_get rows n ≡ Some (Some s) → All P (filled rows) → P (going s)
  all-row [] n s e h = absurd (none-some (Some s) e)
  all-row (row ∷ rows) zero s e h = All-head P (going s) (filled rows) (subst (λ r. All P (filled (r ∷ rows))) (same_Some row (Some s) e) h)
  all-row (None ∷ rows) (suc n) s e h = all-row rows n s e h
  all-row (Some t ∷ rows) (suc n) s e h = all-row rows n s e (All-tail P (going t) (filled rows) h)

  pub all-left : (xs ys : List Piece) → All P (xs ++ ys) → All P xs
  all-left [] ys h = All-nil P
  all-left (x ∷ xs) ys h = All-cons P x xs (All-head P x (xs ++ ys) h) (all-left xs ys (All-tail P x (xs ++ ys) h))

  all-right : (xs ys : List Piece) → All P (xs ++ ys) → All P ys
  all-right [] ys h = h
  all-right (x ∷ xs) ys h = all-right xs ys (All-tail P x (xs ++ ys) h)

  all-going : (ps : List Piece) → All P ps → All P (filled (going_in ps))
  all-going [] h = All-nil P
  all-going (going s ∷ ps) h = All-cons P (going s) (filled (going_in ps)) (All-head P (going s) ps h) (all-going ps (All-tail P (going s) ps h))
  all-going (over e ∷ ps) h = all-going ps (All-tail P (over e) ps h)

  all-over : (ps : List Piece) → All P ps → All P (map over (over_in ps))
  all-over [] h = All-nil P
  all-over (going s ∷ ps) h = all-over ps (All-tail P (going s) ps h)
  all-over (over e ∷ ps) h = All-cons P (over e) (map over (over_in ps)) (All-head P (over e) ps h) (all-over ps (All-tail P (over e) ps h))

  all-with : (ps : List Piece) (core : Core) → All P ps → All P (pieces_of core) → All P (pieces_of (with_pieces ps core))
  all-with ps core h k =
      All-append P (filled (core.rows ++ going_in ps)) (map over (core.ended ++ over_in ps))
      (subst (All P) (sym (filled-append core.rows (going_in ps))) (All-append P (filled core.rows) (filled (going_in ps)) (all-left (filled core.rows) (map over core.ended) k) (all-going ps h)))
      (subst (All P) (sym (over-append core.ended (over_in ps))) (All-append P (map over core.ended) (map over (over_in ps)) (all-right (filled core.rows) (map over core.ended) k) (all-over ps h)))

  all-without : (n : ℕ) (core : Core) → All P (pieces_of core) → All P (pieces_of (without n core))
  all-without n core k =
      All-append P (filled (slice_set core.rows n None)) (map over core.ended) (all-removed core.rows n (all-left (filled core.rows) (map over core.ended) k)) (all-right (filled core.rows) (map over core.ended) k)

-- ---- tests
and-left : (a b : Bool) → (a && b) ≡ true → a ≡ true
and-left true b h = refl
and-left false b h = h

and-right : (a b : Bool) → (a && b) ≡ true → b ≡ true
and-right true b h = h
and-right false b h = absurd (true≢false (sym h))

unit-parts : (a b : Bool) → unit (a && b) + unit (a && not b) ≡ unit a
unit-parts true true = refl
unit-parts true false = refl
unit-parts false b = refl

unit-or : (a b : Bool) → unit a + unit b ≤ 1 → unit (a || b) ≡ unit a + unit b
unit-or true true h = absurd (omega (arith, h))
unit-or true false h = refl
unit-or false b h = omega arith

unit-at_most : (b : Bool) → unit b ≤ 1
unit-at_most true = omega arith
unit-at_most false = omega arith

unit-none : (b : Bool) → (b ≡ true → ⊥) → 0 ≡ unit b
unit-none true h = absurd (h refl)
unit-none false h = refl

-- ---- places of the list
drop-one : {A : Type 0} (x : A) (xs : List A) (n : ℕ) → drop (1 + n) (x ∷ xs) ≡ drop n xs
drop-one x xs n = subst (λ z. drop z (x ∷ xs) ≡ drop n xs) (let e : suc n ≡ 1 + n = omega arith in e) refl

-- the elements that are passed are none of the configuration's
project-passed : (c : List ℕ) (items : List (Condition × Token)) → project c (drop (position_or_len (λ item. item.0 c) items) items) ≡ project c items
project-passed c [] = refl
project-passed c (item ∷ items) = by (item.0 c) refl (project-passed c items)
  where
    by : (b : Bool) → item.0 c ≡ b → project c (drop (position_or_len (λ (x : Condition × Token). x.0 c) items) items) ≡ project c items
        → project c (drop (if not b then 1 + position_or_len (λ (x : Condition × Token). x.0 c) items else 0) (item ∷ items)) ≡ project c (item ∷ items)
    by true e rest = refl
    by false e rest =
        ap (project c) (drop-one item items (position_or_len (λ (x : Condition × Token). x.0 c) items)) ∙ rest
        ∙ ap (λ b. if b then item.1 ∷ project c items else project c items) (sym e)

-- ---- steps
one_more : (m : Parser) (end : Place) (x : Point) (r : Run) → Reaches m end x (on r) → Reaches m end x (step m end r)
one_more m end _ r here = later here
one_more m end _ r (later {r = q} d) = later {r = q} (one_more m end (step m end q) r d)

module _ (input : Input) where
  abbrev Reached : Piece → Type 0
  Reached piece = IsReached input piece

  stepped-reached : (s : Subparser) (phase : Phase) (test : List ℕ → Bool) (piece : Piece) → IsStepped input s phase test piece
      → ((c : List ℕ) → test c ≡ true → s.condition c ≡ true) → Reached (going s) → Reached piece
  stepped-reached s phase test piece h within reached c is has =
      subst (λ x. Reaches input.parser input.end (on (start (project c input.items))) x) (h.stepped c is has)
      (one_more input.parser input.end (on (start (project c input.items))) (run_of input s c) (reached c is (within c (sym (h.has c is) ∙ has))))

  count-stepped : (s : Subparser) (phase : Phase) (test : List ℕ → Bool) (piece : Piece) (c : List ℕ) → IsConfig input.arities c → IsStepped input s phase test piece
      → count c (piece ∷ []) ≡ unit (test c)
  count-stepped s phase test piece c is h = omega (arith, ap unit (h.has c is))

  -- the part of a name's kind
  classified-reached : (s : Subparser) (j : ℕ) (test : List ℕ → Bool) (ps : List Piece) → Classified input s j test ps → Reached (going s) → All Reached ps
  classified-reached s j test _ (none never) reached = All-nil Reached
  classified-reached s j test _ (one piece h) reached =
      All-cons Reached piece [] (stepped-reached s (between (j + 1)) (λ c. s.condition c && test c) piece h (λ c. and-left (s.condition c) (test c)) reached) (All-nil Reached)

  classified-count : (s : Subparser) (j : ℕ) (test : List ℕ → Bool) (ps : List Piece) (c : List ℕ) → IsConfig input.arities c → Classified input s j test ps
      → count c ps ≡ unit (s.condition c && test c)
  classified-count s j test _ c is (none never) = unit-none (s.condition c && test c) (λ has. never (record { config = c; is_config = is; has = has }))
  classified-count s j test _ c is (one piece h) = count-stepped s (between (j + 1)) (λ d. s.condition d && test d) piece c is h

  -- a part of a split
  pub left-passed : (i : ℕ) (c : List ℕ) → left_from input (next_from input i c) c ≡ left_from input i c
  left-passed i c =
      ap (project c) (sym (drop-drop (position_or_len (λ (x : Condition × Token). x.0 c) (drop i input.items)) i input.items)) ∙ project-passed c (drop i input.items)

  abbrev placed : Subparser → List ℕ → Phase → Run
  placed s c phase = record { stack = frames s.states (s.trees c); levels = s.levels c; left = left_from input (index_of phase) c; phase = plain_phase phase }

  abbrev Belongs : Subparser → ℕ → ℕ × Condition → Type 0
  Belongs s i p = Has input p.1 (λ c. s.condition c && next_from input i c == p.0)

  part-reached : (s : Subparser) (i : ℕ) (p : ℕ × Condition) → s.phase ≡ between i → Reached (going s) → Belongs s i p → Reached (part s p)
  part-reached s i p phase reached belongs c is has =
      let both : (s.condition c && next_from input i c == p.0) ≡ true = sym (belongs c is) ∙ has in
      let next : next_from input i c ≡ p.0 = eqb-true (next_from input i c) p.0 (and-right (s.condition c) (next_from input i c == p.0) both) in
      let looks : step input.parser input.end (run_of input s c) ≡ on (placed s c (at p.0)) =
      ap (λ z. step input.parser input.end (placed s c z)) phase
      ∙ ap (λ ts. on (record { stack = frames s.states (s.trees c); levels = s.levels c; left = ts; phase = lr.looking })) (sym (left-passed i c) ∙ ap (λ k. left_from input k c) next)
      in
      subst (λ x. Reaches input.parser input.end (on (start (project c input.items))) x) looks
      (one_more input.parser input.end (on (start (project c input.items))) (run_of input s c) (reached c is (and-left (s.condition c) (next_from input i c == p.0) both)))

  count-zero : (s : Subparser) (c : List ℕ) (parts : List (ℕ × Condition)) → All (λ p. p.1 c ≡ false) parts → count c (map (part s) parts) ≡ 0
  count-zero s c [] h = refl
  count-zero s c (p ∷ parts) h =
      omega (arith, ap unit (All-head (λ (q : ℕ × Condition). q.1 c ≡ false) p parts h), count-zero s c parts (All-tail (λ (q : ℕ × Condition). q.1 c ≡ false) p parts h))

  differs : (k n : ℕ) → (k ≡ n → ⊥) → (k == n) ≡ false
  differs k n h = elim (eqb_tells k n) [ inl same ↦ absurd (h same.1) | inr other ↦ other.0 ]

  count-one : (s : Subparser) (c : List ℕ) (k : ℕ) (parts : List (ℕ × Condition)) → All (λ p. p.1 c ≡ (k == p.0)) parts → AllPairs (λ p q. p.0 < q.0) parts
      → Contains (map (λ (p : ℕ × Condition). p.0) parts) k → count c (map (part s) parts) ≡ 1
  count-one s c k [] h rising within = absurd (no_member k within)
  count-one s c k (p ∷ parts) h rising within = elim (eqb_tells k p.0) [
    | inl same ↦ omega (arith, ap unit (h 0 p (omega arith) ∙ same.0), count-zero s c parts (λ i d lt. h (suc i) d (omega (arith, lt)) ∙ differs k _ (λ e. above i d lt (sym same.1 ∙ e))))
    | inr other ↦ elim (cons_cases p.0 k (map (λ (q : ℕ × Condition). q.0) parts) within) [
      | inl e ↦ absurd (other.1 (sym e))
      | inr rest ↦ omega (arith, ap unit (h 0 p (omega arith) ∙ other.0), count-one s c k parts (λ i d lt. h (suc i) d (omega (arith, lt))) (λ i j d below lt. rising (suc i) (suc j) d (omega (arith, below)) (omega (arith, lt))) rest)
    ]
  ]
    where
      above : (i : ℕ) (d : ℕ × Condition) → i < length parts → p.0 ≡ (slice_index_or parts i d).0 → ⊥
      above i d lt e = let low = rising 0 (suc i) d (omega arith) (omega (arith, lt)) in omega (arith, low, e)

  split-count : (s : Subparser) (i : ℕ) (parts : List (ℕ × Condition)) (c : List ℕ) → IsConfig input.arities c → AreParts input s i parts → count c (map (part s) parts) ≡ unit (s.condition c)
  split-count s i parts c is h = by (s.condition c) refl
    where
      by : (b : Bool) → s.condition c ≡ b → count c (map (part s) parts) ≡ unit b
      by true e = count-one s c (next_from input i c) parts (λ k d lt. h.each k d lt c is ∙ ap (λ b. b && next_from input i c == (slice_index_or parts k d).0) e) h.rising (h.all c is e)
      by false e = count-zero s c parts (λ k d lt. h.each k d lt c is ∙ ap (λ b. b && next_from input i c == (slice_index_or parts k d).0) e)

  -- the pieces of an event
  made-reached : (s : Subparser) (event : ℕ → Event) (ps : List Piece) → Makes input s event ps → Reached (going s) → All Reached ps
  made-reached s _ _ (splits i parts phase h) reached = All-map Reached (part s) parts (λ k d lt. part-reached s i (slice_index_or parts k d) phase reached (h.each k d lt))
  made-reached s _ _ (reduces j p piece phase action h) reached = All-cons Reached piece [] (stepped-reached s _ s.condition piece h (λ c w. w) reached) (All-nil Reached)
  made-reached s _ _ (shifts j piece phase action h) reached = All-cons Reached piece [] (stepped-reached s _ s.condition piece h (λ c w. w) reached) (All-nil Reached)
  made-reached s _ _ (classifies j item types variables phase found t v) reached =
      All-append Reached types variables (classified-reached s j (is_typedef input s item.1) types t reached) (classified-reached s j (is_variable input s item.1) variables v reached)

  made-count : (s : Subparser) (event : ℕ → Event) (ps : List Piece) (c : List ℕ) → IsConfig input.arities c → Makes input s event ps → count c ps ≡ unit (s.condition c)
  made-count s _ _ c is (splits i parts phase h) = split-count s i parts c is h
  made-count s _ _ c is (reduces j p piece phase action h) = count-stepped s _ s.condition piece c is h
  made-count s _ _ c is (shifts j piece phase action h) = count-stepped s _ s.condition piece c is h
  made-count s _ _ c is (classifies j item types variables phase found t v) =
      omega (
        arith,
        count-append c types variables,
        classified-count s j (is_typedef input s item.1) types c is t,
        classified-count s j (is_variable input s item.1) variables c is v,
        unit-parts (s.condition c) (is_typedef input s item.1 c),
      )

  -- merging
  row-other : (rows : List (Option Subparser)) (n o : ℕ) (row : Option Subparser) → (n ≡ o → ⊥) → slice_get rows o ≡ Some row → slice_get (slice_set rows n None) o ≡ Some row
  row-other [] n o row other e = absurd (none-some row e)
  row-other (r ∷ rows) zero zero row other e = absurd (other refl)
  row-other (r ∷ rows) zero (suc o) row other e = e
  row-other (r ∷ rows) (suc n) zero row other e = e
  row-other (r ∷ rows) (suc n) (suc o) row other e = row-other rows n o row (λ same. other (ap suc same)) e

  abbrev along : Subparser → List ℕ → List ℕ → List (Option Tree) → List Level → Run
  along u c xs ts ls = record { stack = frames xs ts; levels = ls; left = left_from input (index_of u.phase) c; phase = plain_phase u.phase }

  same-run : (s u : Subparser) (c : List ℕ) → u.phase ≡ s.phase → u.states ≡ s.states → u.trees c ≡ s.trees c → u.levels c ≡ s.levels c → run_of input s c ≡ run_of input u c
  same-run s u c phase states trees levels =
      ap (placed s c) (sym phase) ∙ ap (λ xs. along u c xs (s.trees c) (s.levels c)) (sym states) ∙ ap (λ ts. along u c u.states ts (s.levels c)) (sym trees) ∙ ap (λ ls. along u c u.states (u.trees c) ls) (sym levels)

  merged-reached : (s t u : Subparser) → t.phase ≡ s.phase → t.states ≡ s.states → IsMerged input s t u → Reached (going s) → Reached (going t) → Reached (going u)
  merged-reached s t u phase states h first second c is has = by (s.condition c) refl
    where
      at_point : (v : Subparser) → run_of input v c ≡ run_of input u c → Reaches input.parser input.end (on (start (project c input.items))) (on (run_of input v c)) → Reaches input.parser input.end (on (start (project c input.items))) (on (run_of input u c))
      at_point v same d = subst (λ r. Reaches input.parser input.end (on (start (project c input.items))) (on r)) same d

      by : (b : Bool) → s.condition c ≡ b → Reaches input.parser input.end (on (start (project c input.items))) (on (run_of input u c))
      by true e = let kept = h.first c is e in at_point s (same-run s u c h.phase h.states kept.0 kept.1) (first c is e)
      by false e =
          let own : t.condition c ≡ true = sym (h.has c is ∙ ap (λ b. b || t.condition c) e) ∙ has in
          let kept = h.second c is own in
          at_point t (same-run t u c (h.phase ∙ sym phase) (h.states ∙ sym states) kept.0 kept.1) (second c is own)

  -- ---- events
  event-stands : (core next : Core) (event : Event) → CoreStep input core event next → Stands input core → Stands input next
  event-stands core _ _ (alone event n s ps row makes) h = record {
    counted = λ c is. omega (arith, count-with c ps (without n core), count-without c n s core row, made-count s event ps c is makes, h.counted c is);
    reached = all-with Reached ps (without n core) (made-reached s event ps makes (all-row Reached core.rows n s row (all-left Reached (filled core.rows) (map over core.ended) h.reached))) (all-without Reached n core h.reached);
  }
  event-stands core _ _ (merged n o s t u other row_s row_t phase states depth join) h = record {
    counted = counted;
    reached = all-with Reached (going u ∷ []) (without o (without n core))
        (All-cons Reached (going u) [] (merged-reached s t u phase states join (all-row Reached core.rows n s row_s rows) (all-row Reached core.rows o t row_t rows)) (All-nil Reached))
        (all-without Reached o (without n core) (all-without Reached n core h.reached));
  }
    where
      rows : All Reached (filled core.rows)
      rows = all-left Reached (filled core.rows) (map over core.ended) h.reached

      counted : (c : List ℕ) → IsConfig input.arities c → count c (pieces_of (with_pieces (going u ∷ []) (without o (without n core)))) ≡ unit (input.live c)
      counted c is =
          let a = count-without c n s core row_s in
          let b = count-without c o t (without n core) (row-other core.rows n o (Some t) other row_t) in
          let few = unit-at_most (input.live c) in
          let both = unit-or (s.condition c) (t.condition c) (omega (arith, a, b, few, h.counted c is)) in
          omega (arith, count-with c (going u ∷ []) (without o (without n core)), a, b, both, ap unit (join.has c is), h.counted c is)

  pub run-stands : (core last : Core) (events : List Event) → CoreRun input core events last → Stands input core → Stands input last
  run-stands core _ _ nothing h = h
  run-stands core last _ (after_event {event} {next} {events} first rest) h = run-stands next last events rest (event-stands core next event first h)

  pub start-stands : (core : Core) → IsStart input core → Stands input core
  start-stands _ (no_live never) = record { counted = λ c is. unit-none (input.live c) (λ has. never (record { config = c; is_config = is; has = has })); reached = All-nil Reached }
  start-stands _ (some_live some) = record {
    counted = λ c is. omega arith;
    reached = All-cons Reached (going (first_of input)) [] (λ c is has. here) (All-nil Reached);
  }

  -- ---- the end
  no-rows : (rows : List (Option Subparser)) → All (λ row. row ≡ None) rows → filled rows ≡ []
  no-rows [] h = refl
  no-rows (None ∷ rows) h = no-rows rows (All-tail (λ (row : Option Subparser). row ≡ None) None rows h)
  no-rows (Some s ∷ rows) h = absurd (none-some s (sym (All-head (λ (row : Option Subparser). row ≡ None) (Some s) rows h)))

  found : (es : List Ended) (c : List ℕ) → 0 < count c (map over es) → (e : Ended) × Contains es e × (e.condition c ≡ true)
  found [] c some = absurd (omega (arith, some))
  found (e ∷ es) c some = by (e.condition c) refl (found es c)
    where
      by : (b : Bool) → e.condition c ≡ b → (0 < count c (map over es) → (d : Ended) × Contains es d × (d.condition c ≡ true)) → (d : Ended) × Contains (e ∷ es) d × (d.condition c ≡ true)
      by true has rest = (e, cons_head e es, has)
      by false other more = let rest = more (omega (arith, some, ap unit other)) in (rest.0, cons_tail e rest.0 es rest.1, rest.2)

  pub finished-answers : (core : Core) → IsFinished core → Stands input core → (c : List ℕ) → IsConfig input.arities c → input.live c ≡ true → IsAnswered input core c
  finished-answers core done h c is live =
      let pieces : pieces_of core ≡ map over core.ended = ap (λ ps. ps ++ map over core.ended) (no-rows core.rows done) in
      let one_piece : 0 < count c (map over core.ended) = omega (arith, h.counted c is, ap unit live, ap (count c) pieces) in
      let e = found core.ended c one_piece in
      let reached : All Reached (map over core.ended) = subst (All Reached) pieces h.reached in
      record {
        ended = e.0;
        member = e.1;
        has = e.2;
        answer = record { run = All-contains Reached (map over core.ended) (over e.0) reached (map_has over e.0 core.ended e.1) c is e.2 };
      }
