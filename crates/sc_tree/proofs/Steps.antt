-- A walk of one configuration, as the walks of all go on.
use Rattle.std.proofs.Common.{◌≡◌, ℕ, zero, suc, ◌<◌, ◌≤◌, ◌==◌, ◌&&◌, ◌||◌, Bool, true, false, cond, List, [], ◌∷◌, ◌++◌, length, map, get_or, All, Option, Some, None, slice_get, refl, sym, ap, ◌∙◌, subst, arith, append_assoc, if◌then◌else◌}
use Rattle.std.proofs.lemmas.Bool.{eqb-true, false≢true, true≢false}
use Rattle.std.proofs.lemmas.Bool.Decides.{nat_tests}
use Rattle.std.proofs.lemmas.List.{append-nil}
use Rattle.std.proofs.lemmas.List.Elements.{All-head, All-tail, All-cons, All-nil}
use Rattle.std.proofs.lemmas.Option.{same_Some, none-some}
use Rattle.std.specs.Prelude.{IsSome, ◌↔◌}
use Rattle.std.specs.BTreeMap.{BTreeMap, get, btree_map_len}
use Rattle.std.specs.BTreeMap.Range.{IsLtBy}
use Rattle.std.specs.Map.{keys_of, lookup}
use Rattle.std.specs.Ordering.{nat_cmp, is_eq}
use Rattle.std.specs.declared.cmp.Ordering.TheVariants.{Less}
use Rattle.std.proofs.lemmas.Cmp.{ranked}
use Rattle.sc_base.specs.declared.id.Cond.{Cond}
use Rattle.sc_base.specs.declared.id.TreeId.{TreeId}
use Rattle.sc_guarded.specs.Items.{items_at}
use Rattle.sc_guarded.proofs.ItemLemmas.{items_at-Keeps}
use Rattle.sc_model.specs.Sets.{Sets, IsConfig, IsCond, Keeps}
use Rattle.sc_tree.specs.declared.line.Line as kept
use Rattle.sc_tree.specs.Lines.{Line, leaf, node, choice, children_of, ChildrenFirst, OwnsBranches}
use Rattle.sc_tree.specs.Views.{line_of}
use Rattle.sc_tree.specs.Walks.{has_at, is_among, child_of, listed, onward, passes, Visits, OwnsWaiting, Follows, ends, goes_on, chooses, Walked, nowhere, from_tree}
use Rattle.sc_tree.proofs.WalkLemmas.{IsPlain, onward-plain, passes-plain, is_eq-nat, eqb-sym}

-- where the walk of a configuration is: what it has passed, and what it has yet to pass from the
-- tree at which it waits
pub record Onward (next : ℕ → Option ℕ) (s0 s : Sets) (lines : List Line) (waits : ℕ → Option Cond) (passed : List (Cond × TreeId)) (d : List ℕ) (path : List TreeId) : Type 0 where
  pub ids : List TreeId
  pub rest : List TreeId
  pub at : (n : ℕ) → has_at s (waits n) d ≡ is_among n ids
  pub walked : Walked next s0 lines d ids rest
  pub joined : items_at s passed d ++ rest ≡ path

child-plain : (next : ℕ → Option ℕ) (line : Line) (child : TreeId) → child_of next line ≡ Some child → IsPlain line
child-plain next (leaf place spelling) child at = refl
child-plain next (node production children) child at = refl
child-plain next (choice branches) child at = absurd (none-some child at)

module _ (way : ℕ → Option ℕ) (s0 s1 : Sets) (lines : List Line) (d : List ℕ) where
  -- a walk from a tree passes it and goes on
  abbrev Turn : Line → TreeId → List TreeId → Type 0
  Turn line id path = (rest : List TreeId) × Walked way s0 lines d (onward way s1 line d) rest × (passes line id ++ rest ≡ path)

  turn : (id : TreeId) (path : List TreeId) (line : Line) → Follows way s0 lines d id path → slice_get lines id.0 ≡ Some line → OwnsBranches s0 lines → Keeps s0 s1 → IsConfig s0.arities d
      → Turn line id path
  turn id _ line (ends _ other at plain last) here own keeps is =
      let same : other ≡ line = same_Some other line (sym at ∙ here) in
      subst (λ (l : Line). Turn l id (id ∷ [])) same
      ([], subst (λ ids. Walked way s0 lines d ids []) (sym (onward-plain way s1 other d plain ∙ ap listed last)) nowhere, ap (λ ids. ids ++ []) (passes-plain other id plain))
  turn id _ line (goes_on _ child other path at next rest) here own keeps is =
      let same : other ≡ line = same_Some other line (sym at ∙ here) in
      let plain = child-plain way other child next in
      subst (λ (l : Line). Turn l id (id ∷ path)) same
      (path, subst (λ ids. Walked way s0 lines d ids path) (sym (onward-plain way s1 other d plain ∙ ap listed next)) (from_tree child path rest), ap (λ ids. ids ++ path) (passes-plain other id plain))
  turn id path line (chooses _ child branches _ at one rest) here own keeps is =
      let same : choice branches ≡ line = same_Some (choice branches) line (sym at ∙ here) in
      subst (λ (l : Line). Turn l id path) same
      (path, subst (λ ids. Walked way s0 lines d ids path) (sym (items_at-Keeps branches d keeps (own.each id.0 (choice branches) at) is ∙ one)) (from_tree child path rest), refl)

if-true : {A : Type 0} (b : Bool) (x y : A) → b ≡ true → (if b then x else y) ≡ x
if-true true x y e = refl
if-true false x y e = absurd (false≢true e)

if-false : {A : Type 0} (b : Bool) (x y : A) → b ≡ false → (if b then x else y) ≡ y
if-false true x y e = absurd (true≢false e)
if-false false x y e = refl

-- the tree that waits longest is taken
popped : (s1 : Sets) (before after : ℕ → Option Cond) (id : ℕ) (d : List ℕ) → ((n : ℕ) → after n ≡ cond (is_eq (nat_cmp id n)) None (before n))
    → (n : ℕ) → has_at s1 (after n) d ≡ (if id == n then false else has_at s1 (before n) d)
popped s1 before after id d updates n = ap (λ w. has_at s1 w d) (updates n ∙ ap (λ b. cond b None (before n)) (is_eq-nat id n)) ∙ by (id == n)
  where
    by : (b : Bool) → has_at s1 (cond b None (before n)) d ≡ (if b then false else has_at s1 (before n) d)
    by true = refl
    by false = refl

-- no other tree waits than the one that is taken
alone : (n id : ℕ) (x : TreeId) → x.0 ≡ id → (if id == n then false else is_among n (x ∷ [])) ≡ false
alone n id x same = subst (λ k. (if k == n then false else is_among n (x ∷ [])) ≡ false) same (by (x.0 == n) refl)
  where
    by : (b : Bool) → (x.0 == n) ≡ b → (if b then false else is_among n (x ∷ [])) ≡ false
    by true e = refl
    by false e = if-false (n == x.0) true false (eqb-sym n x.0 ∙ e)

-- the tree that is taken is not the configuration's
elsewhere : (n id : ℕ) (ids : List TreeId) → is_among id ids ≡ false → (if id == n then false else is_among n ids) ≡ is_among n ids
elsewhere n id ids none = by (id == n) refl
  where
    by : (b : Bool) → (id == n) ≡ b → (if b then false else is_among n ids) ≡ is_among n ids
    by true e = sym none ∙ ap (λ k. is_among k ids) (eqb-true id n e)
    by false e = refl

or-left : (a b : Bool) → a ≡ false → (a || b) ≡ b
or-left true b e = absurd (true≢false e)
or-left false b e = refl

or-right : (a b : Bool) → b ≡ false → (a || b) ≡ a
or-right true b e = refl
or-right false b e = e

pub walk-step : (way : ℕ → Option ℕ) (s0 s1 s2 : Sets) (lines : List Line) (w0 w1 w2 : ℕ → Option Cond) (passed all : List (Cond × TreeId)) (line : Line) (taken : Cond) (id : TreeId) (d : List ℕ) (path : List TreeId)
    → Keeps s0 s1 → OwnsBranches s0 lines → IsConfig s0.arities d → slice_get lines id.0 ≡ Some line → w0 id.0 ≡ Some taken
    → ((n : ℕ) → w1 n ≡ cond (is_eq (nat_cmp id.0 n)) None (w0 n)) → Visits way s1 s2 line taken id w1 w2 passed all d
    → Onward way s0 s1 lines w0 passed d path → Onward way s0 s2 lines w2 all d path
walk-step way s0 s1 s2 lines w0 w1 w2 passed all line taken id d path keeps own is at first pops visit on = by (s1.has taken.0 d) refl
  where
    among : is_among id.0 on.ids ≡ s1.has taken.0 d
    among = sym (on.at id.0) ∙ ap (λ w. has_at s1 w d) first

    waits : (n : ℕ) → has_at s2 (w2 n) d ≡ ((if id.0 == n then false else is_among n on.ids) || (s1.has taken.0 d && is_among n (onward way s1 line d)))
    waits n = visit.waits n ∙ ap (λ b. b || (s1.has taken.0 d && is_among n (onward way s1 line d))) (popped s1 w0 w1 id.0 d pops n ∙ ap (λ b. if id.0 == n then false else b) (on.at n))

    taken-walk : (ids rest : List TreeId) → Walked way s0 lines d ids rest → on.ids ≡ ids → on.rest ≡ rest → s1.has taken.0 d ≡ true → Onward way s0 s2 lines w2 all d path
    taken-walk _ _ nowhere same_ids same_rest has = absurd (false≢true (ap (is_among id.0) (sym same_ids) ∙ among ∙ has))
    taken-walk _ rest (from_tree x _ follows) same_ids same_rest has =
        let told : (if id.0 == x.0 then true else false) ≡ true = ap (is_among id.0) (sym same_ids) ∙ among ∙ has in
        let same : x.0 ≡ id.0 = sym (eqb-true id.0 x.0 (told-true (id.0 == x.0) told)) in
        let is_x : x ≡ id = λ i. record { 0 = same i } in
        let next = turn way s0 s1 lines d id rest line (subst (λ (y : TreeId). Follows way s0 lines d y rest) is_x follows) at own keeps is in
        record {
          ids = onward way s1 line d;
          rest = next.0;
          at = λ n. waits n
              ∙ or-left (if id.0 == n then false else is_among n on.ids) (s1.has taken.0 d && is_among n (onward way s1 line d)) (ap (λ ids. if id.0 == n then false else is_among n ids) same_ids ∙ alone n id.0 x same)
              ∙ ap (λ b. b && is_among n (onward way s1 line d)) has;
          walked = next.1;
          joined = ap (λ items. items ++ next.0) (visit.passing ∙ ap (λ b. items_at s1 passed d ++ (if b then passes line id else [])) has)
              ∙ append_assoc (items_at s1 passed d) (passes line id) next.0 ∙ ap (λ ids. items_at s1 passed d ++ ids) (next.2 ∙ sym same_rest) ∙ on.joined;
        }
      where
        told-true : (b : Bool) → (if b then true else false) ≡ true → b ≡ true
        told-true true e = refl
        told-true false e = e

    by : (b : Bool) → s1.has taken.0 d ≡ b → Onward way s0 s2 lines w2 all d path
    by true has = taken-walk on.ids on.rest on.walked refl refl has
    by false has = record {
      ids = on.ids;
      rest = on.rest;
      at = λ n. waits n
          ∙ or-right (if id.0 == n then false else is_among n on.ids) (s1.has taken.0 d && is_among n (onward way s1 line d)) (ap (λ b. b && is_among n (onward way s1 line d)) has)
          ∙ elsewhere n id.0 on.ids (among ∙ has);
      walked = on.walked;
      joined = ap (λ items. items ++ on.rest) (visit.passing ∙ ap (λ b. items_at s1 passed d ++ (if b then passes line id else [])) has ∙ append-nil (items_at s1 passed d)) ∙ on.joined;
    }

-- ---- the greatest number that waits falls

abbrev pub top_of : {X : Type 0} → List (ℕ × X) → ℕ
top_of [] = 0
top_of (e ∷ []) = suc e.0
top_of (e ∷ (f ∷ es)) = top_of (f ∷ es)

pub top_of-last : {X : Type 0} (es : List (ℕ × X)) (e : ℕ × X) → top_of (es ++ e ∷ []) ≡ suc e.0
top_of-last [] e = refl
top_of-last (x ∷ []) e = refl
top_of-last (x ∷ (y ∷ es)) e = top_of-last (y ∷ es) e

pub top_of-below : {X : Type 0} (bound : ℕ) (es : List (ℕ × X)) → All (λ n. n < bound) (keys_of es) → top_of es ≤ bound
top_of-below bound [] below = omega arith
top_of-below bound (e ∷ []) below = let h = All-head (λ (n : ℕ). n < bound) e.0 [] below in omega (arith, h)
top_of-below bound (e ∷ (f ∷ es)) below = top_of-below bound (f ∷ es) (All-tail (λ (n : ℕ). n < bound) e.0 (keys_of (f ∷ es)) below)

eqb-self : (n : ℕ) → (n == n) ≡ true
eqb-self n = grind (arith, nat_tests)

-- nothing waits and the walk is over
pub walked-all : (way : ℕ → Option ℕ) (s0 s : Sets) (lines : List Line) (waits : ℕ → Option Cond) (passed : List (Cond × TreeId)) (d : List ℕ) (path : List TreeId)
    → ((n : ℕ) → waits n ≡ None) → Onward way s0 s lines waits passed d path → items_at s passed d ≡ path
walked-all way s0 s lines waits passed d path none on = by on.ids on.rest on.walked on.at on.joined
  where
    by : (ids rest : List TreeId) → Walked way s0 lines d ids rest → ((n : ℕ) → has_at s (waits n) d ≡ is_among n ids) → items_at s passed d ++ rest ≡ path → items_at s passed d ≡ path
    by _ _ nowhere at joined = sym (append-nil (items_at s passed d)) ∙ joined
    by _ _ (from_tree x rest follows) at joined = absurd (false≢true (ap (λ w. has_at s w d) (sym (none x.0)) ∙ at x.0 ∙ if-true (x.0 == x.0) true false (eqb-self x.0)))

pub last-below : {X : Type 0} (bound : ℕ) (es rest : List (ℕ × X)) (e : ℕ × X) → es ≡ rest ++ e ∷ [] → All (λ n. n < bound) (keys_of es) → e.0 < bound
last-below {X} bound es rest e same below = go rest (subst (λ (xs : List (ℕ × X)). All (λ (n : ℕ). n < bound) (keys_of xs)) same below)
  where
    go : (xs : List (ℕ × X)) → All (λ (n : ℕ). n < bound) (keys_of (xs ++ e ∷ [])) → e.0 < bound
    go [] h = All-head (λ (n : ℕ). n < bound) e.0 [] h
    go (x ∷ xs) h = go xs (All-tail (λ (n : ℕ). n < bound) x.0 (keys_of (xs ++ e ∷ [])) h)

pub rest-below : {X : Type 0} (bound : ℕ) (es rest : List (ℕ × X)) (e : ℕ × X) → es ≡ rest ++ e ∷ [] → All (λ n. n < bound) (keys_of es) → All (λ n. n < bound) (keys_of rest)
rest-below {X} bound es rest e same below = go rest (subst (λ (xs : List (ℕ × X)). All (λ (n : ℕ). n < bound) (keys_of xs)) same below)
  where
    go : (xs : List (ℕ × X)) → All (λ (n : ℕ). n < bound) (keys_of (xs ++ e ∷ [])) → All (λ (n : ℕ). n < bound) (keys_of xs)
    go [] h = All-nil (λ (n : ℕ). n < bound)
    go (x ∷ xs) h =
        let P : ℕ → Type 0 = λ n. n < bound in
        All-cons P x.0 (keys_of xs) (All-head P x.0 (keys_of (xs ++ e ∷ [])) h) (go xs (All-tail P x.0 (keys_of (xs ++ e ∷ [])) h))

pub all-none : {X : Type 0} (P : X → Type 0) (xs : List X) → xs ≡ [] → All P xs
all-none P xs e = subst (λ ys. All P ys) (sym e) (All-nil P)

pub keys-none : {X : Type 0} (bound : ℕ) (es : List (ℕ × X)) → es ≡ [] → All (λ n. n < bound) (keys_of es)
keys-none {X} bound es e = subst (λ (xs : List (ℕ × X)). All (λ (n : ℕ). n < bound) (keys_of xs)) (sym e) (All-nil (λ (n : ℕ). n < bound))

empty-none : (m : BTreeMap ℕ Cond) → m.entries ≡ [] → (n : ℕ) → get nat_cmp m n ≡ None
empty-none m e n = ap (λ xs. lookup (λ k. is_eq (nat_cmp n k)) xs) e

-- the walk begins at the starts
pub onward-first : (way : ℕ → Option ℕ) (s0 s : Sets) (lines : List Line) (empty waits : BTreeMap ℕ Cond) (starts passed : List (Cond × TreeId)) (always : Bool) (d : List ℕ) (path : List TreeId)
    → empty.entries ≡ [] → passed ≡ [] → ((n : ℕ) → has_at s (get nat_cmp waits n) d ≡ (has_at s0 (get nat_cmp empty n) d || (always && is_among n (items_at s0 starts d)))) → always ≡ true
    → Walked way s0 lines d (items_at s0 starts d) path → Onward way s0 s lines (get nat_cmp waits) passed d path
onward-first way s0 s lines empty waits starts passed always d path none no_trees opens is walked = record {
  ids = items_at s0 starts d;
  rest = path;
  at = λ n. opens n ∙ ap (λ w. has_at s0 w d || (always && is_among n (items_at s0 starts d))) (empty-none empty none n) ∙ ap (λ b. b && is_among n (items_at s0 starts d)) is;
  walked = walked;
  joined = ap (λ trees. items_at s trees d ++ path) no_trees;
}

pub owns-less : (s : Sets) (before after : ℕ → Option Cond) (id : ℕ) → ((n : ℕ) → after n ≡ cond (is_eq (nat_cmp id n)) None (before n)) → OwnsWaiting s before → OwnsWaiting s after
owns-less s before after id updates own = record { each = λ n found at. by n found (is_eq (nat_cmp id n)) (sym (updates n) ∙ at) }
  where
    by : (n : ℕ) (found : Cond) (b : Bool) → cond b None (before n) ≡ Some found → IsCond s found.0
    by n found true at = absurd (none-some found at)
    by n found false at = own.each n found at

-- children stand below the tree, and all that waits below the tree that is taken
pub children-within : (lines : List Line) (line : Line) (id bound : ℕ) → ChildrenFirst lines → slice_get lines id ≡ Some line → id ≤ bound → All (λ (child : TreeId). child.0 < bound) (children_of line)
children-within lines line id bound first at within = λ k d below. let h = first.each id line at k d below in omega (arith, h, within)

pub all-below : {X : Type 0} (id : ℕ) (es : List (ℕ × X)) → All (λ q. IsLtBy nat_cmp q id) (keys_of es) → All (λ n. n < id) (keys_of es)
all-below id es h = λ k d below. lt-nat _ id (h k d below)
  where
    lt-nat : (q n : ℕ) → IsLtBy nat_cmp q n → q < n
    lt-nat q n h = ranked q n Less (sym h)

pub falls : {X : Type 0} (id : ℕ) (cond : X) (before rest after : List (ℕ × X)) → before ≡ rest ++ (id, cond) ∷ [] → All (λ n. n < id) (keys_of after) → top_of after < top_of before
falls id cond before rest after removal below =
    let a = top_of-below id after below in
    let b = ap top_of removal ∙ top_of-last rest (id, cond) in
    omega (arith, a, b)

pub nothing-waits : (m : BTreeMap ℕ Cond) (r : Option (ℕ × Cond)) → (IsSome r ↔ (0 < btree_map_len m)) → ((p : ℕ × Cond) → r ≡ Some p → ⊥) → (n : ℕ) → get nat_cmp m n ≡ None
nothing-waits m (Some p) variant other n = absurd (other p refl)
nothing-waits m None variant other n = by m.entries refl
  where
    by : (es : List (ℕ × Cond)) → m.entries ≡ es → get nat_cmp m n ≡ None
    by [] e = ap (λ xs. lookup (λ k. is_eq (nat_cmp n k)) xs) e
    by (x ∷ xs) e = absurd (false≢true (variant.1 (omega (arith, ap length e))))

pub line-at : (lines : List kept.Line) (id : ℕ) (x : kept.Line) → x ≡ get_or lines id x → id < length lines → slice_get (map line_of lines) id ≡ Some (line_of x)
line-at [] id x is within = absurd (omega (arith, within))
line-at (y ∷ ys) zero x is within = ap (λ z. Some (line_of z)) (sym is)
line-at (y ∷ ys) (suc id) x is within = line-at ys id x is (omega (arith, within))
