-- A split is the step of reading at each configuration.
use Rattle.std.proofs.Common.{◌≡◌, ℕ, zero, suc, ◌<◌, ◌≤◌, ◌+◌, ◌==◌, ◌&&◌, ◌⊎◌, not, Bool, true, false, List, [], ◌∷◌, ◌++◌, All, length, map, drop, take, get_or, slice_get, Some, refl, sym, ap, ◌∙◌, subst, inl, inr, arith, if◌then◌else◌}
use Rattle.std.specs.Prelude.{AllPairs}
use Rattle.std.specs.List.{Contains, position_or_len}
use Rattle.std.proofs.lemmas.Bool.{true≢false, eqb-true}
use Rattle.std.proofs.lemmas.Bool.Decides.{eqb_tells, nat_tests}
use Rattle.std.proofs.lemmas.List.{drop-map}
use Rattle.std.proofs.lemmas.List.Elements.{All-head, All-tail, All-cons, All-nil}
use Rattle.lr_tables.proofs.Members.{cons_head, cons_tail}
use Rattle.c11_parsing.specs.Classes.{Input, next_from}
use Rattle.c11_parsing.specs.Core as core
use Rattle.c11_parsing.specs.Core.{between, at, Has, IsPossible, Piece, going, part, AreParts, Makes, splits}
use Rattle.c11_parsing.specs.Trees.{Condition}
use Rattle.sc_base.specs.declared.id.Cond.{Cond}
use Rattle.sc_base.specs.declared.token.Token as base
use Rattle.sc_base.specs.Seen.{seen as seen_token}
use Rattle.sc_guarded.specs.Items.{items_at}
use Rattle.std.proofs.lemmas.List.{get_or-map, length-map, map-append, take_more, take_all}
use Rattle.std.proofs.lemmas.List.Elements.{All-map}
use Rattle.std.proofs.Common.{length-drop}
use Rattle.sc_base.proofs.Growth.{Extends-refl}
use Rattle.sc_fork.proofs.Possible.{possible}
use Rattle.sc_merge.proofs.ShowLemmas.{ShowsAt-Grows}
use Rattle.sc_fork.specs.declared.piece.Piece as kept
use Rattle.sc_fork.specs.declared.piece.Piece.TheVariants.{Going}
use Rattle.sc_fork.specs.declared.source.Source.{Source}
use Rattle.sc_merge.specs.declared.subparser.Phase.TheVariants.{Between}
use Rattle.sc_merge.specs.declared.subparser.Subparser.{Subparser}
use Rattle.sc_merge.specs.Merges.{tables_with}
use Rattle.sc_merge.specs.Phases.{phase_of}
use Rattle.sc_fork.specs.Owns.{OwnsPiece, OwnsRow}
use Rattle.sc_fork.specs.Seen as pieces
use Rattle.sc_fork.specs.Seen.{IsInput, IsNext, next_element, next_end, IsSeen, IsSeenAt, going_seen, AreSeen, none_seen, more_seen, Events, part_of}
use Rattle.sc_guarded.specs.Next.{next_at}
use Rattle.sc_model.specs.Token.{Token}
use Rattle.sc_scope.specs.Seen.{levels_in}
use Rattle.sc_scope.proofs.OwnLemmas.{own-Keeps}
use Rattle.sc_tree.specs.Lines.{Line}
use Rattle.sc_model.specs.Sets.{Sets, IsConfig, IsCond, Keeps, IsNever}

and-left : (a b : Bool) → (a && b) ≡ true → a ≡ true
and-left true b h = refl
and-left false b h = h

and-right : (a b : Bool) → (a && b) ≡ true → b ≡ true
and-right true b h = h
and-right false b h = absurd (true≢false (sym h))

-- ---- parts

no-items : (s : Sets) (parts : List (Cond × ℕ)) (c : List ℕ) → items_at s parts c ≡ [] → All (λ (p : Cond × ℕ). s.has p.0.0 c ≡ false) parts
no-items s [] c none = All-nil (λ (p : Cond × ℕ). s.has p.0.0 c ≡ false)
no-items s (p ∷ parts) c none = by (s.has p.0.0 c) refl none (no-items s parts c)
  where
    by : (b : Bool) → s.has p.0.0 c ≡ b → (if b then p.1 ∷ items_at s parts c else items_at s parts c) ≡ []
        → (items_at s parts c ≡ [] → All (λ (q : Cond × ℕ). s.has q.0.0 c ≡ false) parts) → All (λ (q : Cond × ℕ). s.has q.0.0 c ≡ false) (p ∷ parts)
    by true has e rest = absurd (cc)
    by false has e rest = All-cons (λ (q : Cond × ℕ). s.has q.0.0 c ≡ false) p parts has (rest e)

item-above : (s : Sets) (low n : ℕ) (parts : List (Cond × ℕ)) (c : List ℕ) → All (λ (p : Cond × ℕ). low < p.1) parts → items_at s parts c ≡ n ∷ [] → low < n
item-above s low n [] c above one = absurd (cc)
item-above s low n (p ∷ parts) c above one = by (s.has p.0.0 c) one (item-above s low n parts c (All-tail (λ (q : Cond × ℕ). low < q.1) p parts above))
  where
    by : (b : Bool) → (if b then p.1 ∷ items_at s parts c else items_at s parts c) ≡ n ∷ [] → (items_at s parts c ≡ n ∷ [] → low < n) → low < n
    by true e rest = let same : p.1 ≡ n = cc in subst (λ k. low < k) same (All-head (λ (q : Cond × ℕ). low < q.1) p parts above)
    by false e rest = rest e

pub rising-head : (p : Cond × ℕ) (parts : List (Cond × ℕ)) → AllPairs (λ (a b : Cond × ℕ). a.1 < b.1) (p ∷ parts) → All (λ (q : Cond × ℕ). p.1 < q.1) parts
rising-head p parts rising = λ k d below. rising 0 (suc k) d (omega arith) (omega (arith, below))

pub rising-tail : (p : Cond × ℕ) (parts : List (Cond × ℕ)) → AllPairs (λ (a b : Cond × ℕ). a.1 < b.1) (p ∷ parts) → AllPairs (λ (a b : Cond × ℕ). a.1 < b.1) parts
rising-tail p parts rising = λ i j d low below. rising (suc i) (suc j) d (omega (arith, low)) (omega (arith, below))

not-same : (k n : ℕ) → (k ≡ n → ⊥) → (k == n) ≡ false
not-same k n h = elim (eqb_tells k n) [ inl same ↦ absurd (h same.1) | inr other ↦ other.0 ]

pub same-number : (n : ℕ) → (n == n) ≡ true
same-number n = grind (arith, nat_tests)

abbrev Belongs : Sets → List ℕ → Bool → ℕ → Cond × ℕ → Type 0
Belongs s c b n p = s.has p.0.0 c ≡ (b && n == p.1)

nothing-belongs : (n : ℕ) → (b : Bool) → b ≡ false → (n0 : ℕ) → false ≡ (b && n == n0)
nothing-belongs n b e n0 = ap (λ z. z && n == n0) (sym e)

-- a part has the configurations whose next element is the part's
parts-have : (s : Sets) (parts : List (Cond × ℕ)) (c : List ℕ) (b : Bool) (n : ℕ) → AllPairs (λ (a b : Cond × ℕ). a.1 < b.1) parts
    → items_at s parts c ≡ (if b then n ∷ [] else []) → All (Belongs s c b n) parts
parts-have s [] c b n rising is = All-nil (Belongs s c b n)
parts-have s (p ∷ parts) c b n rising is = by (s.has p.0.0 c) b refl refl is (parts-have s parts c b n (rising-tail p parts rising))
  where
    above : All (λ (q : Cond × ℕ). p.1 < q.1) parts
    above = rising-head p parts rising

    by : (h a : Bool) → s.has p.0.0 c ≡ h → b ≡ a → (if h then p.1 ∷ items_at s parts c else items_at s parts c) ≡ (if a then n ∷ [] else [])
        → (items_at s parts c ≡ (if b then n ∷ [] else []) → All (Belongs s c b n) parts) → All (Belongs s c b n) (p ∷ parts)
    by true false has none e others = absurd (cc)
    by true true has all e others =
        let same : p.1 ≡ n = cc in
        let rest : items_at s parts c ≡ [] = cc in
        All-cons (Belongs s c b n) p parts (has ∙ sym (ap (λ z. z && n == p.1) all ∙ ap (λ k. n == k) same ∙ same-number n))
        (λ k d below.
        let q = get_or parts k d in
        no-items s parts c rest k d below ∙ sym (ap (λ z. z && n == q.1) all ∙ not-same n q.1 (λ eq. absurd (omega (arith, above k d below, same, eq)))))
    by false false has none e others =
        All-cons (Belongs s c b n) p parts (has ∙ nothing-belongs n b none p.1) (others (e ∙ ap (λ z. if z then n ∷ [] else []) (sym none)))
    by false true has all e others =
        let over = item-above s p.1 n parts c above e in
        All-cons (Belongs s c b n) p parts (has ∙ sym (ap (λ z. z && n == p.1) all ∙ not-same n p.1 (λ eq. absurd (omega (arith, over, eq)))))
        (others (e ∙ ap (λ z. if z then n ∷ [] else []) (sym all)))

-- the parts' elements
abbrev pub parts_of : Sets → List (Cond × ℕ) → List (ℕ × Condition)
parts_of s parts = map (λ (p : Cond × ℕ). (p.1, s.has p.0.0)) parts

item-among : (s : Sets) (parts : List (Cond × ℕ)) (c : List ℕ) (n : ℕ) → items_at s parts c ≡ n ∷ [] → Contains (map (λ (p : ℕ × Condition). p.0) (parts_of s parts)) n
item-among s [] c n one = absurd (cc)
item-among s (p ∷ parts) c n one = by (s.has p.0.0 c) one (item-among s parts c n)
  where
    by : (b : Bool) → (if b then p.1 ∷ items_at s parts c else items_at s parts c) ≡ n ∷ []
        → (items_at s parts c ≡ n ∷ [] → Contains (map (λ (q : ℕ × Condition). q.0) (parts_of s parts)) n) → Contains (p.1 ∷ map (λ (q : ℕ × Condition). q.0) (parts_of s parts)) n
    by true e rest = let same : p.1 ≡ n = cc in subst (λ k. Contains (p.1 ∷ map (λ (q : ℕ × Condition). q.0) (parts_of s parts)) k) same (cons_head p.1 (map (λ (q : ℕ × Condition). q.0) (parts_of s parts)))
    by false e rest = cons_tail p.1 n (map (λ (q : ℕ × Condition). q.0) (parts_of s parts)) (rest e)

-- ---- the next element

same-position : {A B : Type 0} (f : A → Bool) (g : B → Bool) (xs : List A) (ys : List B) → map f xs ≡ map g ys → position_or_len f xs ≡ position_or_len g ys
same-position f g [] [] same = refl
same-position f g [] (y ∷ ys) same = absurd (cc)
same-position f g (x ∷ xs) [] same = absurd (cc)
same-position f g (x ∷ xs) (y ∷ ys) same =
    let head : f x ≡ g y = cc in
    let tail : map f xs ≡ map g ys = cc in
    ap (λ n. if not (f x) then 1 + n else 0) (same-position f g xs ys tail) ∙ ap (λ b. if not b then 1 + position_or_len g ys else 0) head

pub same-next : {A B : Type 0} (f : A → Bool) (g : B → Bool) (n : ℕ) (xs : List A) (ys : List B) → map f xs ≡ map g ys
    → n + position_or_len f (drop n xs) ≡ n + position_or_len g (drop n ys)
same-next f g n xs ys same = ap (λ k. n + k) (same-position f g (drop n xs) (drop n ys) (sym (drop-map f n xs) ∙ ap (drop n) same ∙ drop-map g n ys))

-- the element at the position passes the test, or the position is the length
position-found : {A : Type 0} (f : A → Bool) (xs : List A) → ((x : A) × ((slice_get xs (position_or_len f xs) ≡ Some x) × (f x ≡ true))) ⊎ (position_or_len f xs ≡ length xs)
position-found f [] = inr refl
position-found {A} f (x ∷ xs) = by (f x) refl (position-found f xs)
  where
    count : Bool → ℕ
    count b = if not b then 1 + position_or_len f xs else 0

    by : (b : Bool) → f x ≡ b → ((y : A) × ((slice_get xs (position_or_len f xs) ≡ Some y) × (f y ≡ true))) ⊎ (position_or_len f xs ≡ length xs)
        → ((y : A) × ((slice_get (x ∷ xs) (count (f x)) ≡ Some y) × (f y ≡ true))) ⊎ (count (f x) ≡ length (x ∷ xs))
    by true has rest = inl (x, (ap (λ b. slice_get (x ∷ xs) (count b)) has, has))
    by false has (inl found) =
        inl (found.0, (ap (λ b. slice_get (x ∷ xs) (count b)) has ∙ ap (slice_get (x ∷ xs)) (let e : 1 + position_or_len f xs ≡ suc (position_or_len f xs) = omega arith in e) ∙ found.1.0, found.1.1))
    by false has (inr end) = inr (ap count has ∙ omega (arith, end))

slice_get-drop : {A : Type 0} (xs : List A) (n p : ℕ) → slice_get (drop n xs) p ≡ slice_get xs (n + p)
slice_get-drop [] zero p = refl
slice_get-drop [] (suc n) p = refl
slice_get-drop (x ∷ xs) zero p = ap (slice_get (x ∷ xs)) (let e : p ≡ 0 + p = omega arith in e)
slice_get-drop (x ∷ xs) (suc n) p = slice_get-drop xs n p ∙ ap (slice_get (x ∷ xs)) (let e : suc (n + p) ≡ suc n + p = omega arith in e)

rising-parts : (s : Sets) (parts : List (Cond × ℕ)) → AllPairs (λ (a b : Cond × ℕ). a.1 < b.1) parts → AllPairs (λ (a b : ℕ × Condition). a.0 < b.0) (parts_of s parts)
rising-parts s [] rising = λ i j d low below. absurd (omega (arith, below))
rising-parts s (p ∷ parts) rising = λ i j d low below. by i j d low (omega (arith, below, length-map {B = ℕ × Condition} (p ∷ parts) (λ (q : Cond × ℕ). (q.1, s.has q.0.0))))
  where
    f : Cond × ℕ → ℕ × Condition
    f q = (q.1, s.has q.0.0)

    by : (i j : ℕ) (d : ℕ × Condition) → i < j → j < length (p ∷ parts) → (get_or (map f (p ∷ parts)) i d).0 < (get_or (map f (p ∷ parts)) j d).0
    by i j d low within =
        let a = ap (λ (z : ℕ × Condition). z.0) (get_or-map f (p ∷ parts) i p d (omega (arith, low, within))) in
        let b = ap (λ (z : ℕ × Condition). z.0) (get_or-map f (p ∷ parts) j p d within) in
        let h = rising i j p low within in
        omega (arith, a, b, h)

-- ---- the pieces

pub next-at : (input : Input) (from k : ℕ) (c : List ℕ) → from ≤ length input.items → next_from input from c ≡ k → IsNext input c (at k)
next-at input from k c within same = elim (position-found (λ (item : Condition × Token). item.0 c) (drop from input.items)) [
  | inl found ↦ next_element k found.0 (ap (slice_get input.items) (sym same) ∙ sym (slice_get-drop input.items from (position_or_len (λ (item : Condition × Token). item.0 c) (drop from input.items))) ∙ found.1.0) found.1.1
  | inr end ↦ let last : length input.items ≡ k = omega (arith, within, same, end, length-drop from input.items) in subst (λ n. IsNext input c (at n)) last next_end
]

seen-part : (old new : Sets) (names files : List (List ℕ)) (lines : List Line) (input : Input) (parent : Subparser) (t : core.Subparser) (p : Cond × ℕ) (from : ℕ)
    → Keeps old new → input.arities ≡ old.arities → from ≤ length input.items → IsSeen (tables_with old lines names files) input parent t → IsCond new p.0.0 → IsPossible input (new.has p.0.0)
    → Has input (new.has p.0.0) (λ c. t.condition c && next_from input from c == p.1)
    → IsSeen (tables_with new lines names files) input (part_of parent p) (record t { condition = new.has p.0.0; phase = at p.1 })
seen-part old new names files lines input parent t p from keeps arities within seen own possible has = record {
  owns = record { cond = own; values = seen.owns.values; levels = own-Keeps old new (levels_in parent.scopes) keeps seen.owns.levels };
  has = λ c config. refl;
  possible = possible;
  phase = refl;
  states = seen.states;
  each = each;
}
  where
    each : (c : List ℕ) → IsConfig input.arities c → new.has p.0.0 c ≡ true
        → IsSeenAt (tables_with new lines names files) input (part_of parent p) (record t { condition = new.has p.0.0; phase = at p.1 }) c
    each c config holds =
        let both : (t.condition c && next_from input from c == p.1) ≡ true = sym (has c config) ∙ holds in
        let was = seen.each c config (and-left (t.condition c) (next_from input from c == p.1) both) in
        let listed : IsConfig old.arities c = subst (λ ns. IsConfig ns c) arities config in
        let grown = ShowsAt-Grows (tables_with old lines names files) (tables_with new lines names files) c (record { sets = keeps; names = Extends-refl names; files = Extends-refl files; lines = Extends-refl lines }) listed
        parent (t.trees c) (t.levels c) refl seen.owns.levels was.shows in
        record {
          shows = record { values = grown.values; scopes = grown.scopes };
          next = next-at input from p.1 c within (eqb-true (next_from input from c) p.1 (and-right (t.condition c) (next_from input from c == p.1) both));
        }

seen-parts : (old new : Sets) (names files : List (List ℕ)) (lines : List Line) (input : Input) (parent : Subparser) (t : core.Subparser) (parts : List (Cond × ℕ)) (from : ℕ)
    → Keeps old new → input.arities ≡ old.arities → from ≤ length input.items → IsSeen (tables_with old lines names files) input parent t → All (λ (p : Cond × ℕ). IsCond new p.0.0) parts
    → All (λ (p : Cond × ℕ). IsPossible input (new.has p.0.0)) parts → All (λ (p : Cond × ℕ). Has input (new.has p.0.0) (λ c. t.condition c && next_from input from c == p.1)) parts
    → AreSeen (tables_with new lines names files) input (pieces.parts_of parent parts) (map (part t) (parts_of new parts))
seen-parts old new names files lines input parent t [] from keeps arities within seen own possible has = none_seen
seen-parts old new names files lines input parent t (p ∷ parts) from keeps arities within seen own possible has =
    let Own : Cond × ℕ → Type 0 = λ q. IsCond new q.0.0 in
    let Possible : Cond × ℕ → Type 0 = λ q. IsPossible input (new.has q.0.0) in
    let Holds : Cond × ℕ → Type 0 = λ q. Has input (new.has q.0.0) (λ c. t.condition c && next_from input from c == q.1) in
    more_seen (Going (part_of parent p)) (going (record t { condition = new.has p.0.0; phase = at p.1 })) (pieces.parts_of parent parts) (map (part t) (parts_of new parts))
    (going_seen (part_of parent p) (record t { condition = new.has p.0.0; phase = at p.1 })
    (seen-part old new names files lines input parent t p from keeps arities within seen (All-head Own p parts own) (All-head Possible p parts possible) (All-head Holds p parts has)))
    (seen-parts old new names files lines input parent t parts from keeps arities within seen (All-tail Own p parts own) (All-tail Possible p parts possible) (All-tail Holds p parts has))

pub part-more : (parent s : Subparser) (parts : List (Cond × ℕ)) (i : ℕ) (z : Cond × ℕ) (before after : List kept.Piece) → i < length parts → before ≡ pieces.parts_of parent (take i parts)
    → s ≡ part_of parent (get_or parts i z) → after ≡ before ++ Going s ∷ [] → after ≡ pieces.parts_of parent (take (i + 1) parts)
part-more parent s parts i z before after within are is added =
    let piece : Cond × ℕ → kept.Piece = λ p. Going (part_of parent p) in
    added ∙ ap (λ ps. ps ++ Going s ∷ []) are ∙ ap (λ x. pieces.parts_of parent (take i parts) ++ Going x ∷ []) is
    ∙ sym (map-append piece (take i parts) (get_or parts i z ∷ [])) ∙ ap (map piece) (sym (take_more parts i z within))

pub part-all : (parent : Subparser) (found parts : List (Cond × ℕ)) (i : ℕ) (all : List kept.Piece) → found ≡ parts → length found ≤ i → all ≡ pieces.parts_of parent (take i found)
    → all ≡ pieces.parts_of parent parts
part-all parent found parts i all same end are = are ∙ ap (pieces.parts_of parent) (take_all i found end ∙ same)

pub split-events : (old new : Sets) (lines : List Line) (source : Source) (parent : Subparser) (from : ℕ) (parts : List (Cond × ℕ)) → parent.phase ≡ Between from
    → from ≤ length source.list.now → Keeps old new
    → ((c : List ℕ) → IsConfig old.arities c → items_at new parts c ≡ (if old.has parent.cond.0 c then (from + next_at old (drop from source.list.now) c) ∷ [] else []))
    → All (λ (p : Cond × ℕ). IsNever new p.0.0 → ⊥) parts → AllPairs (λ (a b : Cond × ℕ). a.1 < b.1) parts → All (λ (p : Cond × ℕ). IsCond new p.0.0) parts
    → Events old new lines lines source parent core.split (pieces.parts_of parent parts)
split-events old new lines source parent from parts phase within keeps next some rising own = λ names files input t is seen. by names files input t is seen
  where
    by : (names files : List (List ℕ)) (input : Input) (t : core.Subparser) → IsInput (tables_with old lines names files) source input → IsSeen (tables_with old lines names files) input parent t
        → (qs : List Piece) × (Makes input t core.split qs × AreSeen (tables_with new lines names files) input (pieces.parts_of parent parts) qs)
    by names files input t is seen =
        let Holds : Cond × ℕ → Type 0 = λ p. Has input (new.has p.0.0) (λ c. t.condition c && next_from input from c == p.1) in (
          map (part t) (parts_of new parts),
          (splits from (parts_of new parts) (seen.phase ∙ ap phase_of phase) are_parts, seen-parts old new names files lines input parent t parts from keeps is.arities long seen own possible_all holds),
        )
      where
        same_length : length input.items ≡ length source.list.now
        same_length = sym (length-map input.items (λ (item : Condition × Token). item.1)) ∙ ap length is.tokens
            ∙ length-map source.list.now (λ (item : Cond × base.Token). seen_token names files item.1)

        long : from ≤ length input.items
        long = omega (arith, within, same_length)

        to_old : (c : List ℕ) → IsConfig input.arities c → IsConfig old.arities c
        to_old c config = subst (λ ns. IsConfig ns c) is.arities config

        next_is : (c : List ℕ) → IsConfig input.arities c → items_at new parts c ≡ (if t.condition c then next_from input from c ∷ [] else [])
        next_is c config =
            next c (to_old c config) ∙ ap (λ b. if b then (from + next_at old (drop from source.list.now) c) ∷ [] else []) (sym (seen.has c config))
            ∙ ap (λ n. if t.condition c then n ∷ [] else [])
            (sym (same-next (λ (item : Condition × Token). item.0 c) (λ (item : Cond × base.Token). old.has item.0.0 c) from input.items source.list.now (is.conditions c (to_old c config))))

        holds : All (λ (p : Cond × ℕ). Has input (new.has p.0.0) (λ c. t.condition c && next_from input from c == p.1)) parts
        holds = λ k d below c config. parts-have new parts c (t.condition c) (next_from input from c) rising (next_is c config) k d below

        possible_all : All (λ (p : Cond × ℕ). IsPossible input (new.has p.0.0)) parts
        possible_all = λ k d below.
            let found = possible new _ (some k d below) in
            record { config = found.0; is_config = subst (λ ns. IsConfig ns found.0) (keeps.arities ∙ sym is.arities) found.1; has = found.2 }

        are_parts : AreParts input t from (parts_of new parts)
        are_parts = record {
          possible = All-map (λ (q : ℕ × Condition). IsPossible input q.1) (λ (p : Cond × ℕ). (p.1, new.has p.0.0)) parts possible_all;
          each = All-map (λ (q : ℕ × Condition). Has input q.1 (λ c. t.condition c && next_from input from c == q.0)) (λ (p : Cond × ℕ). (p.1, new.has p.0.0)) parts holds;
          rising = rising-parts new parts rising;
          all = λ c config has. item-among new parts c (next_from input from c) (next_is c config ∙ ap (λ b. if b then next_from input from c ∷ [] else []) has);
        }

-- ---- what the pieces own

position-within : {A : Type 0} (f : A → Bool) (xs : List A) → position_or_len f xs ≤ length xs
position-within f [] = omega arith
position-within f (x ∷ xs) = by (f x) (position-within f xs)
  where
    by : (b : Bool) → position_or_len f xs ≤ length xs → (if not b then 1 + position_or_len f xs else 0) ≤ length (x ∷ xs)
    by true below = omega arith
    by false below = omega (arith, below)

next-within : {A : Type 0} (f : A → Bool) (from : ℕ) (xs : List A) → from ≤ length xs → from + position_or_len f (drop from xs) ≤ length xs
next-within f from xs within = omega (arith, within, position-within f (drop from xs), length-drop from xs)

pub parts-within : (old new : Sets) (source : Source) (parent : Subparser) (from : ℕ) (parts : List (Cond × ℕ)) → from ≤ length source.list.now → Keeps old new
    → ((c : List ℕ) → IsConfig old.arities c → items_at new parts c ≡ (if old.has parent.cond.0 c then (from + next_at old (drop from source.list.now) c) ∷ [] else []))
    → All (λ (p : Cond × ℕ). IsNever new p.0.0 → ⊥) parts → AllPairs (λ (a b : Cond × ℕ). a.1 < b.1) parts
    → All (λ (p : Cond × ℕ). (from ≤ p.1) × (p.1 ≤ length source.list.now)) parts
parts-within old new source parent from parts within keeps next some rising = λ k d inside.
    let p = get_or parts k d in
    let found = possible new p.0.0 (some k d inside) in
    let c : List ℕ = found.0 in
    let config : IsConfig old.arities c = subst (λ ns. IsConfig ns c) keeps.arities found.1 in
    let n : ℕ = from + next_at old (drop from source.list.now) c in
    let both : (old.has parent.cond.0 c && n == p.1) ≡ true = sym (parts-have new parts c (old.has parent.cond.0 c) n rising (next c config) k d inside) ∙ found.2 in
    let same : n ≡ p.1 = eqb-true n p.1 (and-right (old.has parent.cond.0 c) (n == p.1) both) in
    let most : n ≤ length source.list.now = next-within (λ (item : Cond × base.Token). old.has item.0.0 c) from source.list.now within in
    let least : from ≤ n = omega arith in
    (subst (λ m. from ≤ m) same least, subst (λ m. m ≤ length source.list.now) same most)

own-part : (old new : Sets) (count : ℕ) (source : Source) (parent : Subparser) (p : Cond × ℕ) → Keeps old new → OwnsRow old count source parent → IsCond new p.0.0
    → p.1 ≤ length source.list.now → OwnsRow new count source (part_of parent p)
own-part old new count source parent p keeps owns own within = record {
  owns = record { cond = own; values = owns.owns.values; levels = own-Keeps old new (levels_in parent.scopes) keeps owns.owns.levels };
  within = within;
  path = owns.path;
}

pub split-own : (old new : Sets) (source : Source) (parent : Subparser) (from : ℕ) (parts : List (Cond × ℕ)) → from ≤ length source.list.now → Keeps old new
    → ((c : List ℕ) → IsConfig old.arities c → items_at new parts c ≡ (if old.has parent.cond.0 c then (from + next_at old (drop from source.list.now) c) ∷ [] else []))
    → All (λ (p : Cond × ℕ). IsNever new p.0.0 → ⊥) parts → AllPairs (λ (a b : Cond × ℕ). a.1 < b.1) parts → All (λ (p : Cond × ℕ). IsCond new p.0.0) parts
    → (count : ℕ) → OwnsRow old count source parent → All (OwnsPiece new count source) (pieces.parts_of parent parts)
split-own old new source parent from parts within keeps next some rising own count owns =
    All-map (OwnsPiece new count source) (λ (p : Cond × ℕ). Going (part_of parent p)) parts
    (λ k d inside. own-part old new count source parent (get_or parts k d) keeps owns (own k d inside) (parts-within old new source parent from parts within keeps next some rising k d inside).1)
