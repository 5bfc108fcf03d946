-- What waits for a walk, as functions of a number.
use Rattle.std.proofs.Common.{◌≡◌, ℕ, ◌<◌, ◌+◌, ◌==◌, length, take, get_or, map, Vec, Global, ◌&&◌, ◌||◌, Bool, true, false, cond, List, [], ◌∷◌, ◌++◌, All, Option, Some, None, refl, sym, ap, ◌∙◌, subst, arith, if◌then◌else◌}
use Rattle.std.proofs.lemmas.List.{append-nil, get_or_default}
use Rattle.std.proofs.lemmas.Bool.{eqb-true, false≢true}
use Rattle.std.proofs.lemmas.Bool.Decides.{nat_tests}
use Rattle.std.proofs.lemmas.List.Elements.{All-head, All-tail, All-cons, All-nil, All-append}
use Rattle.std.proofs.lemmas.Option.{same_Some, none-some, slice_get_within, get_or_from_slice_get}
use Rattle.std.specs.Ordering.{nat_cmp, is_eq}
use Rattle.sc_base.specs.declared.id.Cond.{Cond}
use Rattle.sc_base.specs.declared.id.TreeId.{TreeId}
use Rattle.sc_model.specs.Sets.{Sets, IsConfig, IsCond, Denotes, Keeps}
use Rattle.sc_guarded.specs.Items.{items_at}
use Rattle.sc_guarded.proofs.ItemLemmas.{items_at-append, items_at-Keeps, items_at-take}
use Rattle.sc_model.proofs.SetLemmas.{Denotes-self, IsConfig-Keeps, Keeps-refl}
use Rattle.sc_tree.specs.Lines.{Line, leaf, node, choice, children_of}
use Rattle.sc_tree.specs.declared.line.Line as kept
use Rattle.sc_tree.specs.declared.line.Line.TheVariants.{Leaf, Node, Choice}
use Rattle.sc_tree.specs.Views.{line_of}
use Rattle.sc_tree.specs.Walks.{has_at, is_among, is_choice, child_of, child_at, listed, onward, passes, Visits, OwnsWaiting}

pub is_eq-nat : (k q : ℕ) → is_eq (nat_cmp k q) ≡ (k == q)
is_eq-nat k q = grind (arith, nat_tests)

or-false : (b : Bool) → b ≡ (b || false)
or-false true = refl
or-false false = refl

pub eqb-sym : (k q : ℕ) → (k == q) ≡ (q == k)
eqb-sym k q = grind (arith, nat_tests)

has_at-Keeps : (old new : Sets) (waits : Option Cond) (c : List ℕ) → ((cond : Cond) → waits ≡ Some cond → IsCond old cond.0) → Keeps old new → IsConfig old.arities c
    → has_at new waits c ≡ has_at old waits c
has_at-Keeps old new None c own keeps is = refl
has_at-Keeps old new (Some cond) c own keeps is = keeps.at cond.0 c (own cond refl) is

-- a number gets more configurations
pub waits-more : (old new : Sets) (before after : ℕ → Option Cond) (id : ℕ) (more joined : Cond) (c : List ℕ)
    → ((n : ℕ) → after n ≡ cond (is_eq (nat_cmp id n)) (Some joined) (before n)) → OwnsWaiting old before → Keeps old new → IsConfig old.arities c
    → new.has joined.0 c ≡ (has_at old (before id) c || old.has more.0 c)
    → (n : ℕ) → has_at new (after n) c ≡ (has_at old (before n) c || (n == id && old.has more.0 c))
waits-more old new before after id more joined c updates own keeps is joins n = by (id == n) refl
  where
    updated : after n ≡ cond (id == n) (Some joined) (before n)
    updated = updates n ∙ ap (λ b. cond b (Some joined) (before n)) (is_eq-nat id n)

    by : (b : Bool) → (id == n) ≡ b → has_at new (after n) c ≡ (has_at old (before n) c || (n == id && old.has more.0 c))
    by true told =
        let same : id ≡ n = eqb-true id n told in
        ap (λ w. has_at new w c) (updated ∙ ap (λ b. cond b (Some joined) (before n)) told) ∙ joins
        ∙ ap (λ k. has_at old (before k) c || old.has more.0 c) same
        ∙ ap (λ b. has_at old (before n) c || (b && old.has more.0 c)) (sym (eqb-sym n id ∙ told))
    by false told =
        ap (λ w. has_at new w c) (updated ∙ ap (λ b. cond b (Some joined) (before n)) told)
        ∙ has_at-Keeps old new (before n) c (own.each n) keeps is ∙ or-false (has_at old (before n) c)
        ∙ ap (λ b. has_at old (before n) c || (b && old.has more.0 c)) (sym (eqb-sym n id ∙ told))

pub waits-own : (old new : Sets) (before after : ℕ → Option Cond) (id : ℕ) (joined : Cond)
    → ((n : ℕ) → after n ≡ cond (is_eq (nat_cmp id n)) (Some joined) (before n)) → OwnsWaiting old before → Keeps old new → IsCond new joined.0
    → OwnsWaiting new after
waits-own old new before after id joined updates own keeps is = record { each = λ n found at. by n found (is_eq (nat_cmp id n)) (sym (updates n) ∙ at) }
  where
    by : (n : ℕ) (found : Cond) (b : Bool) → cond b (Some joined) (before n) ≡ Some found → IsCond new found.0
    by n found true at = subst (λ (k : Cond). IsCond new k.0) (same_Some joined found at) is
    by n found false at = keeps.own found.0 (own.each n found at)

-- ---- joining

joined-has : (old new : Sets) (a b : ℕ) (r : ℕ) (d : List ℕ) → ((f g : List ℕ → Bool) → Denotes old a f → Denotes old b g → Denotes new r (λ c. f c || g c))
    → IsCond old a → IsCond old b → Keeps old new → IsConfig old.arities d → new.has r d ≡ (old.has a d || old.has b d)
joined-has old new a b r d meaning own_a own_b keeps is = (meaning (old.has a) (old.has b) (Denotes-self old a own_a) (Denotes-self old b own_b)).at d (IsConfig-Keeps keeps is)

pub met-has : (old new : Sets) (a b : ℕ) (r : ℕ) (d : List ℕ) → ((f g : List ℕ → Bool) → Denotes old a f → Denotes old b g → Denotes new r (λ c. f c && g c))
    → IsCond old a → IsCond old b → Keeps old new → IsConfig old.arities d → new.has r d ≡ (old.has a d && old.has b d)
met-has old new a b r d meaning own_a own_b keeps is = (meaning (old.has a) (old.has b) (Denotes-self old a own_a) (Denotes-self old b own_b)).at d (IsConfig-Keeps keeps is)

pub joined-some : (old new : Sets) (others : Option Cond) (other more r : Cond) (d : List ℕ) → others ≡ Some other
    → ((f g : List ℕ → Bool) → Denotes old other.0 f → Denotes old more.0 g → Denotes new r.0 (λ c. f c || g c))
    → IsCond old other.0 → IsCond old more.0 → Keeps old new → IsConfig old.arities d → new.has r.0 d ≡ (has_at old others d || old.has more.0 d)
joined-some old new others other more r d some meaning own_a own_b keeps is =
    joined-has old new other.0 more.0 r.0 d meaning own_a own_b keeps is ∙ ap (λ w. has_at old w d || old.has more.0 d) (sym some)

-- ---- branches

is_among-append : (n : ℕ) (xs ys : List TreeId) → is_among n (xs ++ ys) ≡ (is_among n xs || is_among n ys)
is_among-append n [] ys = refl
is_among-append n (x ∷ xs) ys = by (n == x.0) (is_among-append n xs ys)
  where
    by : (b : Bool) → is_among n (xs ++ ys) ≡ (is_among n xs || is_among n ys)
        → (if b then true else is_among n (xs ++ ys)) ≡ ((if b then true else is_among n xs) || is_among n ys)
    by true rest = refl
    by false rest = rest

one_more : (x b p e h : Bool) → ((x || (b && p)) || (e && (b && h))) ≡ (x || (b && (p || (if h then (if e then true else false) else false))))
one_more true b p e h = refl
one_more false false p true h = refl
one_more false false p false h = refl
one_more false true true e h = refl
one_more false true false true true = refl
one_more false true false true false = refl
one_more false true false false true = refl
one_more false true false false false = refl

among-if : (n : ℕ) (h : Bool) (id : TreeId) → is_among n (if h then id ∷ [] else []) ≡ (if h then (if n == id.0 then true else false) else false)
among-if n true id = refl
among-if n false id = refl

-- one branch more was opened
pub opens-more : (s0 s1 s2 s3 : Sets) (w0 w1 w3 : ℕ → Option Cond) (cond part : Cond) (branches : List (Cond × TreeId)) (i : ℕ) (z : Cond × TreeId) (d : List ℕ)
    → Keeps s0 s1 → Keeps s1 s2 → IsConfig s0.arities d → IsCond s0 cond.0 → All (λ (b : Cond × TreeId). IsCond s0 b.0.0) branches → OwnsWaiting s1 w1
    → i < length branches → ((n : ℕ) → has_at s1 (w1 n) d ≡ (has_at s0 (w0 n) d || (s0.has cond.0 d && is_among n (items_at s0 (take i branches) d))))
    → ((f g : List ℕ → Bool) → Denotes s1 cond.0 f → Denotes s1 (get_or branches i z).0.0 g → Denotes s2 part.0 (λ c. f c && g c))
    → ((n : ℕ) → has_at s3 (w3 n) d ≡ (has_at s2 (w1 n) d || (n == (get_or branches i z).1.0 && s2.has part.0 d)))
    → (n : ℕ) → has_at s3 (w3 n) d ≡ (has_at s0 (w0 n) d || (s0.has cond.0 d && is_among n (items_at s0 (take (i + 1) branches) d)))
opens-more s0 s1 s2 s3 w0 w1 w3 cond part branches i z d keeps keeps_and is own owns owns_waiting within before meets more n =
    let branch = get_or branches i z in
    let x = has_at s0 (w0 n) d in
    let b = s0.has cond.0 d in
    let h = s0.has branch.0.0 d in
    let p = is_among n (items_at s0 (take i branches) d) in
    let e = n == branch.1.0 in
    let own_branch : IsCond s0 branch.0.0 = owns i z within in
    let now = IsConfig-Keeps keeps is in
    let met : s2.has part.0 d ≡ (b && h) =
    met-has s1 s2 cond.0 branch.0.0 part.0 d meets (keeps.own cond.0 own) (keeps.own branch.0.0 own_branch) keeps_and now
    ∙ ap (λ z. z && s1.has branch.0.0 d) (keeps.at cond.0 d own is) ∙ ap (λ z. b && z) (keeps.at branch.0.0 d own_branch is) in
    let still : has_at s2 (w1 n) d ≡ (x || (b && p)) = has_at-Keeps s1 s2 (w1 n) d (owns_waiting.each n) keeps_and now ∙ before n in
    more n ∙ ap (λ w. w || (e && s2.has part.0 d)) still ∙ ap (λ m. (x || (b && p)) || (e && m)) met ∙ one_more x b p e h
    ∙ ap (λ a. x || (b && a))
    (ap (λ a. p || a) (sym (among-if n h branch.1)) ∙ sym (is_among-append n (items_at s0 (take i branches) d) (if h then branch.1 ∷ [] else []))
    ∙ ap (is_among n) (sym (items_at-take s0 branches i branch d within (get_or_default branches i z branch within))))

-- ---- a visit

one_item : (s : Sets) (items : List (Cond × TreeId)) (cond : Cond) (id : TreeId) (d : List ℕ)
    → items_at s (items ++ (cond, id) ∷ []) d ≡ items_at s items d ++ (if s.has cond.0 d then id ∷ [] else [])
one_item s items cond id d = items_at-append s items ((cond, id) ∷ []) d

and-among : (a b : Bool) → (a && b) ≡ (b && (if a then true else false))
and-among true true = refl
and-among true false = refl
and-among false true = refl
and-among false false = refl

nothing-among : (a b : Bool) → a ≡ (a || (b && false))
nothing-among true b = refl
nothing-among false true = refl
nothing-among false false = refl

-- the line is no choice
abbrev pub IsPlain : Line → Type 0
IsPlain line = is_choice line ≡ false

pub onward-plain : (way : ℕ → Option ℕ) (sets : Sets) (line : Line) (d : List ℕ) → IsPlain line → onward way sets line d ≡ listed (child_of way line)
onward-plain way sets (leaf place spelling) d plain = refl
onward-plain way sets (node production children) d plain = refl
onward-plain way sets (choice branches) d plain = absurd (false≢true (sym plain))

pub passes-plain : (line : Line) (id : TreeId) → IsPlain line → passes line id ≡ id ∷ []
passes-plain (leaf place spelling) id plain = refl
passes-plain (node production children) id plain = refl
passes-plain (choice branches) id plain = absurd (false≢true (sym plain))

passing-plain : (old new : Sets) (line : Line) (cond : Cond) (id : TreeId) (passed all : List (Cond × TreeId)) (d : List ℕ) → IsPlain line → all ≡ passed ++ (cond, id) ∷ []
    → Keeps old new → IsCond old cond.0 → All (λ (tree : Cond × TreeId). IsCond old tree.0.0) passed → IsConfig old.arities d
    → items_at new all d ≡ items_at old passed d ++ (if old.has cond.0 d then passes line id else [])
passing-plain old new line cond id passed all d plain added keeps own owns is =
    ap (λ items. items_at new items d) added ∙ one_item new passed cond id d
    ∙ ap (λ items. items ++ (if new.has cond.0 d then id ∷ [] else [])) (items_at-Keeps passed d keeps owns is)
    ∙ ap (λ b. items_at old passed d ++ (if b then id ∷ [] else [])) (keeps.at cond.0 d own is)
    ∙ ap (λ ids. items_at old passed d ++ (if old.has cond.0 d then ids else [])) (sym (passes-plain line id plain))

pub visits-child : (way : ℕ → Option ℕ) (old new : Sets) (line : Line) (cond : Cond) (id child : TreeId) (before after : ℕ → Option Cond) (passed all : List (Cond × TreeId)) (d : List ℕ)
    → IsPlain line → child_of way line ≡ Some child → all ≡ passed ++ (cond, id) ∷ [] → Keeps old new → IsCond old cond.0
    → All (λ (tree : Cond × TreeId). IsCond old tree.0.0) passed → IsConfig old.arities d
    → ((n : ℕ) → has_at new (after n) d ≡ (has_at old (before n) d || (n == child.0 && old.has cond.0 d)))
    → Visits way old new line cond id before after passed all d
visits-child way old new line cond id child before after passed all d plain next added keeps own owns is opens = record {
  waits = λ n. opens n ∙ ap (λ b. has_at old (before n) d || b) (and-among (n == child.0) (old.has cond.0 d))
      ∙ ap (λ ids. has_at old (before n) d || (old.has cond.0 d && is_among n ids)) (sym (onward-plain way old line d plain ∙ ap listed next));
  passing = passing-plain old new line cond id passed all d plain added keeps own owns is;
}

pub visits-last : (way : ℕ → Option ℕ) (sets : Sets) (line : Line) (cond : Cond) (id : TreeId) (before : ℕ → Option Cond) (passed all : List (Cond × TreeId)) (d : List ℕ)
    → IsPlain line → child_of way line ≡ None → all ≡ passed ++ (cond, id) ∷ [] → IsCond sets cond.0 → All (λ (tree : Cond × TreeId). IsCond sets tree.0.0) passed → IsConfig sets.arities d
    → Visits way sets sets line cond id before before passed all d
visits-last way sets line cond id before passed all d plain next added own owns is = record {
  waits = λ n. nothing-among (has_at sets (before n) d) (sets.has cond.0 d)
      ∙ ap (λ ids. has_at sets (before n) d || (sets.has cond.0 d && is_among n ids)) (sym (onward-plain way sets line d plain ∙ ap listed next));
  passing = passing-plain sets sets line cond id passed all d plain added (Keeps-refl sets) own owns is;
}

append-nothing : (b : Bool) (xs : List TreeId) → xs ≡ xs ++ (if b then [] else [])
append-nothing true xs = sym (append-nil xs)
append-nothing false xs = sym (append-nil xs)

pub visits-choice : (way : ℕ → Option ℕ) (old new : Sets) (line : Line) (cond : Cond) (id : TreeId) (before after : ℕ → Option Cond) (branches passed : List (Cond × TreeId)) (d : List ℕ)
    → line ≡ choice branches → Keeps old new → All (λ (tree : Cond × TreeId). IsCond old tree.0.0) passed → IsConfig old.arities d
    → ((n : ℕ) → has_at new (after n) d ≡ (has_at old (before n) d || (old.has cond.0 d && is_among n (items_at old branches d))))
    → Visits way old new line cond id before after passed passed d
visits-choice way old new line cond id before after branches passed d same keeps owns is opens = record {
  waits = λ n. opens n ∙ ap (λ (l : Line). has_at old (before n) d || (old.has cond.0 d && is_among n (onward way old l d))) (sym same);
  passing = items_at-Keeps passed d keeps owns is ∙ append-nothing (old.has cond.0 d) (items_at old passed d)
      ∙ ap (λ (l : Line). items_at old passed d ++ (if old.has cond.0 d then passes l id else [])) (sym same);
}

-- what the code keeps is a choice where its line is one
pub kept_plain : (line : kept.Line) → ((branches : Vec (Cond × TreeId) Global) → line ≡ Choice branches → ⊥) → IsPlain (line_of line)
kept_plain (Leaf place spelling) other = refl
kept_plain (Node production children) other = refl
kept_plain (Choice branches) other = absurd (other branches refl)

pub children-below : (bound : ℕ) (line : Line) (branches : List (Cond × TreeId)) → line ≡ choice branches → All (λ (child : TreeId). child.0 < bound) (children_of line)
    → All (λ (branch : Cond × TreeId). branch.1.0 < bound) branches
children-below bound line branches same below = go branches (subst (λ (l : Line). All (λ (child : TreeId). child.0 < bound) (children_of l)) same below)
  where
    go : (bs : List (Cond × TreeId)) → All (λ (child : TreeId). child.0 < bound) (map (λ (branch : Cond × TreeId). branch.1) bs) → All (λ (branch : Cond × TreeId). branch.1.0 < bound) bs
    go [] h = All-nil (λ (branch : Cond × TreeId). branch.1.0 < bound)
    go (b ∷ bs) h =
        let P : TreeId → Type 0 = λ child. child.0 < bound in
        All-cons (λ (branch : Cond × TreeId). branch.1.0 < bound) b bs (All-head P b.1 (map (λ (branch : Cond × TreeId). branch.1) bs) h) (go bs (All-tail P b.1 (map (λ (branch : Cond × TreeId). branch.1) bs) h))

-- the child to which the walk goes on is one
pub child-below : (way : ℕ → Option ℕ) (bound : ℕ) (line : Line) (child : TreeId) → child_of way line ≡ Some child → All (λ (id : TreeId). id.0 < bound) (children_of line) → child.0 < bound
child-below way bound (leaf place spelling) child next below = absurd (none-some child next)
child-below way bound (choice branches) child next below = absurd (none-some child next)
child-below way bound (node production children) child next below = by (way production) next
  where
    by : (n : Option ℕ) → child_at children n ≡ Some child → child.0 < bound
    by None at = absurd (none-some child at)
    by (Some n) at = subst (λ (id : TreeId). id.0 < bound) (get_or_from_slice_get children n child child at) (below n child (slice_get_within children n child at))

pub below-more : (bound : ℕ) (cond : Cond) (id : TreeId) (passed all : List (Cond × TreeId)) → all ≡ passed ++ (cond, id) ∷ []
    → All (λ (tree : Cond × TreeId). tree.1.0 < bound) passed → id.0 < bound → All (λ (tree : Cond × TreeId). tree.1.0 < bound) all
below-more bound cond id passed all added below within =
    let P : Cond × TreeId → Type 0 = λ tree. tree.1.0 < bound in
    subst (λ (trees : List (Cond × TreeId)). All P trees) (sym added) (All-append P passed ((cond, id) ∷ []) below (All-cons P (cond, id) [] within (All-nil P)))

pub own-more : (old new : Sets) (cond : Cond) (id : TreeId) (passed all : List (Cond × TreeId)) → all ≡ passed ++ (cond, id) ∷ [] → Keeps old new
    → All (λ (tree : Cond × TreeId). IsCond old tree.0.0) passed → IsCond old cond.0 → All (λ (tree : Cond × TreeId). IsCond new tree.0.0) all
own-more old new cond id passed all added keeps owns own =
    let P : Cond × TreeId → Type 0 = λ tree. IsCond new tree.0.0 in
    subst (λ (trees : List (Cond × TreeId)). All P trees) (sym added)
    (All-append P passed ((cond, id) ∷ []) (λ k d below. keeps.own _ (owns k d below)) (All-cons P (cond, id) [] (keeps.own cond.0 own) (All-nil P)))
