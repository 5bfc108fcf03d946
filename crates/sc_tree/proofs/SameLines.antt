-- `==` on trees tells them apart.
use Rattle.std.proofs.Common.{◌≡◌, ℕ, ◌==◌, subst, rules, ◌&&◌, Bool, true, false, List, [], ◌∷◌, refl}
use Rattle.std.specs.Cmp.Lexicographic.{pointwise}
use Rattle.std.proofs.lemmas.Bool.{false≢true, eqb-true}
use Rattle.sc_base.specs.declared.id.Cond.{Cond}
use Rattle.sc_base.specs.declared.id.Name.{Name}
use Rattle.sc_base.specs.declared.id.TreeId.{TreeId}
use Rattle.sc_base.specs.declared.place.Place.{Place}
use Rattle.sc_base.specs.contracts.place.PlacePartialEq.TheImpl as place
use Rattle.sc_tree.specs.declared.line.TreeView.{TreeView}
use Rattle.sc_tree.specs.declared.line.TreeView.TheVariants.{Leaf, Node, Choice}
use Rattle.sc_tree.specs.contracts.line.TreeViewPartialEq.TheImpl as line
use Rattle.sc_tree.specs.Lines.{leaf, node, choice}
use Rattle.sc_tree.specs.Views.{line_seen}

both : (x y : Bool) → (x && y) ≡ true → (x ≡ true) × (y ≡ true)
both true true told = (refl, refl)
both true false told = absurd (false≢true told)
both false y told = absurd (false≢true told)

same_place : (a b : Place) → place.eq-value.it a b ≡ true → a ≡ b
same_place a b told =
    let is = both (a.file.0 == b.file.0) ((a.line == b.line) && (a.column == b.column)) told in
    let rest = both (a.line == b.line) (a.column == b.column) is.1 in
    let file = eqb-true a.file.0 b.file.0 is.0 in
    let line = eqb-true a.line b.line rest.0 in
    let column = eqb-true a.column b.column rest.1 in
    λ i. record { file = record { 0 = file i }; line = line i; column = column i }

same_children : (xs ys : List TreeId) → pointwise (λ (a b : TreeId). a.0 == b.0) xs ys ≡ true → xs ≡ ys
same_children [] [] told = refl
same_children [] (y ∷ ys) told = absurd (false≢true told)
same_children (x ∷ xs) [] told = absurd (false≢true told)
same_children (x ∷ xs) (y ∷ ys) told =
    let is = both (x.0 == y.0) (pointwise (λ (a b : TreeId). a.0 == b.0) xs ys) told in
    let first = eqb-true x.0 y.0 is.0 in
    let rest = same_children xs ys is.1 in
    λ i. record { 0 = first i } ∷ rest i

same_branches : (xs ys : List (Cond × TreeId)) → pointwise (λ (a b : Cond × TreeId). (a.0.0 == b.0.0) && (a.1.0 == b.1.0)) xs ys ≡ true → xs ≡ ys
same_branches [] [] told = refl
same_branches [] (y ∷ ys) told = absurd (false≢true told)
same_branches (x ∷ xs) [] told = absurd (false≢true told)
same_branches (x ∷ xs) (y ∷ ys) told =
    let is = both ((x.0.0 == y.0.0) && (x.1.0 == y.1.0)) (pointwise (λ (a b : Cond × TreeId). (a.0.0 == b.0.0) && (a.1.0 == b.1.0)) xs ys) told in
    let pair = both (x.0.0 == y.0.0) (x.1.0 == y.1.0) is.0 in
    let cond = eqb-true x.0.0 y.0.0 pair.0 in
    let tree = eqb-true x.1.0 y.1.0 pair.1 in
    let rest = same_branches xs ys is.1 in
    λ i. (record { 0 = cond i }, record { 0 = tree i }) ∷ rest i

pub same_line : (a b : TreeView) → line.eq-value.it a b ≡ true → line_seen a ≡ line_seen b
same_line (Leaf p n) (Leaf q m) told =
    let is = both (place.eq-value.it p q) (n.0 == m.0) told in
    let at = same_place p q is.0 in
    let name = eqb-true n.0 m.0 is.1 in
    λ i. leaf (at i) (record { 0 = name i })
same_line (Leaf p n) (Node q m) told = absurd (false≢true told)
same_line (Leaf p n) (Choice m) told = absurd (false≢true told)
same_line (Node p n) (Leaf q m) told = absurd (false≢true told)
same_line (Node p n) (Node q m) told =
    let is = both (p == q) (pointwise (λ (a b : TreeId). a.0 == b.0) n.now m.now) told in
    let production = eqb-true p q is.0 in
    let children = same_children n.now m.now is.1 in
    λ i. node (production i) (children i)
same_line (Node p n) (Choice m) told = absurd (false≢true told)
same_line (Choice n) (Leaf q m) told = absurd (false≢true told)
same_line (Choice n) (Node q m) told = absurd (false≢true told)
same_line (Choice n) (Choice m) told =
    let branches = same_branches n.now m.now told in
    λ i. choice (branches i)

-- ---- the same lines are told to be

both_told : (x y : Bool) → x ≡ true → y ≡ true → (x && y) ≡ true
both_told x y first second = rw (first, second)

told : (n : ℕ) → (n == n) ≡ true
told n = search rules

told_place : (p : Place) → place.eq-value.it p p ≡ true
told_place p = both_told (p.file.0 == p.file.0) ((p.line == p.line) && (p.column == p.column)) (told p.file.0) (both_told (p.line == p.line) (p.column == p.column) (told p.line) (told p.column))

told_children : (xs : List TreeId) → pointwise (λ (a b : TreeId). a.0 == b.0) xs xs ≡ true
told_children [] = refl
told_children (x ∷ xs) = both_told (x.0 == x.0) (pointwise (λ (a b : TreeId). a.0 == b.0) xs xs) (told x.0) (told_children xs)

told_branches : (xs : List (Cond × TreeId)) → pointwise (λ (a b : Cond × TreeId). (a.0.0 == b.0.0) && (a.1.0 == b.1.0)) xs xs ≡ true
told_branches [] = refl
told_branches (x ∷ xs) =
    both_told ((x.0.0 == x.0.0) && (x.1.0 == x.1.0)) (pointwise (λ (a b : Cond × TreeId). (a.0.0 == b.0.0) && (a.1.0 == b.1.0)) xs xs)
    (both_told (x.0.0 == x.0.0) (x.1.0 == x.1.0) (told x.0.0) (told x.1.0)) (told_branches xs)

pub told_line : (a b : TreeView) → line_seen a ≡ line_seen b → line.eq-value.it a b ≡ true
told_line (Leaf p n) (Leaf q m) same =
    let at : p ≡ q = cc in
    let name : n ≡ m = cc in
    subst (λ (x : Place). (place.eq-value.it p x && (n.0 == m.0)) ≡ true) at
    (subst (λ (x : Name). (place.eq-value.it p p && (n.0 == x.0)) ≡ true) name (both_told (place.eq-value.it p p) (n.0 == n.0) (told_place p) (told n.0)))
told_line (Leaf p n) (Node q m) same = absurd (cc)
told_line (Leaf p n) (Choice m) same = absurd (cc)
told_line (Node p n) (Leaf q m) same = absurd (cc)
told_line (Node p n) (Node q m) same =
    let production : p ≡ q = cc in
    let children : n.now ≡ m.now = cc in
    subst (λ (x : ℕ). ((p == x) && pointwise (λ (a b : TreeId). a.0 == b.0) n.now m.now) ≡ true) production
    (subst (λ (xs : List TreeId). ((p == p) && pointwise (λ (a b : TreeId). a.0 == b.0) n.now xs) ≡ true) children
    (both_told (p == p) (pointwise (λ (a b : TreeId). a.0 == b.0) n.now n.now) (told p) (told_children n.now)))
told_line (Node p n) (Choice m) same = absurd (cc)
told_line (Choice n) (Leaf q m) same = absurd (cc)
told_line (Choice n) (Node q m) same = absurd (cc)
told_line (Choice n) (Choice m) same =
    let branches : n.now ≡ m.now = cc in
    subst (λ (xs : List (Cond × TreeId)). pointwise (λ (a b : Cond × TreeId). (a.0.0 == b.0.0) && (a.1.0 == b.1.0)) n.now xs ≡ true) branches (told_branches n.now)
