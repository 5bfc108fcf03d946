-- How many tasks are left, at most: a tree counts once for each place where it occurs.
use Rattle.std.proofs.Common.{◌≡◌, ℕ, zero, suc, ◌+◌, ◌<◌, List, [], ◌∷◌, ◌++◌, map, Option, Some, None, slice_get, get_or, All, refl, ap, ◌∙◌, arith}
use Rattle.std.specs.List.{sum_by}
use Rattle.std.proofs.lemmas.List.Elements.{All-head, All-tail}
use Rattle.std.proofs.lemmas.List.Sums.{sum_by-append, sum_by-cons}
use Rattle.sc_base.specs.declared.id.TreeId.{TreeId}
use Rattle.sc_tree.specs.Lines.{Line, children_of, ChildrenFirst}
use Rattle.sc_show.specs.declared.tree.Task.{Task}
use Rattle.sc_show.specs.declared.tree.Task.TheVariants as task

abbrev children_at : Option Line → List TreeId
children_at None = []
children_at (Some line) = children_of line

-- how many tasks come of a tree, followed down to a depth
abbrev pub weight_down : List Line → ℕ → ℕ → ℕ
weight_down lines zero id = 0
weight_down lines (suc depth) id = 2 + sum_by (λ (child : TreeId). weight_down lines depth child.0) (children_at (slice_get lines id))

-- no tree is deeper than its id
unfoldable pub weight : List Line → ℕ → ℕ
weight lines id = weight_down lines (suc id) id

abbrev pub task_weight : List Line → Task → ℕ
task_weight lines (task.Tree id) = weight lines id.0
task_weight lines (task.Line id) = 1

sums_agree : (f g : TreeId → ℕ) (xs : List TreeId) → All (λ (x : TreeId). f x ≡ g x) xs → sum_by f xs ≡ sum_by g xs
sums_agree f g [] same = refl
sums_agree f g (x ∷ xs) same =
    let first : f x ≡ g x = All-head (λ (y : TreeId). f y ≡ g y) x xs same in
    let rest : sum_by f xs ≡ sum_by g xs = sums_agree f g xs (All-tail (λ (y : TreeId). f y ≡ g y) x xs same) in
    omega (arith, sum_by-cons f x xs, sum_by-cons g x xs)

children_below : (lines : List Line) (id : ℕ) (found : Option Line) → ChildrenFirst lines → slice_get lines id ≡ found
    → All (λ (child : TreeId). child.0 < id) (children_at found)
children_below lines id None first at = λ k d h. absurd (omega (arith, h))
children_below lines id (Some line) first at = first.each id line at

depths_agree : (lines : List Line) → ChildrenFirst lines → (n m id : ℕ) → id < n → id < m → weight_down lines n id ≡ weight_down lines m id
depths_agree lines first zero m id a b = absurd (omega arith)
depths_agree lines first (suc n) zero id a b = absurd (omega arith)
depths_agree lines first (suc n) (suc m) id a b =
    let below : All (λ (child : TreeId). child.0 < id) (children_at (slice_get lines id)) = children_below lines id (slice_get lines id) first refl in
    ap (λ s. 2 + s) (sums_agree (λ (child : TreeId). weight_down lines n child.0) (λ (child : TreeId). weight_down lines m child.0) (children_at (slice_get lines id))
    (λ k d h. let lower = below k d h in depths_agree lines first n m _ (omega (arith, lower)) (omega (arith, lower))))

weight_of : (lines : List Line) (id : ℕ) (line : Line) → ChildrenFirst lines → slice_get lines id ≡ Some line
    → weight lines id ≡ 2 + sum_by (λ (child : TreeId). weight lines child.0) (children_of line)
unfolding weight
weight_of lines id line first at =
    let below : All (λ (child : TreeId). child.0 < id) (children_of line) = first.each id line at in
    let opened : weight_down lines (suc id) id ≡ 2 + sum_by (λ (child : TreeId). weight_down lines id child.0) (children_of line)
    = ap (λ (found : Option Line). 2 + sum_by (λ (child : TreeId). weight_down lines id child.0) (children_at found)) at in
    opened ∙ ap (λ s. 2 + s) (sums_agree (λ (child : TreeId). weight_down lines id child.0) (λ (child : TreeId). weight_down lines (suc child.0) child.0) (children_of line)
    (λ k d h. depths_agree lines first id (suc (get_or (children_of line) k d).0) (get_or (children_of line) k d).0 (below k d h) (omega arith)))

trees_weigh : (lines : List Line) (children : List TreeId) → sum_by (task_weight lines) (map task.Tree children) ≡ sum_by (λ (child : TreeId). weight lines child.0) children
trees_weigh lines [] = refl
trees_weigh lines (child ∷ children) =
    let one = sum_by-cons (task_weight lines) (task.Tree child) (map task.Tree children) in
    let same = sum_by-cons (λ (x : TreeId). weight lines x.0) child children in
    omega (arith, one, same, trees_weigh lines children)

module _ (lines : List Line) where
  -- a tree that is left out
  pub lighter_known : (id : TreeId) (tasks : List Task) → sum_by (task_weight lines) tasks < sum_by (task_weight lines) (task.Tree id ∷ tasks)
  unfolding weight
  lighter_known id tasks = let whole = sum_by-cons (task_weight lines) (task.Tree id) tasks in omega (arith, whole)

  pub lighter_line : (id : TreeId) (tasks : List Task) → sum_by (task_weight lines) tasks < sum_by (task_weight lines) (task.Line id ∷ tasks)
  lighter_line id tasks = let whole = sum_by-cons (task_weight lines) (task.Line id) tasks in omega (arith, whole)

  pub lighter_new : (id : TreeId) (line : Line) (tasks : List Task) → ChildrenFirst lines → slice_get lines id.0 ≡ Some line
      → sum_by (task_weight lines) (map task.Tree (children_of line) ++ task.Line id ∷ tasks) < sum_by (task_weight lines) (task.Tree id ∷ tasks)
  lighter_new id line tasks first at =
      let whole = weight_of lines id.0 line first at in
      let parts = sum_by-append (task_weight lines) (map task.Tree (children_of line)) (task.Line id ∷ tasks) in
      let last = sum_by-cons (task_weight lines) (task.Line id) tasks in
      let before = sum_by-cons (task_weight lines) (task.Tree id) tasks in
      omega (arith, whole, parts, last, before, trees_weigh lines (children_of line))
