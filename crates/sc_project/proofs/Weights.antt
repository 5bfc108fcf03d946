-- How many tasks are left, at most: a tree counts once for each place where it occurs.
use Rattle.std.proofs.Common.{◌≡◌, ℕ, zero, suc, ◌+◌, ◌<◌, ◌≤◌, Bool, true, false, List, [], ◌∷◌, ◌++◌, map, reverse, Option, Some, None, slice_get, get_or, All, if◌then◌else◌, refl, ap, ◌∙◌, arith}
use Rattle.std.specs.List.{sum_by}
use Rattle.std.proofs.lemmas.List.{reverse-append}
use Rattle.std.proofs.lemmas.List.Elements.{All-head, All-tail}
use Rattle.std.proofs.lemmas.List.Sums.{sum_by-append, sum_by-cons}
use Rattle.sc_base.specs.declared.id.Cond.{Cond}
use Rattle.sc_base.specs.declared.id.TreeId.{TreeId}
use Rattle.sc_guarded.specs.Items.{items_at}
use Rattle.sc_model.specs.Sets.{Sets}
use Rattle.sc_tree.specs.Lines.{Line, node, choice, children_of, ChildrenFirst}
use Rattle.sc_project.specs.declared.tree.Task.{Task}
use Rattle.sc_project.specs.declared.tree.Task.TheVariants.{Tree, Node}

abbrev pub children_at : Option Line → List TreeId
children_at None = []
children_at (Some line) = children_of line

-- how many tasks come of a tree, followed down to a depth
abbrev pub weight_down : List Line → ℕ → ℕ → ℕ
weight_down lines zero id = 0
weight_down lines (suc depth) id = 2 + sum_by (λ (child : TreeId). weight_down lines depth child.0) (children_at (slice_get lines id))

-- no tree is deeper than its id
unfoldable pub weight : List Line → ℕ → ℕ
weight lines id = weight_down lines (suc id) id

abbrev pub task_weight : List Line → Task → ℕ
task_weight lines (Tree id) = weight lines id.0
task_weight lines (Node production first) = 1

sums_agree : (f g : TreeId → ℕ) (xs : List TreeId) → All (λ (x : TreeId). f x ≡ g x) xs → sum_by f xs ≡ sum_by g xs
sums_agree f g [] same = refl
sums_agree f g (x ∷ xs) same =
    let first : f x ≡ g x = All-head (λ (y : TreeId). f y ≡ g y) x xs same in
    let rest : sum_by f xs ≡ sum_by g xs = sums_agree f g xs (All-tail (λ (y : TreeId). f y ≡ g y) x xs same) in
    omega (arith, sum_by-cons f x xs, sum_by-cons g x xs)

children_below : (lines : List Line) (id : ℕ) (found : Option Line) → ChildrenFirst lines → slice_get lines id ≡ found
    → All (λ (child : TreeId). child.0 < id) (children_at found)
children_below lines id None first at = λ k d h. absurd (omega (arith, h))
children_below lines id (Some line) first at = first.each id line at

depths_agree : (lines : List Line) → ChildrenFirst lines → (n m id : ℕ) → id < n → id < m → weight_down lines n id ≡ weight_down lines m id
depths_agree lines first zero m id a b = absurd (omega arith)
depths_agree lines first (suc n) zero id a b = absurd (omega arith)
depths_agree lines first (suc n) (suc m) id a b =
    let below : All (λ (child : TreeId). child.0 < id) (children_at (slice_get lines id)) = children_below lines id (slice_get lines id) first refl in
    ap (λ s. 2 + s) (sums_agree (λ (child : TreeId). weight_down lines n child.0) (λ (child : TreeId). weight_down lines m child.0) (children_at (slice_get lines id))
    (λ k d h. let lower = below k d h in depths_agree lines first n m _ (omega (arith, lower)) (omega (arith, lower))))

pub weight_of : (lines : List Line) (id : ℕ) (line : Line) → ChildrenFirst lines → slice_get lines id ≡ Some line
    → weight lines id ≡ 2 + sum_by (λ (child : TreeId). weight lines child.0) (children_of line)
unfolding weight
weight_of lines id line first at =
    let below : All (λ (child : TreeId). child.0 < id) (children_of line) = first.each id line at in
    let opened : weight_down lines (suc id) id ≡ 2 + sum_by (λ (child : TreeId). weight_down lines id child.0) (children_of line)
    = ap (λ (found : Option Line). 2 + sum_by (λ (child : TreeId). weight_down lines id child.0) (children_at found)) at in
    opened ∙ ap (λ s. 2 + s) (sums_agree (λ (child : TreeId). weight_down lines id child.0) (λ (child : TreeId). weight_down lines (suc child.0) child.0) (children_of line)
    (λ k d h. depths_agree lines first id (suc (get_or (children_of line) k d).0) (get_or (children_of line) k d).0 (below k d h) (omega arith)))

-- ---- each step takes from the weight

pub weight_leaf : (lines : List Line) (id : ℕ) (line : Line) → ChildrenFirst lines → slice_get lines id ≡ Some line → 0 < weight lines id
weight_leaf lines id line first at = rw (weight_of lines id line first at) (omega arith)

trees_weigh : (lines : List Line) (children : List TreeId) → sum_by (task_weight lines) (map Tree children) ≡ sum_by (λ (child : TreeId). weight lines child.0) children
trees_weigh lines [] = refl
trees_weigh lines (child ∷ children) =
    let one = sum_by-cons (task_weight lines) (Tree child) (map Tree children) in
    let same = sum_by-cons (λ (x : TreeId). weight lines x.0) child children in
    omega (arith, one, same, trees_weigh lines children)

pub weight_node : (lines : List Line) (id production first : ℕ) (children : List TreeId) (tasks : List Task) → ChildrenFirst lines
    → slice_get lines id ≡ Some (node production children)
    → sum_by (task_weight lines) (map Tree children ++ Node production first ∷ tasks) < weight lines id + sum_by (task_weight lines) tasks
weight_node lines id production first children tasks is_first at =
    let whole = weight_of lines id (node production children) is_first at in
    let parts = sum_by-append (task_weight lines) (map Tree children) (Node production first ∷ tasks) in
    let last = sum_by-cons (task_weight lines) (Node production first) tasks in
    omega (arith, whole, parts, last, trees_weigh lines children)

chosen_weighs : (f : TreeId → ℕ) (sets : Sets) (c : List ℕ) (branches : List (Cond × TreeId))
    → sum_by f (items_at sets branches c) ≤ sum_by f (map (λ (branch : Cond × TreeId). branch.1) branches)
chosen_weighs f sets c [] = omega arith
chosen_weighs f sets c (branch ∷ branches) =
    let rest = chosen_weighs f sets c branches in
    by (sets.has branch.0.0 c) rest
  where
    by : (b : Bool) → sum_by f (items_at sets branches c) ≤ sum_by f (map (λ (branch : Cond × TreeId). branch.1) branches)
        → sum_by f (if b then branch.1 ∷ items_at sets branches c else items_at sets branches c) ≤ sum_by f (branch.1 ∷ map (λ (branch : Cond × TreeId). branch.1) branches)
    by true rest = omega (arith, sum_by-cons f branch.1 (items_at sets branches c), sum_by-cons f branch.1 (map (λ (branch : Cond × TreeId). branch.1) branches))
    by false rest = omega (arith, sum_by-cons f branch.1 (map (λ (branch : Cond × TreeId). branch.1) branches))

pub weight_choice : (lines : List Line) (sets : Sets) (c : List ℕ) (id : ℕ) (child : TreeId) (branches : List (Cond × TreeId)) → ChildrenFirst lines
    → slice_get lines id ≡ Some (choice branches) → items_at sets branches c ≡ child ∷ [] → weight lines child.0 < weight lines id
weight_choice lines sets c id child branches first at one =
    let whole = weight_of lines id (choice branches) first at in
    let most = chosen_weighs (λ (x : TreeId). weight lines x.0) sets c branches in
    let is = ap (sum_by (λ (x : TreeId). weight lines x.0)) one in
    omega (arith, whole, most, is, sum_by-cons (λ (x : TreeId). weight lines x.0) child [])

-- ---- the tasks that are left after a step, of which the last comes first

weight_taken : (lines : List Line) (tasks others : List Task) (task : Task) → tasks ≡ others ++ task ∷ []
    → sum_by (task_weight lines) (reverse tasks) ≡ task_weight lines task + sum_by (task_weight lines) (reverse others)
weight_taken lines tasks others task is =
    ap (λ (ts : List Task). sum_by (task_weight lines) (reverse ts)) is ∙ (ap (sum_by (task_weight lines)) (reverse-append others (task ∷ [])) ∙ sum_by-cons (task_weight lines) task (reverse others))

module _ (lines : List Line) where
  pub smaller_leaf : (id : TreeId) (line : Line) (tasks others : List Task) → ChildrenFirst lines → tasks ≡ others ++ Tree id ∷ [] → slice_get lines id.0 ≡ Some line
      → sum_by (task_weight lines) (reverse others) < sum_by (task_weight lines) (reverse tasks)
  smaller_leaf id line tasks others first is at = omega (arith, weight_taken lines tasks others (Tree id) is, weight_leaf lines id.0 line first at)

  pub smaller_made : (production first : ℕ) (tasks others : List Task) → tasks ≡ others ++ Node production first ∷ []
      → sum_by (task_weight lines) (reverse others) < sum_by (task_weight lines) (reverse tasks)
  smaller_made production first tasks others is = omega (arith, weight_taken lines tasks others (Node production first) is)

  pub smaller_node : (id : TreeId) (production first : ℕ) (children : List TreeId) (tasks others after : List Task) → ChildrenFirst lines → tasks ≡ others ++ Tree id ∷ []
      → slice_get lines id.0 ≡ Some (node production children) → reverse after ≡ map Tree children ++ Node production first ∷ reverse others
      → sum_by (task_weight lines) (reverse after) < sum_by (task_weight lines) (reverse tasks)
  smaller_node id production first children tasks others after is_first is at turned =
      omega (arith, weight_taken lines tasks others (Tree id) is, ap (sum_by (task_weight lines)) turned, weight_node lines id.0 production first children (reverse others) is_first at)

  pub smaller_choice : (sets : Sets) (c : List ℕ) (id child : TreeId) (branches : List (Cond × TreeId)) (tasks others after : List Task) → ChildrenFirst lines
      → tasks ≡ others ++ Tree id ∷ [] → slice_get lines id.0 ≡ Some (choice branches) → items_at sets branches c ≡ child ∷ [] → after ≡ others ++ Tree child ∷ []
      → sum_by (task_weight lines) (reverse after) < sum_by (task_weight lines) (reverse tasks)
  smaller_choice sets c id child branches tasks others after first is at one adds =
      omega (arith, weight_taken lines tasks others (Tree id) is, weight_taken lines after others (Tree child) adds, weight_choice lines sets c id.0 child branches first at one)
