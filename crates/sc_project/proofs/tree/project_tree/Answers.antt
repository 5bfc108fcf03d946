use Rattle.std.proofs.Common.{◌≡◌, ◌≤◌, [], ◌∷◌, ◌++◌, length, drop, reverse, map, zero-add, refl, sym, ◌∙◌, ap, subst, arith, rules}
use Rattle.std.proofs.lemmas.List.{take_rest}
use Rattle.sc_tree.specs.Lines.{node}
use Rattle.sc_project.specs.Layout.{LaysOut}
use Rattle.sc_project.specs.declared.tree.Task.TheVariants.{Tree, Node}
use Rattle.sc_project.proofs.Laying.{root_is_last, has_no_choice, Stand-whole, reads_again}
use Rattle.sc_project.proofs.Pending.{taken, node_pushed, root_read, underway_first, underway_leaf, underway_node, underway_choice, underway_made, underway_within, underway_chosen, underway_first_root, IsLaid, laid_at_end}
use Rattle.sc_project.proofs.Weights.{smaller_leaf, smaller_node, smaller_choice, smaller_made}
use Rattle.sc_project.proofs.tree.project_tree.Goals as goal

pub loop-task-init : goal.loop-task-init
loop-task-init g c =
    underway_first (g.C.Conditions.sets c.args.conds.now) c.args.trees.now c.args.config.now c.args.root.0 c.args.root c.push.new.self.items c.new-roots.result.items c.new-laid.result 0
    refl c.requires.tree (c.in_ok-push.ensures.items ∙ ap (λ xs. xs ++ Tree c.args.root ∷ []) c.new-tasks.ensures.items) c.new-roots.ensures.items c.new-laid.ensures refl

pub read-requires : goal.read-requires
read-requires g c =
    underway_within (g.C.Conditions.sets c.args.conds.now) c.args.trees.now c.args.config.now c.args.root.0 c.loop-task.tasks.items c.pop.new.self.items c.pop.new.self.items
    c.loop-task.roots.items c.loop-task.laid c.loop-task.count c.in-Tree.id c.loop-task.invariant (taken c.loop-task.tasks.items c.pop.new.self.items c.in-Some.task (Tree c.in-Tree.id) c.in-Some.ensures.items c.in-Tree.is)

pub loop-task-smaller-in-Leaf : goal.loop-task-smaller-in-Leaf
loop-task-smaller-in-Leaf g c =
    smaller_leaf c.args.trees.now c.in-Tree.id _ c.loop-task.tasks.items c.pop.new.self.items c.children_first.ensures (taken c.loop-task.tasks.items c.pop.new.self.items c.in-Some.task (Tree c.in-Tree.id) c.in-Some.ensures.items c.in-Tree.is) c.in-Leaf.ensures

pub loop-task-preserved-in-Leaf : goal.loop-task-preserved-in-Leaf
loop-task-preserved-in-Leaf g c =
    underway_leaf (g.C.Conditions.sets c.args.conds.now) c.args.trees.now c.args.config.now c.args.root.0 c.loop-task.tasks.items c.pop.new.self.items
    c.loop-task.roots.items c.push-in-Leaf.new.self.items c.loop-task.laid c.leaf.new.self c.loop-task.count c.in_ok-count-in-Leaf.count
    c.in-Tree.id c.in-Leaf.place c.in-Leaf.spelling c.loop-task.invariant (taken c.loop-task.tasks.items c.pop.new.self.items c.in-Some.task (Tree c.in-Tree.id) c.in-Some.ensures.items c.in-Tree.is) c.in-Leaf.ensures
    c.in_ok-leaf-in-Leaf.ensures.adds c.in_ok-push-in-Leaf.ensures.items c.in_ok-count-in-Leaf.ensures

pub loop-task-smaller-in-Continue-branch-6 : goal.loop-task-smaller-in-Continue-branch-6
loop-task-smaller-in-Continue-branch-6 g c =
    let last : reverse c.push-in-Node-read.new.self.items ≡ Node c.in-Node-read.production (length c.loop-task.roots.items) ∷ reverse c.pop.new.self.items
    = node_pushed c.pop.new.self.items c.push-in-Node-read.new.self.items c.in-Node-read.production c.len.result c.loop-task.roots.items c.in_ok-push-in-Node-read.ensures.items (c.len.ensures ∙ c.loop-task.roots.ok.0) in
    let turned : reverse c.push_trees.new.tasks.items ≡ map Tree c.in-Node-read.children.now ++ Node c.in-Node-read.production (length c.loop-task.roots.items) ∷ reverse c.pop.new.self.items
    = c.in_ok-push_trees-in-Node-read.ensures ∙ ap (λ ts. map Tree c.in-Node-read.children.now ++ ts) last in
    smaller_node c.args.trees.now c.in-Tree.id c.in-Node-read.production (length c.loop-task.roots.items) c.in-Node-read.children.now c.loop-task.tasks.items c.pop.new.self.items c.push_trees.new.tasks.items
    c.children_first.ensures (taken c.loop-task.tasks.items c.pop.new.self.items c.in-Some.task (Tree c.in-Tree.id) c.in-Some.ensures.items c.in-Tree.is) c.in-Node-read.ensures turned

pub loop-task-preserved-in-Continue-branch-6 : goal.loop-task-preserved-in-Continue-branch-6
loop-task-preserved-in-Continue-branch-6 g c =
    let last : reverse c.push-in-Node-read.new.self.items ≡ Node c.in-Node-read.production (length c.loop-task.roots.items) ∷ reverse c.pop.new.self.items
    = node_pushed c.pop.new.self.items c.push-in-Node-read.new.self.items c.in-Node-read.production c.len.result c.loop-task.roots.items c.in_ok-push-in-Node-read.ensures.items (c.len.ensures ∙ c.loop-task.roots.ok.0) in
    let turned : reverse c.push_trees.new.tasks.items ≡ map Tree c.in-Node-read.children.now ++ Node c.in-Node-read.production (length c.loop-task.roots.items) ∷ reverse c.pop.new.self.items
    = c.in_ok-push_trees-in-Node-read.ensures ∙ ap (λ ts. map Tree c.in-Node-read.children.now ++ ts) last in
    underway_node (g.C.Conditions.sets c.args.conds.now) c.args.trees.now c.args.config.now c.args.root.0 c.loop-task.tasks.items c.pop.new.self.items c.push_trees.new.tasks.items
    c.loop-task.roots.items c.loop-task.laid c.loop-task.count c.in-Tree.id c.loop-task.invariant (taken c.loop-task.tasks.items c.pop.new.self.items c.in-Some.task (Tree c.in-Tree.id) c.in-Some.ensures.items c.in-Tree.is)
    c.in-Node-read.production c.in-Node-read.children.now c.in-Node-read.ensures turned

pub chosen-requires-clause-own : goal.chosen-requires-clause-own
chosen-requires-clause-own g c =
    (underway_chosen (g.C.Conditions.sets c.args.conds.now) c.args.trees.now c.args.config.now c.args.root.0 c.loop-task.tasks.items c.pop.new.self.items c.pop.new.self.items
    c.loop-task.roots.items c.loop-task.laid c.loop-task.count c.in-Tree.id c.loop-task.invariant (taken c.loop-task.tasks.items c.pop.new.self.items c.in-Some.task (Tree c.in-Tree.id) c.in-Some.ensures.items c.in-Tree.is) c.in-Choice.branches.now c.in-Choice.ensures).0

pub chosen-requires-clause-one : goal.chosen-requires-clause-one
chosen-requires-clause-one g c =
    (underway_chosen (g.C.Conditions.sets c.args.conds.now) c.args.trees.now c.args.config.now c.args.root.0 c.loop-task.tasks.items c.pop.new.self.items c.pop.new.self.items
    c.loop-task.roots.items c.loop-task.laid c.loop-task.count c.in-Tree.id c.loop-task.invariant (taken c.loop-task.tasks.items c.pop.new.self.items c.in-Some.task (Tree c.in-Tree.id) c.in-Some.ensures.items c.in-Tree.is) c.in-Choice.branches.now c.in-Choice.ensures).1

pub loop-task-smaller-in-Continue-branch-7 : goal.loop-task-smaller-in-Continue-branch-7
loop-task-smaller-in-Continue-branch-7 g c =
    smaller_choice c.args.trees.now (g.C.Conditions.sets c.args.conds.now) c.args.config.now c.in-Tree.id c.chosen.result c.in-Choice.branches.now c.loop-task.tasks.items c.pop.new.self.items c.push-in-Choice.new.self.items
    c.children_first.ensures (taken c.loop-task.tasks.items c.pop.new.self.items c.in-Some.task (Tree c.in-Tree.id) c.in-Some.ensures.items c.in-Tree.is) c.in-Choice.ensures c.chosen.ensures c.in_ok-push-in-Choice.ensures.items

pub loop-task-preserved-in-Continue-branch-7 : goal.loop-task-preserved-in-Continue-branch-7
loop-task-preserved-in-Continue-branch-7 g c =
    underway_choice (g.C.Conditions.sets c.args.conds.now) c.args.trees.now c.args.config.now c.args.root.0 c.loop-task.tasks.items c.pop.new.self.items c.push-in-Choice.new.self.items
    c.loop-task.roots.items c.loop-task.laid c.loop-task.count c.in-Tree.id c.loop-task.invariant (taken c.loop-task.tasks.items c.pop.new.self.items c.in-Some.task (Tree c.in-Tree.id) c.in-Some.ensures.items c.in-Tree.is)
    c.chosen.result c.in-Choice.branches.now c.in-Choice.ensures c.chosen.ensures c.in_ok-push-in-Choice.ensures.items

-- the roots of the node's children are there
first_within : (g : _) (c : goal.After-deref g) → c.in-Node.first ≤ length c.loop-task.roots.items
first_within g c =
    underway_first_root (g.C.Conditions.sets c.args.conds.now) c.args.trees.now c.args.config.now c.args.root.0 c.loop-task.tasks.items c.pop.new.self.items
    c.loop-task.roots.items c.loop-task.laid c.loop-task.count c.in-Node.production c.in-Node.first c.loop-task.invariant
    (taken c.loop-task.tasks.items c.pop.new.self.items c.in-Some.task (Node c.in-Node.production c.in-Node.first) c.in-Some.ensures.items c.in-Node.is)

pub offset_bounds-deref-first : goal.offset_bounds-deref-first
offset_bounds-deref-first g c =
    let within : c.in-Node.first ≤ length c.deref.result.now = rw c.deref.ensures.value (first_within g c) in
    search rules

pub slice_bounds-node-count : goal.slice_bounds-node-count
slice_bounds-node-count g c = rw c.deref.ensures.value (first_within g c)

pub slice_bounds-node-start : goal.slice_bounds-node-start
slice_bounds-node-start g c =
    let within : c.in-Node.first ≤ length c.deref.result.now = rw c.deref.ensures.value (first_within g c) in
    search rules

pub loop-task-preserved : goal.loop-task-preserved
loop-task-preserved g c =
    underway_made (g.C.Conditions.sets c.args.conds.now) c.args.trees.now c.args.config.now c.args.root.0 c.loop-task.tasks.items c.pop.new.self.items
    c.loop-task.roots.items c.push-in-Node.new.self.items c.loop-task.laid c.node.new.self c.loop-task.count c.in_ok-count-in-Node.count
    c.in-Node.production c.in-Node.first c.loop-task.invariant (taken c.loop-task.tasks.items c.pop.new.self.items c.in-Some.task (Node c.in-Node.production c.in-Node.first) c.in-Some.ensures.items c.in-Node.is)
    (c.in_ok-node-in-Node.ensures.adds ∙ ap (λ xs. c.loop-task.laid ++ node c.in-Node.production xs ∷ []) (take_rest c.deref.result.now c.in-Node.first ∙ ap (drop c.in-Node.first) c.deref.ensures.value))
    (c.in_ok-push-in-Node.ensures.items ∙ ap (λ xs. xs ++ record { 0 = c.loop-task.count } ∷ []) c.truncate.ensures.items) c.in_ok-count-in-Node.ensures

pub loop-task-smaller : goal.loop-task-smaller
loop-task-smaller g c =
    smaller_made c.args.trees.now c.in-Node.production c.in-Node.first c.loop-task.tasks.items c.pop.new.self.items
    (taken c.loop-task.tasks.items c.pop.new.self.items c.in-Some.task (Node c.in-Node.production c.in-Node.first) c.in-Some.ensures.items c.in-Node.is)

pub index-requires : goal.index-requires
index-requires g c =
    let one = ap length (laid_at_end (g.C.Conditions.sets c.args.conds.now) c.args.trees.now c.args.config.now c.args.root.0 c.loop-task.tasks.items c.loop-task.roots.items c.loop-task.laid c.loop-task.count c.loop-task.invariant (sym c.loop-task.tasks.ok.0 ∙ c.in_default.ensures.cases.0)).one in
    omega (arith, one, c.loop-task.roots.ok.0)

pub returns-clause-laid : goal.returns-clause-laid
returns-clause-laid g c =
    let end : IsLaid (g.C.Conditions.sets c.args.conds.now) c.args.trees.now c.args.config.now c.args.root.0 c.loop-task.roots.items c.loop-task.laid = laid_at_end (g.C.Conditions.sets c.args.conds.now) c.args.trees.now c.args.config.now c.args.root.0 c.loop-task.tasks.items c.loop-task.roots.items c.loop-task.laid c.loop-task.count c.loop-task.invariant (sym c.loop-task.tasks.ok.0 ∙ c.in_default.ensures.cases.0) in
    let root : end.final ≡ c.index.result.now.0 = root_read c.loop-task.roots.items end.final c.index.result.now end.one c.index.ensures in
    let out : LaysOut (g.C.Conditions.sets c.args.conds.now) c.args.trees.now c.args.config.now c.args.root.0 0 c.loop-task.laid c.index.result.now.0 = subst (LaysOut (g.C.Conditions.sets c.args.conds.now) c.args.trees.now c.args.config.now c.args.root.0 0 c.loop-task.laid) root end.out in
    out

pub returns-clause-last : goal.returns-clause-last
returns-clause-last g c =
    let end : IsLaid (g.C.Conditions.sets c.args.conds.now) c.args.trees.now c.args.config.now c.args.root.0 c.loop-task.roots.items c.loop-task.laid = laid_at_end (g.C.Conditions.sets c.args.conds.now) c.args.trees.now c.args.config.now c.args.root.0 c.loop-task.tasks.items c.loop-task.roots.items c.loop-task.laid c.loop-task.count c.loop-task.invariant (sym c.loop-task.tasks.ok.0 ∙ c.in_default.ensures.cases.0) in
    let root : end.final ≡ c.index.result.now.0 = root_read c.loop-task.roots.items end.final c.index.result.now end.one c.index.ensures in
    let out : LaysOut (g.C.Conditions.sets c.args.conds.now) c.args.trees.now c.args.config.now c.args.root.0 0 c.loop-task.laid c.index.result.now.0 = subst (LaysOut (g.C.Conditions.sets c.args.conds.now) c.args.trees.now c.args.config.now c.args.root.0 0 c.loop-task.laid) root end.out in
    root_is_last (g.C.Conditions.sets c.args.conds.now) c.args.trees.now c.args.config.now c.args.root.0 0 c.index.result.now.0 c.loop-task.laid out ∙ zero-add (length c.loop-task.laid)

pub returns-clause-plain : goal.returns-clause-plain
returns-clause-plain g c =
    let end : IsLaid (g.C.Conditions.sets c.args.conds.now) c.args.trees.now c.args.config.now c.args.root.0 c.loop-task.roots.items c.loop-task.laid = laid_at_end (g.C.Conditions.sets c.args.conds.now) c.args.trees.now c.args.config.now c.args.root.0 c.loop-task.tasks.items c.loop-task.roots.items c.loop-task.laid c.loop-task.count c.loop-task.invariant (sym c.loop-task.tasks.ok.0 ∙ c.in_default.ensures.cases.0) in
    let root : end.final ≡ c.index.result.now.0 = root_read c.loop-task.roots.items end.final c.index.result.now end.one c.index.ensures in
    let out : LaysOut (g.C.Conditions.sets c.args.conds.now) c.args.trees.now c.args.config.now c.args.root.0 0 c.loop-task.laid c.index.result.now.0 = subst (LaysOut (g.C.Conditions.sets c.args.conds.now) c.args.trees.now c.args.config.now c.args.root.0 0 c.loop-task.laid) root end.out in
    has_no_choice (g.C.Conditions.sets c.args.conds.now) c.args.trees.now c.args.config.now c.args.root.0 0 c.index.result.now.0 c.loop-task.laid out

pub returns-clause-reads : goal.returns-clause-reads
returns-clause-reads g c =
    let end : IsLaid (g.C.Conditions.sets c.args.conds.now) c.args.trees.now c.args.config.now c.args.root.0 c.loop-task.roots.items c.loop-task.laid = laid_at_end (g.C.Conditions.sets c.args.conds.now) c.args.trees.now c.args.config.now c.args.root.0 c.loop-task.tasks.items c.loop-task.roots.items c.loop-task.laid c.loop-task.count c.loop-task.invariant (sym c.loop-task.tasks.ok.0 ∙ c.in_default.ensures.cases.0) in
    let root : end.final ≡ c.index.result.now.0 = root_read c.loop-task.roots.items end.final c.index.result.now end.one c.index.ensures in
    let out : LaysOut (g.C.Conditions.sets c.args.conds.now) c.args.trees.now c.args.config.now c.args.root.0 0 c.loop-task.laid c.index.result.now.0 = subst (LaysOut (g.C.Conditions.sets c.args.conds.now) c.args.trees.now c.args.config.now c.args.root.0 0 c.loop-task.laid) root end.out in
    λ sets names files d tree read.
    reads_again (record { sets = g.C.Conditions.sets c.args.conds.now; names = names; files = files; lines = c.args.trees.now }) (record { sets = sets; names = names; files = files; lines = c.loop-task.laid })
    c.args.config.now d refl refl c.args.root.0 0 c.index.result.now.0 c.loop-task.laid tree read out (Stand-whole c.loop-task.laid)
