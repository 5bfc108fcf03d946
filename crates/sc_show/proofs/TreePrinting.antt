-- A tree is printed, task by task.
use Rattle.std.proofs.Common.{◌≡◌, ℕ, ◌<◌, List, [], ◌∷◌, ◌++◌, length, map, reverse, Option, Some, None, slice_get, All, refl, sym, ap, subst, ◌∙◌, arith}
use Rattle.std.specs.List.{Contains}
use Rattle.std.specs.Option.{option_to_list}
use Rattle.std.proofs.lemmas.List.{reverse-append}
use Rattle.std.proofs.lemmas.List.Elements.{All-nil, All-cons, All-head, All-tail, All-append}
use Rattle.std.proofs.lemmas.Option.{slice_get_within}
use Rattle.sc_base.specs.declared.id.Cond.{Cond}
use Rattle.sc_base.specs.declared.id.TreeId.{TreeId}
use Rattle.sc_model.specs.Sets.{Sets, IsCond, Keeps}
use Rattle.sc_model.specs.Space.{Space}
use Rattle.sc_text.proofs.ListLemmas.{All-one}
use Rattle.sc_tree.specs.Lines.{Line, children_of, branches_of, ChildrenFirst, OwnsBranches}
use Rattle.sc_show.specs.declared.printer.Printer.{Printer}
use Rattle.sc_show.specs.declared.tree.Task.{Task}
use Rattle.sc_show.specs.declared.tree.Task.TheVariants as task
use Rattle.sc_show.specs.Prints.{IsTable}
use Rattle.sc_show.specs.TreeRules.{LaidOutTree, PrintedTree, IsReady}
use Rattle.sc_show.specs.TreeShows.{FinishesIn, nowhere_in, AreShowableLeaves}
use Rattle.sc_show.proofs.TreeLines.{LaidOutTree-nothing, LaidOutTree-trans}
use Rattle.sc_show.proofs.TreeTasks.{Completes, AreReady, task_id, completes_known, completes_new, ready_known, ready_new, ready_line, below_printed}

-- what comes of a task that is taken
pub taken : (tasks others : List Task) (one is : Task) → tasks ≡ others ++ one ∷ [] → one ≡ is → reverse tasks ≡ is ∷ reverse others
taken tasks others one is last same = ap reverse last ∙ reverse-append others (one ∷ []) ∙ ap (λ t. t ∷ reverse others) same

-- these tasks are left, the next one first
pub record Underway (space : Space) (old new : Sets) (names files : List (List ℕ)) (store : List Line) (p q : Printer) (root : TreeId) (tasks : List Task) : Type 0 where
  pub trees : List (TreeId × Line)
  pub laid : LaidOutTree space old new names files p q trees
  pub of_store : All (λ (tree : TreeId × Line). slice_get store tree.0.0 ≡ Some tree.1) trees
  pub goes : (now : List TreeId) → Completes store q.trees.keys tasks now → FinishesIn store p.trees.keys (root ∷ []) now
  pub ready : AreReady store q.trees.keys [] tasks
  pub within : All (λ (t : Task). (task_id t).0 < length store) tasks

pub underway_first : {space : Space} {s : Sets} {names files : List (List ℕ)} {store : List Line} {p : Printer} (root : TreeId) → IsTable s p.conditions.keys → root.0 < length store
    → Underway space s s names files store p p root (task.Tree root ∷ [])
underway_first {space} {s} {names} {files} {store} {p} root table within = record {
  trees = [];
  laid = LaidOutTree-nothing table;
  of_store = All-nil (λ (tree : TreeId × Line). slice_get store tree.0.0 ≡ Some tree.1);
  goes = λ now (after, (first, same)). subst (FinishesIn store p.trees.keys (root ∷ [])) (sym same) first;
  ready = tt;
  within = All-one (λ (t : Task). (task_id t).0 < length store) (task.Tree root) within;
}

module _ {space : Space} {old mid : Sets} {names files : List (List ℕ)} {store : List Line} {p q : Printer} {root : TreeId} (id : TreeId) (tasks : List Task) where
  pub task_within : {one : Task} → Underway space old mid names files store p q root (one ∷ tasks) → (task_id one).0 < length store
  task_within {one} was = All-head (λ (t : Task). (task_id t).0 < length store) one tasks was.within

  pub underway_known : Contains q.trees.keys id → Underway space old mid names files store p q root (task.Tree id ∷ tasks) → Underway space old mid names files store p q root tasks
  underway_known has was = record {
    trees = was.trees;
    laid = was.laid;
    of_store = was.of_store;
    goes = λ now rest. was.goes now (completes_known store now id tasks has rest);
    ready = ready_known store q.trees.keys id tasks has was.ready;
    within = All-tail (λ (t : Task). (task_id t).0 < length store) (task.Tree id) tasks was.within;
  }

  pub underway_new : (line : Line) → ChildrenFirst store → slice_get store id.0 ≡ Some line → (Contains q.trees.keys id → ⊥) → Underway space old mid names files store p q root (task.Tree id ∷ tasks)
      → Underway space old mid names files store p q root (map task.Tree (children_of line) ++ task.Line id ∷ tasks)
  underway_new line first at fresh was = record {
    trees = was.trees;
    laid = was.laid;
    of_store = was.of_store;
    goes = λ now rest. was.goes now (completes_new store now id line tasks fresh at rest);
    ready = ready_new store q.trees.keys id line tasks first at fresh was.ready;
    within = All-append P (map task.Tree (children_of line)) (task.Line id ∷ tasks) (below (children_of line) (first.each id.0 line at))
        (All-cons P (task.Line id) tasks here (All-tail P (task.Tree id) tasks was.within));
  }
    where
      P : Task → Type 0
      P t = (task_id t).0 < length store

      here : id.0 < length store
      here = slice_get_within store id.0 line at

      below : (ids : List TreeId) → All (λ (child : TreeId). child.0 < id.0) ids → All P (map task.Tree ids)
      below [] lower = All-nil P
      below (x ∷ xs) lower =
          let less = All-head (λ (child : TreeId). child.0 < id.0) x xs lower in
          let so : x.0 < length store = omega (arith, less, here) in
          All-cons P (task.Tree x) (map task.Tree xs) so (below xs (All-tail (λ (child : TreeId). child.0 < id.0) x xs lower))

  pub line_ready : (line : Line) → AreShowableLeaves names files store → OwnsBranches mid store → slice_get store id.0 ≡ Some line → Underway space old mid names files store p q root (task.Line id ∷ tasks)
      → IsReady mid names files q.trees.keys line
  line_ready line leaves owns at was = record {
    held = λ place spelling is. leaves.each id.0 place spelling (at ∙ ap Some is);
    below = below_printed store q.trees.keys id line tasks at was.ready;
    own = λ branches is. subst (λ (l : Line). All (λ branch. IsCond mid branch.0.0) (branches_of l)) is (owns.each id.0 line at);
  }

  pub line_fresh : Underway space old mid names files store p q root (task.Line id ∷ tasks) → Contains q.trees.keys id → ⊥
  line_fresh was = was.ready.0.fresh

  pub underway_line : {new : Sets} {r : Printer} (line : Line) → Keeps mid new → slice_get store id.0 ≡ Some line → LaidOutTree space mid new names files q r ((id, line) ∷ [])
      → Underway space old mid names files store p q root (task.Line id ∷ tasks) → Underway space old new names files store p r root tasks
  underway_line {new} {r} line keeps at one was = record {
    trees = was.trees ++ (id, line) ∷ [];
    laid = LaidOutTree-trans keeps was.laid one;
    of_store = All-append (λ (tree : TreeId × Line). slice_get store tree.0.0 ≡ Some tree.1) was.trees ((id, line) ∷ []) was.of_store
        (All-one (λ (tree : TreeId × Line). slice_get store tree.0.0 ≡ Some tree.1) (id, line) at);
    goes = λ now rest. was.goes now (subst (λ ks. Completes store ks tasks now) one.keys rest);
    ready = subst (λ ks. AreReady store ks [] tasks) (sym one.keys) (ready_line store q.trees.keys id tasks was.ready);
    within = All-tail (λ (t : Task). (task_id t).0 < length store) (task.Line id) tasks was.within;
  }

pub underway_done : {space : Space} {old new : Sets} {names files : List (List ℕ)} {store : List Line} {p q : Printer} (root : TreeId) (tasks : List Task) → length tasks ≡ 0
    → Underway space old new names files store p q root (reverse tasks) → PrintedTree space old new names files store p q (root ∷ [])
underway_done root (task ∷ tasks) none was = absurd (omega (arith, none))
underway_done {q = q} root [] none was = record { trees = was.trees; laid = was.laid; of_store = was.of_store; finished = was.goes q.trees.keys refl }

-- no tree is printed
pub printed_nothing : {space : Space} {s : Sets} {names files : List (List ℕ)} {store : List Line} {p : Printer} (root : Option TreeId) → root ≡ None → IsTable s p.conditions.keys
    → PrintedTree space s s names files store p p (option_to_list root)
printed_nothing {space} {s} {names} {files} {store} {p} root none table = subst (λ (r : Option TreeId). PrintedTree space s s names files store p p (option_to_list r)) (sym none) (record {
  trees = [];
  laid = LaidOutTree-nothing table;
  of_store = All-nil (λ (tree : TreeId × Line). slice_get store tree.0.0 ≡ Some tree.1);
  finished = nowhere_in p.trees.keys;
})

pub all_branches : (P : TreeId → Type 0) (branches : List (Cond × TreeId)) → All P (map (λ (branch : Cond × TreeId). branch.1) branches) → All (λ (branch : Cond × TreeId). P branch.1) branches
all_branches P [] all = All-nil (λ (branch : Cond × TreeId). P branch.1)
all_branches P (branch ∷ branches) all =
    All-cons (λ (branch : Cond × TreeId). P branch.1) branch branches (All-head P branch.1 (map (λ (branch : Cond × TreeId). branch.1) branches) all)
    (all_branches P branches (All-tail P branch.1 (map (λ (branch : Cond × TreeId). branch.1) branches) all))
