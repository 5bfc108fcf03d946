use Rattle.std.proofs.Common.{◌++◌, ◌∷◌, ◌<◌, List, map, reverse, refl, sym, subst, ap, ◌∙◌}
use Rattle.std.specs.List.{sum_by}
use Rattle.std.proofs.lemmas.Bool.{true≢false}
use Rattle.sc_model.proofs.SetLemmas.{Keeps-refl, Keeps-trans}
use Rattle.sc_space.specs.Seen.{seen_space}
use Rattle.sc_tree.specs.Lines.{children_of}
use Rattle.sc_tree.specs.Views.{line_seen}
use Rattle.sc_show.specs.declared.tree.Task.{Task}
use Rattle.sc_show.specs.declared.tree.Task.TheVariants as task
use Rattle.sc_show.proofs.TreePrinting.{Underway, taken, underway_first, task_within, underway_known, underway_new, underway_line, underway_done, line_ready, line_fresh}
use Rattle.sc_show.proofs.TreeWeights.{task_weight, lighter_known, lighter_new, lighter_line}
use Rattle.sc_show.proofs.tree.print_tree.Goals as goal

pub loop-task-init : goal.loop-task-init
loop-task-init g c = record {
  keeps = Keeps-refl _;
  printed = subst (λ (ts : List Task). Underway (seen_space c.args.space.now) (g.C.Conditions.sets c.args.conds.now) (g.C.Conditions.sets c.args.conds.now) c.args.names.now c.args.files.now c.args.trees.now c.args.printer.now c.args.printer.now c.args.root (reverse ts))
      (sym c.in_ok-tasks.ensures.items) (underway_first c.args.root c.requires.table c.requires.root);
}

pub read-requires : goal.read-requires
read-requires g c =
    let next = taken c.loop-task.tasks.items c.pop.new.self.items c.in-Some.task (task.Tree c.in-Tree.id) c.in-Some.ensures.items c.in-Tree.is in
    task_within c.in-Tree.id (reverse c.pop.new.self.items) (subst (Underway _ _ _ _ _ _ _ _ _) next c.loop-task.invariant.printed)

pub loop-task-smaller-in-Continue-branch-3 : goal.loop-task-smaller-in-Continue-branch-3
loop-task-smaller-in-Continue-branch-3 g c =
    let next = taken c.loop-task.tasks.items c.pop.new.self.items c.in-Some.task (task.Tree c.in-Tree.id) c.in-Some.ensures.items c.in-Tree.is in
    let last = taken c.push.new.self.items c.pop.new.self.items (task.Line c.in-Tree.id) (task.Line c.in-Tree.id) c.in_ok-push-in-Tree.ensures.items refl in
    let turned = c.in_ok-push_children-in-Tree.ensures ∙ ap (λ (ts : List Task). map task.Tree (children_of (line_seen c.read.result)) ++ ts) last in
    let less = lighter_new c.args.trees.now c.in-Tree.id (line_seen c.read.result) (reverse c.pop.new.self.items) c.children_first.ensures c.read.ensures in
    subst (λ (ts : List Task). sum_by (task_weight c.args.trees.now) (reverse c.push_children.new.tasks.items) < sum_by (task_weight c.args.trees.now) ts) (sym next)
    (subst (λ (ts : List Task). sum_by (task_weight c.args.trees.now) ts < sum_by (task_weight c.args.trees.now) (task.Tree c.in-Tree.id ∷ reverse c.pop.new.self.items)) (sym turned) less)

pub loop-task-preserved-in-Continue-branch-3 : goal.loop-task-preserved-in-Continue-branch-3
loop-task-preserved-in-Continue-branch-3 g c =
    let next = taken c.loop-task.tasks.items c.pop.new.self.items c.in-Some.task (task.Tree c.in-Tree.id) c.in-Some.ensures.items c.in-Tree.is in
    let last = taken c.push.new.self.items c.pop.new.self.items (task.Line c.in-Tree.id) (task.Line c.in-Tree.id) c.in_ok-push-in-Tree.ensures.items refl in
    let turned = c.in_ok-push_children-in-Tree.ensures ∙ ap (λ (ts : List Task). map task.Tree (children_of (line_seen c.read.result)) ++ ts) last in
    record {
      keeps = c.loop-task.invariant.keeps;
      printed = subst (Underway _ _ _ _ _ _ _ _ _) (sym turned)
          (underway_new c.in-Tree.id (reverse c.pop.new.self.items) (line_seen c.read.result) c.children_first.ensures c.read.ensures (λ has. true≢false (sym (c.is_printed.ensures.1 has) ∙ c.if-not-is_printed.true))
          (subst (Underway _ _ _ _ _ _ _ _ _) next c.loop-task.invariant.printed));
    }

pub loop-task-smaller-else-not-is_printed : goal.loop-task-smaller-else-not-is_printed
loop-task-smaller-else-not-is_printed g c =
    let next = taken c.loop-task.tasks.items c.pop.new.self.items c.in-Some.task (task.Tree c.in-Tree.id) c.in-Some.ensures.items c.in-Tree.is in
    subst (λ (ts : List Task). sum_by (task_weight c.args.trees.now) (reverse c.pop.new.self.items) < sum_by (task_weight c.args.trees.now) ts) (sym next)
    (lighter_known c.args.trees.now c.in-Tree.id (reverse c.pop.new.self.items))

pub loop-task-preserved-else-not-is_printed : goal.loop-task-preserved-else-not-is_printed
loop-task-preserved-else-not-is_printed g c =
    let next = taken c.loop-task.tasks.items c.pop.new.self.items c.in-Some.task (task.Tree c.in-Tree.id) c.in-Some.ensures.items c.in-Tree.is in
    record {
      keeps = c.loop-task.invariant.keeps;
      printed = underway_known c.in-Tree.id (reverse c.pop.new.self.items) (c.is_printed.ensures.0 c.if-not-is_printed.false)
          (subst (Underway _ _ _ _ _ _ _ _ _) next c.loop-task.invariant.printed);
    }

pub read-requires-in-Line : goal.read-requires-in-Line
read-requires-in-Line g c =
    let next = taken c.loop-task.tasks.items c.pop.new.self.items c.in-Some.task (task.Line c.in-Line.id) c.in-Some.ensures.items c.in-Line.is in
    task_within c.in-Line.id (reverse c.pop.new.self.items) (subst (Underway _ _ _ _ _ _ _ _ _) next c.loop-task.invariant.printed)

pub print_line-requires-clause-ready : goal.print_line-requires-clause-ready
print_line-requires-clause-ready g c =
    let next = taken c.loop-task.tasks.items c.pop.new.self.items c.in-Some.task (task.Line c.in-Line.id) c.in-Some.ensures.items c.in-Line.is in
    line_ready c.in-Line.id (reverse c.pop.new.self.items) (line_seen c.read-in-Line.result) c.requires.leaves (record { each = λ i line at k d h. c.loop-task.invariant.keeps.own _ (c.requires.branches.each i line at k d h) }) c.read-in-Line.ensures
    (subst (Underway _ _ _ _ _ _ _ _ _) next c.loop-task.invariant.printed)

pub print_line-requires-clause-fresh : goal.print_line-requires-clause-fresh
print_line-requires-clause-fresh g c =
    let next = taken c.loop-task.tasks.items c.pop.new.self.items c.in-Some.task (task.Line c.in-Line.id) c.in-Some.ensures.items c.in-Line.is in
    line_fresh c.in-Line.id (reverse c.pop.new.self.items) (subst (Underway _ _ _ _ _ _ _ _ _) next c.loop-task.invariant.printed)

pub loop-task-preserved : goal.loop-task-preserved
loop-task-preserved g c =
    let next = taken c.loop-task.tasks.items c.pop.new.self.items c.in-Some.task (task.Line c.in-Line.id) c.in-Some.ensures.items c.in-Line.is in
    record {
      keeps = Keeps-trans c.loop-task.invariant.keeps c.print_line.ensures.keeps;
      printed = underway_line c.in-Line.id (reverse c.pop.new.self.items) (line_seen c.read-in-Line.result) c.print_line.ensures.keeps c.read-in-Line.ensures c.in_ok-print_line-in-Line.ensures.lines
          (subst (Underway _ _ _ _ _ _ _ _ _) next c.loop-task.invariant.printed);
    }

pub loop-task-smaller : goal.loop-task-smaller
loop-task-smaller g c =
    let next = taken c.loop-task.tasks.items c.pop.new.self.items c.in-Some.task (task.Line c.in-Line.id) c.in-Some.ensures.items c.in-Line.is in
    subst (λ (ts : List Task). sum_by (task_weight c.args.trees.now) (reverse c.pop.new.self.items) < sum_by (task_weight c.args.trees.now) ts) (sym next)
    (lighter_line c.args.trees.now c.in-Line.id (reverse c.pop.new.self.items))

pub returns-in_err-print_line-in-Line-clause-keeps : goal.returns-in_err-print_line-in-Line-clause-keeps
returns-in_err-print_line-in-Line-clause-keeps g c = Keeps-trans c.loop-task.invariant.keeps c.print_line.ensures.keeps

pub returns-clause-lines : goal.returns-clause-lines
returns-clause-lines g c = underway_done c.args.root c.loop-task.tasks.items (sym c.loop-task.tasks.ok.0 ∙ c.in_default.ensures.cases.0) c.loop-task.invariant.printed
