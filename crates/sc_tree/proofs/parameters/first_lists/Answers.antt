use Rattle.std.proofs.Common.{arith, length, map, take, ap, ◌∙◌, []}
use Rattle.std.proofs.lemmas.List.{take_all}
use Rattle.sc_guarded.specs.Items.{items_at}
use Rattle.sc_model.proofs.SetLemmas.{Keeps-trans, IsConfig-Keeps}
use Rattle.sc_tree.proofs.GuardedLemmas.{lists-more, lists-none}
use Rattle.sc_tree.proofs.Steps.{children-within, line-at}
use Rattle.sc_tree.specs.Parameters.{first_list}
use Rattle.sc_tree.specs.Views.{line_of}
use Rattle.sc_tree.proofs.parameters.first_lists.Goals as goal

pub returns-in_err-left-clause-keeps : goal.returns-in_err-left-clause-keeps
returns-in_err-left-clause-keeps g c = Keeps-trans c.loop-tree.invariant.keeps c.note_list.ensures.keeps

pub loop-tree-preserved : goal.loop-tree-preserved
loop-tree-preserved g c =
    let i = c.loop-tree.invariant in
    let s = g.C.Conditions.sets in
    let inside = c.requires.within c.loop-tree.tree-index _ c.loop-tree-test.true in
    record {
      keeps = Keeps-trans i.keeps c.note_list.ensures.keeps;
      left = c.in_ok-left.ensures.rest;
      own = c.in_ok-left.ensures.own;
      within = c.in_ok-left.ensures.within (length c.args.lines.now)
          (children-within (map line_of c.args.lines.now) (line_of c.index-lines-tree.result) _ (length c.args.lines.now) c.requires.first
          (line-at c.args.lines.now _ c.index-lines-tree.result c.index-lines-tree.is inside) (omega (arith, inside))) i.within;
      lists = λ d is. lists-more (s c.args.conds.now) (s c.loop-tree.conds) (s c.note_list.new.conds) c.args.lines.now c.args.trees.now c.loop-tree.lists.items c.note_list.new.lists.items c.loop-tree.left c.in_ok-left.left
          c.loop-tree.tree-index _ c.index-lines-tree.result d i.keeps is c.loop-tree-test.true c.requires.own c.index-lines-tree.is inside (i.lists d is)
          (c.in_ok-left.ensures.notes d (IsConfig-Keeps i.keeps is));
    }

pub returns-clause-lists : goal.returns-clause-lists
returns-clause-lists g c = λ d is.
    let s = g.C.Conditions.sets in
    lists-none (s c.loop-tree.conds) c.loop-tree.lists.items c.loop-tree.left d
    (first_list (map line_of c.args.lines.now) (items_at (s c.args.conds.now) (take c.loop-tree.tree-index c.args.trees.now) d) []) (c.loop-tree.invariant.lists d is [])
    ∙ ap (λ trees. first_list (map line_of c.args.lines.now) (items_at (s c.args.conds.now) trees d) []) (take_all c.loop-tree.tree-index c.args.trees.now c.loop-tree-test.false)
