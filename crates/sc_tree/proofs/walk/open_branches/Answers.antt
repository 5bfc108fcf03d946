use Rattle.std.specs.BTreeMap.{get}
use Rattle.std.specs.Ordering.{nat_cmp}
use Rattle.sc_model.proofs.SetLemmas.{Keeps-trans, IsConfig-Keeps}
use Rattle.sc_tree.proofs.WalkLemmas.{opens-more}
use Rattle.sc_tree.proofs.walk.open_branches.Goals as goal

pub loop-branch-preserved : goal.loop-branch-preserved
loop-branch-preserved g c =
    let i = c.loop-branch.invariant in
    let s = g.C.Conditions.sets in
    record {
      keeps = Keeps-trans i.keeps (Keeps-trans c.apply_and.ensures.keeps c.open_tree.ensures.keeps);
      own = c.in_ok-open_tree.ensures.own;
      opens = λ d is. opens-more (s c.args.conds.now) (s c.loop-branch.conds) (s c.apply_and.new.self) (s c.open_tree.new.conds) (get nat_cmp c.args.waiting.now) (get nat_cmp c.loop-branch.waiting) (get nat_cmp c.open_tree.new.waiting) c.args.cond c.in_ok-part.part
          c.args.branches.now c.loop-branch.branch-index _ d i.keeps c.apply_and.ensures.keeps is c.requires.own c.requires.branches i.own c.loop-branch-test.true (i.opens d is)
          c.in_ok-part.ensures.meaning (c.in_ok-open_tree.ensures.opens d (IsConfig-Keeps (Keeps-trans i.keeps c.apply_and.ensures.keeps) is));
      below = λ bound old bs. c.in_ok-open_tree.ensures.below bound (i.below bound old bs) (bs c.loop-branch.branch-index _ c.loop-branch-test.true);
    }
