use Rattle.std.proofs.Common.{sym, subst, take}
use Rattle.sc_model.proofs.SetLemmas.{Keeps-trans}
use Rattle.sc_fork.specs.Roots.{AreRoots, trees_of}
use Rattle.sc_fork.proofs.RootLemmas.{trees-kept, trees-more, roots-more}
use Rattle.sc_fork.proofs.outcome.roots_of.Goals as goal

pub loop-part-preserved-in_default : goal.loop-part-preserved-in_default
loop-part-preserved-in_default g c =
    let s = g.C.Conditions.sets in record {
      keeps = c.loop-part.invariant.keeps;
      roots = subst (λ parts. AreRoots (s c.args.conds.now) (s c.loop-part.conds) parts c.loop-part.roots.items)
          (sym (trees-kept c.args.ended.now c.loop-part.part-index _ c.loop-part-test.true c.in_default.field-0 c.in_default.field-1 c.in_default.is)) c.loop-part.invariant.roots;
    }

pub add_root-requires-clause-own : goal.add_root-requires-clause-own
add_root-requires-clause-own g c = c.loop-part.invariant.keeps.own _ (c.requires c.loop-part.part-index _ c.loop-part-test.true)

pub returns-in_err-add_root-clause-keeps : goal.returns-in_err-add_root-clause-keeps
returns-in_err-add_root-clause-keeps g c = Keeps-trans c.loop-part.invariant.keeps c.in_err-add_root.ensures.keeps

pub loop-part-preserved : goal.loop-part-preserved
loop-part-preserved g c =
    let s = g.C.Conditions.sets in record {
      keeps = Keeps-trans c.loop-part.invariant.keeps c.in_ok-add_root.ensures.keeps;
      roots = subst (λ parts. AreRoots (s c.args.conds.now) (s c.add_root.new.conds) parts c.add_root.new.roots.items)
          (sym (trees-more c.args.ended.now c.loop-part.part-index _ c.loop-part-test.true c.in-Root.tree c.in-Root.is))
          (roots-more c.loop-part.invariant.keeps _ c.in-Root.tree (c.requires c.loop-part.part-index _ c.loop-part-test.true) (trees_of (take c.loop-part.part-index c.args.ended.now)) c.loop-part.roots.items c.add_root.new.roots.items
          c.loop-part.invariant.roots c.in_ok-add_root.ensures.adds);
    }
