use Rattle.std.proofs.Common.{length, ◌-◌}
use Rattle.sc_guarded.proofs.BlockLemmas.{Reaches}
use Rattle.sc_model.specs.Sets.{Keeps}
use Rattle.sc_guarded.proofs.blocks.block_end.Given as goal

abbrev pub invariant-loop-end : goal.invariant-loop-end
invariant-loop-end g l =
    let sets = g.C.Conditions.sets in
    record {
      keeps : Keeps (sets l.fn.conds) (sets l.conds);
      reaches : Reaches (sets l.conds) l.items l.head l.end;
    }

abbrev pub decreases-loop-end : goal.decreases-loop-end
decreases-loop-end g l = length l.items - l.end
