use Rattle.std.proofs.Common.{map, take}
use Rattle.sc_expand.proofs.Ending.{bared}
use Rattle.sc_expand.proofs.Terms.{IsRestricted, Keeps}
use Rattle.sc_expand.proofs.closing.tokens_under.Given as goal

abbrev pub invariant-loop-index : goal.invariant-loop-index
invariant-loop-index g l =
    let sets = g.C.Conditions.sets in
    record {
      keeps : Keeps (sets l.fn.conds) (sets l.conds);
      restricted : IsRestricted (sets l.conds) l.cond.0 (map bared (take l.index l.list)) l.tokens;
    }
