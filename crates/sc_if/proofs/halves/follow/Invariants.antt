use Rattle.std.proofs.Common.{take}
use Rattle.sc_if.specs.Halves.{AreFollowed}
use Rattle.sc_model.specs.Sets.{Keeps}
use Rattle.sc_if.proofs.halves.follow.Given as goal

-- those so far
abbrev pub invariant-loop-reading : goal.invariant-loop-reading
invariant-loop-reading g l =
    let old = g.C.Conditions.sets l.fn.conds in
    let now = g.C.Conditions.sets l.conds in
    record {
      keeps : Keeps old now;
      followed : AreFollowed old now l.cond.0 (take l.reading-index l.more) l.fn.ends.items l.ends.items;
    }
