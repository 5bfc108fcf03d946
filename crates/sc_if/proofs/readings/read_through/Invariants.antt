use Rattle.std.proofs.Common.{take}
use Rattle.sc_if.specs.Readings.{AreReadings}
use Rattle.sc_model.specs.Sets.{Keeps}
use Rattle.sc_if.proofs.readings.read_through.Given as goal

abbrev pub invariant-loop-index : goal.invariant-loop-index
invariant-loop-index g l =
    let old = g.C.Conditions.sets l.fn.conds in
    let now = g.C.Conditions.sets l.conds in
    record {
      keeps : Keeps old now;
      read : AreReadings l.standard old now l.names (take l.index l.list) l.fn.live.0 l.readings.items;
    }
