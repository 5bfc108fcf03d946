use Rattle.std.proofs.Common.{◌∷◌, []}
use Rattle.sc_if.specs.Halves.{AreWays}
use Rattle.sc_model.specs.Sets.{Keeps}
use Rattle.sc_if.proofs.halves.read_element.Given as goal

-- those so far
abbrev pub invariant-loop-start : goal.invariant-loop-start
invariant-loop-start g l =
    let old = g.C.Conditions.sets l.fn.conds in
    let now = g.C.Conditions.sets l.conds in
    record {
      keeps : Keeps old now;
      ways : AreWays old now (l.element ∷ []) l.live.0 l.ways.items;
    }
