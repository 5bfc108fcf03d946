use Rattle.std.proofs.Common.{ℕ, All, List, take}
use Rattle.sc_if.proofs.HalfLemmas.{Element}
use Rattle.sc_if.proofs.PutLemmas.{Entry}
use Rattle.sc_if.specs.Halves.{AreJoined, AreWays}
use Rattle.sc_model.specs.Sets.{IsCond, Keeps}
use Rattle.sc_if.proofs.halves.go_through.Given as goal

-- those so far
abbrev pub invariant-loop-reading : goal.invariant-loop-reading
invariant-loop-reading g l =
    let old = g.C.Conditions.sets l.fn.conds in
    let now = g.C.Conditions.sets l.conds in
    record {
      keeps : Keeps old now;
      own : All (λ (x : Entry). IsCond now x.0.0) l.ends.items;
      joined : (back : List Element) (live : ℕ) → AreWays old old back live l.seconds → AreJoined old now back live (take l.reading-index l.middle) l.ends.items;
    }
