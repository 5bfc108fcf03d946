use Rattle.std.proofs.Common.{ℕ, ◌++◌, All, List}
use Rattle.sc_if.proofs.HalfLemmas.{Element}
use Rattle.sc_if.specs.Halves.{AreWays}
use Rattle.sc_model.specs.Sets.{IsCond, Keeps}
use Rattle.sc_if.proofs.halves.join_ways.Given as goal

-- those so far
abbrev pub invariant-loop-first : goal.invariant-loop-first
invariant-loop-first g l =
    let old = g.C.Conditions.sets l.fn.conds in
    let now = g.C.Conditions.sets l.conds in
    record {
      keeps : Keeps old now;
      joined : (front back : List Element) (live : ℕ) → All (λ (x : Element). IsCond old x.0.0) (front ++ back) → IsCond old live → AreWays old old front live l.firsts → AreWays old old back live l.seconds → AreWays old now (front ++ back) live l.ways.items;
    }
