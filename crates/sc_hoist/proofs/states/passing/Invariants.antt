use Rattle.std.proofs.Common.{◌≡◌, ℕ, List, take}
use Rattle.sc_model.specs.Sets.{IsConfig, IsCond, Keeps}
use Rattle.sc_hoist.specs.Reading.{in_states, passes}
use Rattle.sc_hoist.proofs.states.passing.Given as goal

abbrev pub invariant-loop-index : goal.invariant-loop-index
invariant-loop-index g l =
    let sets = g.C.Conditions.sets in
    record {
      keeps : Keeps (sets l.fn.conds) (sets l.conds);
      own : IsCond (sets l.conds) l.all.0;
      meaning : (c : List ℕ) → IsConfig (sets l.fn.conds).arities c → (sets l.conds).has l.all.0 c ≡ in_states (sets l.fn.conds) (take l.index l.entries) (passes l.test) c;
    }
