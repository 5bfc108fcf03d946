use Rattle.std.proofs.Common.{◌≡◌, reverse, take}
use Rattle.sc_stack.specs.Entries.{states_of, values_of}
use Rattle.sc_stack.proofs.stack.stacked.Given as goal

abbrev pub invariant-loop-i : goal.invariant-loop-i
invariant-loop-i l = record {
  states : states_of l.stack ≡ reverse (take l.i l.states);
  values : values_of l.stack ≡ reverse (take l.i l.values);
}
