use Rattle.std.proofs.Common.{◌≡◌, ℕ, ◌<◌, get_or}
use Rattle.sc_hoist.specs.declared.states.Entry.{Entry}
use Rattle.sc_hoist.specs.Reading.{step}
use Rattle.sc_hoist.proofs.states.stay.Given as goal

abbrev pub invariant-loop-entry : goal.invariant-loop-entry
invariant-loop-entry l = (k : ℕ) (other : Entry) → k < l.entry-index → step l.role (get_or l.entries k other).state ≡ (get_or l.entries k other).state
