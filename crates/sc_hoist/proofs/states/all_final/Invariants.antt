use Rattle.std.proofs.Common.{◌≡◌, ℕ, ◌<◌, true, get_or}
use Rattle.sc_hoist.specs.declared.states.Entry.{Entry}
use Rattle.sc_hoist.specs.Reading.{is_final}
use Rattle.sc_hoist.proofs.states.all_final.Given as goal

abbrev pub invariant-loop-entry : goal.invariant-loop-entry
invariant-loop-entry l = (k : ℕ) (other : Entry) → k < l.entry-index → is_final (get_or l.entries k other).state ≡ true
