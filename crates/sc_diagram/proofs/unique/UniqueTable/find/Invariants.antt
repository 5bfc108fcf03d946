use Rattle.std.proofs.Common.{◌≡◌, ℕ, ◌-◌, ◌<◌, ◌≤◌, Some, length}
use Rattle.std.specs.Prelude.{slice_get, slice_index}
use Rattle.sc_diagram.specs.Chains.{slot_in}
use Rattle.sc_diagram.specs.Diagram.{branch}
use Rattle.sc_diagram.proofs.unique.UniqueTable.find.Given as goal

abbrev pub invariant-loop-link : goal.invariant-loop-link
invariant-loop-link l = record {
  within : l.link ≤ length l.self-inside.chains.hashes;
  own : 0 < l.link → slot_in (length l.self-inside.chains.newest) (slice_index l.self-inside.chains.hashes (l.link - 1)) ≡ slot_in (length l.self-inside.chains.newest) l.hash;
  rest : (n : ℕ) → l.link ≤ n → slice_get l.self n ≡ Some (branch l.variable l.children) → ⊥;
}

abbrev pub decreases-loop-link : goal.decreases-loop-link
decreases-loop-link l = l.link
