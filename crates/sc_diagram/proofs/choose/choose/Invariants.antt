use Rattle.std.proofs.Common.{◌≡◌, ℕ, ◌<◌, ◌==◌, length, if◌then◌else◌}
use Rattle.std.specs.Prelude.{slice_index}
use Rattle.sc_diagram.proofs.choose.choose.Given as goal

abbrev pub invariant-loop-each : goal.invariant-loop-each
invariant-loop-each l = record {
  full : length l.children.items ≡ l.each;
  ends : (k : ℕ) → k < length l.children.items → slice_index l.children.items k ≡ (if k == l.option then 1 else 0);
}
