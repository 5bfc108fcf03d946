use Rattle.std.proofs.Common.{◌≡◌, ℕ, ◌%◌, ◌<◌, ◌≤◌}
use Rattle.sc_presence.specs.Rows.{value_at}
use Rattle.sc_presence.proofs.rows.varies.Given as goal

abbrev pub invariant-loop-place : goal.invariant-loop-place
invariant-loop-place l = (p : ℕ) → l.block ≤ p → p < l.place → value_at l.row p ≡ value_at l.row (p % l.block)
