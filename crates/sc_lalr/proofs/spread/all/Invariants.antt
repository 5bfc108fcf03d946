use Rattle.std.proofs.Common.{◌↔◌, ◌<◌, ◌≤◌, ◌+◌, ℕ}
use Rattle.std.specs.List.{Contains}
use Rattle.sc_lalr.proofs.spread.all.Given as goal

abbrev pub invariant-loop-number : goal.invariant-loop-number
invariant-loop-number l = (v : ℕ) → Contains l.numbers.items v ↔ (v < l.count) × (l.count ≤ v + l.number)
