use Rattle.std.proofs.Common.{◌≡◌, ◌<◌, ◌+◌, ℕ, All, length}
use Rattle.tests_parser.proofs.parse.standing.Given as goal

abbrev pub invariant-loop-id : goal.invariant-loop-id
invariant-loop-id g l = record {
  long : length l.standing.items ≡ l.id;
  within : All (λ (id : ℕ). id < l.fn.root.0 + 1) l.standing.items;
}
