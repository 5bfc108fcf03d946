use Rattle.std.proofs.Common.{◌≡◌, length}
use Rattle.tests_parser.proofs.parse.met.Given as goal

abbrev pub invariant-loop-id : goal.invariant-loop-id
invariant-loop-id l = length l.met.items ≡ length l.fn.standing

abbrev pub invariant-loop-child : goal.invariant-loop-child
invariant-loop-child l = length l.met.items ≡ length l.fn.standing
