use Rattle.std.proofs.Common.{All}
use Rattle.sc_subst.specs.Seen.{IsHeldHidden}
use Rattle.tests_macros.proofs.closing.hidden_of.Given as goal

abbrev pub invariant-loop-token : goal.invariant-loop-token
invariant-loop-token l = All (IsHeldHidden l.names l.sets) l.list.items
