use Rattle.sc_lalr.proofs.Leading.{IsLeadingBelow}
use Rattle.sc_lalr.proofs.first.leading.Given as goal

abbrev pub invariant-loop-item : goal.invariant-loop-item
invariant-loop-item l = IsLeadingBelow l.grammar l.item l.rows.items
