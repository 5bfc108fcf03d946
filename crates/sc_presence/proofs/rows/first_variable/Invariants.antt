use Rattle.std.proofs.Common.{ℕ}
use Rattle.sc_model.specs.Sets.{Sets, DependsFrom}
use Rattle.sc_presence.specs.Rows.{IsRowOf}
use Rattle.sc_presence.proofs.rows.first_variable.Given as goal

abbrev pub invariant-loop-variable : goal.invariant-loop-variable
invariant-loop-variable l = (s : Sets) (a : ℕ) → IsRowOf s a l.arities l.row → DependsFrom s a l.variable
