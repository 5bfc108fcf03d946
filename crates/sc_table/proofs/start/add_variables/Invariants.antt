use Rattle.std.proofs.Common.{◌≤◌, map, length, drop}
use Rattle.c11_macros.specs.Macros.{variable_definition}
use Rattle.sc_model.specs.Growth.{Extends}
use Rattle.sc_space.specs.Seen.{seen_variable}
use Rattle.sc_table.specs.Start.{IsStarted}
use Rattle.sc_table.proofs.start.add_variables.Given as goal

-- the table has the macros of the variables from this one on
abbrev pub invariant-loop-left : goal.invariant-loop-left
invariant-loop-left l = record {
  within : l.left ≤ length l.variables;
  grows : Extends l.fn.names l.names;
  started : IsStarted (map (λ v. length v.options) (map seen_variable l.variables)) l.names l.table
      (λ config. variable_definition (drop l.left (map seen_variable l.variables)) (drop l.left config));
}

abbrev pub decreases-loop-left : goal.decreases-loop-left
decreases-loop-left l = l.left
