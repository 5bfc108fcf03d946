use Rattle.std.proofs.Common.{◌≡◌, ◌-◌, length}
use Rattle.sc_diagram.specs.Grown.{Grows, AddsBelow}
use Rattle.sc_diagram.specs.Applied.{IsKnown, AppliesEach, first_of}
use Rattle.sc_diagram.proofs.apply.+apply.Given as goal

-- as deep as there are variables
abbrev pub decreases-apply : goal.decreases-apply
decreases-apply l = length l.table.now.arities - first_of l.table.now l.what

abbrev pub invariant-loop-option : goal.invariant-loop-option
invariant-loop-option l = record {
  grows : Grows l.fn.table l.table;
  known : IsKnown l.table l.known;
  full : length l.children.items ≡ l.option;
  each : AppliesEach l.table l.what l.variable l.children.items;
  adds : AddsBelow l.fn.table l.table l.children.items;
}
