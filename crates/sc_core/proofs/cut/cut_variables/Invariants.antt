use Rattle.std.proofs.Common.{◌≡◌, map, take}
use Rattle.sc_core.specs.Cut.{cut_variables}
use Rattle.sc_space.specs.Seen.{seen_variable}
use Rattle.sc_core.proofs.cut.cut_variables.Given as goal

abbrev pub invariant-loop-index : goal.invariant-loop-index
invariant-loop-index l = map seen_variable l.only.items ≡ take l.index (cut_variables (map seen_variable l.variables) l.config)
