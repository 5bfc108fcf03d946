use Rattle.std.proofs.Common.{◌≡◌, take, map, length}
use Rattle.sc_space.specs.Seen.{seen_variable}
use Rattle.sc_core.proofs.texts.arities.Given as goal

abbrev pub invariant-loop-variable : goal.invariant-loop-variable
invariant-loop-variable l = l.arities.items ≡ map (λ v. length v.options) (map seen_variable (take l.variable-index l.variables))
