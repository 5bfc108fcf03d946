use Rattle.std.proofs.Common.{◌≡◌, map, take}
use Rattle.sc_core.specs.Made.{made_variable}
use Rattle.sc_core.proofs.made.made_space.Given as goal
use Rattle.sc_space.specs.Seen.{seen_variable}

abbrev pub invariant-loop-name : goal.invariant-loop-name
invariant-loop-name l = map seen_variable l.variables.items ≡ map (λ name. made_variable name.now) (take l.name-index l.name-items)
