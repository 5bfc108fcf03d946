use Rattle.std.proofs.Common.{◌≡◌, ℕ, ◌<◌, get_or}
use Rattle.sc_presence.specs.Rank.{config_at}
use Rattle.sc_presence.proofs.ranks.write_config.Given as goal

abbrev pub invariant-loop-variable : goal.invariant-loop-variable
invariant-loop-variable l = (u : ℕ) → u < l.variable → get_or l.into u 0 ≡ get_or (config_at l.arities l.rank) u 0
