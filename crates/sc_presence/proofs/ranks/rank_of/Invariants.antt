use Rattle.std.proofs.Common.{◌≡◌, ◌+◌, drop}
use Rattle.sc_presence.specs.Rank.{rank}
use Rattle.sc_presence.proofs.ranks.rank_of.Given as goal

-- the sum so far and what the variables that are left add are the rank
abbrev pub invariant-loop-variable : goal.invariant-loop-variable
invariant-loop-variable l = l.sum + rank (drop l.variable l.strides) (drop l.variable l.config) ≡ rank l.strides l.config
