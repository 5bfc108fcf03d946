use Rattle.std.proofs.Common.{◌≡◌, ◌*◌, drop}
use Rattle.sc_model.specs.Sets.{config_count}
use Rattle.sc_presence.proofs.ranks.count_configs.Given as goal

-- the product so far, times what the arities that are left give
abbrev pub invariant-loop-arity : goal.invariant-loop-arity
invariant-loop-arity l = l.count * config_count (drop l.arity-index l.arities) ≡ config_count l.arities
