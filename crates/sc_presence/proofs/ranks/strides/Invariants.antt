use Rattle.std.proofs.Common.{◌≡◌, ◌++◌, drop}
use Rattle.sc_model.specs.Sets.{config_count}
use Rattle.sc_presence.specs.Rank.{strides_of}
use Rattle.sc_presence.proofs.ranks.strides.Given as goal

abbrev pub invariant-loop-arity : goal.invariant-loop-arity
invariant-loop-arity l =
    let left = drop l.arity-index l.arities in
    record {
      rest : l.rest ≡ config_count left;
      strides : l.strides.items ++ strides_of left ≡ strides_of l.arities;
    }
