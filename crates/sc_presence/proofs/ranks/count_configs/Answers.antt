use Rattle.std.proofs.Common.{◌+◌, arith}
use Rattle.sc_presence.proofs.RankLemmas.{config_count-drop, config_count_pos, HasOptions-drop, product_le}
use Rattle.sc_presence.proofs.ranks.count_configs.Goals as goal

pub overflow_mul-count : goal.overflow_mul-count
overflow_mul-count c =
    let ns = c.args.arities.now in
    let i = c.loop-arity.arity-index in
    let whole = rw (config_count-drop ns i (omega arith)) at c.loop-arity.invariant in
    omega (arith, product_le _ _ _ _ (config_count_pos _ (HasOptions-drop ns (i + 1) c.requires.options)) whole)
