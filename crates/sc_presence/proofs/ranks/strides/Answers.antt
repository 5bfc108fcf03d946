use Rattle.std.proofs.Common.{◌≡◌, ◌+◌, ◌/◌, append_assoc, drop, get_or, arith}
use Rattle.std.proofs.Math.Nat.{mul-div_right}
use Rattle.sc_model.specs.Sets.{config_count}
use Rattle.sc_presence.proofs.RankLemmas.{config_count-drop, strides_of-drop}
use Rattle.sc_presence.proofs.ranks.strides.Goals as goal

pub loop-arity-preserved : goal.loop-arity-preserved
loop-arity-preserved c =
    let ns = c.args.arities.now in
    let i = c.loop-arity.arity-index in
    let rest : c.loop-arity.rest / get_or ns i 0 ≡ config_count (drop (i + 1) ns) =
    rw (c.loop-arity.invariant.rest, config_count-drop ns i (omega arith)) (mul-div_right (config_count (drop (i + 1) ns)) (c.requires.options.each i (omega arith))) in
    record {
      rest = rest;
      strides = rw (c.in_ok-push.ensures.items, append_assoc, rest, ← (strides_of-drop ns i (omega arith))) c.loop-arity.invariant.strides;
    }
