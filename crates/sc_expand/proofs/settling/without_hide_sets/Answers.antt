use Rattle.std.proofs.Common.{ap, arith, map, ◌∙◌}
use Rattle.sc_expand.proofs.Ending.{bared, finished-next}
use Rattle.sc_expand.proofs.Facts.{take_all}
use Rattle.sc_expand.proofs.settling.without_hide_sets.Goals as goal

pub loop-index-preserved : goal.loop-index-preserved
loop-index-preserved c = finished-next c.loop-index.done c.push.new.self c.args.out.now c.loop-index.index c.item.result.0 c.item.result.1.now c.loop-index.invariant c.item.ensures c.in_ok-push.ensures.ok

pub returns : goal.returns
returns c = c.loop-index.invariant ∙ ap (map bared) (take_all c.loop-index.index c.args.out.now (omega (arith, c.loop-index-test.false, c.len-index-end.ensures)))
