use Rattle.std.proofs.Common.{arith, ap, ◌∙◌, ◌++◌}
use Rattle.sc_expand.proofs.Ending.{more-next}
use Rattle.sc_expand.proofs.Facts.{take_all}
use Rattle.sc_expand.proofs.expanding.append_tokens.Goals as goal

pub loop-index-preserved : goal.loop-index-preserved
loop-index-preserved c = more-next c.args.list.now c.loop-index.list c.push.new.self c.args.more.now c.loop-index.index (c.item.result.0, c.item.result.1.now) c.loop-index.invariant c.item.ensures c.in_ok-push.ensures.ok

pub returns : goal.returns
returns c = c.loop-index.invariant ∙ ap (λ l. c.args.list.now ++ l) (take_all c.loop-index.index c.args.more.now (omega (arith, c.loop-index-test.false, c.len-index-end.ensures)))
