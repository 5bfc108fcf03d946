use Rattle.sc_prep.proofs.Facts.{more-next}
use Rattle.sc_prep.proofs.closing.append.Goals as goal

pub loop-index-preserved : goal.loop-index-preserved
loop-index-preserved g c = more-next c.args.list.now c.loop-index.list c.push.new.self c.args.items.now c.loop-index.index _ c.loop-index.invariant c.item-item.ensures c.in_ok-push.ensures.ok
