use Rattle.sc_fork.proofs.SourceLemmas.{terminals-more}
use Rattle.sc_fork.proofs.source.Source.new.Goals as goal

pub loop-index-preserved : goal.loop-index-preserved
loop-index-preserved g c =
    terminals-more c.args.standard c.args.names.now c.args.list.now c.loop-index.first.items c.push.new.self.items c.loop-index.index c.item.result.0 c.item.result.1.now c.text.result.now c.terminal.result
    c.loop-index.invariant c.item.ensures c.text.ensures c.terminal.ensures c.in_ok-push.ensures.items
