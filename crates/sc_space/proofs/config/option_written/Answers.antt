use Rattle.sc_space.proofs.Choosing.{written-first}
use Rattle.sc_space.proofs.config.option_written.Goals as goal

pub loop-index-init : goal.loop-index-init
loop-index-init c = written-first c.args.word.now c.args.options.now
