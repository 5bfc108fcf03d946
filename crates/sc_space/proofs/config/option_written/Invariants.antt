use Rattle.std.proofs.Common.{◌≡◌, drop, map}
use Rattle.sc_space.specs.Config.{option_written}
use Rattle.sc_space.specs.Seen.{seen_option}
use Rattle.sc_space.proofs.Choosing.{found_from}
use Rattle.sc_space.proofs.config.option_written.Given as goal

abbrev pub invariant-loop-index : goal.invariant-loop-index
invariant-loop-index l = option_written (map seen_option l.options) l.word ≡ found_from l.word l.index (drop l.index l.options)
