use Rattle.std.proofs.Common.{map, drop, string_bytes}
use Rattle.sc_space.specs.Seen.{seen_space}
use Rattle.sc_space.proofs.Choosing.{HasRead}
use Rattle.sc_space.proofs.space.Space.config.Given as goal

abbrev pub invariant-loop-word : goal.invariant-loop-word
invariant-loop-word l = HasRead (seen_space l.self) (map string_bytes l.words) (map string_bytes (drop l.word-index l.words)) l.chosen.items
