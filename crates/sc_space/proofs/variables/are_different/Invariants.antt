use Rattle.std.proofs.Common.{◌≡◌, drop, map}
use Rattle.sc_space.specs.Seen.{seen_option}
use Rattle.sc_space.specs.SpaceFile.{are_different}
use Rattle.sc_space.proofs.variables.are_different.Given as goal

abbrev pub invariant-loop-i : goal.invariant-loop-i
invariant-loop-i l = are_different (map seen_option l.options) ≡ are_different (map seen_option (drop l.i l.options))
