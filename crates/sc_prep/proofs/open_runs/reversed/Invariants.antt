use Rattle.std.proofs.Common.{◌≡◌, ◌++◌, reverse, take}
use Rattle.sc_prep.proofs.open_runs.reversed.Given as goal

abbrev pub invariant-loop-index : goal.invariant-loop-index
invariant-loop-index l = l.back ++ reverse (take l.index l.list) ≡ reverse l.list
