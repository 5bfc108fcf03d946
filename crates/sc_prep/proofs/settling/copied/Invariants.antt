use Rattle.std.proofs.Common.{◌≡◌, take}
use Rattle.sc_prep.proofs.settling.copied.Given as goal

abbrev pub invariant-loop-index : goal.invariant-loop-index
invariant-loop-index l = l.copy ≡ take l.index l.list
