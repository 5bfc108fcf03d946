use Rattle.std.proofs.Common.{◌≡◌, ◌++◌, take}
use Rattle.sc_prep.proofs.closing.append.Given as goal

abbrev pub invariant-loop-index : goal.invariant-loop-index
invariant-loop-index g l = l.list ≡ l.fn.list ++ take l.index l.items
