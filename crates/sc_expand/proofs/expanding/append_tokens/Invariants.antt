use Rattle.std.proofs.Common.{◌≡◌, ◌++◌, take}
use Rattle.sc_expand.proofs.expanding.append_tokens.Given as goal

abbrev pub invariant-loop-index : goal.invariant-loop-index
invariant-loop-index l = l.list ≡ l.fn.list ++ take l.index l.more
