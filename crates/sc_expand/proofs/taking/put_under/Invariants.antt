use Rattle.std.proofs.Common.{◌≡◌, ◌++◌, map, take}
use Rattle.sc_expand.proofs.taking.put_under.Given as goal

abbrev pub invariant-loop-token : goal.invariant-loop-token
invariant-loop-token l = l.made.items ≡ l.fn.made.items ++ map (λ t. (l.cond, t)) (take l.token-index l.tokens)
