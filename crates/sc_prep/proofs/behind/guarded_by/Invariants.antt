use Rattle.std.proofs.Common.{◌≡◌, map, take}
use Rattle.sc_prep.proofs.behind.guarded_by.Given as goal

abbrev pub invariant-loop-token : goal.invariant-loop-token
invariant-loop-token l = l.list ≡ map (λ token. (l.by, token)) (take l.token-index l.tokens)
