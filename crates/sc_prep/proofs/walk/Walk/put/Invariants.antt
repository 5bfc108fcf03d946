use Rattle.std.proofs.Common.{◌≡◌, take}
use Rattle.sc_prep.proofs.WalkMoves.{read-walk}
use Rattle.sc_prep.proofs.walk.Walk.put.Given as goal

abbrev pub invariant-loop-token : goal.invariant-loop-token
invariant-loop-token g l = l.self ≡ read-walk l.fn.self l.hide (take l.token-index l.line)
