use Rattle.std.proofs.Common.{◌≡◌, map, take}
use Rattle.sc_expand.proofs.Terms.{Cond, Hidden}
use Rattle.sc_expand.proofs.filling.tokens_of.Given as goal

abbrev pub invariant-loop-index : goal.invariant-loop-index
invariant-loop-index l = map (λ (t : Hidden). t) l.tokens.items ≡ take l.index (map (λ (item : Cond × Hidden). item.1) l.list)
