use Rattle.std.proofs.Common.{◌≡◌, map, take}
use Rattle.sc_expand.proofs.Terms.{Cond, Hidden, token_at}
use Rattle.sc_expand.proofs.beginning.tokens_at.Given as goal

abbrev pub invariant-loop-place : goal.invariant-loop-place
invariant-loop-place l = (other : Cond × Hidden) → l.made.items ≡ map (token_at l.list other) (take l.place-index l.places)
