use Rattle.std.proofs.Common.{◌≡◌, take}
use Rattle.sc_prep.proofs.Terms.{tokens_at}
use Rattle.sc_prep.proofs.alternatives.tokens_at.Given as goal

abbrev pub invariant-loop-place : goal.invariant-loop-place
invariant-loop-place l = l.tokens.items ≡ tokens_at l.list (take l.place-index l.places)
