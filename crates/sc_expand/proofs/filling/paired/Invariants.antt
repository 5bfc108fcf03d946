use Rattle.std.proofs.Common.{◌≡◌, map, take}
use Rattle.sc_expand.proofs.Terms.{Cond, Hidden}
use Rattle.sc_expand.proofs.filling.paired.Given as goal

abbrev pub invariant-loop-index : goal.invariant-loop-index
invariant-loop-index l = record {
  conditions : map (λ (item : Cond × Hidden). item.0) l.made.items ≡ take l.index (map (λ (item : Cond × Hidden). item.0) l.list);
  tokens : map (λ (item : Cond × Hidden). item.1) l.made.items ≡ take l.index (map (λ (t : Hidden). t) l.tokens);
}
