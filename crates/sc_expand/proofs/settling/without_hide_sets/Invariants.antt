use Rattle.std.proofs.Common.{◌≡◌, map, take}
use Rattle.sc_expand.proofs.Terms.{Cond, Hidden}
use Rattle.sc_expand.proofs.settling.without_hide_sets.Given as goal

abbrev pub invariant-loop-index : goal.invariant-loop-index
invariant-loop-index l = l.done ≡ map (λ (item : Cond × Hidden). (item.0, item.1.token)) (take l.index l.out)
