use Rattle.std.proofs.Common.{◌≡◌, map, take}
use Rattle.lr_tables.specs.Grammar.{production_at}
use Rattle.sc_lalr.proofs.reduction.produced.Given as goal

abbrev pub invariant-loop-item : goal.invariant-loop-item
invariant-loop-item l = l.produced.items ≡ map (production_at l.grammar) (take l.item-index l.items)
