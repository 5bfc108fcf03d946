use Rattle.std.proofs.Common.{◌≡◌, ◌++◌, take}
use Rattle.sc_lalr.specs.Propagation.{numbers_at}
use Rattle.sc_lalr.proofs.propagation.numbered.Given as goal

abbrev pub invariant-loop-item : goal.invariant-loop-item
invariant-loop-item l = l.nodes.items ≡ l.initial.nodes.items ++ numbers_at l.numbers l.base (take l.item-index l.items)
