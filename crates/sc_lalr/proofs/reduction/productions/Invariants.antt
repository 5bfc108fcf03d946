use Rattle.std.proofs.Common.{take}
use Rattle.lr_tables.specs.declared.grammar.Grammar.{Grammar}
use Rattle.sc_lalr.specs.Tables.{AreEnds}
use Rattle.sc_lalr.proofs.Reducing.{MarkedSoFar}
use Rattle.sc_lalr.proofs.reduction.productions.Given as goal

abbrev pub invariant-loop-index : goal.invariant-loop-index
invariant-loop-index l = (g : Grammar) → AreEnds g l.items l.produced → MarkedSoFar g l.words l.mark l.numbers l.base (take l.index l.items) l.found.items
