use Rattle.std.proofs.Common.{◌≡◌, length}
use Rattle.sc_lalr.specs.Marks.{HaveOwnMarks}
use Rattle.sc_lalr.proofs.first.own_marks.Given as goal

abbrev pub invariant-loop-symbol : goal.invariant-loop-symbol
invariant-loop-symbol l = (length l.words.items ≡ l.symbol) × HaveOwnMarks l.from l.words.items
