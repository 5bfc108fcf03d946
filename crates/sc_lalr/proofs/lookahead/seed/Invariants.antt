use Rattle.std.proofs.Common.{take}
use Rattle.sc_lalr.specs.Marks.{IsGiven}
use Rattle.sc_lalr.specs.Propagation.{numbers_at}
use Rattle.sc_lalr.proofs.lookahead.seed.Given as goal

abbrev pub invariant-loop-item : goal.invariant-loop-item
invariant-loop-item l = IsGiven l.initial.words.items l.words.items (numbers_at l.nodes.numbers.items l.base (take l.item-index l.item-items)) l.word
