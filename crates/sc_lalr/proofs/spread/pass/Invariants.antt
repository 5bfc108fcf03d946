use Rattle.std.proofs.Common.{take}
use Rattle.sc_lalr.specs.Marks.{IsPassed}
use Rattle.sc_lalr.proofs.spread.pass.Given as goal

abbrev pub invariant-loop-node : goal.invariant-loop-node
invariant-loop-node l = IsPassed l.initial.words.items l.words.items l.initial.waiting.items l.waiting.items (take l.node-index l.nodes) l.word
