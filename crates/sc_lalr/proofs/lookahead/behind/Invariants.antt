use Rattle.std.proofs.Common.{◌≡◌, map, take}
use Rattle.sc_lalr.specs.Propagation.{behind_of}
use Rattle.sc_lalr.proofs.lookahead.behind.Given as goal

abbrev pub invariant-loop-source : goal.invariant-loop-source
invariant-loop-source l = l.symbols.items ≡ map (behind_of l.grammar) (take l.source-index l.sources)
