use Rattle.std.proofs.Common.{arith}
use Rattle.sc_diagram.proofs.simplify.option_like.Goals as goal

pub returns-clause-some : goal.returns-clause-some
returns-clause-some c = λ none k below. c.loop-other.invariant k (omega (arith, below, c.arity-other-end.ensures, c.loop-other-test.false))
