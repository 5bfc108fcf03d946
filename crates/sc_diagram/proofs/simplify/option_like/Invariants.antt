use Rattle.std.proofs.Common.{◌≡◌, ◌<◌, ℕ}
use Rattle.sc_diagram.specs.Applied.{cofactor}
use Rattle.sc_diagram.proofs.simplify.option_like.Given as goal

abbrev pub invariant-loop-other : goal.invariant-loop-other
invariant-loop-other l = (k : ℕ) → k < l.other → cofactor l.fn.table l.node l.variable k ≡ 0
