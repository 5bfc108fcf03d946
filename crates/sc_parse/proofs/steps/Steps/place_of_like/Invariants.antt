use Rattle.std.proofs.Common.{ℕ, ◌<◌, get_or}
use Rattle.sc_parse.proofs.MergeLemmas.{AreUnlike}
use Rattle.sc_parse.proofs.steps.Steps.place_of_like.Given as goal

-- src/steps.rt:108:9
abbrev pub invariant-loop-place : goal.invariant-loop-place
invariant-loop-place l = (k : ℕ) → k < l.place → AreUnlike l.self.core.subparsers (get_or l.others k 0) l.number
