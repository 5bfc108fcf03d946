use Rattle.std.proofs.Common.{◌≡◌, ℕ, ◌<◌, get_or}
use Rattle.sc_core.proofs.program.line_length.Given as goal

-- none of the bytes before is a newline
abbrev pub invariant-loop-index : goal.invariant-loop-index
invariant-loop-index l = (k : ℕ) → k < l.index → get_or l.text k 0 ≡ 10 → ⊥
