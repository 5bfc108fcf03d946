use Rattle.std.proofs.Common.{◌≡◌, ℕ, ◌<◌, Option, get_or}
use Rattle.sc_base.specs.declared.id.Cond.{Cond}
use Rattle.sc_if.specs.declared.reading.Reading.{Reading}
use Rattle.sc_if.specs.Readings.{seen_reading}
use Rattle.sc_if.proofs.readings.index_of.Given as goal

-- none so far
abbrev pub invariant-loop-index : goal.invariant-loop-index
invariant-loop-index l = (k : ℕ) (other : Cond × Option Reading) → k < l.index → seen_reading (get_or l.readings k other).1 ≡ seen_reading l.reading → ⊥
