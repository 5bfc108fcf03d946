use Rattle.std.proofs.Common.{◌≡◌, ◌↔◌, ℕ, length, take}
use Rattle.sc_lalr.specs.Marks.{HasMark}
use Rattle.sc_lalr.specs.Propagation.{Seeds}
use Rattle.sc_lalr.proofs.lookahead.spontaneous.Given as goal

abbrev pub invariant-loop-index : goal.invariant-loop-index
invariant-loop-index l = (length l.words.items ≡ length l.nodes.places.items) × ((b v : ℕ) → HasMark l.words.items b v ↔ Seeds l.grammar l.nodes l.opened l.first (take l.index l.sources) b v)
