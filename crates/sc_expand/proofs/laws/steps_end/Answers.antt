use Rattle.sc_expand.proofs.PlainCompletes.{size}
use Rattle.sc_expand.proofs.PlainTurns.{size-move}
use Rattle.sc_expand.proofs.laws.steps_end.Goals as goal

pub returns : goal.returns
returns g c = λ provenance macros names within. (size provenance macros names within, size-move provenance macros names within)
