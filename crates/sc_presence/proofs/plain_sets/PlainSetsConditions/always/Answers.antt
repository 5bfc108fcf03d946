use Rattle.std.proofs.Common.{subst}
use Rattle.sc_presence.specs.Plain.{IsPlain}
use Rattle.sc_presence.proofs.SetsLemmas.{Denotes-always}
use Rattle.sc_presence.proofs.plain_sets.PlainSetsConditions.always.Goals as goal

pub returns-clause-meaning : goal.returns-clause-meaning
returns-clause-meaning c = Denotes-always (subst IsPlain c.self.view_is c.self.invariant.plain)
