use Rattle.std.proofs.Common.{subst}
use Rattle.sc_presence.specs.Plain.{IsPlain}
use Rattle.sc_presence.proofs.SetsLemmas.{IsCanonical-IsPlain}
use Rattle.sc_presence.proofs.plain_sets.PlainSetsConditions.canonical.Goals as goal

pub returns : goal.returns
returns c = IsCanonical-IsPlain (subst IsPlain c.self.view_is c.self.invariant.plain)
