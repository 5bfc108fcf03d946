use Rattle.std.proofs.lemmas.Result.{IfOk-weaker}
use Rattle.sc_diagram.proofs.GrownLemmas.{Keeps-Grows}
use Rattle.sc_diagram.proofs.StoreLemmas.{Denotes-Applies}
use Rattle.sc_diagram.proofs.store.Store.apply_without.Goals as goal

pub make-requires : goal.make-requires
make-requires c = record { operation = tt; left = c.requires.a_own.made; right = c.requires.b_own.made }

pub returns-clause-own : goal.returns-clause-own
returns-clause-own c = IfOk-weaker c.make.result _ _ (λ r applies. record { made = applies.own }) c.make.ensures.applies

pub returns-clause-meaning : goal.returns-clause-meaning
returns-clause-meaning c = IfOk-weaker c.make.result _ _ (λ r applies. λ f g told_a told_b. Denotes-Applies c.make.ensures.grows applies f g told_a told_b) c.make.ensures.applies

pub returns-clause-keeps : goal.returns-clause-keeps
returns-clause-keeps c = Keeps-Grows c.make.ensures.grows
