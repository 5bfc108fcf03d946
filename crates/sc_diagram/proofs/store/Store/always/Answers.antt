use Rattle.std.proofs.Common.{true, subst, arith}
use Rattle.sc_model.specs.Sets.{Denotes}
use Rattle.sc_diagram.specs.Diagram.{sets_of}
use Rattle.sc_diagram.proofs.StoreLemmas.{Denotes-end}
use Rattle.sc_diagram.proofs.store.Store.always.Goals as goal

pub returns-clause-meaning : goal.returns-clause-meaning
returns-clause-meaning c = subst (λ d. Denotes (sets_of d) 1 (λ _. true)) c.self.view_is (Denotes-end c.count-count.ensures.valid 1 (omega arith))
