use Rattle.std.proofs.Common.{subst}
use Rattle.sc_model.specs.Sets.{Keeps}
use Rattle.sc_diagram.specs.Diagram.{sets_of}
use Rattle.sc_diagram.specs.Grown.{Grows}
use Rattle.sc_diagram.proofs.AppliedLemmas.{IsKnown-Grows}
use Rattle.sc_diagram.proofs.GrownLemmas.{Keeps-Grows}
use Rattle.sc_diagram.proofs.SimplifiedLemmas.{AreAnswers-Grows}
use Rattle.sc_diagram.proofs.store.Store.node.Goals as goal

pub invariant_of-self : goal.invariant_of-self
invariant_of-self c = (IsKnown-Grows c.in_err-node.ensures.grows c.self.invariant.0, AreAnswers-Grows c.in_err-node.ensures.grows c.self.invariant.1)

pub returns-in_err-node-clause-keeps : goal.returns-in_err-node-clause-keeps
returns-in_err-node-clause-keeps c = subst (λ d. Keeps (sets_of d) (sets_of c.between.new.table)) c.self.view_is (Keeps-Grows c.in_err-node.ensures.grows)

pub invariant_of-self-2 : goal.invariant_of-self-2
invariant_of-self-2 c = (IsKnown-Grows c.in_ok-node.ensures.grows c.self.invariant.0, AreAnswers-Grows c.in_ok-node.ensures.grows c.self.invariant.1)

pub returns-clause-keeps : goal.returns-clause-keeps
returns-clause-keeps c = subst (λ d. Keeps (sets_of d) (sets_of c.between.new.table)) c.self.view_is (Keeps-Grows c.in_ok-node.ensures.grows)

pub returns-in_err-node-clause-grows : goal.returns-in_err-node-clause-grows
returns-in_err-node-clause-grows c = subst (λ d. Grows d c.between.new.table) c.self.view_is c.in_err-node.ensures.grows

pub returns-clause-grows : goal.returns-clause-grows
returns-clause-grows c = subst (λ d. Grows d c.between.new.table) c.self.view_is c.in_ok-node.ensures.grows
