use Rattle.std.proofs.Common.{subst, sym}
use Rattle.sc_diagram.specs.Applied.{IsApplication, application}
use Rattle.sc_diagram.proofs.AppliedLemmas.{IsKnown-bound}
use Rattle.sc_diagram.proofs.SimplifiedLemmas.{AreAnswers-Grows}
use Rattle.sc_diagram.proofs.store.Store.make.Goals as goal

pub apply-requires : goal.apply-requires
apply-requires c = record { application = subst (λ d. IsApplication d (application c.args.operation c.args.left.0 c.args.right.0)) (sym c.self.view_is) c.requires; known = IsKnown-bound c.fit.ensures c.self.invariant.0 }

pub invariant_of-self : goal.invariant_of-self
invariant_of-self c = (c.apply.ensures.known, AreAnswers-Grows c.apply.ensures.grows c.self.invariant.1)

pub invariant_of-self-2 : goal.invariant_of-self-2
invariant_of-self-2 c = (c.apply.ensures.known, AreAnswers-Grows c.apply.ensures.grows c.self.invariant.1)
