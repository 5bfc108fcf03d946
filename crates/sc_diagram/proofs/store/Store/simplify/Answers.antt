use Rattle.std.proofs.Common.{◌≡◌, ◌<◌, ℕ, List, true, length, subst, sym}
use Rattle.sc_model.specs.Sets.{IsConfig, Keeps}
use Rattle.sc_diagram.specs.Diagram.{Diagram, sets_of}
use Rattle.sc_diagram.specs.Grown.{Grows}
use Rattle.sc_diagram.specs.Simplified.{IsQuestion, SaysWithin}
use Rattle.sc_diagram.proofs.GrownLemmas.{Keeps-Grows}
use Rattle.sc_diagram.proofs.SimplifiedLemmas.{AreAnswers-bound, keeps-asked, said-asked}
use Rattle.sc_diagram.proofs.store.Store.simplify.Goals as goal

question : (d e : Diagram) (a w : ℕ) → d ≡ e → a < length e.nodes → w < length e.nodes → IsQuestion d (record { node = a; within = w })
question d e a w same node within = record { node = subst (λ x. a < length x.nodes) (sym same) node; within = subst (λ x. w < length x.nodes) (sym same) within }

pub simplify-requires : goal.simplify-requires
simplify-requires c = record {
  question = question c.self.inside.table c.args.self.now c.args.a.0 c.args.within.0 c.self.view_is c.requires.a_own.made c.requires.within_own.made;
  known = c.self.invariant.0;
  answers = AreAnswers-bound c.fit.ensures c.self.invariant.1;
}

pub returns-in_err-node-clause-keeps : goal.returns-in_err-node-clause-keeps
returns-in_err-node-clause-keeps c = subst (λ d. Keeps (sets_of d) (sets_of c.simplify.new.table)) c.self.view_is (Keeps-Grows c.in_err-node.ensures.grows)

pub returns-in_err-node-clause-grows : goal.returns-in_err-node-clause-grows
returns-in_err-node-clause-grows c = subst (λ d. Grows d c.simplify.new.table) c.self.view_is c.in_err-node.ensures.grows

pub returns-clause-meaning : goal.returns-clause-meaning
returns-clause-meaning c = subst (λ d. (k : List ℕ) → IsConfig d.arities k → (sets_of d).has c.args.within.0 k ≡ true → (sets_of c.simplify.new.table).has c.in_ok-node.node k ≡ (sets_of d).has c.args.a.0 k)
    c.self.view_is
    (keeps-asked c.in_ok-node.ensures.grows (question c.self.inside.table c.args.self.now c.args.a.0 c.args.within.0 c.self.view_is c.requires.a_own.made c.requires.within_own.made) c.in_ok-node.ensures.simplifies)

pub returns-clause-said : goal.returns-clause-said
returns-clause-said c = subst (λ d. (b k : List ℕ) → IsConfig d.arities b → (sets_of d).has c.args.within.0 b ≡ true → IsConfig d.arities k → SaysWithin (sets_of d) c.args.a.0 c.args.within.0 ((sets_of c.simplify.new.table).has c.in_ok-node.node k))
    c.self.view_is
    (said-asked c.in_ok-node.ensures.grows (question c.self.inside.table c.args.self.now c.args.a.0 c.args.within.0 c.self.view_is c.requires.a_own.made c.requires.within_own.made) c.in_ok-node.ensures.simplifies)

pub returns-clause-keeps : goal.returns-clause-keeps
returns-clause-keeps c = subst (λ d. Keeps (sets_of d) (sets_of c.simplify.new.table)) c.self.view_is (Keeps-Grows c.in_ok-node.ensures.grows)

pub returns-clause-grows : goal.returns-clause-grows
returns-clause-grows c = subst (λ d. Grows d c.simplify.new.table) c.self.view_is c.in_ok-node.ensures.grows
