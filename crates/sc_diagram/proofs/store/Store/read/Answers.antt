use Rattle.std.proofs.Common.{◌<◌, length, sym, subst}
use Rattle.sc_model.specs.Sets.{IsTop}
use Rattle.sc_diagram.specs.Decision.{IsDecisionOf}
use Rattle.sc_diagram.specs.Diagram.{branch_of, sets_of}
use Rattle.sc_diagram.proofs.StoreLemmas.{IsDecisionOf-read}
use Rattle.sc_diagram.proofs.store.Store.read.Goals as goal

pub returns-clause-some : goal.returns-clause-some
returns-clause-some c =
    let n = c.args.node.0 in
    let inside = c.self.inside.table in
    let own : n < length inside.nodes = subst (λ d. n < length d.nodes) (sym c.self.view_is) c.requires.made in
    rw (c.new.ensures.variable, c.new.ensures.children, c.children.ensures.children)
    (subst (λ d. IsDecisionOf (sets_of d) n c.in_ok-variable.variable (branch_of inside n).children) c.self.view_is
    (IsDecisionOf-read c.children.ensures.valid n c.in_ok-variable.variable own (subst (λ d. IsTop (sets_of d) n c.in_ok-variable.variable) (sym c.self.view_is) c.in_ok-variable.ensures.some)))
