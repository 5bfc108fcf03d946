use Rattle.std.proofs.Common.{◌<◌, ◌⊎◌, length, refl, sym, subst, arith}
use Rattle.std.proofs.lemmas.Bool.{true≢false}
use Rattle.sc_model.specs.Sets.{IsNever, IsAlways, IsTop}
use Rattle.sc_diagram.specs.Diagram.{IsDiagram, sets_of}
use Rattle.sc_diagram.proofs.StoreLemmas.{IsTop-inner, constant_end, not_constant}
use Rattle.sc_diagram.proofs.store.Store.top.Goals as goal

pub returns-then-node-gt-ALWAYS-clause-some : goal.returns-then-node-gt-ALWAYS-clause-some
returns-then-node-gt-ALWAYS-clause-some c =
    let n = c.args.node.0 in
    let read = c.variable-variable.ensures in
    let own : n < length c.self.inside.table.nodes = subst (λ d. n < length d.nodes) (sym c.self.view_is) c.requires.made in
    let is = IsTop-inner read.valid n (omega (arith, c.if-node-gt-ALWAYS.true)) own in
    subst (λ d. IsTop (sets_of d) n c.variable-variable.result) c.self.view_is (subst (IsTop (sets_of c.self.inside.table) n) (sym read.variable) is)

pub returns-then-node-gt-ALWAYS-clause-none : goal.returns-then-node-gt-ALWAYS-clause-none
returns-then-node-gt-ALWAYS-clause-none c = (
  λ e. absurd (true≢false e),
  λ constant. absurd (not_constant (subst IsDiagram c.self.view_is c.variable-variable.ensures.valid) c.args.node.0 c.variable-variable.result (returns-then-node-gt-ALWAYS-clause-some c) constant),
)

pub returns-else-node-gt-ALWAYS-clause-none : goal.returns-else-node-gt-ALWAYS-clause-none
returns-else-node-gt-ALWAYS-clause-none c =
    let n = c.args.node.0 in (
      λ e. subst (λ d. IsNever (sets_of d) n ⊎ IsAlways (sets_of d) n) c.self.view_is (constant_end c.variable-variable.ensures.valid n (omega (arith, c.if-node-gt-ALWAYS.false))),
      λ constant. refl,
    )
