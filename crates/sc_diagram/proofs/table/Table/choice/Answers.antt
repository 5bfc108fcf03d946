use Rattle.std.proofs.Common.{length, refl, sym, subst, arith}
use Rattle.sc_base.proofs.InternLemmas.{Extends-Interns}
use Rattle.sc_diagram.specs.Diagram.{IsDiagram, IsDecision, branch}
use Rattle.sc_diagram.specs.Grown.{decides}
use Rattle.sc_diagram.proofs.GrownLemmas.{IsDiagram-Interns, added}
use Rattle.sc_diagram.proofs.table.Table.choice.Goals as goal
use Rattle.sc_diagram.proofs.table.Table.choice.Goals.{In_ok-node}

pub only-requires : goal.only-requires
only-requires c =
    let valid = subst IsDiagram c.self.view_is c.self.invariant in
    omega (arith, c.requires.wide, valid.options.each c.args.variable c.requires.variable)

decision : (c : In_ok-node) → IsDecision c.args.self.now (length c.args.self.now.nodes) (branch c.args.variable c.args.children.now)
decision c = record {
  within = c.requires.variable;
  wide = c.requires.wide;
  lower = c.requires.own;
  ordered = c.requires.later;
  reduced = c.in_default.ensures.none;
}

pub invariant_of-self-2 : goal.invariant_of-self-2
invariant_of-self-2 c = IsDiagram-Interns _ _ _ c.self.invariant (subst (λ d. IsDecision d (length d.nodes) (branch c.args.variable c.args.children.now)) (sym c.self.view_is) (decision c)) c.in_ok-node.ensures.interns

pub returns-clause-choice : goal.returns-clause-choice
returns-clause-choice c = decides c.in_ok-node.ensures.stored

pub returns-clause-adds : goal.returns-clause-adds
returns-clause-adds c = rw (← c.self.view_is) (added _ _ _ c.in_ok-node.node (invariant_of-self-2 c) c.in_ok-node.ensures.interns c.in_ok-node.ensures.stored)

pub returns-clause-grows : goal.returns-clause-grows
returns-clause-grows c =
    rw (← c.self.view_is) (record { was = c.self.invariant; valid = invariant_of-self-2 c; arities = refl; extends = Extends-Interns c.in_ok-node.ensures.interns })
