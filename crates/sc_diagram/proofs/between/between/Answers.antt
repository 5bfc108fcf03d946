use Rattle.std.proofs.Common.{◌+◌, ◌∙◌, arith}
use Rattle.sc_model.specs.Sets.{IsCond, DependsFrom}
use Rattle.sc_diagram.specs.Decision.{numbers_of}
use Rattle.sc_diagram.specs.Diagram.{Diagram, sets_of}
use Rattle.sc_diagram.proofs.StoreLemmas.{numbers_whole, length-numbers, All-numbers, before_first, has_between, AddsOnly-last}
use Rattle.sc_diagram.proofs.between.between.Goals as goal

pub choice-requires-clause-own : goal.choice-requires-clause-own
choice-requires-clause-own c =
    rw (c.as_slice.ensures ∙ numbers_whole _ _ _ c.loop-child.invariant c.loop-child-test.false)
    (λ k within. (All-numbers (IsCond (sets_of c.args.table.now)) _ c.requires.own k within).made)

pub choice-requires-clause-later : goal.choice-requires-clause-later
choice-requires-clause-later c =
    let d : Diagram = c.args.table.now in
    rw (c.as_slice.ensures ∙ numbers_whole _ _ _ c.loop-child.invariant c.loop-child-test.false)
    (λ k within. before_first c.count-count.ensures.valid _ c.args.variable (All-numbers (IsCond (sets_of d)) _ c.requires.own k within).made c.requires.variable (All-numbers (λ n. DependsFrom (sets_of d) n (c.args.variable + 1)) _ c.requires.later k within))

pub returns-clause-meaning : goal.returns-clause-meaning
returns-clause-meaning c =
    let d : Diagram = c.args.table.now in
    let made = c.in_ok-node.ensures in
    let choice = rw (c.as_slice.ensures ∙ numbers_whole _ _ _ c.loop-child.invariant c.loop-child-test.false) at made.choice in
    has_between c.in_ok-node.node c.args.variable (numbers_of c.args.children.now) made.grows choice made.own c.requires.variable (omega (arith, c.requires.wide, length-numbers c.args.children.now))
    (λ k within. (All-numbers (IsCond (sets_of d)) _ c.requires.own k within).made)

pub returns-clause-adds : goal.returns-clause-adds
returns-clause-adds c = AddsOnly-last c.in_ok-node.ensures.adds
