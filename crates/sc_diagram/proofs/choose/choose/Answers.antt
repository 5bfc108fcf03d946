use Rattle.std.proofs.Common.{◌≡◌, length, arith}
use Rattle.std.specs.Prelude.{slice_index}
use Rattle.sc_diagram.proofs.StoreLemmas.{has_choose, AddsOnly-last}
use Rattle.sc_diagram.proofs.choose.choose.Goals as goal

pub returns-clause-meaning : goal.returns-clause-meaning
returns-clause-meaning c =
    let made = c.in_ok-node.ensures in
    let full : length c.loop-each.children.items ≡ slice_index c.args.table.now.arities c.args.variable = omega (arith, c.loop-each.invariant.full, c.loop-each-test.false, c.loop-each.auto.each-end, c.arity-each-end.ensures) in
    has_choose c.in_ok-node.node c.args.variable c.args.option c.loop-each.children.items made.grows (rw c.as_slice.ensures at made.choice) made.own c.requires.within full c.loop-each.invariant.ends

pub returns-clause-adds : goal.returns-clause-adds
returns-clause-adds c = AddsOnly-last c.in_ok-node.ensures.adds
