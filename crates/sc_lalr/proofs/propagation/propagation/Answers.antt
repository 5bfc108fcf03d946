use Rattle.std.proofs.Common.{◌≡◌, length, arith}
use Rattle.sc_items.specs.States.{kernels_of}
use Rattle.sc_lalr.proofs.Passing.{IsPropagationBelow-push, IsPropagation-done, EdgesWithin-passed}
use Rattle.sc_lalr.proofs.propagation.propagation.Goals as goal

pub loop-node-preserved : goal.loop-node-preserved
loop-node-preserved c = rw c.in_ok-push.ensures.items (IsPropagationBelow-push c.args.grammar.now (kernels_of c.args.states.now) c.args.nodes.now c.loop-node.node c.loop-node.rows.items c.in_ok-passed.field-0 c.loop-node.invariant c.in_ok-passed.ensures)

pub returns-clause-rows : goal.returns-clause-rows
returns-clause-rows c =
    let e : c.loop-node.node ≡ length c.args.nodes.now.places.items = omega (arith, c.args.nodes.now.places.ok.0) in
    IsPropagation-done c.args.grammar.now (kernels_of c.args.states.now) c.args.nodes.now c.loop-node.node c.loop-node.rows.items e c.loop-node.invariant

pub returns-clause-edges : goal.returns-clause-edges
returns-clause-edges c =
    let e : c.loop-node.node ≡ length c.args.nodes.now.places.items = omega (arith, c.args.nodes.now.places.ok.0) in
    EdgesWithin-passed c.args.grammar.now (kernels_of c.args.states.now) c.args.nodes.now c.loop-node.node c.loop-node.rows.items e c.loop-node.invariant
