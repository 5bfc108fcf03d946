use Rattle.std.proofs.Common.{◌<◌, rules, arith, length, get_or}
use Rattle.tests_parser.proofs.ParseLemmas.{child-below}
use Rattle.tests_parser.proofs.parse.has_node.Goals as goal

pub offset_bounds-standing-children : goal.offset_bounds-standing-children
offset_bounds-standing-children c =
    let below = child-below c.args.trees.now c.loop-id.id _ c.in-Node.children.now c.children_first.ensures c.in-Node.ensures c.args.node.1 (record { 0 = 0 }) c.if-children-index.false in
    let within : (get_or c.in-Node.children.now c.args.node.1 (record { 0 = 0 })).0 < length c.args.standing.now = omega (arith, below) in
    search rules

pub bounds-standing-children : goal.bounds-standing-children
bounds-standing-children c =
    let below = child-below c.args.trees.now c.loop-id.id _ c.in-Node.children.now c.children_first.ensures c.in-Node.ensures c.args.node.1 (record { 0 = 0 }) c.if-children-index.false in
    omega (arith, below)
