use Rattle.std.proofs.Common.{◌<◌, rules, arith, length, get_or}
use Rattle.tests_parser.proofs.ParseLemmas.{child-below}
use Rattle.tests_parser.proofs.parse.met.Goals as goal

pub offset_bounds-standing-child : goal.offset_bounds-standing-child
offset_bounds-standing-child c =
    let below = child-below c.args.trees.now _ _ c.in-Node.children.now c.children_first.ensures c.in-Node.ensures c.loop-child.child-index (record { 0 = 0 }) c.loop-child-test.true in
    let within : (get_or c.in-Node.children.now c.loop-child.child-index (record { 0 = 0 })).0 < length c.args.standing.now = omega (arith, below) in
    search rules

pub bounds-standing-child : goal.bounds-standing-child
bounds-standing-child c =
    let below = child-below c.args.trees.now _ _ c.in-Node.children.now c.children_first.ensures c.in-Node.ensures c.loop-child.child-index (record { 0 = 0 }) c.loop-child-test.true in
    omega (arith, below)
