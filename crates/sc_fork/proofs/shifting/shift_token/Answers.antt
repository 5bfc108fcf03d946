use Rattle.std.proofs.Common.{rules}
use Rattle.sc_fork.proofs.ChoiceLemmas.{leaves-leaf}
use Rattle.sc_fork.proofs.shifting.shift_token.Goals as goal

-- src/shifting.rt:98:21
pub returns-in_err-stack-clause-leaves : goal.returns-in_err-stack-clause-leaves
returns-in_err-stack-clause-leaves c = leaves-leaf c.args.source.now.list.now c.args.trees.now c.shared_leaf.new.self c.args.at (c.item.result.0, c.item.result.1.now) c.item.ensures c.in_ok-leaf.ensures.adds

-- src/shifting.rt:99:5
pub returns-in_err-push-clause-leaves : goal.returns-in_err-push-clause-leaves
returns-in_err-push-clause-leaves c = leaves-leaf c.args.source.now.list.now c.args.trees.now c.shared_leaf.new.self c.args.at (c.item.result.0, c.item.result.1.now) c.item.ensures c.in_ok-leaf.ensures.adds

-- src/shifting.rt:108:17
pub returns-in_err-share-clause-leaves : goal.returns-in_err-share-clause-leaves
returns-in_err-share-clause-leaves c = leaves-leaf c.args.source.now.list.now c.args.trees.now c.shared_leaf.new.self c.args.at (c.item.result.0, c.item.result.1.now) c.item.ensures c.in_ok-leaf.ensures.adds

-- src/shifting.rt:78:1
pub returns-clause-leaves : goal.returns-clause-leaves
returns-clause-leaves c = leaves-leaf c.args.source.now.list.now c.args.trees.now c.shared_leaf.new.self c.args.at (c.item.result.0, c.item.result.1.now) c.item.ensures c.in_ok-leaf.ensures.adds

pub returns-clause-shifted : goal.returns-clause-shifted
returns-clause-shifted c = rw (← c.parent.view_is) (search rules)
