use Rattle.sc_tree.proofs.LineLemmas.{kept_first}
use Rattle.sc_tree.proofs.trees.Trees.put.Goals as goal

pub invariant_of-self-2 : goal.invariant_of-self-2
invariant_of-self-2 c = kept_first _ c.args.line _ _ c.self.view_is c.self.invariant c.requires c.in_ok-push.ensures.items

pub returns-clause-first : goal.returns-clause-first
returns-clause-first c = kept_first _ c.args.line _ _ c.self.view_is c.self.invariant c.requires c.in_ok-push.ensures.items
