use Rattle.std.proofs.Common.{◌==◌, get_or, ◌∙◌, arith}
use Rattle.tests_trees.proofs.TreeLemmas.{opposite}
use Rattle.tests_trees.proofs.project.checks_projections.Goals as goal

pub project_tree-requires-clause-tree : goal.project_tree-requires-clause-tree
project_tree-requires-clause-tree g c =
    c.in_ok-trees.ensures (g.C.Conditions.sets c.negate.new.self) _ c.in_ok-first.ensures.own (c.in_ok-first.ensures.keeps.own _ c.in_ok-second.ensures.own)
    (opposite (g.C.Conditions.sets c.choose.new.self) (g.C.Conditions.sets c.negate.new.self) c.in_ok-second.second c.in_ok-first.first (λ config. get_or config 0 0 == 1) 0
    (c.in_ok-second.ensures.keeps.arities ∙ c.requires) (omega arith) c.in_ok-second.ensures.meaning (c.in_ok-first.ensures.meaning _ c.in_ok-second.ensures.meaning) c.in_ok-first.ensures.keeps)

pub project_tree-requires-2-clause-tree : goal.project_tree-requires-2-clause-tree
project_tree-requires-2-clause-tree g c =
    c.in_ok-trees.ensures (g.C.Conditions.sets c.negate.new.self) _ c.in_ok-first.ensures.own (c.in_ok-first.ensures.keeps.own _ c.in_ok-second.ensures.own)
    (opposite (g.C.Conditions.sets c.choose.new.self) (g.C.Conditions.sets c.negate.new.self) c.in_ok-second.second c.in_ok-first.first (λ config. get_or config 0 0 == 1) 1
    (c.in_ok-second.ensures.keeps.arities ∙ c.requires) (omega arith) c.in_ok-second.ensures.meaning (c.in_ok-first.ensures.meaning _ c.in_ok-second.ensures.meaning) c.in_ok-first.ensures.keeps)
