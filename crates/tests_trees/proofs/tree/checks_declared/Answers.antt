use Rattle.std.proofs.Common.{[], ◌∷◌}
use Rattle.std.proofs.lemmas.List.Elements.{All-nil, All-cons}
use Rattle.sc_base.specs.declared.id.Cond.{Cond}
use Rattle.sc_base.specs.declared.id.TreeId.{TreeId}
use Rattle.sc_model.specs.Sets.{IsCond}
use Rattle.tests_trees.proofs.OwnLemmas.{owns-none, owns-push, owns-shared}
use Rattle.tests_trees.proofs.tree.checks_declared.Goals as goal

pub declared-requires-clause-branches : goal.declared-requires-clause-branches
declared-requires-clause-branches g c =
    let s = g.C.Conditions.sets c.negate.new.self in
    let Own : Cond × TreeId → Type 0 = λ branch. IsCond s branch.0.0 in
    let first = owns-push s c.new-trees.result c.leaf.new.self _ (owns-none s c.new-trees.result c.new-trees.ensures) (All-nil Own) c.in_ok-name.ensures.adds in
    let second = owns-push s c.leaf.new.self c.node.new.self _ first (All-nil Own) c.in_ok-array.ensures.adds in
    owns-shared s c.node.new.self c.choice.new.self _ second
    (All-cons Own (c.in_ok-chosen.chosen, c.in_ok-name.name) ((c.in_ok-others.others, c.in_ok-array.array) ∷ []) (c.in_ok-others.ensures.keeps.own _ c.in_ok-chosen.ensures.own)
    (All-cons Own (c.in_ok-others.others, c.in_ok-array.array) [] c.in_ok-others.ensures.own (All-nil Own)))
    c.in_ok-declarator.ensures.adds
