use Rattle.std.proofs.Common.{refl}
use Rattle.sc_base.proofs.Growth.{Extends-keeps}
use Rattle.tests_trees.proofs.TreeLemmas.{has_tree}
use Rattle.tests_trees.proofs.project.trees_with_choice.Goals as goal

pub returns : goal.returns
returns c = λ sets config own_first own_second other.
    let in_choice = Extends-keeps _ _ (Extends-keeps _ _ c.in_ok-twice.ensures.named c.in_ok-pair.ensures.grows) c.in_ok-either.ensures.grows in
    let first_kept = Extends-keeps _ _ (Extends-keeps _ _ c.in_ok-once.ensures.named c.in_ok-twice.ensures.grows) c.in_ok-pair.ensures.grows in
    has_tree sets c.node-2.new.self config _ c.args.first c.args.second c.in_ok-once.once c.in_ok-twice.twice c.in_ok-pair.pair c.in_ok-either.either c.in_ok-root.root _ _ refl refl refl
    (Extends-keeps _ _ (Extends-keeps _ _ first_kept c.in_ok-either.ensures.grows) c.in_ok-root.ensures.grows)
    (Extends-keeps _ _ in_choice c.in_ok-root.ensures.grows)
    (Extends-keeps _ _ (Extends-keeps _ _ c.in_ok-pair.ensures.named c.in_ok-either.ensures.grows) c.in_ok-root.ensures.grows)
    (Extends-keeps _ _ c.in_ok-either.ensures.named c.in_ok-root.ensures.grows)
    c.in_ok-root.ensures.named own_first own_second other
