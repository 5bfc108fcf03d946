use Rattle.std.proofs.Common.{ap, ◌∙◌, reverse}
use Rattle.sc_guarded.specs.Items.{items_at}
use Rattle.sc_tree.proofs.GuardedLemmas.{items_at-reverse}
use Rattle.sc_tree.proofs.walk.walk_back.Goals as goal

pub returns-clause-passed : goal.returns-clause-passed
returns-clause-passed g c = λ d is path walked.
    ap (λ trees. items_at (g.C.Conditions.sets c.walk.new.conds) trees d) c.reverse.ensures.items
    ∙ items_at-reverse (g.C.Conditions.sets c.walk.new.conds) c.in_ok-passed.passed.items d
    ∙ ap reverse (c.in_ok-passed.ensures.passed d is path walked)
