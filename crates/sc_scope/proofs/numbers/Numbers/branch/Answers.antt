use Rattle.std.proofs.Common.{sym, ◌∙◌, ap, subst}
use Rattle.sc_scope.proofs.NumberLemmas.{IsNumbered-Extends, level-last, levels-grow}
use Rattle.sc_scope.proofs.numbers.Numbers.branch.Goals as goal

pub returns-clause-numbered : goal.returns-clause-numbered
returns-clause-numbered c =
    let grows = levels-grow _ _ _ c.with-history.ensures in
    (level-last _ _ _ _ c.args.self.now.counted c.with-history.ensures, (IsNumbered-Extends c.args.left.value grows c.requires.left, IsNumbered-Extends c.args.right.value grows c.requires.right))

pub returns-clause-grows : goal.returns-clause-grows
returns-clause-grows c = levels-grow _ _ _ c.with-history.ensures
