use Rattle.sc_model.proofs.SetLemmas.{Keeps-trans}
use Rattle.sc_scope.proofs.KindLemmas.{merges}
use Rattle.sc_scope.proofs.merge.merged_bindings.Goals as goal

pub returns-in_err-both-clause-keeps : goal.returns-in_err-both-clause-keeps
returns-in_err-both-clause-keeps g c = Keeps-trans c.kinds_under.ensures.keeps (Keeps-trans c.kinds_under-2.ensures.keeps c.either.ensures.keeps)

pub returns-in_err-bindings_of_kinds-clause-keeps : goal.returns-in_err-bindings_of_kinds-clause-keeps
returns-in_err-bindings_of_kinds-clause-keeps g c =
    Keeps-trans c.kinds_under.ensures.keeps (Keeps-trans c.kinds_under-2.ensures.keeps c.either.ensures.keeps)

pub returns-clause-keeps : goal.returns-clause-keeps
returns-clause-keeps g c = Keeps-trans c.kinds_under.ensures.keeps (Keeps-trans c.kinds_under-2.ensures.keeps c.either.ensures.keeps)

pub returns-clause-merges : goal.returns-clause-merges
returns-clause-merges g c =
    merges c.args.here c.args.there c.in_ok-left.left c.in_ok-right.right c.in_ok-both.both _ _ _ c.kinds_under.ensures.keeps c.kinds_under-2.ensures.keeps
    c.either.ensures.keeps c.requires.there_own c.requires.right_own c.in_ok-left.ensures.parts c.in_ok-right.ensures.parts c.in_ok-both.ensures.either
    c.in_ok-bindings_of_kinds.ensures
