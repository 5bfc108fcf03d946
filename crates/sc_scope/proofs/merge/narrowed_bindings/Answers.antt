use Rattle.std.proofs.lemmas.Result.{IfOk-weaker}
use Rattle.sc_scope.proofs.KindLemmas.{narrows}
use Rattle.sc_scope.proofs.merge.narrowed_bindings.Goals as goal

pub returns-clause-narrows : goal.returns-clause-narrows
returns-clause-narrows g c =
    IfOk-weaker c.bindings_of_kinds.result _ _
    (λ bindings of. narrows _ _ c.args.cond c.in_ok-kinds.kinds _ _ c.kinds_under.ensures.keeps c.in_ok-kinds.ensures.parts of)
    c.bindings_of_kinds.ensures
