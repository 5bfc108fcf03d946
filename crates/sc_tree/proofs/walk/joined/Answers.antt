use Rattle.std.proofs.lemmas.Result.{IfOk-weaker}
use Rattle.sc_tree.proofs.WalkLemmas.{joined-some}
use Rattle.sc_tree.proofs.walk.joined.Goals as goal

pub returns-in-Some-clause-has : goal.returns-in-Some-clause-has
returns-in-Some-clause-has g c =
    IfOk-weaker c.apply_or.result _ _
    (λ r meaning d is. joined-some _ _ c.args.others c.in-Some.other c.args.cond r d c.in-Some.is meaning (c.requires.others _ c.in-Some.is) c.requires.own c.apply_or.ensures.keeps is)
    c.apply_or.ensures.meaning
