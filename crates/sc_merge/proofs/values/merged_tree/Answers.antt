use Rattle.std.proofs.lemmas.Result.{IfOk-weaker}
use Rattle.sc_merge.proofs.ValueLemmas.{adds-one, value-first, value-second}
use Rattle.sc_merge.proofs.values.merged_tree.Goals as goal

pub returns-clause-left : goal.returns-clause-left
returns-clause-left c =
    IfOk-weaker c.choice.result _ _ (λ id named. value-first _ _ c.args.here c.args.there c.args.left c.args.right id c.choice.ensures.grows named) c.choice.ensures.named

pub returns-clause-right : goal.returns-clause-right
returns-clause-right c =
    IfOk-weaker c.choice.result _ _ (λ id named. value-second _ _ c.args.here c.args.there c.args.left c.args.right id c.choice.ensures.grows named) c.choice.ensures.named

pub returns-clause-adds : goal.returns-clause-adds
returns-clause-adds c = adds-one c.args.here c.args.there c.args.left c.args.right _ _ c.choice.result c.choice.ensures.adds c.choice.ensures.err
