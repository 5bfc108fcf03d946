use Rattle.std.proofs.Common.{◌∙◌, Ok, ap, subst, sym}
use Rattle.std.proofs.lemmas.Result.{on_ok_weaker}
use Rattle.sc_if.specs.Decided.{IsEntered}
use Rattle.sc_if.proofs.deciding.Decided.enter.Goals as goal

pub returns-in-Ok-true-clause-entered : goal.returns-in-Ok-true-clause-entered
returns-in-Ok-true-clause-entered g c =
    let s = g.C.Conditions.sets c.args.conds.now in
    let t = g.C.Conditions.sets c.take.new.conds in
    on_ok_weaker c.take.result (λ entered. subst (λ a. IsEntered s t c.args.hash c.args.cond a c.args.self.now c.take.new.self) (sym (c.in-Ok-true.is ∙ ap Ok c.in-Ok-true.field-0-test)) (entered c.args.hash)) c.take.ensures.entered
