use Rattle.std.proofs.Common.{Some, ap, ◌∙◌}
use Rattle.sc_prep.proofs.Facts.{IfErr-weaker, IfOk-weaker}
use Rattle.sc_prep.proofs.Stages.{no-memory}
use Rattle.sc_prep.proofs.Terms.{AskedHas, seen_line}
use Rattle.sc_prep.proofs.walk.Walk.decide_test.Goals as goal

pub returns-in-Defined-clause-decides : goal.returns-in-Defined-clause-decides
returns-in-Defined-clause-decides g c =
    IfOk-weaker c.decide_name.result _ _ (λ taken decides. decides c.args.standard c.args.files.now (c.requires.line ∙ ap Some c.in-Defined.is) c.requires.placed c.requires.stored.held) c.decide_name.ensures.decides

pub returns-in-Defined-clause-stops : goal.returns-in-Defined-clause-stops
returns-in-Defined-clause-stops g c =
    let s = g.C.Conditions.sets c.args.conds.now in
    IfErr-weaker c.decide_name.result _ _
    (no-memory s c.args.names.now c.args.files.now c.args.self.now c.args.line.now (AskedHas s c.args.among.0 (seen_line c.args.standard c.args.names.now c.args.files.now c.args.line.now)) c.args.limit)
    c.decide_name.ensures.memory

pub returns-in-Undefined-clause-decides : goal.returns-in-Undefined-clause-decides
returns-in-Undefined-clause-decides g c =
    IfOk-weaker c.decide_name-in-Undefined.result _ _ (λ taken decides. decides c.args.standard c.args.files.now (c.requires.line ∙ ap Some c.in-Undefined.is) c.requires.placed c.requires.stored.held)
    c.decide_name-in-Undefined.ensures.decides

pub returns-in-Undefined-clause-stops : goal.returns-in-Undefined-clause-stops
returns-in-Undefined-clause-stops g c =
    let s = g.C.Conditions.sets c.args.conds.now in
    IfErr-weaker c.decide_name-in-Undefined.result _ _
    (no-memory s c.args.names.now c.args.files.now c.args.self.now c.args.line.now (AskedHas s c.args.among.0 (seen_line c.args.standard c.args.names.now c.args.files.now c.args.line.now)) c.args.limit)
    c.decide_name-in-Undefined.ensures.memory
