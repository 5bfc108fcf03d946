use Rattle.std.proofs.Common.{◌∙◌, subst}
use Rattle.std.proofs.lemmas.Result.{IfOk-weaker}
use Rattle.sc_macro.specs.Reads.{Refuses}
use Rattle.sc_model.specs.declared.standard.Standard.TheVariants.{C11}
use Rattle.sc_space.proofs.TextLists.{defines-list, defines-nothing}
use Rattle.sc_space.proofs.texts.list_defined.Goals as goal

pub returns-in-Ok : goal.returns-in-Ok
returns-in-Ok c =
    IfOk-weaker c.spelled_list.result _ _ (λ found same ts each. same ∙ defines-list c.args.names.now c.args.line.now ts each c.in-Ok.definition c.in-Ok.ensures.ok) c.spelled_list.ensures

pub returns-in-Err-Fault : goal.returns-in-Err-Fault
returns-in-Err-Fault c = λ ts each.
    defines-nothing c.args.names.now c.args.line.now ts each c.in-Err-Fault.field-0-0 (subst (Refuses C11 c.args.names.now c.args.line.now) c.in-Err-Fault.field-0-is c.in-Err-Fault.ensures.err)
