use Rattle.std.proofs.lemmas.Result.{err_from_is_err_and}
use Rattle.sc_fork.specs.Enabled.{other_phase}
use Rattle.sc_fork.proofs.EnabledLemmas.{missing_looks}
use Rattle.sc_fork.proofs.enabled.looking.Goals as goal

pub returns-in_err-parent-clause-err : goal.returns-in_err-parent-clause-err
returns-in_err-parent-clause-err c =
    let p = err_from_is_err_and c.from_residual.result c.from_residual.ensures.1 in
    rw (p.1, p.2) (missing_looks c.args.rows.now c.args.number c.in_err-parent.field-0.0 c.in_err-parent.ensures.err)

pub returns-in_default : goal.returns-in_default
returns-in_default c = record { ok = tt; err = other_phase _ (rw (← c.parent.view_is) at c.in_ok-parent.ensures.ok) c.in_default.not-At }
