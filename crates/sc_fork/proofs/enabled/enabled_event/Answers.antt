use Rattle.std.proofs.Common.{ap, refl, sym, ◌∙◌}
use Rattle.std.proofs.lemmas.Result.{err_from_is_err_and}
use Rattle.sc_fork.specs.Enabled.{can_split, can_reduce, can_shift, can_classify, not_between, not_named, no_reduction, reduction}
use Rattle.sc_fork.proofs.EnabledLemmas.{split_missing, classify_missing, reduce_not_looking, shift_not_looking}
use Rattle.sc_merge.specs.declared.subparser.Subparser.{Subparser}
use Rattle.sc_fork.proofs.enabled.enabled_event.Goals as goal

pub returns-in_err-parent-in-Split-clause-err : goal.returns-in_err-parent-in-Split-clause-err
returns-in_err-parent-in-Split-clause-err c =
    let p = err_from_is_err_and c.from_residual.result c.from_residual.ensures.1 in
    rw (p.1, p.2, c.in-Split.is) (split_missing c.args.source.now c.args.rows.now c.in-Split.number c.in_err-parent-in-Split.field-0.0 c.in_err-parent-in-Split.ensures.err)

pub returns-in_err-parent-in-Reduce-clause-err : goal.returns-in_err-parent-in-Reduce-clause-err
returns-in_err-parent-in-Reduce-clause-err c =
    let p = err_from_is_err_and c.from_residual-in_err-parent-in-Reduce.result c.from_residual-in_err-parent-in-Reduce.ensures.1 in
    rw (p.1, p.2, c.in-Reduce.is)
    (reduce_not_looking c.args.source.now c.args.rows.now c.in-Reduce.number c.in_err-parent-in-Reduce.field-0.0 c.in_err-parent-in-Reduce.ensures.err)

pub returns-in_err-parent-in-Shift-clause-err : goal.returns-in_err-parent-in-Shift-clause-err
returns-in_err-parent-in-Shift-clause-err c =
    let p = err_from_is_err_and c.from_residual-in_err-parent-in-Shift.result c.from_residual-in_err-parent-in-Shift.ensures.1 in
    rw (p.1, p.2, c.in-Shift.is) (shift_not_looking c.args.source.now c.args.rows.now c.in-Shift.number c.in_err-parent-in-Shift.field-0.0 c.in_err-parent-in-Shift.ensures.err)

pub returns-in_err-parent-in-Classify-clause-err :
    goal.returns-in_err-parent-in-Classify-clause-err
returns-in_err-parent-in-Classify-clause-err c =
    let p = err_from_is_err_and c.from_residual-in_err-parent-in-Classify.result c.from_residual-in_err-parent-in-Classify.ensures.1 in
    rw (p.1, p.2, c.in-Classify.is)
    (classify_missing c.args.source.now c.args.rows.now c.in-Classify.number c.in_err-parent-in-Classify.field-0.0 c.in_err-parent-in-Classify.ensures.err)

pub returns-in-Between-clause-ok : goal.returns-in-Between-clause-ok
returns-in-Between-clause-ok c =
    rw (c.in-Split.is) (can_split c.in-Split.number c.in-Between.from c.in_ok-parent-in-Split.parent c.in_ok-parent-in-Split.ensures.ok
    (sym (ap (λ (p : Subparser). p.phase) (c.whole.view_is ∙ c.head-whole.ensures)) ∙ c.in-Between.is))

pub returns-in_default : goal.returns-in_default
returns-in_default c = record {
  ok = tt;
  err = rw (c.in-Split.is) (not_between c.in-Split.number _ (rw (← c.head-whole.ensures, ← c.whole.view_is) at c.in_ok-parent-in-Split.ensures.ok) c.in_default.not-Between);
}

pub returns-in-Some-clause-ok : goal.returns-in-Some-clause-ok
returns-in-Some-clause-ok c =
    rw (c.in-Reduce.is)
    (can_reduce c.in-Reduce.number c.in_ok-parent-in-Reduce.at c.in-Some.production c.in_ok-parent-in-Reduce.parent c.in_ok-parent-in-Reduce.ensures.ok.has
    c.in_ok-parent-in-Reduce.ensures.ok.phase (sym c.action.ensures ∙ c.in-Some.ensures.some))

pub returns-in-None-clause-err : goal.returns-in-None-clause-err
returns-in-None-clause-err c =
    rw (c.in-Reduce.is)
    (no_reduction c.in-Reduce.number c.in_ok-parent-in-Reduce.at c.in_ok-parent-in-Reduce.parent c.in_ok-parent-in-Reduce.ensures.ok.has
    c.in_ok-parent-in-Reduce.ensures.ok.phase (λ p e. c.in-None.ensures.none refl p (c.action.ensures ∙ e)))

pub returns-in-Some-reduction-clause-err : goal.returns-in-Some-reduction-clause-err
returns-in-Some-reduction-clause-err c =
    rw (c.in-Shift.is)
    (reduction c.in-Shift.number c.in_ok-parent-in-Shift.at c.in-Some-reduction.field-0 c.in_ok-parent-in-Shift.parent c.in_ok-parent-in-Shift.ensures.ok.has
    c.in_ok-parent-in-Shift.ensures.ok.phase (sym c.action-in-Shift.ensures ∙ c.in-Some-reduction.ensures.some))

pub returns-in-None-reduction-clause-ok : goal.returns-in-None-reduction-clause-ok
returns-in-None-reduction-clause-ok c =
    rw (c.in-Shift.is)
    (can_shift c.in-Shift.number c.in_ok-parent-in-Shift.at c.in_ok-parent-in-Shift.parent c.in_ok-parent-in-Shift.ensures.ok.has
    c.in_ok-parent-in-Shift.ensures.ok.phase (λ p e. c.in-None-reduction.ensures.none refl p (c.action-in-Shift.ensures ∙ e)))

pub returns-in-Named-clause-ok : goal.returns-in-Named-clause-ok
returns-in-Named-clause-ok c =
    rw (c.in-Classify.is) (can_classify c.in-Classify.number c.in-Named.at c.in_ok-parent-in-Classify.parent c.in_ok-parent-in-Classify.ensures.ok
    (sym (ap (λ (p : Subparser). p.phase) c.parent.view_is) ∙ c.in-Named.is))

pub returns-in_default-phase : goal.returns-in_default-phase
returns-in_default-phase c = record {
  ok = tt;
  err = rw (c.in-Classify.is) (not_named c.in-Classify.number _ (rw (← c.parent.view_is) at c.in_ok-parent-in-Classify.ensures.ok) c.in_default-phase.not-Named);
}
