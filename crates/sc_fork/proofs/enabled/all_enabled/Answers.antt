use Rattle.std.proofs.Common.{sym, ◌∙◌}
use Rattle.std.proofs.lemmas.Result.{err_from_is_err_and}
use Rattle.sc_fork.proofs.BundleLemmas.{enabled-more, enabled-none, refused-at, twice-at}
use Rattle.sc_fork.proofs.enabled.all_enabled.Goals as goal

pub loop-at-init : goal.loop-at-init
loop-at-init c = enabled-none c.args.source.now c.args.rows.now c.args.kind

pub loop-at-preserved : goal.loop-at-preserved
loop-at-preserved c =
    enabled-more c.args.source.now c.args.rows.now c.args.kind c.args.members.now c.loop-at.at 0 c.loop-at-test.true c.loop-at.invariant
    (c.in_ok-enabled_event.field-0, (rw c.event.ensures at c.in_ok-enabled_event.ensures.ok)) (sym c.contains.ensures.value ∙ c.if-contains.false)

pub returns-in_err-enabled_event-clause-err : goal.returns-in_err-enabled_event-clause-err
returns-in_err-enabled_event-clause-err c =
    let p = err_from_is_err_and c.from_residual.result c.from_residual.ensures.1 in
    rw (p.1, p.2)
    (refused-at c.args.source.now c.args.rows.now c.args.kind c.args.members.now c.loop-at.at 0 c.in_err-enabled_event.field-0.0 c.loop-at-test.true c.loop-at.invariant
    (rw c.event.ensures at c.in_err-enabled_event.ensures.err))

pub returns-then-contains-clause-err : goal.returns-then-contains-clause-err
returns-then-contains-clause-err c =
    twice-at c.args.source.now c.args.rows.now c.args.kind c.args.members.now c.loop-at.at 0 c.loop-at-test.true c.loop-at.invariant (sym c.contains.ensures.value ∙ c.if-contains.true)
