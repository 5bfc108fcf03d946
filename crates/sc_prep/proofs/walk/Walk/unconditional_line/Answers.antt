use Rattle.std.proofs.Common.{◌∙◌, sym, ap, Some}
use Rattle.sc_prep.proofs.SettleMoves.{settled-closes, stage-stored}
use Rattle.sc_prep.proofs.TakeLine.{barrier-found, barrier-missing, plain-stage}
use Rattle.sc_prep.proofs.CalmShares.{directive-puts, mild-puts, mild-shares}
use Rattle.sc_prep.proofs.Facts.{on_ok_weaker}
use Rattle.sc_prep.proofs.walk.Walk.unconditional_line.Goals as goal

pub barrier_line-requires-clause-directive : goal.barrier_line-requires-clause-directive
barrier_line-requires-clause-directive g c = (barrier-found c.args.directive c.in-Some.barrier c.in-Some.ensures).0 ∙ c.requires.directive

pub barrier_line-requires-clause-barrier : goal.barrier_line-requires-clause-barrier
barrier_line-requires-clause-barrier g c =
    let found = barrier-found c.args.directive c.in-Some.barrier c.in-Some.ensures in
    (found.1, λ e. c.requires.local.1 (sym found.0 ∙ ap Some e))

pub text_line-requires-clause-mild : goal.text_line-requires-clause-mild
text_line-requires-clause-mild g c = barrier-missing c.args.directive c.in-None.ensures

pub returns-in_ok-text_line-in-None-clause-takes : goal.returns-in_ok-text_line-in-None-clause-takes
returns-in_ok-text_line-in-None-clause-takes g c = λ x.
    let first = c.in_ok-settle_if_due-in-None.ensures in
    let p = c.in_ok-text_line-in-None.ensures in
    let more = c.settle_if_due.new.names in
    settled-closes first.keeps first.stays
    (plain-stage c.args.standard c.args.files.now c.args.line.now c.args.directive c.requires.directive (barrier-missing c.args.directive c.in-None.ensures) c.requires.local.0 first.names c.requires.placed
    (stage-stored first.keeps first.stays) (p.moved c.args.standard more) (p.printable more) p.gathers x)

pub returns-in-Some-clause-text : goal.returns-in-Some-clause-text
returns-in-Some-clause-text g c = on_ok_weaker c.barrier_line.result (λ shares few apart.
    directive-puts c.args.standard c.args.files.now c.args.line.now c.in-Some.barrier ((barrier-found c.args.directive c.in-Some.barrier c.in-Some.ensures).0 ∙ c.requires.directive)) c.barrier_line.ensures.shares

pub returns-in_ok-text_line-in-None-clause-shares : goal.returns-in_ok-text_line-in-None-clause-shares
returns-in_ok-text_line-in-None-clause-shares g c = λ few.
    let first = c.in_ok-settle_if_due-in-None.ensures in
    let p = c.in_ok-text_line-in-None.ensures in
    let more = c.settle_if_due.new.names in
    mild-shares c.args.standard c.args.files.now first.keeps first.names first.stays c.args.line.now c.args.directive (barrier-missing c.args.directive c.in-None.ensures) (p.moved c.args.standard more) (first.shares few) (p.shares more c.args.files.now)

pub returns-in_ok-text_line-in-None-clause-text : goal.returns-in_ok-text_line-in-None-clause-text
returns-in_ok-text_line-in-None-clause-text g c = λ few apart.
    let first = c.in_ok-settle_if_due-in-None.ensures in
    let p = c.in_ok-text_line-in-None.ensures in
    mild-puts c.args.standard c.args.files.now first.keeps first.names first.stays c.args.line.now c.args.directive (λ k d h. (c.requires.placed k d h).held) c.requires.directive
    (λ none. p.text none c.args.standard c.settle_if_due.new.names c.args.files.now apart)
