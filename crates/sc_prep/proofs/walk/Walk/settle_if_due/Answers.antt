use Rattle.sc_prep.proofs.SettleMoves.{forgets-stage, settled-closes, stage-stored}
use Rattle.sc_prep.proofs.SharesLater.{shares-forgets}
use Rattle.sc_prep.proofs.walk.Walk.settle_if_due.Goals as goal

pub returns-in_ok-forget-clause-stays : goal.returns-in_ok-forget-clause-stays
returns-in_ok-forget-clause-stays g c =
    let settled = c.in_ok-settle_within.ensures in
    settled-closes settled.keeps settled.stays (forgets-stage c.args.files.now c.settle_within.new.names c.settle_within.new.self (stage-stored settled.keeps settled.stays) c.in_ok-forget.ensures)

pub returns-in_ok-forget-clause-shares : goal.returns-in_ok-forget-clause-shares
returns-in_ok-forget-clause-shares g c = λ few. shares-forgets c.in_ok-forget.ensures (c.in_ok-settle_within.ensures.shares few)
