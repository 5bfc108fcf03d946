use Rattle.std.proofs.Common.{refl, []}
use Rattle.sc_prep.proofs.ApartLemmas.{gathers-same}
use Rattle.sc_prep.proofs.CloseMoves.{closes-none, ended-stage}
use Rattle.sc_prep.proofs.Facts.{IsConfig-Keeps, Keeps-trans}
use Rattle.sc_prep.proofs.SettleMoves.{same-machine, settled-closes, stage-stored}
use Rattle.sc_prep.proofs.SharesEnded.{lives-before}
use Rattle.sc_prep.proofs.SharesKept.{shares-behind, shares-refl}
use Rattle.sc_prep.proofs.walk.Walk.close_runs.Goals as goal

pub returns-then-is_never-clause-closes : goal.returns-then-is_never-clause-closes
returns-then-is_never-clause-closes g c =
    let w = c.args.self.now in
    let stored = c.requires.stored in
    record {
      simulates = closes-none c.args.files.now c.args.names.now (g.C.Conditions.sets c.args.conds.now) w stored.owns stored.table (c.is_never.ensures.0 c.if-is_never.true);
      held = stored.held;
      plain = λ plain was. was;
      gathers = gathers-same [] w w refl;
    }

pub returns-then-is_never-clause-shares : goal.returns-then-is_never-clause-shares
returns-then-is_never-clause-shares g c = λ few. shares-refl

pub end_runs-requires : goal.end_runs-requires
end_runs-requires g c = let stays = c.in_ok-settle_runs.ensures.stays in record { owns = stays.simulates.owns; held = λ k d h. (stays.held.runs.gathered k d h).0 }

pub returns-clause-closes : goal.returns-clause-closes
returns-clause-closes g c =
    let settled = c.in_ok-settle_runs.ensures in
    settled-closes settled.keeps settled.stays
    (ended-stage c.args.files.now c.settle_runs.new.names c.settle_runs.new.self c.end_runs.new.self (stage-stored settled.keeps settled.stays) settled.ends c.in_ok-end_runs.ensures.ends)

pub returns-clause-shares : goal.returns-clause-shares
returns-clause-shares g c = λ few.
    let settled = c.in_ok-settle_runs.ensures in
    let ended = c.in_ok-end_runs.ensures in
    let lives = lives-before ended.ends ended.keeps in
    shares-behind settled.keeps
    (λ x k listed at _ live.
    record { machine = k; simulates = same-machine settled.keeps settled.stays x k listed at; live = lives x (IsConfig-Keeps settled.keeps listed) live; is = tt })
    (ended.shares c.args.files.now (stage-stored settled.keeps settled.stays) settled.ends) (settled.shares few)

pub returns-clause-keeps : goal.returns-clause-keeps
returns-clause-keeps g c = Keeps-trans c.in_ok-settle_runs.ensures.keeps c.in_ok-end_runs.ensures.keeps

pub returns-in_err-end_runs-clause-keeps : goal.returns-in_err-end_runs-clause-keeps
returns-in_err-end_runs-clause-keeps g c = Keeps-trans c.in_ok-settle_runs.ensures.keeps c.in_err-end_runs.ensures.keeps
