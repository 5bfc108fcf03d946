use Rattle.std.proofs.Common.{refl}
use Rattle.sc_prep.proofs.Facts.{Denotes-self}
use Rattle.sc_prep.proofs.walk.Walk.end_file.Goals as goal

pub returns-clause-leaves : goal.returns-clause-leaves
returns-clause-leaves g c =
    let old = g.C.Conditions.sets c.args.conds.now in
    record {
      is = refl;
      acting =
          c.in_ok-acting.ensures.meaning (old.has c.args.around.group.0) (old.has c.args.self.now.prepared.live.0) (Denotes-self old c.args.around.group.0 c.requires.group)
          (Denotes-self old c.args.self.now.prepared.live.0 c.requires.live);
    }
