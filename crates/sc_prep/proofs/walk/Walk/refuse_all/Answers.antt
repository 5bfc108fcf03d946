use Rattle.std.proofs.Common.{true}
use Rattle.sc_prep.proofs.Facts.{Denotes-self, on_ok_weaker}
use Rattle.sc_prep.proofs.walk.Walk.refuse_all.Goals as goal

pub returns-clause-moved : goal.returns-clause-moved
returns-clause-moved g c = on_ok_weaker c.refuse.result (λ moved standard names.
    moved standard names (λ _. true) (Denotes-self (g.C.Conditions.sets c.args.conds.now) c.args.self.now.acting.0 c.requires.owns.acting)) c.refuse.ensures.moved
