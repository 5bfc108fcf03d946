use Rattle.std.proofs.Common.{refl}
use Rattle.sc_prep.proofs.Facts.{Denotes-Keeps, Denotes-self, Keeps-trans}
use Rattle.sc_prep.proofs.RunLemmas.{refuses-one}
use Rattle.sc_prep.proofs.walk.Walk.refuse_at.Goals as goal

pub returns-clause-refuses : goal.returns-clause-refuses
returns-clause-refuses g c =
    let old = g.C.Conditions.sets c.args.conds.now in
    let w = c.args.self.now in
    let k1 = c.in_ok-live.ensures.keeps in
    let k2 = c.in_ok-acting.ensures.keeps in
    let refused = Denotes-self old c.args.fault.cond.0 c.requires.own in
    let live = c.in_ok-live.ensures.meaning _ _ (Denotes-self old w.prepared.live.0 c.requires.live) refused in
    let acting = c.in_ok-acting.ensures.meaning _ _ (Denotes-Keeps k1 (Denotes-self old w.acting.0 c.requires.acting)) (Denotes-Keeps k1 refused) in
    refuses-one (Keeps-trans k1 k2) w _ c.args.fault refl c.in_ok-push.ensures.items (Denotes-Keeps k2 live) acting
