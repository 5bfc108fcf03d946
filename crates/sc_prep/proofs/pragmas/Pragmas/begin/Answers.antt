use Rattle.std.proofs.Common.{refl}
use Rattle.sc_prep.proofs.Facts.{Denotes-Keeps, Denotes-self, Keeps-trans}
use Rattle.sc_prep.proofs.PragmaMoves.{begins-operator}
use Rattle.sc_prep.proofs.pragmas.Pragmas.begin.Goals as goal

pub returns-clause-begins : goal.returns-clause-begins
returns-clause-begins g c =
    let old = g.C.Conditions.sets c.args.conds.now in
    let p = c.args.self.now in
    let k1 = c.in_ok-self.ensures.keeps in
    let k2 = c.in_ok-self-2.ensures.keeps in
    let cond = Denotes-self old _ c.requires.own in
    begins-operator c.args.cond c.args.place (Keeps-trans k1 k2) c.requires.own c.requires.owns
    (Denotes-Keeps k2 (c.in_ok-self.ensures.meaning (old.has p.inside.0) (old.has c.args.cond.0) (Denotes-self old _ c.requires.owns.inside) cond))
    (c.in_ok-self-2.ensures.meaning (old.has p.opening.0) (old.has c.args.cond.0) (Denotes-Keeps k1 (Denotes-self old _ c.requires.owns.opening)) (Denotes-Keeps k1 cond)) refl refl c.in_ok-push.ensures.items
