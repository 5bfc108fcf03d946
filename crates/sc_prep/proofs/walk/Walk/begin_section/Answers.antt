use Rattle.sc_prep.proofs.Facts.{Denotes-Keeps, Denotes-self, Keeps-trans}
use Rattle.sc_prep.proofs.WalkMoves.{begins}
use Rattle.sc_prep.proofs.walk.Walk.begin_section.Goals as goal

pub returns-clause-opened : goal.returns-clause-opened
returns-clause-opened g c = λ names t told.
    let old = g.C.Conditions.sets c.args.conds.now in
    let w = c.args.self.now in
    let k1 = c.in_ok-untaken.ensures.keeps in
    let k2 = Keeps-trans k1 c.in_ok-group.ensures.keeps in
    let group = Denotes-self old w.group.0 c.requires.owns.group in
    let untaken = c.in_ok-untaken.ensures.meaning (old.has w.group.0) t group told in
    let taken = c.in_ok-group.ensures.meaning (old.has w.group.0) t (Denotes-Keeps k1 group) (Denotes-Keeps k1 told) in
    let live = c.in_ok-acting.ensures.meaning _ _ taken (Denotes-Keeps k2 (Denotes-self old w.prepared.live.0 c.requires.owns.prepared.live)) in
    begins names (Keeps-trans k2 c.in_ok-acting.ensures.keeps) w c.requires.owns t c.in_ok-group.group c.in_ok-untaken.untaken c.in_ok-acting.acting
    c.push.new.self c.in_ok-push.ensures.items (Denotes-Keeps c.in_ok-acting.ensures.keeps taken)
    (Denotes-Keeps (Keeps-trans c.in_ok-group.ensures.keeps c.in_ok-acting.ensures.keeps) untaken) live
