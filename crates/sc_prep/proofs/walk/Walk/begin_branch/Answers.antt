use Rattle.sc_prep.proofs.Facts.{Denotes-Keeps, Denotes-self, Keeps-trans}
use Rattle.sc_prep.proofs.WalkMoves.{owns-innermost, branches}
use Rattle.sc_prep.proofs.walk.Walk.begin_branch.Goals as goal

pub returns-clause-moved : goal.returns-clause-moved
returns-clause-moved g c = λ names t told.
    let old = g.C.Conditions.sets c.args.conds.now in
    let w = c.args.self.now in
    let section = c.in-Some.section in
    let k1 = c.in_ok-untaken.ensures.keeps in
    let k2 = Keeps-trans k1 c.in_ok-group.ensures.keeps in
    let k3 = Keeps-trans k2 c.in_ok-acting.ensures.keeps in
    let inner = owns-innermost k3 w c.requires.owns c.pop.new.self.items section c.in-Some.ensures.items in
    let waiting = Denotes-self old section.untaken.0 inner.untaken in
    let untaken = c.in_ok-untaken.ensures.meaning (old.has section.untaken.0) t waiting told in
    let taken = c.in_ok-group.ensures.meaning (old.has section.untaken.0) t (Denotes-Keeps k1 waiting) (Denotes-Keeps k1 told) in
    let live = c.in_ok-acting.ensures.meaning _ _ taken (Denotes-Keeps k2 (Denotes-self old w.prepared.live.0 c.requires.owns.prepared.live)) in
    branches k3 w c.requires.owns c.pop.new.self.items section c.in-Some.ensures.items names t c.in_ok-group.group c.in_ok-untaken.untaken
    c.in_ok-acting.acting c.push_reserved.new.self c.push_reserved.ensures.items (Denotes-Keeps c.in_ok-acting.ensures.keeps taken)
    (Denotes-Keeps (Keeps-trans c.in_ok-group.ensures.keeps c.in_ok-acting.ensures.keeps) untaken) live
