use Rattle.std.proofs.Common.{refl}
use Rattle.sc_prep.proofs.Facts.{Denotes-self}
use Rattle.sc_prep.proofs.WalkMoves.{owns-innermost, ends}
use Rattle.sc_prep.proofs.walk.Walk.end_section.Goals as goal

pub returns-clause-moved : goal.returns-clause-moved
returns-clause-moved g c = λ names.
    let old = g.C.Conditions.sets c.args.conds.now in
    let w = c.args.self.now in
    let keeps = c.in_ok-acting.ensures.keeps in
    let inner = owns-innermost keeps w c.requires c.pop.new.self.items c.in-Some.section c.in-Some.ensures.items in
    ends keeps w c.requires c.pop.new.self.items c.in-Some.section c.in-Some.ensures.items names c.in_ok-acting.acting c.pop.new.self refl
    (c.in_ok-acting.ensures.meaning (old.has c.in-Some.section.around.0) (old.has w.prepared.live.0) (Denotes-self old c.in-Some.section.around.0 inner.around) (Denotes-self old w.prepared.live.0 c.requires.prepared.live))
