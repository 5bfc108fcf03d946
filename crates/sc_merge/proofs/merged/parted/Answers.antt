use Rattle.sc_merge.proofs.PartLemmas.{parts-made}
use Rattle.sc_model.proofs.SetLemmas.{Denotes-self, Keeps-trans}
use Rattle.sc_merge.proofs.merged.parted.Goals as goal

pub returns-in_err-here-clause-keeps : goal.returns-in_err-here-clause-keeps
returns-in_err-here-clause-keeps g c = Keeps-trans c.in_ok-either.ensures.keeps (Keeps-trans c.in_ok-there.ensures.keeps c.in_err-here.ensures.keeps)

pub returns-clause-keeps : goal.returns-clause-keeps
returns-clause-keeps g c = Keeps-trans c.in_ok-either.ensures.keeps (Keeps-trans c.in_ok-there.ensures.keeps c.in_ok-here.ensures.keeps)

pub returns-clause-parts : goal.returns-clause-parts
returns-clause-parts g c =
    let sets = g.C.Conditions.sets in
    let first = sets c.args.conds.now in
    let simplified = sets c.simplify.new.self in
    let there = c.in_ok-there.there.0 in
    parts-made c.in_ok-either.ensures.keeps c.in_ok-there.ensures.keeps c.in_ok-here.ensures.keeps c.requires.a_own c.requires.b_own
    (c.in_ok-either.ensures.meaning (first.has c.args.a.0) (first.has c.args.b.0) (Denotes-self first c.args.a.0 c.requires.a_own) (Denotes-self first c.args.b.0 c.requires.b_own))
    c.in_ok-there.ensures.own c.in_ok-there.ensures.meaning
    (c.in_ok-here.ensures.meaning (simplified.has there) (Denotes-self simplified there c.in_ok-there.ensures.own))
