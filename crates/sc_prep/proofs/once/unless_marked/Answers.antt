use Rattle.sc_prep.proofs.Facts.{Denotes-self}
use Rattle.sc_prep.proofs.OnceLemmas.{unless-other, unless-same}
use Rattle.sc_prep.proofs.once.unless_marked.Goals as goal

pub returns-then-marked-file-clause-unless : goal.returns-then-marked-file-clause-unless
returns-then-marked-file-clause-unless g c =
    let old = g.C.Conditions.sets c.args.conds.now in
    let cond = c.args.cond.0 in
    unless-same old (g.C.Conditions.sets c.apply_without.new.self) c.args.files.now c.args.marked c.args.file.0 cond c.in_ok-rest.rest.0 c.if-marked-file.true
    (c.in_ok-rest.ensures.meaning _ _ (Denotes-self old cond c.requires.own) (Denotes-self old c.args.marked.cond.0 c.requires.marked))

pub returns-clause-unless : goal.returns-clause-unless
returns-clause-unless g c =
    unless-other (g.C.Conditions.sets c.args.conds.now) c.args.files.now c.args.marked c.args.file.0 c.args.cond.0 c.one_to_one.ensures c.requires.file c.requires.held c.if-marked-file.false c.requires.own
