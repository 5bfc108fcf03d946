use Rattle.std.proofs.Common.{◌∙◌, sym, subst}
use Rattle.sc_prep.proofs.Facts.{Denotes-self}
use Rattle.sc_prep.proofs.OnceLemmas.{OnceFile-position, found-owned, joins-file}
use Rattle.sc_prep.proofs.once.mark.Goals as goal

pub returns-in_ok-either-in-Some-clause-marks : goal.returns-in_ok-either-in-Some-clause-marks
returns-in_ok-either-in-Some-clause-marks g c =
    let old = g.C.Conditions.sets c.args.conds.now in
    let once = c.args.once.now.items in
    let i = c.in-Some.index in
    let o = c.index.result.now in
    let at = subst (λ os. OnceFile-position os c.args.file.0 i) c.deref.ensures.value (sym c.index_of.ensures ∙ c.in-Some.is) in
    joins-file c.apply_or.ensures.keeps once i o c.args.file c.args.cond c.in_ok-either-in-Some.either at c.index.ensures c.requires.once
    (c.in_ok-either-in-Some.ensures.meaning (old.has o.cond.0) (old.has c.args.cond.0) (Denotes-self old o.cond.0 (found-owned once i o c.args.file at c.index.ensures c.requires.once)) (Denotes-self old c.args.cond.0 c.requires.cond))
