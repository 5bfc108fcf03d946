use Rattle.std.proofs.Common.{ap, refl, subst, sym}
use Rattle.sc_prep.proofs.Facts.{Denotes-self}
use Rattle.sc_prep.proofs.FindLemmas.{adds-none}
use Rattle.sc_prep.proofs.Terms.{AddsFile, Found, option_map}
use Rattle.sc_prep.proofs.finding.Found.add.Goals as goal

pub returns-in_ok-self-in-None-clause-adds : goal.returns-in_ok-self-in-None-clause-adds
returns-in_ok-self-in-None-clause-adds g c =
    let old = g.C.Conditions.sets c.args.conds.now in
    let was = c.args.self.now in
    let next : Found = record { parts = was.parts; missing = c.in_ok-self-in-None.field-0 } in
    subst (λ o. AddsFile old c.args.cond.0 o was (g.C.Conditions.sets c.apply_or.new.self) next) (sym (ap (option_map (λ pair. pair.0)) c.in-None.is))
    (adds-none c.apply_or.ensures.keeps c.args.cond was next refl c.requires.parts c.in_ok-self-in-None.ensures.own
    (c.in_ok-self-in-None.ensures.meaning (old.has was.missing.0) (old.has c.args.cond.0) (Denotes-self old was.missing.0 c.requires.missing) (Denotes-self old c.args.cond.0 c.requires.own)))
