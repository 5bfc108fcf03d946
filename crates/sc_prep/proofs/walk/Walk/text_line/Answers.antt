use Rattle.std.proofs.Common.{ap, refl, sym}
use Rattle.sc_prep.proofs.ApartLemmas.{gathers-same}
use Rattle.sc_prep.proofs.Facts.{on_ok_weaker}
use Rattle.sc_prep.proofs.Terms.{acting, plain_by, seen_line, with_text}
use Rattle.sc_prep.proofs.WalkMoves.{mild-stays, step-as}
use Rattle.sc_prep.proofs.SharesKept.{shares-refl}
use Rattle.sc_prep.proofs.walk.Walk.text_line.Goals as goal

pub returns-in-None-clause-moved : goal.returns-in-None-clause-moved
returns-in-None-clause-moved g c = on_ok_weaker c.put.result (λ moved standard names.
    let line = c.args.line.now in
    step-as (λ files config m. acting m (λ s. with_text s (seen_line standard names files line))) (λ files config m. plain_by m (seen_line standard names files line) c.args.directive)
    (λ files config m _ _. ap (plain_by m (seen_line standard names files line)) (sym c.in-None.is)) (moved standard names)) c.put.ensures.moved

pub returns-in-Some-clause-moved : goal.returns-in-Some-clause-moved
returns-in-Some-clause-moved g c = λ standard names.
    mild-stays standard names (g.C.Conditions.sets c.args.conds.now) c.args.self.now c.requires.owns c.args.line.now c.args.directive _ c.in-Some.is c.requires.mild

pub returns-in-Some-clause-gathers : goal.returns-in-Some-clause-gathers
returns-in-Some-clause-gathers g c = gathers-same c.args.line.now c.args.self.now c.args.self.now refl

pub returns-in-None-clause-text : goal.returns-in-None-clause-text
returns-in-None-clause-text g c = on_ok_weaker c.put.result (λ text none. text) c.put.ensures.text

pub returns-in-Some-clause-shares : goal.returns-in-Some-clause-shares
returns-in-Some-clause-shares g c = λ names files. shares-refl

pub returns-in-Some-clause-text : goal.returns-in-Some-clause-text
returns-in-Some-clause-text g c = λ none. let some = c.in-Some.is in absurd (cc)
