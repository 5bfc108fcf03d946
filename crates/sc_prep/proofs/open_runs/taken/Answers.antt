use Rattle.std.proofs.Common.{List, [], ◌∷◌, ◌++◌, Option, ap, subst, sym}
use Rattle.sc_prep.proofs.Facts.{Denotes-Keeps, Denotes-self}
use Rattle.sc_prep.proofs.ReadMoves.{takes-end, takes-token}
use Rattle.sc_prep.proofs.Terms.{Cond, TakesOut, Token}
use Rattle.sc_prep.proofs.open_runs.taken.Goals as goal

pub returns-in_ok-push-in-Some-clause-takes : goal.returns-in_ok-push-in-Some-clause-takes
returns-in_ok-push-in-Some-clause-takes g c = λ first all front under before own was.
    let old = g.C.Conditions.sets c.args.conds.now in
    let new = g.C.Conditions.sets c.apply_and.new.self in
    let x = c.in_ok-part-in-Some in
    let told = x.ensures.meaning (first.has c.args.cond.0) (old.has c.args.left.0) (Denotes-Keeps before (Denotes-self first c.args.cond.0 own)) (Denotes-self old c.args.left.0 c.requires.left) in
    subst (λ (ts : List (Cond × Token)). TakesOut first all under new c.args.left.0 ts front) (sym c.in_ok-push-in-Some.ensures.ok)
    (takes-token before x.ensures.keeps was front c.args.cond x.part c.in-Some.token (ap (λ (o : Option Token). front ++ (c.args.cond, o) ∷ []) c.in-Some.is) told)

pub returns-in_ok-fewer-in-None-clause-takes : goal.returns-in_ok-fewer-in-None-clause-takes
returns-in_ok-fewer-in-None-clause-takes g c = λ first all front under before own was.
    let old = g.C.Conditions.sets c.args.conds.now in
    let x = c.in_ok-fewer-in-None in
    let told = x.ensures.meaning _ _ (Denotes-self old c.args.left.0 c.requires.left) (Denotes-Keeps before (Denotes-self first c.args.cond.0 own)) in
    takes-end before x.ensures.keeps was front c.args.cond x.fewer.0 (ap (λ (o : Option Token). front ++ (c.args.cond, o) ∷ []) c.in-None.is) told
