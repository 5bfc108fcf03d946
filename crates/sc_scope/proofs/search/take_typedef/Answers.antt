use Rattle.sc_model.proofs.SetLemmas.{Keeps-trans, Denotes-Keeps}
use Rattle.sc_scope.proofs.SearchLemmas.{GoesOn-typedef, Denotes-has}
use Rattle.sc_scope.proofs.search.take_typedef.Goals as goal

pub returns-clause-found : goal.returns-clause-found
returns-clause-found g c =
    let s = g.C.Conditions.sets c.args.conds.now in
    let left = s.has c.args.search.left.0 in
    let types = s.has c.args.search.types.0 in
    let cond = s.has c.args.cond.0 in
    let before = Keeps-trans c.apply_and.ensures.keeps c.apply_or.ensures.keeps in
    let part = c.in_ok-part.ensures.meaning left cond (Denotes-has c.requires.left) (Denotes-has c.requires.own) in
    let more = c.in_ok-types.ensures.meaning types _ (Denotes-Keeps c.apply_and.ensures.keeps (Denotes-has c.requires.types)) part in
    GoesOn-typedef s _ c.args.search _ c.args.cond (Keeps-trans before c.apply_without.ensures.keeps) c.requires.left c.requires.types c.requires.own
    (Denotes-Keeps c.apply_without.ensures.keeps more)
    (c.in_ok-left.ensures.meaning left cond (Denotes-Keeps before (Denotes-has c.requires.left)) (Denotes-Keeps before (Denotes-has c.requires.own)))
