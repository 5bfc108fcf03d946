use Rattle.std.proofs.Common.{refl}
use Rattle.sc_scope.proofs.SearchLemmas.{GoesOn-variable, Denotes-has}
use Rattle.sc_scope.proofs.search.take_variable.Goals as goal

pub returns-clause-found : goal.returns-clause-found
returns-clause-found g c =
    let s = g.C.Conditions.sets c.args.conds.now in
    GoesOn-variable s _ c.args.search _ c.args.cond c.apply_without.ensures.keeps c.requires.types refl
    (c.in_ok-left.ensures.meaning (s.has c.args.search.left.0) (s.has c.args.cond.0) (Denotes-has c.requires.left) (Denotes-has c.requires.own))
