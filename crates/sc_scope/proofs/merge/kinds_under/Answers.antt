use Rattle.std.proofs.Common.{refl}
use Rattle.sc_model.proofs.SetLemmas.{Keeps-trans}
use Rattle.sc_scope.proofs.KindLemmas.{parts_found}
use Rattle.sc_scope.proofs.SearchLemmas.{Denotes-has}
use Rattle.sc_scope.proofs.merge.kinds_under.Goals as goal

pub returns-in_err-variables-clause-keeps : goal.returns-in_err-variables-clause-keeps
returns-in_err-variables-clause-keeps g c = Keeps-trans c.search_bindings.ensures.keeps (Keeps-trans c.apply_or.ensures.keeps c.apply_without.ensures.keeps)

pub returns-clause-keeps : goal.returns-clause-keeps
returns-clause-keeps g c = Keeps-trans c.search_bindings.ensures.keeps (Keeps-trans c.apply_or.ensures.keeps c.apply_without.ensures.keeps)

pub returns-clause-parts : goal.returns-clause-parts
returns-clause-parts g c =
    let s = g.C.Conditions.sets c.args.conds.now in
    let on = c.in_ok-found.ensures.found in
    let others = c.in_ok-others.ensures.meaning _ _ (Denotes-has on.left) (Denotes-has on.types) in
    let owned = c.apply_or.ensures.keeps.own _ (on.keeps.own _ c.requires.cond_own) in
    parts_found s _ _ _ c.args.cond c.never.result c.in_ok-others.others c.in_ok-found.found _ _ c.requires.cond_own c.never.ensures.meaning
    c.apply_or.ensures.keeps c.apply_without.ensures.keeps on others
    (c.in_ok-variables.ensures.meaning _ _ (Denotes-has owned) (Denotes-has c.in_ok-others.ensures.own)) refl
