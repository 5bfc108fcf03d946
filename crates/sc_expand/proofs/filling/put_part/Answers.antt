use Rattle.std.proofs.Common.{◌≡◌, ◌≤◌, ◌∙◌, [], ap, get_or, length, subst, sym}
use Rattle.sc_expand.proofs.Facts.{Keeps-refl, get_or_past, ltb-false, on_ok_weaker}
use Rattle.sc_expand.proofs.FillingLemmas.{adds-as, adds-none, adds-one, nothing_spaced}
use Rattle.sc_expand.proofs.Terms.{AllHeld, AreAlike, IsHeldPartIn, first_spaced_if, items_at, part_at}
use Rattle.sc_expand.proofs.filling.put_part.Goals as goal

pub returns-in_ok-push-in-Token-clause-adds : goal.returns-in_ok-push-in-Token-clause-adds
returns-in_ok-push-in-Token-clause-adds g c =
    let s = g.C.Conditions.sets c.args.conds.now in
    adds-as (adds-one c.args.made.now c.args.cond c.in-Token.token c.requires.own c.requires.cond_own c.in_ok-push-in-Token.ensures.ok)
    (λ x listed. ap (part_at s c.args.expanded.now (s.has c.args.cond.0 x) x) (sym c.in-Token.is)) (λ st files held. subst (IsHeldPartIn st files) c.in-Token.is held.0) (λ x y p q alike. alike.1)

pub returns-in-Some-clause-adds : goal.returns-in-Some-clause-adds
returns-in-Some-clause-adds g c =
    on_ok_weaker c.put_list.result
    (λ adds.
    let s = g.C.Conditions.sets c.args.conds.now in
    let found = c.in-Some.ensures.lookup in
    adds-as adds (λ x listed. (λ i. first_spaced_if (s.has c.args.cond.0 x) c.in-Argument.space (items_at s (found.3.1 [] i) x)) ∙ ap (part_at s c.args.expanded.now (s.has c.args.cond.0 x) x) (sym c.in-Argument.is))
    (λ st files held. subst (AllHeld st files) (sym found.1) (held.1 c.in-Argument.parameter c.in-Some.list.now found.3.0))
    (λ x y p q alike. (subst (AreAlike s x y) (sym found.1) (alike.0 c.in-Argument.parameter c.in-Some.list.now found.3.0), alike.1)))
    c.put_list.ensures.adds

pub returns-in-None-clause-adds : goal.returns-in-None-clause-adds
returns-in-None-clause-adds g c =
    let s = g.C.Conditions.sets c.args.conds.now in
    let past : length c.args.expanded.now ≤ c.in-Argument.parameter = ltb-false _ _ (sym c.in-None.ensures.lookup.0) in
    let gone : [] ≡ get_or c.args.expanded.now c.in-Argument.parameter [] = sym (get_or_past c.args.expanded.now c.in-Argument.parameter [] past) in
    adds-as (adds-none c.args.made.now c.requires.own (Keeps-refl s))
    (λ x listed.
    nothing_spaced (s.has c.args.cond.0 x) c.in-Argument.space
    ∙ ((λ i. first_spaced_if (s.has c.args.cond.0 x) c.in-Argument.space (items_at s (gone i) x)) ∙ ap (part_at s c.args.expanded.now (s.has c.args.cond.0 x) x) (sym c.in-Argument.is)))
    (λ st files held. tt) (λ x y p q alike. tt)
