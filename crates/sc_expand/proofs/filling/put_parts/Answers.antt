use Rattle.std.proofs.Common.{[], ap, refl, subst, sym, take_all}
use Rattle.sc_expand.proofs.Facts.{All-nil, Keeps-refl, Keeps-trans}
use Rattle.sc_expand.proofs.FillingLemmas.{adds-as, adds-none, fills_more}
use Rattle.sc_expand.proofs.Terms.{Adds, Cond, Hidden, IsCond, parts_at}
use Rattle.sc_expand.proofs.filling.put_parts.Goals as goal

pub loop-part-init : goal.loop-part-init
loop-part-init g c =
    let s = g.C.Conditions.sets c.args.conds.now in
    let none = adds-none {old = s} [] (All-nil (λ (item : Cond × Hidden). IsCond s item.0.0)) (Keeps-refl s) in
    let made = subst (λ l. Adds s s [] l (λ x. []) (λ st files. Unit {0}) (λ x y. Unit {0})) (sym c.in_ok-made.ensures) none in
    record { keeps = Keeps-refl s; adds = adds-as made (λ x listed. refl) (λ st files held. tt) (λ x y p q alike. tt) }

pub loop-part-preserved : goal.loop-part-preserved
loop-part-preserved g c = fills_more _ c.loop-part.invariant c.loop-part-test.true c.requires.expanded_own c.requires.cond_own c.put_part.ensures.keeps c.in_ok-put_part.ensures.adds

pub returns-clause-adds : goal.returns-clause-adds
returns-clause-adds g c =
    let first = g.C.Conditions.sets c.args.conds.now in
    adds-as c.loop-part.invariant.adds (λ x listed. ap (parts_at first c.args.expanded.now (first.has c.args.cond.0 x) x) (take_all c.loop-part.part-index c.args.parts.now c.loop-part-test.false))
    (λ st files held. held) (λ x y p q alike. alike)

pub returns-in_err-put_part-clause-keeps : goal.returns-in_err-put_part-clause-keeps
returns-in_err-put_part-clause-keeps g c = Keeps-trans c.loop-part.invariant.keeps c.put_part.ensures.keeps
