use Rattle.std.proofs.Common.{◌∙◌, ◌&&◌, ◌++◌, ◌∷◌, [], not, sym, ap, subst, if◌then◌else◌}
use Rattle.sc_expand.proofs.AlikeLemmas.{IsAlike-Keeps, alike-of}
use Rattle.sc_expand.proofs.Facts.{Denotes-Keeps, Denotes-self, IsConfig-Keeps, Keeps-refl, Keeps-trans}
use Rattle.sc_expand.proofs.FillingLemmas.{adds-as, adds-none, adds-one, adds-then, spaced_token, put_parted, put_whole, rest_whole}
use Rattle.sc_expand.proofs.Terms.{IsHeldToken, spaced}
use Rattle.sc_expand.proofs.filling.put_spaced.Goals as goal

pub returns-then-is_never-clause-adds : goal.returns-then-is_never-clause-adds
returns-then-is_never-clause-adds g c =
    let old = g.C.Conditions.sets c.args.conds.now in
    let keeps = c.apply_and.ensures.keeps in
    let t = c.args.token in
    let told = c.in_ok-first.ensures.meaning _ _ (Denotes-self old c.args.has.0 c.requires.has_own) (Denotes-self old c.args.left.0 c.requires.left_own) in
    let none = adds-none c.args.made.now c.requires.own keeps in
    adds-as (adds-then keeps none (adds-one c.args.made.now c.args.has t none.own (keeps.own _ c.requires.has_own) c.in_ok-push.ensures.ok))
    (λ x listed.
    let here = IsConfig-Keeps keeps listed in
    ap (λ b. if b then t ∷ [] else []) (keeps.at c.args.has.0 x c.requires.has_own listed)
    ∙ put_whole (old.has c.args.has.0 x) (old.has c.args.left.0 x) t (spaced c.args.space t) (sym (told.at x here) ∙ (c.is_never.ensures.0 c.if-is_never.true).none x here))
    (λ st files held. (tt, held)) (λ x y p q alike. (tt, IsAlike-Keeps keeps p q {cond = c.args.has} c.requires.has_own alike.1))

pub returns-then-is_never-clause-left : goal.returns-then-is_never-clause-left
returns-then-is_never-clause-left g c =
    let old = g.C.Conditions.sets c.args.conds.now in
    let keeps = c.apply_and.ensures.keeps in
    let told = c.in_ok-first.ensures.meaning _ _ (Denotes-self old c.args.has.0 c.requires.has_own) (Denotes-self old c.args.left.0 c.requires.left_own) in
    let kept = Denotes-Keeps keeps (Denotes-self old c.args.left.0 c.requires.left_own) in
    record {
      own = kept.own;
      at = λ x here. kept.at x here ∙ rest_whole (old.has c.args.has.0 x) (old.has c.args.left.0 x) (sym (told.at x here) ∙ (c.is_never.ensures.0 c.if-is_never.true).none x here);
    }

pub returns-clause-adds : goal.returns-clause-adds
returns-clause-adds g c =
    let old = g.C.Conditions.sets c.args.conds.now in
    let new = g.C.Conditions.sets c.apply_without-2.new.self in
    let t = c.args.token in
    let u = c.with_space_as.result in
    let keeps_later = c.apply_without-2.ensures.keeps in
    let keeps_first = Keeps-trans c.apply_without.ensures.keeps keeps_later in
    let keeps = Keeps-trans c.apply_and.ensures.keeps keeps_first in
    let has = Denotes-self old c.args.has.0 c.requires.has_own in
    let left = Denotes-self old c.args.left.0 c.requires.left_own in
    let first = Denotes-Keeps keeps_first (c.in_ok-first.ensures.meaning _ _ has left) in
    let later = Denotes-Keeps keeps_later (c.in_ok-later.ensures.meaning _ _ (Denotes-Keeps c.apply_and.ensures.keeps has) (Denotes-Keeps c.apply_and.ensures.keeps left)) in
    let none = adds-none c.args.made.now c.requires.own keeps in
    let one = adds-one c.args.made.now c.in_ok-first.first u none.own first.own c.in_ok-push-2.ensures.ok in
    let two = adds-one c.push-2.new.self c.in_ok-later.later t one.own later.own c.in_ok-push-3.ensures.ok in
    adds-as (adds-then keeps none (adds-then (Keeps-refl new) one two))
    (λ x listed.
    let here = IsConfig-Keeps keeps listed in
    let h = old.has c.args.has.0 x in
    let l = old.has c.args.left.0 x in
    (λ i. (if first.at x here i then u ∷ [] else []) ++ (if later.at x here i then t ∷ [] else [])) ∙ (put_parted h l t u ∙ ap (λ v. if h then (if l then v else t) ∷ [] else []) c.with_space_as.ensures))
    (λ st files held. (tt, (subst (IsHeldToken st files) (sym c.with_space_as.ensures) (spaced_token st files c.args.space t held), held)))
    (λ x y p q alike.
    let here = IsConfig-Keeps keeps p in
    let there = IsConfig-Keeps keeps q in
    (tt, (alike-of {cond = c.in_ok-first.first} first here there (λ i. alike.1 i && alike.0 i), alike-of {cond = c.in_ok-later.later} later here there (λ i. alike.1 i && not (alike.0 i)))))

pub returns-clause-left : goal.returns-clause-left
returns-clause-left g c =
    let old = g.C.Conditions.sets c.args.conds.now in
    let before = Keeps-trans c.apply_and.ensures.keeps c.apply_without.ensures.keeps in
    let left = Denotes-self old c.args.left.0 c.requires.left_own in
    let has = Denotes-self old c.args.has.0 c.requires.has_own in
    c.in_ok-rest.ensures.meaning _ _ (Denotes-Keeps before left) (Denotes-Keeps before has)
