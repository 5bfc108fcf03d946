use Rattle.std.proofs.Common.{◌≡◌, ◌∙◌, sym, ap, subst, List, ◌∷◌, [], take, if◌then◌else◌, arith}
use Rattle.sc_guarded.proofs.ItemLemmas.{items_at-append}
use Rattle.sc_guarded.specs.Items.{items_at}
use Rattle.sc_macro.specs.Seen.{IsHeldDefinition}
use Rattle.sc_model.proofs.SetLemmas.{Keeps-refl, Keeps-trans, IsConfig-Keeps}
use Rattle.sc_model.specs.Sets.{IsCond}
use Rattle.sc_table.specs.Parts.{Part, AreSome, AreDrawn, valued}
use Rattle.sc_table.proofs.PartLemmas.{AreSome-nil, AreDrawn-nil, each-valued, take-valued, take-seen_all, lacks-seen_all, met_more, none_met, take-valued_all}
use Rattle.sc_table.proofs.parts.restricted.Goals as goal

pub loop-part-init : goal.loop-part-init
loop-part-init g c =
    let s = g.C.Conditions.sets c.args.conds.now in
    let empty : valued c.new-met.result.items ≡ [] = ap valued c.new-met.ensures.items in
    record {
      keeps = Keeps-refl s;
      parts = subst (AreSome s) (sym empty) (AreSome-nil s);
      items = λ x listed. ap (λ (ps : List Part). items_at s ps x) empty ∙ none_met (s.has c.args.by.0 x);
      drawn = λ names named. subst (AreDrawn names []) (sym empty) (AreDrawn-nil names);
    }

pub add_part-requires-clause-cond_own : goal.add_part-requires-clause-cond_own
add_part-requires-clause-cond_own g c =
    c.loop-part.invariant.keeps.own _ (each-valued c.args.parts.now c.loop-part.part-index c.part-item.result c.loop-part-test.true c.part-item.is
    (λ part. IsCond (g.C.Conditions.sets c.args.conds.now) part.0.0) c.requires.parts.own)

pub add_part-requires-clause-by_own : goal.add_part-requires-clause-by_own
add_part-requires-clause-by_own g c = c.loop-part.invariant.keeps.own _ c.requires.by_own

pub loop-part-preserved : goal.loop-part-preserved
loop-part-preserved g c =
    let first = g.C.Conditions.sets c.args.conds.now in
    let now = g.C.Conditions.sets c.add_part.new.conds in
    let was = c.loop-part.invariant in
    let parts = c.args.parts.now in
    let i = c.loop-part.part-index in
    let p = c.part-item.result in
    let own = each-valued parts i p c.loop-part-test.true c.part-item.is (λ part. IsCond first part.0.0) c.requires.parts.own in
    record {
      keeps = Keeps-trans was.keeps c.add_part.ensures.keeps;
      parts = c.in_ok-add_part.ensures.parts;
      items = λ x listed.
          met_more _ _ _ _ (p.1.value ∷ []) (first.has p.0.0 x) (first.has c.args.by.0 x) _ _ (c.in_ok-add_part.ensures.items x (IsConfig-Keeps was.keeps listed)) (was.items x listed)
          (ap (λ (ps : List Part). items_at first ps x) (take-valued parts i p c.loop-part-test.true c.part-item.is) ∙ items_at-append first (take i (valued parts)) ((p.0, p.1.value) ∷ []) x)
          (was.keeps.at _ x own listed) (was.keeps.at _ x c.requires.by_own listed);
      drawn = λ names named.
          subst (λ ds. AreDrawn names ds (valued c.add_part.new.parts.items)) (sym (take-seen_all parts i p c.loop-part-test.true c.part-item.is names))
          (c.in_ok-add_part.ensures.drawn names _ (was.drawn names named)
          (each-valued parts i p c.loop-part-test.true c.part-item.is (λ part. IsHeldDefinition names part.1) named.held)
          (lacks-seen_all parts i p c.loop-part-test.true c.part-item.is names named));
    }

pub returns-in_err-add_part-clause-keeps : goal.returns-in_err-add_part-clause-keeps
returns-in_err-add_part-clause-keeps g c = Keeps-trans c.loop-part.invariant.keeps c.add_part.ensures.keeps

pub returns-clause-items : goal.returns-clause-items
returns-clause-items g c = λ x listed.
    let first = g.C.Conditions.sets c.args.conds.now in
    c.loop-part.invariant.items x listed ∙ ap (λ (ps : List Part). if first.has c.args.by.0 x then items_at first ps x else []) (take-valued_all c.args.parts.now c.loop-part.part-index (omega arith))

pub returns-clause-named : goal.returns-clause-named
returns-clause-named g c = λ names named. (c.loop-part.invariant.drawn names named).named
