use Rattle.std.proofs.Common.{◌∙◌, ◌+◌, ◌||◌, sym, ap, take, arith}
use Rattle.std.proofs.lemmas.List.Folds.{list_any_more}
use Rattle.std.specs.List.{list_any}
use Rattle.sc_model.proofs.SetLemmas.{Keeps-refl, Keeps-trans, Denotes-self, Denotes-Keeps}
use Rattle.sc_model.specs.Sets.{IsCond}
use Rattle.sc_table.specs.Parts.{Part, valued}
use Rattle.sc_table.proofs.Denoting.{Denotes-as}
use Rattle.sc_table.proofs.PartLemmas.{each-valued, at-valued, long-valued, take-valued_all}
use Rattle.sc_table.proofs.parts.union.Goals as goal

pub loop-part-init : goal.loop-part-init
loop-part-init g c = record { keeps = Keeps-refl (g.C.Conditions.sets c.args.conds.now); meaning = c.never-all.ensures.meaning }

pub apply_or-requires-clause-b_own : goal.apply_or-requires-clause-b_own
apply_or-requires-clause-b_own g c =
    c.loop-part.invariant.keeps.own _ (each-valued c.args.parts.now c.loop-part.part-index c.part-item.result c.loop-part-test.true c.part-item.is
    (λ part. IsCond (g.C.Conditions.sets c.args.conds.now) part.0.0) c.requires.parts.own)

pub loop-part-preserved : goal.loop-part-preserved
loop-part-preserved g c =
    let first = g.C.Conditions.sets c.args.conds.now in
    let was = c.loop-part.invariant in
    let parts = c.args.parts.now in
    let i = c.loop-part.part-index in
    let p = c.part-item.result in
    let own = each-valued parts i p c.loop-part-test.true c.part-item.is (λ part. IsCond first part.0.0) c.requires.parts.own in
    record {
      keeps = Keeps-trans was.keeps c.apply_or.ensures.keeps;
      meaning = Denotes-as (λ x. list_any (λ (part : Part). first.has part.0.0 x) (take (i + 1) (valued parts)))
          (c.in_ok-all.ensures.meaning _ _ was.meaning (Denotes-Keeps was.keeps (Denotes-self first p.0.0 own)))
          (λ x listed. sym (list_any_more (λ (part : Part). first.has part.0.0 x) (valued parts) i (p.0, p.1.value) (long-valued parts i p c.loop-part-test.true c.part-item.is)
          ∙ ap (λ (part : Part). list_any (λ (part : Part). first.has part.0.0 x) (take i (valued parts)) || first.has part.0.0 x) (at-valued parts i p c.loop-part-test.true c.part-item.is (p.0, p.1.value))));
    }

pub returns-clause-meaning : goal.returns-clause-meaning
returns-clause-meaning g c =
    let first = g.C.Conditions.sets c.args.conds.now in
    let parts = c.args.parts.now in
    Denotes-as (λ x. list_any (λ (part : Part). first.has part.0.0 x) (valued parts)) c.loop-part.invariant.meaning
    (λ x listed. ap (list_any (λ (part : Part). first.has part.0.0 x)) (take-valued_all parts c.loop-part.part-index (omega arith)))
