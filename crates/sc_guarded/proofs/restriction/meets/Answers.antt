use Rattle.std.proofs.Common.{◌&&◌, ◌∙◌, sym, ap, subst, All, Bool, map, drop, length, take_all, arith}
use Rattle.std.proofs.lemmas.List.{length_push}
use Rattle.std.proofs.lemmas.List.Elements.{All-push}
use Rattle.sc_base.specs.declared.id.Cond.{Cond}
use Rattle.sc_guarded.proofs.RestrictionLemmas.{meets_more}
use Rattle.sc_model.specs.Sets.{IsCond}
use Rattle.sc_model.proofs.SetLemmas.{Keeps-trans, Denotes-self}
use Rattle.sc_guarded.proofs.restriction.meets.Goals as goal

pub returns-in_err-apply_and-clause-keeps : goal.returns-in_err-apply_and-clause-keeps
returns-in_err-apply_and-clause-keeps g c = Keeps-trans c.loop-index.invariant.keeps c.apply_and.ensures.keeps

pub returns-in_err-push-clause-keeps : goal.returns-in_err-push-clause-keeps
returns-in_err-push-clause-keeps g c = Keeps-trans c.loop-index.invariant.keeps c.apply_and.ensures.keeps

pub loop-index-preserved : goal.loop-index-preserved
loop-index-preserved g c =
    let first = g.C.Conditions.sets c.args.conds.now in
    let old = g.C.Conditions.sets c.loop-index.conds in
    let now = g.C.Conditions.sets c.apply_and.new.self in
    let was = c.loop-index.invariant in
    let made = c.in_ok-apply_and.field-0 in
    let item = c.index-items-index.result in
    let P : Cond × g.row.T.Denot → Type 0 = λ item. IsCond first item.0.0 in
    let Q : Cond → Type 0 = λ cond. IsCond now cond.0 in
    let item_own = subst P (sym c.index-items-index.is) (c.requires.own c.loop-index.index item c.loop-index-test.true) in
    let more = ap length c.in_ok-push.ensures.items ∙ length_push c.loop-index.met.items made in
    let told = c.in_ok-apply_and.ensures.meaning _ _ (Denotes-self old item.0.0 (was.keeps.own _ item_own)) (Denotes-self old c.args.by.0 (was.keeps.own _ c.requires.by_own)) in
    record {
      keeps = Keeps-trans was.keeps c.apply_and.ensures.keeps;
      long = omega (arith, more, was.long);
      own = subst (All Q) (sym c.in_ok-push.ensures.items) (All-push Q c.loop-index.met.items made (λ k d h. c.apply_and.ensures.keeps.own _ (was.own k d h)) c.in_ok-apply_and.ensures.own);
      meaning = λ x listed.
          ap (map (λ (cond : Cond). now.has cond.0 x)) c.in_ok-push.ensures.items
          ∙ meets_more first old now c.args.items.now c.args.from c.loop-index.index item c.args.by made c.loop-index.met.items x (omega arith) c.loop-index-test.true c.index-items-index.is was.keeps c.apply_and.ensures.keeps was.own item_own
          c.requires.by_own listed told (was.meaning x listed);
    }

pub returns-clause-meaning : goal.returns-clause-meaning
returns-clause-meaning g c = λ x listed.
    let first = g.C.Conditions.sets c.args.conds.now in
    let F : Cond × g.row.T.Denot → Bool = λ item. first.has item.0.0 x && first.has c.args.by.0 x in
    c.loop-index.invariant.meaning x listed ∙ ap (λ xs. map F (drop c.args.from xs)) (take_all c.loop-index.index c.args.items.now (omega arith))
