use Rattle.std.proofs.Common.{ap, sym, ◌∙◌, ◌+◌, take}
use Rattle.sc_expand.proofs.ClosingLemmas.{any-push, at-index, is_any, next-items, several-push}
use Rattle.sc_expand.proofs.Facts.{Denotes-Keeps, Denotes-self, Keeps-trans, Denotes-as}
use Rattle.sc_expand.proofs.Terms.{Cond, Hidden, IsCond, is_several, items_at}
use Rattle.sc_expand.proofs.closing.with_several.Goals as goal

pub apply_and-requires-clause-a_own : goal.apply_and-requires-clause-a_own
apply_and-requires-clause-a_own g c =
    let first = g.C.Conditions.sets c.args.conds.now in
    c.loop-index.invariant.keeps.own _ (at-index (λ (x : Cond × Hidden). IsCond first x.0.0) c.args.list.now c.loop-index.index (c.item.result.0, c.item.result.1.now) c.item.ensures c.requires.own)

pub apply_or-requires-in-loop-index-clause-b_own : goal.apply_or-requires-in-loop-index-clause-b_own
apply_or-requires-in-loop-index-clause-b_own g c =
    let first = g.C.Conditions.sets c.args.conds.now in
    (Keeps-trans c.loop-index.invariant.keeps (Keeps-trans c.apply_and.ensures.keeps c.apply_or.ensures.keeps)).own _
    (at-index (λ (x : Cond × Hidden). IsCond first x.0.0) c.args.list.now c.loop-index.index (c.item.result.0, c.item.result.1.now) c.item.ensures c.requires.own)

pub loop-index-preserved : goal.loop-index-preserved
loop-index-preserved g c =
    let first = g.C.Conditions.sets c.args.conds.now in
    let i = c.loop-index.index in
    let list = c.args.list.now in
    let was = c.loop-index.invariant in
    let item : Cond × Hidden = (c.item.result.0, c.item.result.1.now) in
    let own = at-index (λ (x : Cond × Hidden). IsCond first x.0.0) list i item c.item.ensures c.requires.own in
    let has = Denotes-Keeps was.keeps (Denotes-self first item.0.0 own) in
    let again = c.in_ok-again.ensures.meaning _ _ has was.some in
    let several = c.in_ok-several.ensures.meaning _ _ (Denotes-Keeps c.apply_and.ensures.keeps was.several) again in
    let later = Keeps-trans c.apply_and.ensures.keeps c.apply_or.ensures.keeps in
    let some = c.in_ok-some.ensures.meaning _ _ (Denotes-Keeps later was.some) (Denotes-Keeps later has) in
    record {
      keeps = Keeps-trans was.keeps (Keeps-trans c.apply_and.ensures.keeps (Keeps-trans c.apply_or.ensures.keeps c.apply_or-in-loop-index.ensures.keeps));
      some = Denotes-as (λ x. is_any (items_at first (take (i + 1) list) x)) some
          (λ x listed. sym (ap is_any (next-items first list i item x c.item.ensures) ∙ any-push (items_at first (take i list) x) (first.has item.0.0 x) item.1));
      several = Denotes-as (λ x. is_several (items_at first (take (i + 1) list) x)) (Denotes-Keeps c.apply_or-in-loop-index.ensures.keeps several)
          (λ x listed. sym (ap is_several (next-items first list i item x c.item.ensures) ∙ several-push (items_at first (take i list) x) (first.has item.0.0 x) item.1));
    }

pub returns-in_err-several-clause-keeps : goal.returns-in_err-several-clause-keeps
returns-in_err-several-clause-keeps g c = Keeps-trans c.loop-index.invariant.keeps (Keeps-trans c.apply_and.ensures.keeps c.apply_or.ensures.keeps)

pub returns-in_err-some-clause-keeps : goal.returns-in_err-some-clause-keeps
returns-in_err-some-clause-keeps g c = Keeps-trans c.loop-index.invariant.keeps (Keeps-trans c.apply_and.ensures.keeps (Keeps-trans c.apply_or.ensures.keeps c.apply_or-in-loop-index.ensures.keeps))
