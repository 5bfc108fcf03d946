use Rattle.std.proofs.Common.{◌≤◌, length, sym, ap, subst, arith, take_all}
use Rattle.sc_expand.proofs.Facts.{Denotes-Keeps, Denotes-self, Keeps-trans, get_or_from_slice_get, slice_get_within}
use Rattle.sc_expand.proofs.FillingLemmas.{adds-as, puts_more, puts_none}
use Rattle.sc_expand.proofs.Terms.{Cond, Hidden, IsCond, first_spaced_if, items_at}
use Rattle.sc_expand.proofs.filling.put_list.Goals as goal

pub loop-index-init : goal.loop-index-init
loop-index-init g c = puts_none (g.C.Conditions.sets c.args.conds.now) c.args.cond c.args.space c.args.list.now c.args.made.now c.requires.cond_own c.requires.own

pub apply_and-requires-clause-a_own : goal.apply_and-requires-clause-a_own
apply_and-requires-clause-a_own g c =
    let x : Cond × Hidden = (c.item.result.0, c.item.result.1.now) in
    let P : Cond × Hidden → Type 0 = λ item. IsCond (g.C.Conditions.sets c.args.conds.now) item.0.0 in
    let is = get_or_from_slice_get c.args.list.now c.loop-index.index x x c.item.ensures in
    c.loop-index.invariant.keeps.own _ (subst P is (c.requires.list_own c.loop-index.index x (slice_get_within c.args.list.now c.loop-index.index x c.item.ensures)))

pub loop-index-preserved : goal.loop-index-preserved
loop-index-preserved g c =
    let first = g.C.Conditions.sets c.args.conds.now in
    let was = c.loop-index.invariant in
    let x : Cond × Hidden = (c.item.result.0, c.item.result.1.now) in
    let P : Cond × Hidden → Type 0 = λ item. IsCond first item.0.0 in
    let is = get_or_from_slice_get c.args.list.now c.loop-index.index x x c.item.ensures in
    let within = slice_get_within c.args.list.now c.loop-index.index x c.item.ensures in
    let x_own : IsCond first x.0.0 = subst P is (c.requires.list_own c.loop-index.index x within) in
    let told = c.in_ok-met.ensures.meaning _ _ (Denotes-Keeps was.keeps (Denotes-self first x.0.0 x_own)) (Denotes-Keeps was.keeps (Denotes-self first c.args.cond.0 c.requires.cond_own)) in
    puts_more x was within (sym is) c.apply_and.ensures.keeps c.put_spaced.ensures.keeps told c.in_ok-left.ensures.left c.in_ok-left.ensures.adds

pub returns-clause-adds : goal.returns-clause-adds
returns-clause-adds g c =
    let first = g.C.Conditions.sets c.args.conds.now in
    let end : length c.args.list.now ≤ c.loop-index.index = omega (arith, c.loop-index-test.false, c.len-index-end.ensures) in
    adds-as c.loop-index.invariant.adds (λ x listed. ap (λ l. first_spaced_if (first.has c.args.cond.0 x) c.args.space (items_at first l x)) (take_all c.loop-index.index c.args.list.now end))
    (λ st files held. held) (λ x y p q alike. alike)

pub returns-in_err-left-clause-keeps : goal.returns-in_err-left-clause-keeps
returns-in_err-left-clause-keeps g c = Keeps-trans c.loop-index.invariant.keeps (Keeps-trans c.apply_and.ensures.keeps c.put_spaced.ensures.keeps)

pub returns-in_err-met-clause-keeps : goal.returns-in_err-met-clause-keeps
returns-in_err-met-clause-keeps g c = Keeps-trans c.loop-index.invariant.keeps c.apply_and.ensures.keeps
