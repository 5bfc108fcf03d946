use Rattle.std.proofs.Common.{◌+◌, ◌<◌, ◌≤◌, ◌∙◌, List, map, take, get_or, length, refl, ap, sym, subst, arith, Bool}
use Rattle.sc_base.specs.declared.id.Cond.{Cond}
use Rattle.sc_hoist.specs.declared.branch.Branch.{Branch}
use Rattle.sc_hoist.specs.Branches.{lists_at}
use Rattle.sc_hoist.specs.Leaves.{placed}
use Rattle.sc_hoist.specs.Places.{places_from}
use Rattle.sc_hoist.proofs.PlaceLemmas.{places_from-take, SameBelow-fewer}
use Rattle.sc_hoist.proofs.PartLemmas.{ArePartsOf-items, ArePartsOf-all, HasLists-parts, AreBranches-parts, if_placed, at_most}
use Rattle.sc_model.proofs.SetLemmas.{Keeps-refl, Keeps-trans, IsConfig-Keeps}
use Rattle.sc_hoist.proofs.partition.branches_of.Goals as goal

pub loop-index-init : goal.loop-index-init
loop-index-init g c = record {
  keeps = Keeps-refl (g.C.Conditions.sets c.args.conds.now);
  leaves = c.in_ok-branches.ensures.leaves;
  lists = c.in_ok-branches.ensures.lists;
  agree = λ x y x_listed y_listed same none. c.in_ok-branches.ensures.agree x y same;
}

pub divide_all-requires : goal.divide_all-requires
divide_all-requires g c = record {
  leaves = c.loop-index.invariant.leaves;
  item_own = c.loop-index.invariant.keeps.own _ (c.requires.own c.loop-index.index (record { 0 = 0 }) c.loop-index-test.true);
}

pub loop-index-preserved : goal.loop-index-preserved
loop-index-preserved g c =
    let s = g.C.Conditions.sets c.args.conds.now in
    let mid = g.C.Conditions.sets c.loop-index.conds in
    let was = c.loop-index.invariant in
    let items = c.args.items.now in
    let i = c.loop-index.index in
    let within = c.loop-index-test.true in
    let none : Cond = record { 0 = 0 } in
    let item = get_or items i none in
    let own = c.requires.own i none within in
    let place = c.args.from + i in
    record {
      keeps = Keeps-trans was.keeps c.divide_all.ensures.keeps;
      leaves = c.in_ok-branches-2.ensures.leaves;
      lists = λ x listed.
          c.in_ok-branches-2.ensures.lists x (IsConfig-Keeps was.keeps listed)
          ∙ (ap (λ (b : Bool). map (placed b place) (lists_at mid c.loop-index.branches.items x)) (was.keeps.at item.0 x own listed)
          ∙ (ap (map (placed (s.has item.0 x) place)) (was.lists x listed)
          ∙ if_placed (s.has c.args.cond.0 x) (s.has item.0 x) place (places_from s c.args.from (take i items) x) (places_from s c.args.from (take (i + 1) items) x) (places_from-take s c.args.from items i none x within)));
      agree = λ x y x_listed y_listed same more.
          c.in_ok-branches-2.ensures.agree x y (IsConfig-Keeps was.keeps x_listed) (IsConfig-Keeps was.keeps y_listed)
          (was.keeps.at item.0 x own x_listed ∙ (more.each i none (omega arith) ∙ sym (was.keeps.at item.0 y own y_listed)))
          (was.agree x y x_listed y_listed same (SameBelow-fewer i more));
    }

pub returns-clause-lists : goal.returns-clause-lists
returns-clause-lists g c =
    let was = c.loop-index.invariant in
    let parts = ArePartsOf-items c.args.from c.args.items.now c.loop-index.index c.loop-index.branches.items (omega arith) was.leaves was.lists was.agree in
    (ArePartsOf-all c.args.from c.args.items.now c.loop-index.index c.loop-index.branches.items (omega arith) parts).lists

pub returns-clause-branches : goal.returns-clause-branches
returns-clause-branches g c =
    let was = c.loop-index.invariant in
    let parts = ArePartsOf-items c.args.from c.args.items.now c.loop-index.index c.loop-index.branches.items (omega arith) was.leaves was.lists was.agree in
    AreBranches-parts was.keeps c.has_options.ensures (ArePartsOf-all c.args.from c.args.items.now c.loop-index.index c.loop-index.branches.items (omega arith) parts)

pub returns-clause-few : goal.returns-clause-few
returns-clause-few g c = subst (λ (bs : List Branch). length bs ≤ c.args.limit) c.deref-2.ensures.value (at_most c.is_full-2.result c.args.limit (length c.deref-2.result.now) c.is_full-2.ensures.1 c.if-is_full-2.false)

pub returns-in_err-branches-2-clause-keeps : goal.returns-in_err-branches-2-clause-keeps
returns-in_err-branches-2-clause-keeps g c = Keeps-trans c.loop-index.invariant.keeps c.divide_all.ensures.keeps

pub returns-then-is_full-clause-refused : goal.returns-then-is_full-clause-refused
returns-then-is_full-clause-refused g c =
    let was = c.loop-index.invariant in
    let many : c.args.limit < length c.loop-index.branches.items = subst (λ (bs : List Branch). c.args.limit < length bs) c.deref.ensures.value (c.is_full.ensures.0 c.if-is_full.true) in
    (refl, HasLists-parts was.keeps c.has_options.ensures (ArePartsOf-items c.args.from c.args.items.now c.loop-index.index c.loop-index.branches.items (omega arith) was.leaves was.lists was.agree) (c.args.limit + 1) (omega arith))

pub returns-then-is_full-2-clause-refused : goal.returns-then-is_full-2-clause-refused
returns-then-is_full-2-clause-refused g c =
    let was = c.loop-index.invariant in
    let many : c.args.limit < length c.loop-index.branches.items = subst (λ (bs : List Branch). c.args.limit < length bs) c.deref-2.ensures.value (c.is_full-2.ensures.0 c.if-is_full-2.true) in
    (refl, HasLists-parts was.keeps c.has_options.ensures (ArePartsOf-items c.args.from c.args.items.now c.loop-index.index c.loop-index.branches.items (omega arith) was.leaves was.lists was.agree) (c.args.limit + 1) (omega arith))

pub returns-clause-agree : goal.returns-clause-agree
returns-clause-agree g c =
    let was = c.loop-index.invariant in
    (ArePartsOf-items c.args.from c.args.items.now c.loop-index.index c.loop-index.branches.items (omega arith) was.leaves was.lists was.agree).agree
