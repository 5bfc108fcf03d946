use Rattle.std.proofs.Common.{◌≡◌, ℕ, ◌++◌, ◌∷◌, [], ◌∙◌, List, map, ap, sym, subst, append-nil, length, refl, arith}
use Rattle.std.specs.Vec.Iter.{into_iter_items}
use Rattle.sc_hoist.specs.declared.branch.Branch.{Branch}
use Rattle.sc_hoist.specs.Branches.{lists_at}
use Rattle.sc_hoist.specs.Leaves.{AreLeaves, Agree, placed}
use Rattle.sc_hoist.proofs.BranchLemmas.{AreLeaves-nil, AreLeaves-Keeps, AreLeaves-head, AreLeaves-tail, Agree-nil, divided_more, agree_more}
use Rattle.sc_model.proofs.SetLemmas.{Keeps-refl, Keeps-trans, IsConfig-Keeps}
use Rattle.sc_hoist.proofs.division.divide_all.Goals as goal

nothing : (xs : List Branch) → length xs ≡ 0 → xs ≡ []
nothing [] none = refl
nothing (x ∷ xs) none = absurd (omega arith)

pub loop-branch-init : goal.loop-branch-init
loop-branch-init g c =
    let s = g.C.Conditions.sets c.args.conds.now in
    let all = c.into_iter-branch-iterator.ensures.into_iter_gives.0 in
    let none = c.new-divided.ensures.items in
    record {
      can = tt;
      finite = tt;
      long = c.into_iter-branch-iterator.ensures.into_iter_gives.1 ∙ omega (arith, ap length all, c.args.branches.ok.0);
      keeps = Keeps-refl s;
      found = subst (AreLeaves s) (sym {A = List Branch} none) (AreLeaves-nil s);
      rest = subst (AreLeaves s) (sym {A = List Branch} all) c.requires.leaves;
      lists = λ x listed.
          let f : List ℕ → List ℕ = placed (s.has c.args.item.0 x) c.args.place in
          let rest : List (List ℕ) = map f (lists_at s (into_iter_items c.into_iter-branch-iterator.result) x) in
          ap (λ (bs : List Branch). lists_at s bs x ++ rest) none ∙ ap (λ (bs : List Branch). map f (lists_at s bs x)) all;
      agree = λ x y x_listed y_listed item agree.
          (subst (λ (bs : List Branch). Agree s bs x y) (sym {A = List Branch} none) (Agree-nil s x y), subst (λ (bs : List Branch). Agree s bs x y) (sym {A = List Branch} all) agree);
    }

pub divide-requires : goal.divide-requires
divide-requires g c =
    let s = g.C.Conditions.sets c.args.conds.now in
    let was = c.loop-branch.invariant in
    record {
      leaves = was.found;
      branch = AreLeaves-Keeps was.keeps (AreLeaves-head c.in-Some.branch (into_iter_items c.next.new.self) (subst (AreLeaves s) c.in-Some.ensures.steps.0 was.rest));
      item_own = was.keeps.own _ c.requires.item_own;
    }

pub loop-branch-preserved : goal.loop-branch-preserved
loop-branch-preserved g c =
    let s = g.C.Conditions.sets c.args.conds.now in
    let mid = g.C.Conditions.sets c.loop-branch.conds in
    let now = g.C.Conditions.sets c.divide.new.conds in
    let was = c.loop-branch.invariant in
    let branch = c.in-Some.branch in
    let left = into_iter_items c.loop-branch.branch-iterator in
    let rest = into_iter_items c.next.new.self in
    let steps : left ≡ branch ∷ rest = c.in-Some.ensures.steps.0 in
    record {
      can = tt;
      finite = tt;
      long = omega (arith, ap length steps, c.in-Some.ensures.steps.1, was.long);
      keeps = Keeps-trans was.keeps c.divide.ensures.keeps;
      found = c.in_ok-divide.ensures.leaves;
      rest = AreLeaves-tail branch rest (subst (AreLeaves s) steps was.rest);
      lists = λ x listed. divided_more s mid c.args.item.0 c.args.place branch left rest (lists_at mid c.loop-branch.divided.items x) (lists_at now c.divide.new.divided.items x)
          (map (placed (s.has c.args.item.0 x) c.args.place) (lists_at s c.args.branches.items x)) x was.keeps was.rest c.requires.item_own listed steps (was.lists x listed)
          (c.in_ok-divide.ensures.lists x (IsConfig-Keeps was.keeps listed));
      agree = λ x y x_listed y_listed item agree.
          let before = was.agree x y x_listed y_listed item agree in
          let parts = agree_more branch left rest was.keeps was.rest x_listed y_listed steps before.1 in (
            c.in_ok-divide.ensures.agree x y (IsConfig-Keeps was.keeps x_listed) (IsConfig-Keeps was.keeps y_listed)
                (was.keeps.at _ x c.requires.item_own x_listed ∙ (item ∙ sym (was.keeps.at _ y c.requires.item_own y_listed))) parts.0 before.0,
            parts.1,
          );
    }

pub returns-in_err-divide-clause-keeps : goal.returns-in_err-divide-clause-keeps
returns-in_err-divide-clause-keeps g c = Keeps-trans c.loop-branch.invariant.keeps c.divide.ensures.keeps

pub returns : goal.returns
returns g c =
    let s = g.C.Conditions.sets c.args.conds.now in
    let mid = g.C.Conditions.sets c.loop-branch.conds in
    let was = c.loop-branch.invariant in
    let none : into_iter_items c.loop-branch.branch-iterator ≡ [] = nothing (into_iter_items c.loop-branch.branch-iterator) (sym was.long ∙ c.in-None.ensures.steps.0) in
    record {
      leaves = was.found;
      lists = λ x listed.
          let found : List (List ℕ) = lists_at mid c.loop-branch.divided.items x in
          sym (append-nil found) ∙ (ap (λ (bs : List Branch). found ++ map (placed (s.has c.args.item.0 x) c.args.place) (lists_at s bs x)) (sym none) ∙ was.lists x listed);
      agree = λ x y x_listed y_listed item agree. (was.agree x y x_listed y_listed item agree).0;
      keeps = was.keeps;
    }
