use Rattle.std.proofs.Common.{◌≡◌, ◌++◌, ◌∷◌, [], ◌∙◌, List, map, ap, sym, append-nil, append_assoc, length, refl, arith}
use Rattle.std.specs.Vec.Iter.{into_iter_items}
use Rattle.sc_hoist.specs.declared.branch.Branch.{Branch}
use Rattle.sc_hoist.specs.Calls.{with_ends}
use Rattle.sc_hoist.proofs.call_branches.push_all.Goals as goal

nothing : (xs : List Branch) → length xs ≡ 0 → xs ≡ []
nothing [] none = refl
nothing (x ∷ xs) none = absurd (omega arith)

pub loop-branch-init : goal.loop-branch-init
loop-branch-init c =
    let all = c.into_iter-branch-iterator.ensures.into_iter_gives.0 in
    record {
      can = tt;
      finite = tt;
      long = c.into_iter-branch-iterator.ensures.into_iter_gives.1 ∙ omega (arith, ap length all, c.args.found.ok.0);
      all = ap (λ (bs : List Branch). c.args.branches.now.items ++ map (with_ends c.args.ends) bs) all;
    }

pub loop-branch-preserved : goal.loop-branch-preserved
loop-branch-preserved c =
    let was = c.loop-branch.invariant in
    let f : Branch → Branch = with_ends c.args.ends in
    let branch = c.in-Some.branch in
    let left = into_iter_items c.loop-branch.branch-iterator in
    let rest = into_iter_items c.next.new.self in
    let steps : left ≡ branch ∷ rest = c.in-Some.ensures.steps.0 in
    let old = c.loop-branch.branches.items in
    let pushed : c.push.new.self.items ≡ old ++ f branch ∷ [] = c.in_ok-push.ensures.items in
    record {
      can = tt;
      finite = tt;
      long = omega (arith, ap length steps, c.in-Some.ensures.steps.1, was.long);
      all = ap (λ (bs : List Branch). bs ++ map f rest) pushed ∙ (append_assoc old (f branch ∷ []) (map f rest) ∙ (ap (λ (bs : List Branch). old ++ map f bs) (sym steps) ∙ was.all));
    }

pub returns : goal.returns
returns c =
    let was = c.loop-branch.invariant in
    let none : into_iter_items c.loop-branch.branch-iterator ≡ [] = nothing (into_iter_items c.loop-branch.branch-iterator) (sym was.long ∙ c.in-None.ensures.steps.0) in
    let old = c.loop-branch.branches.items in
    sym (append-nil old) ∙ (ap (λ (bs : List Branch). old ++ map (with_ends c.args.ends) bs) (sym none) ∙ was.all)
