use Rattle.std.proofs.Common.{rules, length, map, arith, ◌<◌}
use Rattle.std.specs.BTreeMap.{get}
use Rattle.std.specs.Ordering.{nat_cmp}
use Rattle.sc_base.specs.declared.id.Cond.{Cond}
use Rattle.sc_base.specs.declared.id.TreeId.{TreeId}
use Rattle.sc_model.specs.Sets.{IsCond}
use Rattle.sc_model.proofs.SetLemmas.{Keeps-trans, IsConfig-Keeps}
use Rattle.sc_tree.specs.Views.{line_of}
use Rattle.sc_tree.specs.Walks.{child_by}
use Rattle.sc_tree.proofs.Steps.{walk-step, last-below, rest-below, all-none, keys-none, owns-less, children-within, all-below, falls, walked-all, onward-first, nothing-waits, line-at}
use Rattle.sc_tree.proofs.walk.walk.Goals as goal

pub loop-id-init : goal.loop-id-init
loop-id-init g c =
    let s = g.C.Conditions.sets in
    record {
      keeps = c.open_branches.ensures.keeps;
      own = c.in_ok-open_branches.ensures.own;
      below = c.in_ok-open_branches.ensures.below (length c.args.lines.now) (keys-none (length c.args.lines.now) c.new-waiting.result.entries c.new-waiting.ensures.empty) c.requires.within;
      passed_own = all-none (λ (tree : Cond × TreeId). IsCond (s c.open_branches.new.conds) tree.0.0) c.new-passed.result.items c.new-passed.ensures.items;
      passed_within = all-none (λ (tree : Cond × TreeId). tree.1.0 < length c.args.lines.now) c.new-passed.result.items c.new-passed.ensures.items;
      onward = λ d is path walked. onward-first (child_by c.args.route) (s c.args.conds.now) (s c.open_branches.new.conds) (map line_of c.args.lines.now) c.new-waiting.result c.open_branches.new.waiting c.args.starts.now
          c.new-passed.result.items _ d path c.new-waiting.ensures.empty c.new-passed.ensures.items (c.in_ok-open_branches.ensures.opens d is) (c.always-always.ensures.meaning.at d is) walked;
    }

pub offset_bounds-lines-id : goal.offset_bounds-lines-id
offset_bounds-lines-id g c =
    let within : c.in-Some.id < length c.args.lines.now = last-below (length c.args.lines.now) c.loop-id.waiting.entries c.pop_last.new.self.entries (c.in-Some.id, c.in-Some.cond) c.in-Some.ensures.removal c.loop-id.invariant.below in
    search rules

pub bounds-lines-id : goal.bounds-lines-id
bounds-lines-id g c = last-below (length c.args.lines.now) c.loop-id.waiting.entries c.pop_last.new.self.entries (c.in-Some.id, c.in-Some.cond) c.in-Some.ensures.removal c.loop-id.invariant.below

pub visit-requires-clause-branches : goal.visit-requires-clause-branches
visit-requires-clause-branches g c = λ k d below. c.loop-id.invariant.keeps.own _
    (c.requires.branches.each c.in-Some.id (line_of c.index-lines-id.result)
    (line-at c.args.lines.now c.in-Some.id c.index-lines-id.result c.index-lines-id.is (last-below (length c.args.lines.now) c.loop-id.waiting.entries c.pop_last.new.self.entries (c.in-Some.id, c.in-Some.cond) c.in-Some.ensures.removal c.loop-id.invariant.below))
    k d below)

pub visit-requires-clause-own : goal.visit-requires-clause-own
visit-requires-clause-own g c = c.loop-id.invariant.own.each c.in-Some.id c.in-Some.cond c.in-Some.ensures.value

pub visit-requires-clause-waiting : goal.visit-requires-clause-waiting
visit-requires-clause-waiting g c =
    owns-less (g.C.Conditions.sets c.loop-id.conds) (get nat_cmp c.loop-id.waiting) (get nat_cmp c.pop_last.new.self) c.in-Some.id c.in-Some.ensures.updates.0 c.loop-id.invariant.own

pub visit-requires-clause-passed : goal.visit-requires-clause-passed
visit-requires-clause-passed g c = c.loop-id.invariant.passed_own

pub returns-in_err-visit-clause-keeps : goal.returns-in_err-visit-clause-keeps
returns-in_err-visit-clause-keeps g c = Keeps-trans c.loop-id.invariant.keeps c.visit.ensures.keeps

pub returns : goal.returns
returns g c = record {
  passed = λ d is path walked. walked-all (child_by c.args.route) _ _ _ (get nat_cmp c.loop-id.waiting) c.loop-id.passed.items d path
      (nothing-waits c.loop-id.waiting c.pop_last.result c.pop_last.ensures.variant c.in_default.not-Some) (c.loop-id.invariant.onward d is path walked);
  own = c.loop-id.invariant.passed_own;
  within = c.loop-id.invariant.passed_within;
  keeps = c.loop-id.invariant.keeps;
}

pub loop-id-preserved : goal.loop-id-preserved
loop-id-preserved g c =
    let i = c.loop-id.invariant in
    let s = g.C.Conditions.sets in
    let within = last-below (length c.args.lines.now) c.loop-id.waiting.entries c.pop_last.new.self.entries (c.in-Some.id, c.in-Some.cond) c.in-Some.ensures.removal i.below in
    let at = line-at c.args.lines.now c.in-Some.id c.index-lines-id.result c.index-lines-id.is within in
    record {
      keeps = Keeps-trans i.keeps c.visit.ensures.keeps;
      own = c.in_ok-visit.ensures.own;
      below = c.in_ok-visit.ensures.below (length c.args.lines.now)
          (rest-below (length c.args.lines.now) c.loop-id.waiting.entries c.pop_last.new.self.entries (c.in-Some.id, c.in-Some.cond) c.in-Some.ensures.removal i.below)
          (children-within (map line_of c.args.lines.now) (line_of c.index-lines-id.result) c.in-Some.id (length c.args.lines.now) c.requires.first at (omega (arith, within)));
      passed_own = c.in_ok-visit.ensures.passed_own;
      passed_within = c.in_ok-visit.ensures.passed_within (length c.args.lines.now) i.passed_within within;
      onward = λ d is path walked. walk-step (child_by c.args.route) (s c.args.conds.now) (s c.loop-id.conds) (s c.visit.new.conds) (map line_of c.args.lines.now) (get nat_cmp c.loop-id.waiting) (get nat_cmp c.pop_last.new.self) (get nat_cmp c.visit.new.waiting)
          c.loop-id.passed.items c.visit.new.passed.items (line_of c.index-lines-id.result) c.in-Some.cond (record { 0 = c.in-Some.id }) d path i.keeps c.requires.branches is at c.in-Some.ensures.value c.in-Some.ensures.updates.0
          (c.in_ok-visit.ensures.visits d (IsConfig-Keeps i.keeps is)) (i.onward d is path walked);
    }

pub loop-id-smaller : goal.loop-id-smaller
loop-id-smaller g c =
    let within = last-below (length c.args.lines.now) c.loop-id.waiting.entries c.pop_last.new.self.entries (c.in-Some.id, c.in-Some.cond) c.in-Some.ensures.removal c.loop-id.invariant.below in
    let at = line-at c.args.lines.now c.in-Some.id c.index-lines-id.result c.index-lines-id.is within in
    falls c.in-Some.id c.in-Some.cond c.loop-id.waiting.entries c.pop_last.new.self.entries c.visit.new.waiting.entries c.in-Some.ensures.removal
    (c.in_ok-visit.ensures.below c.in-Some.id (all-below c.in-Some.id c.pop_last.new.self.entries c.in-Some.ensures.all_below)
    (children-within (map line_of c.args.lines.now) (line_of c.index-lines-id.result) c.in-Some.id c.in-Some.id c.requires.first at (omega arith)))
