use Rattle.std.proofs.Common.{ap, ◌∙◌, sym}
use Rattle.std.specs.BTreeMap.{get}
use Rattle.std.specs.Ordering.{nat_cmp}
use Rattle.std.proofs.lemmas.Result.{on_ok_weaker}
use Rattle.sc_model.proofs.SetLemmas.{Keeps-refl}
use Rattle.sc_tree.specs.Lines.{choice}
use Rattle.sc_tree.specs.Views.{line_of}
use Rattle.sc_tree.specs.Walks.{child_by}
use Rattle.sc_tree.proofs.WalkLemmas.{visits-child, visits-last, visits-choice, kept_plain, children-below, child-below, below-more, own-more}
use Rattle.sc_tree.proofs.walk.visit.Goals as goal

pub returns-in-Choice-clause-visits : goal.returns-in-Choice-clause-visits
returns-in-Choice-clause-visits g c =
    on_ok_weaker c.open_branches.result
    (λ opens d is. visits-choice (child_by c.args.route) _ _ (line_of c.args.line.now) c.args.cond c.args.id (get nat_cmp c.args.waiting.now) (get nat_cmp c.open_branches.new.waiting) c.deref.result.now
    c.args.passed.now.items d (ap line_of c.in-Choice.is ∙ ap choice (sym c.deref.ensures.value)) c.open_branches.ensures.keeps c.requires.passed is (opens d is)) c.open_branches.ensures.opens

pub returns-in-Choice-clause-below : goal.returns-in-Choice-clause-below
returns-in-Choice-clause-below g c =
    on_ok_weaker c.open_branches.result (λ below bound old children. below bound old (children-below bound (line_of c.args.line.now) c.deref.result.now (ap line_of c.in-Choice.is ∙ ap choice (sym c.deref.ensures.value)) children))
    c.open_branches.ensures.below

pub returns-in-Some : goal.returns-in-Some
returns-in-Some g c =
    let plain = kept_plain c.args.line.now c.in_default.not-Choice in
    let added = c.in_ok-push.ensures.items in
    let s = g.C.Conditions.sets in
    record {
      visits = on_ok_weaker c.open_tree.result
          (λ opens d is. visits-child (child_by c.args.route) _ _ (line_of c.args.line.now) c.args.cond c.args.id c.in-Some.child (get nat_cmp c.args.waiting.now) (get nat_cmp c.open_tree.new.waiting)
          c.args.passed.now.items c.push.new.self.items d plain (sym c.child_of.ensures ∙ c.in-Some.is) added c.open_tree.ensures.keeps c.requires.own c.requires.passed is (opens d is))
          c.open_tree.ensures.opens;
      own = c.open_tree.ensures.own;
      below = on_ok_weaker c.open_tree.result
          (λ below bound old children. below bound old (child-below (child_by c.args.route) bound (line_of c.args.line.now) c.in-Some.child (sym c.child_of.ensures ∙ c.in-Some.is) children))
          c.open_tree.ensures.below;
      passed_own = on_ok_weaker c.open_tree.result
          (λ own. own-more (s c.args.conds.now) (s c.open_tree.new.conds) c.args.cond c.args.id c.args.passed.now.items c.push.new.self.items added c.open_tree.ensures.keeps c.requires.passed c.requires.own)
          c.open_tree.ensures.own;
      passed_within = on_ok_weaker c.open_tree.result (λ own bound. below-more bound c.args.cond c.args.id c.args.passed.now.items c.push.new.self.items added) c.open_tree.ensures.own;
      keeps = c.open_tree.ensures.keeps;
    }

pub returns-in-None : goal.returns-in-None
returns-in-None g c =
    let plain = kept_plain c.args.line.now c.in_default.not-Choice in
    let added = c.in_ok-push.ensures.items in
    let s = g.C.Conditions.sets in
    record {
      visits = λ d is. visits-last (child_by c.args.route) _ (line_of c.args.line.now) c.args.cond c.args.id (get nat_cmp c.args.waiting.now) c.args.passed.now.items c.push.new.self.items d plain
          (sym c.child_of.ensures ∙ c.in-None.is) added c.requires.own c.requires.passed is;
      own = c.requires.waiting;
      below = λ bound old children. old;
      passed_own = own-more (s c.args.conds.now) (s c.args.conds.now) c.args.cond c.args.id c.args.passed.now.items c.push.new.self.items added (Keeps-refl (s c.args.conds.now)) c.requires.passed c.requires.own;
      passed_within = λ bound. below-more bound c.args.cond c.args.id c.args.passed.now.items c.push.new.self.items added;
      keeps = Keeps-refl _;
    }
