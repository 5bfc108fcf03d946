use Rattle.std.proofs.Common.{◌≡◌, ◌==◌, ◌++◌, ◌∷◌, [], List, ℕ, refl, sym, subst, ap, ◌∙◌, map, take, take_all, get_or, arith}
use Rattle.std.specs.List.{Contains}
use Rattle.std.proofs.lemmas.List.{map-append}
use Rattle.sc_base.specs.declared.id.Cond.{Cond}
use Rattle.sc_base.specs.declared.id.TreeId.{TreeId}
use Rattle.sc_base.proofs.Growth.{Extends-refl}
use Rattle.sc_model.specs.Growth.{Extends}
use Rattle.sc_model.proofs.SetLemmas.{Keeps-refl, Keeps-trans}
use Rattle.sc_space.specs.Seen.{seen_space}
use Rattle.sc_show.specs.Rules.{Introduced}
use Rattle.sc_show.specs.TreeRules.{AreBranchNumbers, no_numbers}
use Rattle.sc_text.specs.Text.{line_text, choice_line}
use Rattle.sc_show.proofs.PrinterIntroducing.{Introduced-nothing, Introduced-trans}
use Rattle.sc_show.proofs.PrinterNumbers.{pushed, pushed_at}
use Rattle.sc_show.proofs.TreeLines.{LaidOutTree-choice}
use Rattle.sc_show.proofs.TreeNumbers.{no_branch, fresh_tree, AreBranchNumbers-more}
use Rattle.sc_show.proofs.printer.Printer.print_choice.Goals as goal

pub loop-branch-init : goal.loop-branch-init
loop-branch-init g c = record {
  keeps = Keeps-refl _;
  lines = subst (λ (ns : List (ℕ × ℕ)). Introduced (seen_space c.args.space.now) (g.C.Conditions.sets c.args.conds.now) (g.C.Conditions.sets c.args.conds.now) c.args.self.now c.args.self.now (map (λ (branch : ℕ × ℕ). branch.0) ns))
      (sym c.new-numbers.ensures.items) (Introduced-nothing (Keeps-refl _) c.requires.table);
  numbers = subst (AreBranchNumbers c.args.self.now.conditions.keys c.args.self.now.trees.keys []) (sym c.new-numbers.ensures.items) no_numbers;
}

pub condition_number-requires-clause-own : goal.condition_number-requires-clause-own
condition_number-requires-clause-own g c = c.loop-branch.invariant.keeps.own _ (c.requires.own c.loop-branch.branch-index no_branch c.loop-branch-test.true)

pub returns-in_err-condition-clause-keeps : goal.returns-in_err-condition-clause-keeps
returns-in_err-condition-clause-keeps g c = Keeps-trans c.loop-branch.invariant.keeps c.condition_number.ensures.keeps

pub returns-in_err-push-clause-keeps : goal.returns-in_err-push-clause-keeps
returns-in_err-push-clause-keeps g c = Keeps-trans c.loop-branch.invariant.keeps c.condition_number.ensures.keeps

pub printed-requires : goal.printed-requires
printed-requires g c =
    let same = c.in_ok-condition.ensures.lines.same_trees ∙ c.loop-branch.invariant.lines.same_trees in
    subst (λ (ks : List TreeId). Contains ks (get_or c.args.branches.now c.loop-branch.branch-index no_branch).1) (sym same) (c.requires.below c.loop-branch.branch-index no_branch c.loop-branch-test.true)

pub loop-branch-preserved : goal.loop-branch-preserved
loop-branch-preserved g c =
    let was = c.loop-branch.invariant in
    let more = c.in_ok-condition.ensures.lines in
    let kept = c.condition_number.ensures.keeps in
    record {
      keeps = Keeps-trans was.keeps kept;
      lines = subst (Introduced (seen_space c.args.space.now) (g.C.Conditions.sets c.args.conds.now) (g.C.Conditions.sets c.condition_number.new.conds) c.args.self.now c.condition_number.new.self)
          (sym (ap (map (λ (branch : ℕ × ℕ). branch.0)) c.in_ok-push.ensures.items ∙ map-append (λ (branch : ℕ × ℕ). branch.0) c.loop-branch.numbers.items ((c.in_ok-condition.condition, c.printed.result) ∷ [])))
          (Introduced-trans kept was.lines more);
      numbers = AreBranchNumbers-more c.args.branches.now c.loop-branch.branch-index c.in_ok-condition.condition c.printed.result no_branch c.loop-branch-test.true
          more.grows (subst (Extends c.loop-branch.self.trees.keys) (sym more.same_trees) (Extends-refl c.loop-branch.self.trees.keys)) was.numbers c.in_ok-condition.ensures.number c.printed.ensures c.in_ok-push.ensures.items;
    }

pub returns-clause-lines : goal.returns-clause-lines
returns-clause-lines g c =
    let was = c.loop-branch.invariant in
    let all : take c.loop-branch.branch-index c.args.branches.now ≡ c.args.branches.now = take_all _ _ (omega arith) in
    let numbers = subst (λ (bs : List (Cond × TreeId)). AreBranchNumbers c.loop-branch.self.conditions.keys c.loop-branch.self.trees.keys bs c.loop-branch.numbers.items) all was.numbers in
    let fresh = fresh_tree c.loop-branch.self.trees.keys c.args.tree (subst (λ (ks : List TreeId). Contains ks c.args.tree → ⊥) (sym was.lines.same_trees) c.requires.fresh) in
    λ names files. LaidOutTree-choice c.args.tree c.args.branches.now c.loop-branch.numbers.items c.in_ok-number.number was.lines numbers
    (pushed_at (λ (a b : TreeId). a.0 == b.0) _ _ c.insert_full.new.self.keys _ fresh c.in_ok-number.ensures.index)
    (pushed (λ (a b : TreeId). a.0 == b.0) _ _ _ c.in_ok-number.number fresh c.in_ok-number.ensures.keys) refl refl
    (c.in_ok-write_branches.ensures ∙ ap (λ (ns : List (ℕ × ℕ)). c.loop-branch.self.text.items ++ line_text (choice_line c.in_ok-number.number ns)) c.deref.ensures.value)
