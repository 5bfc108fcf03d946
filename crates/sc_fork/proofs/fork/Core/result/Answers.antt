use Rattle.std.proofs.Common.{◌<◌, ◌∙◌, All, List, length, sym, ap, subst}
use Rattle.sc_base.specs.declared.id.Cond.{Cond}
use Rattle.sc_base.specs.declared.id.TreeId.{TreeId}
use Rattle.sc_fork.specs.declared.piece.Ended.{Ended}
use Rattle.sc_fork.specs.View.{View}
use Rattle.sc_fork.specs.Roots.{AreRoots, IsRoot, AddsChoice, faults_of, trees_of}
use Rattle.sc_fork.proofs.OutcomeLemmas.{branches-choice, parts-within, faults-own, few-roots, all-satisfiable, outcome, owns-outcome, sound-choices, sound-same}
use Rattle.sc_fork.proofs.fork.Core.result.Goals as goal

pub returns-in_err-roots-clause-choices : goal.returns-in_err-roots-clause-choices
returns-in_err-roots-clause-choices g c =
    let s = g.C.Conditions.sets in
    λ names files input seen is stands sound. sound-same (s c.args.conds.now) (s c.roots_of.new.conds) c.args.trees.now c.in_err-roots.ensures.keeps c.requires.branches sound

pub root_of-requires : goal.root_of-requires
root_of-requires g c =
    let s = g.C.Conditions.sets in
    let total = length c.args.trees.now in
    let es = c.args.self.now.ended in
    let same = ap (λ (v : View). v.ended) c.self.view_is in
    let are = subst (λ (parts : List Ended). AreRoots (s c.args.conds.now) (s c.roots_of.new.conds) (trees_of parts) c.in_ok-roots.roots.items) (c.deref-2.ensures.value ∙ same) c.in_ok-roots.ensures.roots in
    subst (λ (xs : List (Cond × TreeId)). All (λ (x : Cond × TreeId). x.1.0 < total) xs) (sym c.deref-3.ensures.value)
    (are.within total (parts-within (s c.args.conds.now) total c.args.self.now.source es (c.requires.own.ended c.requires.finished.usable)))

pub returns-in_err-root-clause-choices : goal.returns-in_err-root-clause-choices
returns-in_err-root-clause-choices g c =
    let s = g.C.Conditions.sets in
    let old = s c.args.conds.now in
    let new = s c.roots_of.new.conds in
    let lines = c.args.trees.now in
    let later = c.root_of.new.trees in
    let roots = c.in_ok-roots.roots.items in
    let keeps = c.in_ok-roots.ensures.keeps in
    let none = c.requires.finished.rows in
    let same = ap (λ (v : View). v.ended) c.self.view_is in
    let are = subst (λ (parts : List Ended). AreRoots old new (trees_of parts) roots) (c.deref-2.ensures.value ∙ same) c.in_ok-roots.ensures.roots in
    let adds = subst (λ (xs : List (Cond × TreeId)). AddsChoice xs lines later) c.deref-3.ensures.value c.in_err-root.ensures.adds in
    λ names files input seen is stands sound.
    sound-choices old new lines later roots keeps c.requires.branches adds (few-roots old new lines later names files input c.args.self.now seen keeps none roots are is stands)
    (all-satisfiable old new lines later names files input c.args.self.now seen keeps none roots are is stands) sound

pub returns-clause-outcome : goal.returns-clause-outcome
returns-clause-outcome g c =
    let s = g.C.Conditions.sets in
    let old = s c.args.conds.now in
    let new = s c.roots_of.new.conds in
    let lines = c.args.trees.now in
    let later = c.root_of.new.trees in
    let es = c.args.self.now.ended in
    let roots = c.in_ok-roots.roots.items in
    let same = ap (λ (v : View). v.ended) c.self.view_is in
    let are = subst (λ (parts : List Ended). AreRoots old new (trees_of parts) roots) (c.deref-2.ensures.value ∙ same) c.in_ok-roots.ensures.roots in
    let root = subst (λ (xs : List (Cond × TreeId)). IsRoot later xs c.in_ok-root.root) c.deref-3.ensures.value c.in_ok-root.ensures.root in
    λ names files input seen is stands.
    outcome old new lines later names files input c.args.self.now seen c.in_ok-roots.ensures.keeps c.requires.finished.rows roots are is stands _ c.in_ok-root.ensures.grows
    (faults-own old (length lines) c.args.self.now.source es (c.requires.own.ended c.requires.finished.usable)) (c.in_ok-faults.ensures ∙ ap faults_of (c.deref.ensures.value ∙ same)) root

pub returns-clause-own : goal.returns-clause-own
returns-clause-own g c =
    let s = g.C.Conditions.sets in
    let old = s c.args.conds.now in
    let new = s c.roots_of.new.conds in
    let roots = c.in_ok-roots.roots.items in
    let same = ap (λ (v : View). v.ended) c.self.view_is in
    let are = subst (λ (parts : List Ended). AreRoots old new (trees_of parts) roots) (c.deref-2.ensures.value ∙ same) c.in_ok-roots.ensures.roots in
    let root = subst (λ (xs : List (Cond × TreeId)). IsRoot c.root_of.new.trees xs c.in_ok-root.root) c.deref-3.ensures.value c.in_ok-root.ensures.root in
    owns-outcome old new c.args.trees.now c.root_of.new.trees roots c.args.self.now.ended c.args.self.now.source _ c.in_ok-roots.ensures.keeps c.in_ok-root.ensures.grows
    (c.requires.own.ended c.requires.finished.usable) are (c.in_ok-faults.ensures ∙ ap faults_of (c.deref.ensures.value ∙ same)) root

pub returns-clause-choices : goal.returns-clause-choices
returns-clause-choices g c =
    let s = g.C.Conditions.sets in
    let old = s c.args.conds.now in
    let new = s c.roots_of.new.conds in
    let lines = c.args.trees.now in
    let later = c.root_of.new.trees in
    let roots = c.in_ok-roots.roots.items in
    let keeps = c.in_ok-roots.ensures.keeps in
    let none = c.requires.finished.rows in
    let same = ap (λ (v : View). v.ended) c.self.view_is in
    let are = subst (λ (parts : List Ended). AreRoots old new (trees_of parts) roots) (c.deref-2.ensures.value ∙ same) c.in_ok-roots.ensures.roots in
    let adds = subst (λ (xs : List (Cond × TreeId)). AddsChoice xs lines later) c.deref-3.ensures.value c.in_ok-root.ensures.adds in
    λ names files input seen is stands sound.
    sound-choices old new lines later roots keeps c.requires.branches adds (few-roots old new lines later names files input c.args.self.now seen keeps none roots are is stands)
    (all-satisfiable old new lines later names files input c.args.self.now seen keeps none roots are is stands) sound

pub returns-in_err-root-clause-branches : goal.returns-in_err-root-clause-branches
returns-in_err-root-clause-branches g c =
    let s = g.C.Conditions.sets in
    branches-choice (s c.args.conds.now) (s c.roots_of.new.conds) c.args.trees.now c.root_of.new.trees c.in_ok-roots.roots.items c.in_ok-roots.ensures.keeps c.requires.branches c.in_ok-roots.ensures.roots.own
    (subst (λ (xs : List (Cond × TreeId)). AddsChoice xs c.args.trees.now c.root_of.new.trees) c.deref-3.ensures.value c.in_err-root.ensures.adds)

pub returns-clause-branches : goal.returns-clause-branches
returns-clause-branches g c =
    let s = g.C.Conditions.sets in
    branches-choice (s c.args.conds.now) (s c.roots_of.new.conds) c.args.trees.now c.root_of.new.trees c.in_ok-roots.roots.items c.in_ok-roots.ensures.keeps c.requires.branches c.in_ok-roots.ensures.roots.own
    (subst (λ (xs : List (Cond × TreeId)). AddsChoice xs c.args.trees.now c.root_of.new.trees) c.deref-3.ensures.value c.in_ok-root.ensures.adds)
