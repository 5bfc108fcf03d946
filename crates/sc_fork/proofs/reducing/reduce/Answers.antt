use Rattle.std.proofs.Common.{◌≡◌, ◌∙◌, ◌<◌, ◌∷◌, List, Option, IfSome, All, take, drop, reverse, length, refl, sym, ap, subst}
use Rattle.sc_base.specs.declared.id.TreeId.{TreeId}
use Rattle.sc_fork.specs.Reducing.{IsValueOf}
use Rattle.sc_fork.proofs.ChoiceLemmas.{adds-branches}
use Rattle.sc_fork.proofs.NodeLemmas.{adds-node, adds-none}
use Rattle.sc_fork.proofs.PieceLemmas.{if-made}
use Rattle.sc_fork.proofs.ReduceEvents.{in-range, never-refused, taken-own, branches-Keeps, IsReduced, is-reduced}
use Rattle.sc_grammar.specs.Production.{production_of}
use Rattle.sc_lalr.specs.Tables.{goto_of}
use Rattle.sc_merge.specs.declared.subparser.Subparser.{Subparser}
use Rattle.sc_stack.specs.Entries.{Entry, state_of, values_of}
use Rattle.sc_fork.proofs.reducing.reduce.Given.{Over}
use Rattle.sc_fork.proofs.reducing.reduce.Goals as goal
use Rattle.sc_fork.proofs.reducing.reduce.Goals.{After-drop-values-2}

pub production-rule-requires-clause-first : goal.production-rule-requires-clause-first
production-rule-requires-clause-first g c =
    (in-range (g.C.Conditions.sets c.args.conds.now) (length c.args.trees.now) c.args.source.now c.args.parent.now c.args.at c.args.number c.requires.source c.requires.own c.requires.action).0

pub production-rule-requires-clause-last : goal.production-rule-requires-clause-last
production-rule-requires-clause-last g c =
    (in-range (g.C.Conditions.sets c.args.conds.now) (length c.args.trees.now) c.args.source.now c.args.parent.now c.args.at c.args.number c.requires.source c.requires.own c.requires.action).1

pub returns-in_default-clause-piece : goal.returns-in_default-clause-piece
returns-in_default-clause-piece g c =
    let rule = production_of c.production-rule.result in
    let popped : c.pop.new.self ≡ drop (length rule.right) c.args.parent.now.stack = c.in_ok-values.ensures.ok ∙ ap (λ n. drop n c.in_ok-stack.stack) c.size.ensures ∙ ap (drop (length rule.right)) (c.in_ok-stack.ensures ∙ ap (λ (p : Subparser). p.stack) c.parent.view_is) in
    absurd (never-refused (g.C.Conditions.sets c.args.conds.now) (length c.args.trees.now) c.args.source.now c.args.parent.now c.args.at c.args.number rule c.requires.source c.requires.own
    c.requires.action c.production-rule.ensures
    (ap (λ (es : List Entry). goto_of c.args.source.now.tables.now (state_of es) rule.left) (sym popped) ∙ ap (λ n. goto_of c.args.source.now.tables.now n rule.left) (sym c.state.ensures)
    ∙ sym c.goto.ensures ∙ c.in_default.is))

pub value_of-requires : goal.value_of-requires
value_of-requires g c =
    subst (All (λ (v : Option TreeId). IfSome v (λ id. id.0 < length c.args.trees.now)))
    (sym (c.deref.ensures.value ∙ c.in_ok-values.ensures.values ∙ ap (λ (es : List Entry). reverse (values_of (take c.size.result es))) (c.in_ok-stack.ensures ∙ ap (λ (p : Subparser). p.stack) c.parent.view_is)))
    (taken-own (length c.args.trees.now) c.size.result c.args.parent.now.stack c.requires.own.owns.values)

pub returns-in_err-value-clause-branches : goal.returns-in_err-value-clause-branches
returns-in_err-value-clause-branches g c = adds-branches _ c.args.trees.now _ c.value_of.ensures.choices c.requires.branches

pub returns-in_err-push-clause-branches : goal.returns-in_err-push-clause-branches
returns-in_err-push-clause-branches g c = adds-branches _ c.args.trees.now _ c.value_of.ensures.choices c.requires.branches

pub marked_scopes-requires-clause-branches : goal.marked_scopes-requires-clause-branches
marked_scopes-requires-clause-branches g c = adds-branches _ c.args.trees.now _ c.value_of.ensures.choices c.requires.branches

pub returns-in_err-scopes-clause-branches : goal.returns-in_err-scopes-clause-branches
returns-in_err-scopes-clause-branches g c =
    branches-Keeps _ _ _ c.marked_scopes.ensures.keeps (adds-branches _ c.args.trees.now _ c.value_of.ensures.choices c.requires.branches)

reduced : (g : Over) (c : After-drop-values-2 g)
    → IsReduced c.args.at c.args.number (g.C.Conditions.sets c.args.conds.now) (g.C.Conditions.sets c.marked_scopes.new.conds) c.args.trees.now c.value_of.new.trees c.args.source.now c.args.parent.now
    (record { cond = c.parent.inside.cond; stack = c.push.new.self; scopes = c.in_ok-scopes.scopes; phase = c.parent.inside.phase })
reduced g c =
    let rule = production_of c.production-rule.result in
    let s = g.C.Conditions.sets in
    let popped : c.pop.new.self ≡ drop (length rule.right) c.args.parent.now.stack =
    c.in_ok-values.ensures.ok ∙ ap (λ n. drop n c.in_ok-stack.stack) c.size.ensures ∙ ap (drop (length rule.right)) (c.in_ok-stack.ensures ∙ ap (λ (p : Subparser). p.stack) c.parent.view_is) in
    let values : c.deref.result.now ≡ reverse (values_of (take (length rule.right) c.args.parent.now.stack)) =
    c.deref.ensures.value ∙ c.in_ok-values.ensures.values ∙ ap (λ (es : List Entry). reverse (values_of (take c.size.result es))) (c.in_ok-stack.ensures ∙ ap (λ (p : Subparser). p.stack) c.parent.view_is)
    ∙ ap (λ n. reverse (values_of (take n c.args.parent.now.stack))) c.size.ensures in
    is-reduced (s c.args.conds.now) (s c.marked_scopes.new.conds) c.args.trees.now c.value_of.new.trees c.args.source.now c.args.parent.now
    (record { cond = c.parent.inside.cond; stack = c.push.new.self; scopes = c.in_ok-scopes.scopes; phase = c.parent.inside.phase }) c.args.at c.args.number c.in-Some.state rule c.in_ok-value.value
    c.requires.source c.requires.phase c.requires.action c.requires.own c.marked_scopes.ensures.keeps c.value_of.ensures.grows c.production-rule.ensures
    (ap (λ (es : List Entry). goto_of c.args.source.now.tables.now (state_of es) rule.left) (sym popped) ∙ ap (λ n. goto_of c.args.source.now.tables.now n rule.left) (sym c.state.ensures)
    ∙ sym c.goto.ensures ∙ c.in-Some.is)
    (subst (λ (vs : List (Option TreeId)). IsValueOf c.value_of.new.trees c.args.number vs c.in_ok-value.value) values c.in_ok-value.ensures.value) c.in_ok-value.ensures.own (ap (λ (p : Subparser). p.cond) c.parent.view_is)
    (c.in_ok-push.ensures.ok ∙ ap (λ (es : List Entry). record { state = c.in-Some.state; value = c.in_ok-value.value } ∷ es) popped) (ap (λ (p : Subparser). p.phase) c.parent.view_is) c.in_ok-scopes.ensures.own c.in_ok-scopes.ensures.levels

pub returns-clause-piece : goal.returns-clause-piece
returns-clause-piece g c = if-made _ c.going.result _ c.going.ensures (λ names files input t is seen. (reduced g c).pieces names files input t is.names_differ is seen)

pub returns-clause-own : goal.returns-clause-own
returns-clause-own g c = if-made _ c.going.result _ c.going.ensures (reduced g c).row

pub returns-clause-reduced : goal.returns-clause-reduced
returns-clause-reduced g c = if-made _ c.going.result _ c.going.ensures (reduced g c).by

pub returns-clause-numbered : goal.returns-clause-numbered
returns-clause-numbered g c = if-made _ c.going.result _ c.going.ensures c.in_ok-scopes.ensures.numbered

pub returns-clause-branches : goal.returns-clause-branches
returns-clause-branches g c = branches-Keeps _ _ _ c.marked_scopes.ensures.keeps (adds-branches _ c.args.trees.now _ c.value_of.ensures.choices c.requires.branches)

-- ---- what is added

pub returns-in_err-stack-clause-adds : goal.returns-in_err-stack-clause-adds
returns-in_err-stack-clause-adds g c = λ line by. adds-none _ _ _ refl

pub returns-in_err-values-clause-adds : goal.returns-in_err-values-clause-adds
returns-in_err-values-clause-adds g c = λ line by. adds-none _ _ _ refl

pub returns-in_default-clause-adds : goal.returns-in_default-clause-adds
returns-in_default-clause-adds g c = λ line by. adds-none _ _ _ refl

pub returns-in_err-value-clause-adds : goal.returns-in_err-value-clause-adds
returns-in_err-value-clause-adds g c =
    adds-node c.args.number _ _ _ _ _ (production_of c.production-rule.result) _ _ c.production-rule.ensures c.size.ensures (c.in_ok-stack.ensures ∙ ap (λ (p : Subparser). p.stack) c.parent.view_is)
    c.in_ok-values.ensures.values c.deref.ensures.value c.value_of.ensures.adds

pub returns-in_err-push-clause-adds : goal.returns-in_err-push-clause-adds
returns-in_err-push-clause-adds g c =
    adds-node c.args.number _ _ _ _ _ (production_of c.production-rule.result) _ _ c.production-rule.ensures c.size.ensures (c.in_ok-stack.ensures ∙ ap (λ (p : Subparser). p.stack) c.parent.view_is)
    c.in_ok-values.ensures.values c.deref.ensures.value c.value_of.ensures.adds

pub returns-in_err-scopes-clause-adds : goal.returns-in_err-scopes-clause-adds
returns-in_err-scopes-clause-adds g c =
    adds-node c.args.number _ _ _ _ _ (production_of c.production-rule.result) _ _ c.production-rule.ensures c.size.ensures (c.in_ok-stack.ensures ∙ ap (λ (p : Subparser). p.stack) c.parent.view_is)
    c.in_ok-values.ensures.values c.deref.ensures.value c.value_of.ensures.adds

pub returns-clause-adds : goal.returns-clause-adds
returns-clause-adds g c =
    adds-node c.args.number _ _ _ _ _ (production_of c.production-rule.result) _ _ c.production-rule.ensures c.size.ensures (c.in_ok-stack.ensures ∙ ap (λ (p : Subparser). p.stack) c.parent.view_is)
    c.in_ok-values.ensures.values c.deref.ensures.value c.value_of.ensures.adds
