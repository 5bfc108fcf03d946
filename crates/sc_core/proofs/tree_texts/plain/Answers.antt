use Rattle.std.proofs.Common.{◌∙◌, sym, subst, refl, List, ℕ, arith}
use Rattle.sc_core.proofs.Cuts.{only-formed, zeros-are}
use Rattle.sc_core.proofs.Plains.{laid-can, none-shown, plain-none, plain-some, root-has}
use Rattle.sc_core.proofs.tree_texts.plain.Goals as goal
use Rattle.sc_core.specs.Cut.{first_config}
use Rattle.sc_core.specs.Texts.{seen_by}
use Rattle.sc_project.specs.Layout.{LaysOut}
use Rattle.sc_tree.specs.Reads.{Reads}
use Rattle.sc_model.specs.Sets.{IsConfig}
use Rattle.sc_space.specs.Seen.{seen_space}

pub returns-in_default-clause-shown : goal.returns-in_default-clause-shown
returns-in_default-clause-shown g c = none-shown c.args.parsed c.requires.shown _ c.new.ensures refl refl

pub returns-in_default-clause-plain : goal.returns-in_default-clause-plain
returns-in_default-clause-plain g c = plain-none (g.C.Conditions.sets c.args.conds.now) c.args.names.now c.args.files.now c.args.parsed _ (first_config (seen_space c.args.space.now)) refl c.in_default.is refl c.new.ensures

pub project_tree-requires-clause-config : goal.project_tree-requires-clause-config
project_tree-requires-clause-config g c =
    let zeros = c.deref.ensures.value
    ∙ zeros-are c.args.space.now c.len.result c.in_ok-config.config.items (omega (arith, c.args.space.now.variables.ok.0, c.len.ensures)) (c.in_ok-config.ensures.items_if_clones_equal (λ y e. e)) in
    subst (IsConfig (g.C.Conditions.sets c.args.conds.now).arities) (sym zeros) (subst (λ ns. IsConfig ns (first_config (seen_space c.args.space.now))) (sym c.requires.arities)
    (only-formed (seen_space c.args.space.now) c.requires.sound.has_options))

pub project_tree-requires-clause-tree : goal.project_tree-requires-clause-tree
project_tree-requires-clause-tree g c =
    let zeros = c.deref.ensures.value
    ∙ zeros-are c.args.space.now c.len.result c.in_ok-config.config.items (omega (arith, c.args.space.now.variables.ok.0, c.len.ensures)) (c.in_ok-config.ensures.items_if_clones_equal (λ y e. e)) in
    root-has c.args.parsed c.requires.shown c.deref.result.now (λ d listed. c.requires.one d listed.formed ∙ sym zeros) c.requires.answered c.in-Some.root c.in-Some.is

pub returns-clause-shown : goal.returns-clause-shown
returns-clause-shown g c =
    laid-can c.args.parsed c.requires.shown _ c.deref.result.now c.in-Some.root c.in_ok-trees.root c.in_ok-trees.ensures.laid c.in_ok-trees.ensures.last c.in_ok-trees.ensures.plain refl refl

pub returns-clause-plain : goal.returns-clause-plain
returns-clause-plain g c =
    let s = g.C.Conditions.sets c.args.conds.now in
    let names = c.args.names.now in
    let files = c.args.files.now in
    let zeros = c.deref.ensures.value
    ∙ zeros-are c.args.space.now c.len.result c.in_ok-config.config.items (omega (arith, c.args.space.now.variables.ok.0, c.len.ensures)) (c.in_ok-config.ensures.items_if_clones_equal (λ y e. e)) in
    plain-some s names files c.args.parsed _ (first_config (seen_space c.args.space.now)) refl c.in-Some.root c.in_ok-trees.root c.in-Some.is refl c.in_ok-trees.ensures.plain
    (λ tree reads. c.in_ok-trees.ensures.reads s names files (first_config (seen_space c.args.space.now)) tree
    (subst (λ (d : List ℕ). Reads (seen_by s names files c.args.parsed) d c.in-Some.root.0 tree) (sym zeros) reads))
    (subst (λ (d : List ℕ). LaysOut s c.args.parsed.trees d c.in-Some.root.0 0 c.in_ok-trees.trees c.in_ok-trees.root.0) zeros c.in_ok-trees.ensures.laid)
