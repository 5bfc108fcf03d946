use Rattle.std.proofs.Common.{◌∙◌, ℕ, ◌∷◌, [], List, ap, arith, map}
use Rattle.std.proofs.lemmas.List.{length-map}
use Rattle.sc_core.proofs.Cuts.{next-variable, option-within, whole-cut}
use Rattle.sc_core.proofs.cut.cut_variables.Goals as goal
use Rattle.sc_space.specs.Seen.{seen_option, seen_variable}

pub index-option-requires : goal.index-option-requires
index-option-requires c =
    let variable = c.index-variables-index.result in
    omega (arith, variable.options.ok.0, option-within c.args.variables.now c.args.config.now c.loop-index.index variable c.requires c.loop-index-test.true c.index-variables-index.is)

pub loop-index-preserved : goal.loop-index-preserved
loop-index-preserved c =
    let variable = c.index-variables-index.result in
    let made = c.in_ok-with_option.ensures ∙ ap (λ (name : List ℕ). record { name = name; options = seen_option c.index-option.result.now ∷ [] }) c.as_str.ensures.value in
    ap (map seen_variable) c.in_ok-push.ensures.items
    ∙ next-variable c.args.variables.now c.args.config.now c.loop-index.index variable c.requires c.loop-index-test.true c.index-variables-index.is
    c.in_ok-with_option.field-0 c.index-option.result.now c.loop-index.only.items c.index-option.ensures made c.loop-index.invariant

pub returns : goal.returns
returns c =
    c.loop-index.invariant ∙ whole-cut (map seen_variable c.args.variables.now) c.args.config.now c.loop-index.index c.requires (omega (arith, length-map c.args.variables.now seen_variable))
