use Rattle.std.proofs.Common.{◌∙◌, sym, ap, subst, inl, inr, Some, Contains, arith}
use Rattle.std.proofs.lemmas.Bool.{true≢false}
use Rattle.std.proofs.lemmas.List.Elements.{Contains-push_cases}
use Rattle.sc_macro.specs.Seen.{IsHeldDefinition, seen_definition}
use Rattle.sc_table.specs.Parts.{seen_all}
use Rattle.sc_table.proofs.PartLemmas.{each-valued, take-seen_all, slice_get-seen_all, take-valued_all}
use Rattle.sc_table.proofs.change.same_part.Goals as goal

pub loop-index-init : goal.loop-index-init
loop-index-init c = λ names one named held has. omega (arith, has.1)

pub returns-then-same_definition-clause-found : goal.returns-then-same_definition-clause-found
returns-then-same_definition-clause-found c = λ names one named held.
    let parts = c.args.parts.now in
    let i = c.loop-index.index in
    let p = c.index-parts-index.result in
    let part_held = each-valued parts i p c.loop-index-test.true c.index-parts-index.is (λ part. IsHeldDefinition names part.1) named.held in
    let says = c.same_definition.ensures names one (subst (IsHeldDefinition names) (sym c.deref.ensures) part_held) held in
    slice_get-seen_all parts i p c.loop-index-test.true c.index-parts-index.is names ∙ ap Some (ap (seen_definition names) (sym c.deref.ensures) ∙ says.0 c.if-same_definition.true)

pub loop-index-preserved : goal.loop-index-preserved
loop-index-preserved c = λ names one named held has.
    let parts = c.args.parts.now in
    let i = c.loop-index.index in
    let p = c.index-parts-index.result in
    let d = seen_definition names c.args.definition.now in
    let part_held = each-valued parts i p c.loop-index-test.true c.index-parts-index.is (λ part. IsHeldDefinition names part.1) named.held in
    let says = c.same_definition.ensures names one (subst (IsHeldDefinition names) (sym c.deref.ensures) part_held) held in
    elim (Contains-push_cases _ _ d (subst (λ ds. Contains ds d) (take-seen_all parts i p c.loop-index-test.true c.index-parts-index.is names) has)) [
      | inl before ↦ c.loop-index.invariant names one named held before
      | inr same ↦ true≢false (sym (says.1 (ap (seen_definition names) c.deref.ensures ∙ same)) ∙ c.if-same_definition.false)
    ]

pub returns-clause-found : goal.returns-clause-found
returns-clause-found c = λ names one named held has.
    c.loop-index.invariant names one named held
    (subst (λ ps. Contains (seen_all names ps) (seen_definition names c.args.definition.now)) (sym (take-valued_all c.args.parts.now c.loop-index.index (omega arith))) has)
