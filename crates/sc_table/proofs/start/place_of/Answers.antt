use Rattle.std.proofs.Common.{ℕ, List, Contains, IfSome, map, take, take_all, ◌∙◌, sym, ap, subst, Some, arith}
use Rattle.std.proofs.lemmas.Bool.{true≢false}
use Rattle.sc_macro.specs.Seen.{IsHeldDefinition}
use Rattle.sc_table.specs.Table.{seen_shared}
use Rattle.sc_table.proofs.PuttingOptions.{seen-none, seen-place}
use Rattle.sc_table.proofs.start.place_of.Goals as goal

pub loop-place-init : goal.loop-place-init
loop-place-init c = λ names one held own has. omega (arith, has.1)

pub returns-then-are_same-clause-found : goal.returns-then-are_same-clause-found
returns-then-are_same-clause-found c = λ names one held own.
    let place = c.loop-place.place in
    let o = c.index-definitions-place.result in
    let is = c.index-definitions-place.is in
    let other = subst (λ x. IfSome x (λ shared. IsHeldDefinition names shared.value)) (sym is) (held place o c.loop-place-test.true) in
    seen-place names c.args.definitions.now place o c.loop-place-test.true is ∙ ap Some ((c.are_same.ensures names one other own).0 c.if-are_same.true)

pub loop-place-preserved : goal.loop-place-preserved
loop-place-preserved c = λ names one held own has.
    let place = c.loop-place.place in
    let o = c.index-definitions-place.result in
    let is = c.index-definitions-place.is in
    let other = subst (λ x. IfSome x (λ shared. IsHeldDefinition names shared.value)) (sym is) (held place o c.loop-place-test.true) in
    seen-none names c.args.definitions.now place o c.args.definition.now c.loop-place-test.true is
    (λ e. true≢false (sym ((c.are_same.ensures names one other own).1 e) ∙ c.if-are_same.false)) (c.loop-place.invariant names one held own) has

pub returns-clause-found : goal.returns-clause-found
returns-clause-found c = λ names one held own has.
    c.loop-place.invariant names one held own
    (subst (λ ds. Contains (map (seen_shared names) ds) (seen_shared names c.args.definition.now)) (sym (take_all c.loop-place.place c.args.definitions.now (omega arith))) has)
