use Rattle.std.proofs.Common.{◌≡◌, [], ◌∷◌, Some, None, ap, subst, sym, ◌∙◌, length, slice_get}
use Rattle.sc_fork.specs.declared.event.Event.TheVariants as event
use Rattle.sc_merge.specs.Merges.{tables_with}
use Rattle.sc_parse.proofs.MergeLemmas.{merge-enabled, merged-made, merged-number, merged-to, merged-waiting}
use Rattle.sc_parse.proofs.NumberLemmas.{event-replaces}
use Rattle.sc_parse.specs.Numbers.{Replaces}
use Rattle.sc_parse.proofs.steps.Steps.merge.Goals as goal

-- src/steps.rt:130:20
pub apply-requires-clause-enabled : goal.apply-requires-clause-enabled
apply-requires-clause-enabled g c = λ fact refused.
    merge-enabled c.args.self.now.core.source c.args.self.now.core.subparsers c.args.number c.args.other fact c.requires.numbers c.requires.alike refused

pub unreachable-requires : goal.unreachable-requires
unreachable-requires g c =
    let to = merged-to c.args.self.now.core c.apply.new.self.core c.args.number c.args.other c.in_ok-made.made.items c.in_ok-made.ensures.made in
    let none : None ≡ slice_get c.deref.result.now 0 = c.in-None.ensures.value in
    let some : None ≡ Some (length c.args.self.now.core.subparsers) = none ∙ ap (λ made. slice_get made 0) (c.deref.ensures.value ∙ to.is) in
    cc (some)

pub returns-clause-goes_on : goal.returns-clause-goes_on
returns-clause-goes_on g c = λ place. c.in_ok-made.ensures.goes_on place tt

pub returns-clause-replaces : goal.returns-clause-replaces
returns-clause-replaces g c =
    let before = c.args.self.now.core in
    let after = c.apply.new.self.core in
    let first : slice_get c.in_ok-made.made.items 0 ≡ Some c.in-Some.merged.now = ap (λ made. slice_get made 0) (sym c.deref.ensures.value) ∙ sym c.in-Some.ensures.value in
    subst (Replaces before.subparsers after.subparsers (c.args.number ∷ (c.args.other ∷ [])))
    (merged-made before after c.args.number c.args.other c.in_ok-made.made.items c.in-Some.merged.now c.in_ok-made.ensures.made first)
    (event-replaces before after (event.Merge c.args.number c.args.other) c.in_ok-made.made.items c.in_ok-made.ensures.made c.requires.numbers)

pub returns-clause-merged : goal.returns-clause-merged
returns-clause-merged g c = λ s has.
    let first : slice_get c.in_ok-made.made.items 0 ≡ Some c.in-Some.merged.now = ap (λ made. slice_get made 0) (sym c.deref.ensures.value) ∙ sym c.in-Some.ensures.value in
    merged-number c.args.self.now.core c.apply.new.self.core c.args.number c.args.other c.in_ok-made.made.items c.in-Some.merged.now c.in_ok-made.ensures.made first s has

pub returns-clause-waiting : goal.returns-clause-waiting
returns-clause-waiting g c = λ names files input first place run waits.
    let at : slice_get c.in_ok-made.made.items 0 ≡ Some c.in-Some.merged.now = ap (λ made. slice_get made 0) (sym c.deref.ensures.value) ∙ sym c.in-Some.ensures.value in
    merged-waiting (tables_with (g.C.Conditions.sets c.args.conds.now) c.args.trees.now names files) (tables_with (g.C.Conditions.sets c.apply.new.conds) c.apply.new.trees names files) input place
    c.args.self.now.core c.apply.new.self.core c.args.number c.args.other c.in_ok-made.made.items c.in-Some.merged.now c.in_ok-made.ensures.made at
    (c.in_ok-made.ensures.step names files input first run) waits
