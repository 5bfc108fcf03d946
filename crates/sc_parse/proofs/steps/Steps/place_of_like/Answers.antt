use Rattle.std.proofs.Common.{arith, subst, sym, ◌∙◌, get_or}
use Rattle.std.proofs.lemmas.Grind.{get_or_default_zero}
use Rattle.sc_parse.proofs.MergeLemmas.{AreUnlike, keyed-unlike, number-at, others-are, unlike-more}
use Rattle.sc_parse.proofs.NumberLemmas.{first-number}
use Rattle.sc_parse.proofs.steps.Steps.place_of_like.Goals as goal

-- src/steps.rt:107:19
pub key-key-requires-clause-there : goal.key-key-requires-clause-there
key-key-requires-clause-there c = first-number c.args.self.now.core.subparsers c.args.number c.args.others.now c.requires.numbers

-- src/steps.rt:108:9
pub loop-place-init : goal.loop-place-init
loop-place-init c = λ k before. absurd (omega (arith, before))

-- src/steps.rt:109:16
pub key-requires-clause-there : goal.key-requires-clause-there
key-requires-clause-there c =
    number-at c.args.self.now.core.subparsers c.args.others.now c.loop-place.place 0
    (others-are c.args.self.now.core.subparsers c.args.number c.args.others.now c.requires.numbers) c.loop-place-test.true

-- src/steps.rt:108:9
pub loop-place-preserved : goal.loop-place-preserved
loop-place-preserved c =
    let rows = c.args.self.now.core.subparsers in
    let here = get_or c.args.others.now c.loop-place.place 0 in
    unlike-more rows c.args.others.now c.args.number c.loop-place.place c.loop-place.invariant
    (keyed-unlike rows here c.args.number c.key.result c.key-key.result c.key.ensures c.key-key.ensures (sym c.eq.ensures ∙ c.if-eq.false))

-- src/steps.rt:100:5
pub returns-clause-none : goal.returns-clause-none
returns-clause-none c = λ none k d within.
    let rows = c.args.self.now.core.subparsers in
    subst (λ n. AreUnlike rows n c.args.number) (sym (get_or_default_zero c.args.others.now k d within))
    (c.loop-place.invariant k (omega (arith, within, c.loop-place-test.false)))
