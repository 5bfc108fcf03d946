use Rattle.std.proofs.Common.{◌≡◌, ℕ, List, ◌∷◌, ◌<◌, get_or, length, ap, arith, subst, sym, ◌∙◌}
use Rattle.std.proofs.lemmas.Grind.{get_or_default_zero}
use Rattle.sc_fork.specs.Enabled.{Has}
use Rattle.sc_parse.proofs.MergeLemmas.{put-alike, put-each, put-replaces, set-alike, set-apart, set-replaces, set-waiting, two-numbers, two-each}
use Rattle.sc_parse.specs.Numbers.{AreLike, Replaces}
use Rattle.sc_parse.specs.Runs.{AreWaiting, IsWaiting}
use Rattle.sc_parse.proofs.steps.Steps.join.Goals as goal

pub returns-in_default-clause-replaces : goal.returns-in_default-clause-replaces
returns-in_default-clause-replaces g c =
    let rows = c.args.self.now.core.subparsers in
    subst (Replaces rows rows (c.args.number ∷ c.args.others.now.items)) (sym {A = List ℕ} c.in_ok-push.ensures.items) (put-replaces rows c.args.number c.args.others.now.items)

pub returns-in_default-clause-alike : goal.returns-in_default-clause-alike
returns-in_default-clause-alike g c =
    let rows = c.args.self.now.core.subparsers in
    subst (AreLike rows (c.args.number ∷ c.args.others.now.items) rows) (sym {A = List ℕ} c.in_ok-push.ensures.items) (put-alike rows c.args.number c.args.others.now.items c.requires.numbers)

pub returns-in_default-clause-waiting : goal.returns-in_default-clause-waiting
returns-in_default-clause-waiting g c = λ names files input first place run waits.
    let rows = c.args.self.now.core.subparsers in
    let sets = g.C.Conditions.sets c.args.conds.now in
    subst (AreWaiting sets input place rows) (sym {A = List ℕ} c.in_ok-push.ensures.items) (put-each (IsWaiting sets input place) rows c.args.number c.args.others.now.items waits)

pub merge-requires-clause-numbers : goal.merge-requires-clause-numbers
merge-requires-clause-numbers g c =
    let others = c.args.others.now.items in
    let within : c.in-Some.place < length others = omega (arith, c.in-Some.ensures.some.0, ap length c.deref.ensures.value) in
    two-numbers c.args.self.now.core.subparsers c.args.number others c.in-Some.place c.index.result.now c.requires.numbers within c.index.ensures

pub merge-requires-clause-alike : goal.merge-requires-clause-alike
merge-requires-clause-alike g c = λ s t has_s has_t.
    let lent = c.deref.result.now in
    let at : c.index.result.now ≡ get_or lent c.in-Some.place c.index.result.now =
    c.index.ensures ∙ ap (λ ns. get_or ns c.in-Some.place c.index.result.now) (sym c.deref.ensures.value) in
    let zero : c.index.result.now ≡ get_or lent c.in-Some.place 0 = at ∙ get_or_default_zero lent c.in-Some.place c.index.result.now c.in-Some.ensures.some.0 in
    c.in-Some.ensures.some.1 s t (subst (λ n. Has c.args.self.now.core.subparsers n s) zero has_s) has_t

pub returns-clause-replaces : goal.returns-clause-replaces
returns-clause-replaces g c =
    let others = c.args.others.now.items in
    let within : c.in-Some.place < length others = omega (arith, c.in-Some.ensures.some.0, ap length c.deref.ensures.value) in
    set-replaces c.args.self.now.core.subparsers c.merge.new.self.core.subparsers c.args.number others c.in-Some.place c.index.result.now c.in_ok-others.field-0 c.requires.numbers within
    c.index.ensures c.in_ok-others.ensures.replaces

pub returns-clause-alike : goal.returns-clause-alike
returns-clause-alike g c =
    let others = c.args.others.now.items in
    let within : c.in-Some.place < length others = omega (arith, c.in-Some.ensures.some.0, ap length c.deref.ensures.value) in
    set-alike c.args.self.now.core.subparsers c.merge.new.self.core.subparsers c.args.number others c.in-Some.place c.index.result.now c.in_ok-others.field-0 c.requires.numbers within
    c.index.ensures c.in_ok-others.ensures.replaces c.in_ok-others.ensures.merged

pub returns-clause-apart : goal.returns-clause-apart
returns-clause-apart g c =
    let others = c.args.others.now.items in
    let within : c.in-Some.place < length others = omega (arith, c.in-Some.ensures.some.0, ap length c.deref.ensures.value) in
    set-apart c.args.self.now.core.subparsers c.merge.new.self.core.subparsers c.args.number others c.in-Some.place c.index.result.now c.in_ok-others.field-0 c.requires.numbers within
    c.index.ensures c.in_ok-others.ensures.replaces c.in_ok-others.ensures.merged

pub returns-clause-waiting : goal.returns-clause-waiting
returns-clause-waiting g c = λ names files input first place run waits.
    let before = c.args.self.now in
    let old = g.C.Conditions.sets c.args.conds.now in
    let others = c.args.others.now.items in
    let other = c.index.result.now in
    let within : c.in-Some.place < length others = omega (arith, c.in-Some.ensures.some.0, ap length c.deref.ensures.value) in
    let two = two-each (IsWaiting old input place) before.core.subparsers c.args.number others c.in-Some.place other within c.index.ensures waits in
    set-waiting old (g.C.Conditions.sets c.merge.new.conds) c.args.trees.now c.merge.new.trees place before c.merge.new.self names files input first c.args.number others c.in-Some.place other
    c.in_ok-others.field-0 c.requires.numbers within c.index.ensures c.in_ok-others.ensures.replaces (c.in_ok-others.ensures.goes_on place) c.requires.own run waits
    (c.in_ok-others.ensures.waiting names files input first place run two)
