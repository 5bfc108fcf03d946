use Rattle.std.proofs.Common.{◌≡◌, ℕ, ◌+◌, [], ◌∷◌, ◌++◌, length, IfOk, sym, ap, ◌∙◌, subst, arith}
use Rattle.std.specs.Vec.Iter.{into_iter_items}
use Rattle.std.proofs.lemmas.List.{append-nil}
use Rattle.sc_base.proofs.Growth.{Extends-trans}
use Rattle.sc_model.proofs.SetLemmas.{Keeps-trans}
use Rattle.sc_parse.proofs.NumberLemmas.{fewer-numbers, times-append}
use Rattle.sc_parse.proofs.RunLemmas.{row-owned}
use Rattle.sc_parse.proofs.WeightLemmas.{first-ranked, gone-first, gone-lower, gone-reduced, gone-waiting, HasGone, none-left, none-popped, one-item, popped-at, popped-numbers, popped-weighed}
use Rattle.sc_parse.specs.Numbers.{Each, IsAt, IsReady, Replaces, times}
use Rattle.sc_parse.specs.Runs.{GoesOn}
use Rattle.sc_parse.specs.Weights.{numbers_of}
use Rattle.sc_parse.proofs.reductions.reduced.Goals as goal

-- ---- one subparser

pub reduced_alone-requires-clause-at : goal.reduced_alone-requires-clause-at
reduced_alone-requires-clause-at g c =
    let items = c.as_slice.result.now in (
      c.requires.at.0,
      subst (λ ns. Each (IsAt c.requires.at.0) c.args.steps.now.core.subparsers ns) (sym c.as_slice.ensures.value ∙ one-item items c.in-len1.len_at_least c.in-len1.len_below) c.requires.at.1,
    )

pub returns-in-len1-clause-goes_on : goal.returns-in-len1-clause-goes_on
returns-in-len1-clause-goes_on g c =
    let items = c.as_slice.result.now in
    subst (λ ns. IfOk c.reduced_alone.result (λ ready. (j : ℕ) → Each (IsAt j) c.args.steps.now.core.subparsers ns
    → GoesOn (g.C.Conditions.sets c.args.conds.now) (g.C.Conditions.sets c.reduced_alone.new.conds) c.args.trees.now c.reduced_alone.new.trees (j + 1) c.args.steps.now c.reduced_alone.new.steps))
    (sym (one-item items c.in-len1.len_at_least c.in-len1.len_below) ∙ c.as_slice.ensures.value) c.reduced_alone.ensures.goes_on

pub returns-in-len1-clause-ready : goal.returns-in-len1-clause-ready
returns-in-len1-clause-ready g c =
    let items = c.as_slice.result.now in
    subst (λ ns. IfOk c.reduced_alone.result (λ ready. (j : ℕ) → Each (IsAt j) c.args.steps.now.core.subparsers ns
    → Each (IsReady c.reduced_alone.new.steps.core.source j) c.reduced_alone.new.steps.core.subparsers ready.items))
    (sym (one-item items c.in-len1.len_at_least c.in-len1.len_below) ∙ c.as_slice.ensures.value) c.reduced_alone.ensures.ready

-- ---- each waits

pub loop-number-init : goal.loop-number-init
loop-number-init g c =
    let given = c.into_iter-number-iterator.ensures.into_iter_gives in
    let left : into_iter_items c.into_iter-number-iterator.result ≡ c.args.row.items = given.0 in
    record {
      gone =
          gone-first (g.C.Conditions.sets c.args.conds.now) c.args.trees.now c.args.steps.now c.args.row.items (into_iter_items c.into_iter-number-iterator.result) c.new-waiting.result.entries left
          c.new-waiting.ensures.empty c.requires.own c.requires.branches c.requires.numbers;
      count = given.1 ∙ c.args.row.ok.0 ∙ ap length (sym left);
    }

pub wait-requires-clause-own : goal.wait-requires-clause-own
wait-requires-clause-own g c = c.loop-number.invariant.gone.own

pub wait-requires-clause-branches : goal.wait-requires-clause-branches
wait-requires-clause-branches g c = c.loop-number.invariant.gone.branches

pub wait-requires-clause-numbers : goal.wait-requires-clause-numbers
wait-requires-clause-numbers g c =
    let at = c.loop-number in
    let steps : into_iter_items at.number-iterator ≡ c.in-Some.number ∷ into_iter_items c.next.new.self = c.in-Some.ensures.steps.0 in
    fewer-numbers at.steps.core.subparsers (into_iter_items at.number-iterator ++ numbers_of at.waiting.entries) (c.in-Some.number ∷ numbers_of at.waiting.entries) at.invariant.gone.numbers
    (λ n.
    let first = ap (λ ns. times n (ns ++ numbers_of at.waiting.entries)) steps in
    let e = times-append n (c.in-Some.number ∷ into_iter_items c.next.new.self) (numbers_of at.waiting.entries) in
    omega (arith, first, e))

pub wait-requires-clause-weighed : goal.wait-requires-clause-weighed
wait-requires-clause-weighed g c = c.loop-number.invariant.gone.weighed

pub wait-requires-clause-ranked : goal.wait-requires-clause-ranked
wait-requires-clause-ranked g c = λ s has.
    let at = c.loop-number in
    first-ranked (g.C.Conditions.sets at.conds) (length at.trees) at.steps.core.source s (row-owned (g.C.Conditions.sets at.conds) (length at.trees) at.steps c.in-Some.number s at.invariant.gone.own has)

pub loop-number-preserved : goal.loop-number-preserved
loop-number-preserved g c =
    let at = c.loop-number in
    let steps : into_iter_items at.number-iterator ≡ c.in-Some.number ∷ into_iter_items c.next.new.self = c.in-Some.ensures.steps.0 in
    let old = g.C.Conditions.sets c.args.conds.now in
    let now = g.C.Conditions.sets at.conds in
    record {
      gone =
          gone-waiting old now (g.C.Conditions.sets c.wait.new.conds) c.args.trees.now at.trees c.wait.new.trees c.args.steps.now at.steps c.wait.new.steps c.args.row.items c.in-Some.number
          (into_iter_items c.next.new.self) at.waiting.entries c.wait.new.waiting.entries
          (subst (λ ns. HasGone old now c.args.trees.now at.trees c.args.steps.now at.steps c.args.row.items [] ns at.waiting.entries) steps at.invariant.gone)
          c.in_ok-wait.ensures.goes_on c.in_ok-wait.ensures.replaces c.in_ok-wait.ensures.weighed c.in_ok-wait.ensures.at;
      count = let was = at.invariant.count in let gone = c.in-Some.ensures.steps.1 in let short = ap length steps in omega (arith, was, gone, short);
    }

pub returns-in_err-wait-clause-keeps : goal.returns-in_err-wait-clause-keeps
returns-in_err-wait-clause-keeps g c = Keeps-trans c.loop-number.invariant.gone.keeps c.wait.ensures.keeps

pub returns-in_err-wait-clause-grows : goal.returns-in_err-wait-clause-grows
returns-in_err-wait-clause-grows g c = Extends-trans c.loop-number.invariant.gone.grows c.wait.ensures.grows

-- ---- the heaviest ones are reduced

pub loop-heaviest-init : goal.loop-heaviest-init
loop-heaviest-init g c =
    let at = c.loop-number in
    let done : into_iter_items at.number-iterator ≡ [] = none-left (into_iter_items at.number-iterator) (sym at.invariant.count ∙ c.in-None.ensures.steps.0) in
    let old = g.C.Conditions.sets c.args.conds.now in
    let now = g.C.Conditions.sets at.conds in
    subst (λ ns. HasGone old now c.args.trees.now at.trees c.args.steps.now at.steps c.args.row.items ns [] at.waiting.entries) (sym c.new-ready.ensures.items)
    (subst (λ ns. HasGone old now c.args.trees.now at.trees c.args.steps.now at.steps c.args.row.items [] ns at.waiting.entries) done at.invariant.gone)

pub reduce_each-requires-clause-own : goal.reduce_each-requires-clause-own
reduce_each-requires-clause-own g c = c.loop-heaviest.invariant.own

pub reduce_each-requires-clause-branches : goal.reduce_each-requires-clause-branches
reduce_each-requires-clause-branches g c = c.loop-heaviest.invariant.branches

pub reduce_each-requires-clause-numbers : goal.reduce_each-requires-clause-numbers
reduce_each-requires-clause-numbers g c =
    popped-numbers (g.C.Conditions.sets c.args.conds.now) (g.C.Conditions.sets c.loop-heaviest.conds) c.args.trees.now c.loop-heaviest.trees c.args.steps.now c.loop-heaviest.steps c.args.row.items
    c.loop-heaviest.ready.items c.loop-heaviest.waiting.entries c.pop_last.new.self.entries c.in-Some-pop_last.field-0-0 c.in-Some-pop_last.heaviest c.loop-heaviest.invariant
    c.in-Some-pop_last.ensures.removal

pub reduce_each-requires-clause-at : goal.reduce_each-requires-clause-at
reduce_each-requires-clause-at g c = (
  c.requires.at.0,
  popped-at (g.C.Conditions.sets c.args.conds.now) (g.C.Conditions.sets c.loop-heaviest.conds) c.args.trees.now c.loop-heaviest.trees c.args.steps.now c.loop-heaviest.steps c.args.row.items
      c.loop-heaviest.ready.items c.loop-heaviest.waiting.entries c.pop_last.new.self.entries c.in-Some-pop_last.field-0-0 c.in-Some-pop_last.heaviest c.loop-heaviest.invariant
      c.in-Some-pop_last.ensures.removal c.requires.at.0 c.requires.at.1,
)

pub reduce_each-requires-clause-weighed : goal.reduce_each-requires-clause-weighed
reduce_each-requires-clause-weighed g c =
    popped-weighed (g.C.Conditions.sets c.args.conds.now) (g.C.Conditions.sets c.loop-heaviest.conds) c.args.trees.now c.loop-heaviest.trees c.args.steps.now c.loop-heaviest.steps c.args.row.items
    c.loop-heaviest.ready.items c.loop-heaviest.waiting.entries c.pop_last.new.self.entries c.in-Some-pop_last.field-0-0 c.in-Some-pop_last.heaviest c.loop-heaviest.invariant
    c.in-Some-pop_last.ensures.removal

pub loop-heaviest-smaller : goal.loop-heaviest-smaller
loop-heaviest-smaller g c =
    gone-lower (g.C.Conditions.sets c.args.conds.now) (g.C.Conditions.sets c.loop-heaviest.conds) c.args.trees.now c.loop-heaviest.trees c.args.steps.now c.loop-heaviest.steps c.args.row.items
    c.loop-heaviest.ready.items c.loop-heaviest.waiting.entries c.pop_last.new.self.entries c.in-Some-pop_last.field-0-0 c.in-Some-pop_last.heaviest c.loop-heaviest.invariant
    c.in-Some-pop_last.ensures.removal c.reduce_each.new.waiting.entries c.in-Some-pop_last.ensures.all_below c.in_ok-reduce_each.ensures.below

pub loop-heaviest-preserved : goal.loop-heaviest-preserved
loop-heaviest-preserved g c =
    gone-reduced (g.C.Conditions.sets c.args.conds.now) (g.C.Conditions.sets c.loop-heaviest.conds) c.args.trees.now c.loop-heaviest.trees c.args.steps.now c.loop-heaviest.steps c.args.row.items
    c.loop-heaviest.ready.items c.loop-heaviest.waiting.entries c.pop_last.new.self.entries c.in-Some-pop_last.field-0-0 c.in-Some-pop_last.heaviest c.loop-heaviest.invariant
    c.in-Some-pop_last.ensures.removal (g.C.Conditions.sets c.reduce_each.new.conds) c.reduce_each.new.trees c.reduce_each.new.steps c.reduce_each.new.ready.items c.reduce_each.new.waiting.entries
    c.requires.at.0 c.requires.at.1 c.in_ok-reduce_each.ensures.moves c.in_ok-reduce_each.ensures.ready c.in_ok-reduce_each.ensures.weighed

pub returns-in_err-reduce_each-clause-keeps : goal.returns-in_err-reduce_each-clause-keeps
returns-in_err-reduce_each-clause-keeps g c = Keeps-trans c.loop-heaviest.invariant.keeps c.reduce_each.ensures.keeps

pub returns-in_err-reduce_each-clause-grows : goal.returns-in_err-reduce_each-clause-grows
returns-in_err-reduce_each-clause-grows g c = Extends-trans c.loop-heaviest.invariant.grows c.reduce_each.ensures.grows

-- ---- none waits

pub returns-clause-goes_on : goal.returns-clause-goes_on
returns-clause-goes_on g c = λ j each. (c.loop-heaviest.invariant.moves j each).goes_on

pub returns-clause-replaces : goal.returns-clause-replaces
returns-clause-replaces g c =
    let at = c.loop-heaviest in
    let none : at.waiting.entries ≡ [] = none-popped at.waiting.entries c.pop_last.result c.in_default-pop_last.is c.pop_last.ensures.variant.1 in
    subst (λ ns. Replaces c.args.steps.now.core.subparsers at.steps.core.subparsers c.args.row.items ns) (ap (λ es. at.ready.items ++ numbers_of es) none ∙ append-nil at.ready.items)
    (at.invariant.moves c.requires.at.0 c.requires.at.1).replaces

pub returns-clause-ready : goal.returns-clause-ready
returns-clause-ready g c = λ j each. c.loop-heaviest.invariant.are_ready j each

pub returns-clause-keeps : goal.returns-clause-keeps
returns-clause-keeps g c = c.loop-heaviest.invariant.keeps

pub returns-clause-grows : goal.returns-clause-grows
returns-clause-grows g c = c.loop-heaviest.invariant.grows

pub returns-clause-owns : goal.returns-clause-owns
returns-clause-owns g c = c.loop-heaviest.invariant.branches
