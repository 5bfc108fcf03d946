use Rattle.std.proofs.Common.{◌-◌, ◌++◌, drop, take, get_or, length, sym, subst, arith}
use Rattle.sc_base.proofs.Growth.{Extends-trans}
use Rattle.sc_model.proofs.SetLemmas.{Keeps-trans}
use Rattle.sc_parse.proofs.NumberLemmas.{each-of, times-append}
use Rattle.sc_parse.proofs.WeightLemmas.{first-left, first-one, group-reducing, HasTaken, next-at, next-numbers, none-left, shorter, taken-first, taken-ready, tail-whole, taken-reduced, taken-split}
use Rattle.sc_parse.specs.Numbers.{IsAt}
use Rattle.sc_parse.specs.Weights.{ActsBy, Moves, numbers_of}
use Rattle.sc_parse.proofs.reductions.reduce_each.Goals as goal

pub loop-left-init : goal.loop-left-init
loop-left-init g c =
    taken-first (g.C.Conditions.sets c.args.conds.now) c.args.trees.now c.args.steps.now c.args.ready.now.items c.args.heaviest.items c.as_slice-left.result.now c.args.waiting.now.entries
    c.as_slice-left.ensures.value c.requires.own c.requires.branches c.requires.numbers c.requires.weighed

pub reducing-requires-clause-first : goal.reducing-requires-clause-first
reducing-requires-clause-first g c =
    first-one (ActsBy c.loop-left.steps.core.source c.in-Some.rule c.loop-left.steps.core.subparsers) c.loop-left.left.now c.loop-left-test.true (λ s at looks. c.in-Some.ensures.some s at looks)

pub reduce_group-requires-clause-own : goal.reduce_group-requires-clause-own
reduce_group-requires-clause-own g c = c.loop-left.invariant.own

pub reduce_group-requires-clause-branches : goal.reduce_group-requires-clause-branches
reduce_group-requires-clause-branches g c = c.loop-left.invariant.branches

pub reduce_group-requires-clause-numbers : goal.reduce_group-requires-clause-numbers
reduce_group-requires-clause-numbers g c =
    next-numbers (g.C.Conditions.sets c.args.conds.now) (g.C.Conditions.sets c.loop-left.conds) c.args.trees.now c.loop-left.trees c.args.steps.now c.loop-left.steps c.args.ready.now.items c.args.heaviest.items
    c.args.waiting.now.entries c.loop-left.ready.items c.split_at.result.0.now c.split_at.result.1.now c.loop-left.waiting.entries
    (taken-split c.reducing.result c.split_at.result.0.now c.split_at.result.1.now c.split_at.ensures.front c.split_at.ensures.back c.loop-left.invariant)

pub reduce_group-requires-clause-at : goal.reduce_group-requires-clause-at
reduce_group-requires-clause-at g c = (
  c.requires.at.0,
  next-at (g.C.Conditions.sets c.args.conds.now) (g.C.Conditions.sets c.loop-left.conds) c.args.trees.now c.loop-left.trees c.args.steps.now c.loop-left.steps c.args.ready.now.items c.args.heaviest.items
      c.args.waiting.now.entries c.loop-left.ready.items c.split_at.result.0.now c.split_at.result.1.now c.loop-left.waiting.entries
      (taken-split c.reducing.result c.split_at.result.0.now c.split_at.result.1.now c.split_at.ensures.front c.split_at.ensures.back c.loop-left.invariant)
      c.requires.at.0 c.requires.at.1,
)

pub reduce_group-requires-clause-weighed : goal.reduce_group-requires-clause-weighed
reduce_group-requires-clause-weighed g c = c.loop-left.invariant.weighed

pub reduce_group-requires-clause-reduces : goal.reduce_group-requires-clause-reduces
reduce_group-requires-clause-reduces g c =
    let rows = c.loop-left.steps.core.subparsers in
    let group = c.split_at.result.0.now in
    let waiting = numbers_of c.loop-left.waiting.entries in
    let at = next-at (g.C.Conditions.sets c.args.conds.now) (g.C.Conditions.sets c.loop-left.conds) c.args.trees.now c.loop-left.trees c.args.steps.now c.loop-left.steps c.args.ready.now.items c.args.heaviest.items
    c.args.waiting.now.entries c.loop-left.ready.items c.split_at.result.0.now c.split_at.result.1.now c.loop-left.waiting.entries
    (taken-split c.reducing.result c.split_at.result.0.now c.split_at.result.1.now c.split_at.ensures.front c.split_at.ensures.back c.loop-left.invariant)
    c.requires.at.0 c.requires.at.1 in
    group-reducing c.loop-left.steps.core.source rows c.loop-left.left.now group c.reducing.result c.requires.at.0 c.in-Some.rule c.reducing.ensures.some c.reducing.ensures.within
    c.reducing.ensures.by c.split_at.ensures.front
    (each-of (IsAt c.requires.at.0) rows (group ++ waiting) group at (λ k none. let e = times-append k group waiting in omega (arith, e, none)))

pub returns-in_err-reduce_group-in-Some-clause-keeps : goal.returns-in_err-reduce_group-in-Some-clause-keeps
returns-in_err-reduce_group-in-Some-clause-keeps g c = Keeps-trans c.loop-left.invariant.keeps c.reduce_group.ensures.keeps

pub returns-in_err-reduce_group-in-Some-clause-grows : goal.returns-in_err-reduce_group-in-Some-clause-grows
returns-in_err-reduce_group-in-Some-clause-grows g c = Extends-trans c.loop-left.invariant.grows c.reduce_group.ensures.grows

pub loop-left-preserved-in-Some : goal.loop-left-preserved-in-Some
loop-left-preserved-in-Some g c =
    let done = c.in_ok-reduce_group-in-Some.ensures in
    taken-reduced (g.C.Conditions.sets c.args.conds.now) (g.C.Conditions.sets c.loop-left.conds) c.args.trees.now c.loop-left.trees c.args.steps.now c.loop-left.steps c.args.ready.now.items c.args.heaviest.items
    c.args.waiting.now.entries c.loop-left.ready.items c.split_at.result.0.now c.split_at.result.1.now c.loop-left.waiting.entries (taken-split c.reducing.result c.split_at.result.0.now c.split_at.result.1.now c.split_at.ensures.front c.split_at.ensures.back c.loop-left.invariant)
    (g.C.Conditions.sets c.reduce_group.new.conds) c.reduce_group.new.trees c.reduce_group.new.steps c.reduce_group.new.waiting.entries c.requires.at.0 c.requires.at.1 done.moves done.weighed
    done.below

pub loop-left-smaller-in-Some : goal.loop-left-smaller-in-Some
loop-left-smaller-in-Some g c = shorter c.reducing.result c.loop-left.left.now c.split_at.result.1.now c.reducing.ensures.some c.reducing.ensures.within c.split_at.ensures.back

pub loop-left-preserved : goal.loop-left-preserved
loop-left-preserved g c =
    let number = get_or c.loop-left.left.now 0 0 in
    let rest = take (length c.loop-left.left.now - 1) (drop 1 c.loop-left.left.now) in
    let was = subst (λ ns. HasTaken (g.C.Conditions.sets c.args.conds.now) (g.C.Conditions.sets c.loop-left.conds) c.args.trees.now c.loop-left.trees c.args.steps.now c.loop-left.steps
    c.args.ready.now.items c.args.heaviest.items c.args.waiting.now.entries c.loop-left.ready.items ns c.loop-left.waiting.entries)
    (first-left c.loop-left.left.now rest c.loop-left-test.true (tail-whole c.loop-left.left.now)) c.loop-left.invariant in
    subst (λ ns. HasTaken (g.C.Conditions.sets c.args.conds.now) (g.C.Conditions.sets c.loop-left.conds) c.args.trees.now c.loop-left.trees c.args.steps.now c.loop-left.steps c.args.ready.now.items
    c.args.heaviest.items c.args.waiting.now.entries ns rest c.loop-left.waiting.entries) (sym c.in_ok-push-in-None.ensures.items)
    (taken-ready (g.C.Conditions.sets c.args.conds.now) (g.C.Conditions.sets c.loop-left.conds) c.args.trees.now c.loop-left.trees c.args.steps.now c.loop-left.steps c.args.ready.now.items c.args.heaviest.items
    c.args.waiting.now.entries c.loop-left.ready.items number rest c.loop-left.waiting.entries was
    (λ j x has phase p acts. c.reduction.ensures.none c.in-None.is x j (record { has = has; phase = phase }) p acts))

pub loop-left-smaller : goal.loop-left-smaller
loop-left-smaller g c =
    shorter 1 c.loop-left.left.now (take (length c.loop-left.left.now - 1) (drop 1 c.loop-left.left.now)) (omega arith) (omega (arith, c.loop-left-test.true)) (tail-whole c.loop-left.left.now)

pub returns-in_err-push-in-None-clause-keeps : goal.returns-in_err-push-in-None-clause-keeps
returns-in_err-push-in-None-clause-keeps g c = c.loop-left.invariant.keeps

pub returns-in_err-push-in-None-clause-grows : goal.returns-in_err-push-in-None-clause-grows
returns-in_err-push-in-None-clause-grows g c = c.loop-left.invariant.grows

pub returns-in_err-push-in-None-clause-owns : goal.returns-in_err-push-in-None-clause-owns
returns-in_err-push-in-None-clause-owns g c = c.loop-left.invariant.branches

pub returns-clause-moves : goal.returns-clause-moves
returns-clause-moves g c = λ j each.
    subst (λ ns. Moves (g.C.Conditions.sets c.args.conds.now) (g.C.Conditions.sets c.loop-left.conds) c.args.trees.now c.loop-left.trees j c.args.steps.now c.loop-left.steps
    (c.args.ready.now.items ++ (c.args.heaviest.items ++ numbers_of c.args.waiting.now.entries)) (c.loop-left.ready.items ++ (ns ++ numbers_of c.loop-left.waiting.entries)))
    (none-left c.loop-left.left.now (omega (arith, c.loop-left-test.false))) (c.loop-left.invariant.moves j each)

pub returns-clause-ready : goal.returns-clause-ready
returns-clause-ready g c = c.loop-left.invariant.are_ready

pub returns-clause-weighed : goal.returns-clause-weighed
returns-clause-weighed g c = c.loop-left.invariant.weighed

pub returns-clause-below : goal.returns-clause-below
returns-clause-below g c = λ w heavy low. (c.loop-left.invariant.below w heavy low).0

pub returns-clause-keeps : goal.returns-clause-keeps
returns-clause-keeps g c = c.loop-left.invariant.keeps

pub returns-clause-grows : goal.returns-clause-grows
returns-clause-grows g c = c.loop-left.invariant.grows

pub returns-clause-owns : goal.returns-clause-owns
returns-clause-owns g c = c.loop-left.invariant.branches
