use Rattle.std.proofs.Common.{◌≡◌, [], ◌∷◌, ◌++◌, length, refl, sym, ap, ◌∙◌, subst, arith}
use Rattle.std.specs.Vec.Iter.{into_iter_items}
use Rattle.sc_fork.specs.Bundles.{AreDone, events_of}
use Rattle.sc_fork.specs.declared.event.Kind.TheVariants as kinds
use Rattle.sc_grammar.specs.Production.{production_of}
use Rattle.sc_parse.proofs.DoneLemmas.{done-replaces, reducing-enabled}
use Rattle.sc_parse.proofs.NumberLemmas.{fewer-numbers, times-append}
use Rattle.sc_parse.proofs.WeightLemmas.{at-number, group-each, HasReduced, none-left, reduced-first, reduced-next, reduction-number, rule-left}
use Rattle.sc_parse.specs.Numbers.{Each, times}
use Rattle.sc_parse.specs.Weights.{IsRanked, Moves, numbers_of}
use Rattle.sc_parse.proofs.reductions.reduce_group.Goals as goal

pub production-rank-requires-clause-first : goal.production-rank-requires-clause-first
production-rank-requires-clause-first g c =
    (reduction-number (g.C.Conditions.sets c.args.conds.now) (length c.args.trees.now) c.args.steps.now c.args.group.now c.args.rule c.requires.own c.requires.reduces.some c.requires.reduces.each).0

pub production-rank-requires-clause-last : goal.production-rank-requires-clause-last
production-rank-requires-clause-last g c =
    (reduction-number (g.C.Conditions.sets c.args.conds.now) (length c.args.trees.now) c.args.steps.now c.args.group.now c.args.rule c.requires.own c.requires.reduces.some c.requires.reduces.each).1

pub apply_all-requires-clause-enabled : goal.apply_all-requires-clause-enabled
apply_all-requires-clause-enabled g c =
    let rows = c.args.steps.now.core.subparsers in
    reducing-enabled c.args.steps.now.core.source rows c.args.rule c.args.group.now
    (fewer-numbers rows (c.args.group.now ++ numbers_of c.args.waiting.now.entries) c.args.group.now c.requires.numbers
    (λ n. omega (arith, times-append n c.args.group.now (numbers_of c.args.waiting.now.entries))))
    c.requires.reduces.each

pub loop-made-init : goal.loop-made-init
loop-made-init g c =
    let old = g.C.Conditions.sets c.args.conds.now in
    let new = g.C.Conditions.sets c.apply_all.new.conds in
    let s = c.args.steps.now in
    let t = c.apply_all.new.self in
    let group = c.args.group.now in
    let made = c.in_ok-made-items.made-items in
    let given = c.into_iter-made-iterator.ensures.into_iter_gives in
    let left : into_iter_items c.into_iter-made-iterator.result ≡ made.items = given.0 in
    let numbers = fewer-numbers s.core.subparsers (group ++ numbers_of c.args.waiting.now.entries) group c.requires.numbers
    (λ n. omega (arith, times-append n group (numbers_of c.args.waiting.now.entries))) in
    let done = subst (λ ns. AreDone old c.args.trees.now s.core (events_of kinds.Reduce group) new c.apply_all.new.trees t.core ns) (sym left) c.in_ok-made-items.ensures.done in
    record {
      reduced =
          reduced-first old new c.args.trees.now c.apply_all.new.trees s t group c.args.rule (production_of c.production-rank.result) c.args.waiting.now.entries
          (into_iter_items c.into_iter-made-iterator.result) c.requires.own c.requires.branches c.requires.numbers c.requires.at.0 c.requires.at.1 c.requires.weighed c.production-rank.ensures
          (done-replaces kinds.Reduce s.core old c.args.trees.now (events_of kinds.Reduce group) new c.apply_all.new.trees t.core (into_iter_items c.into_iter-made-iterator.result) done group refl numbers)
          (group-each old c.args.trees.now s.core new c.apply_all.new.trees t.core (into_iter_items c.into_iter-made-iterator.result) group c.args.rule done numbers c.requires.reduces.each)
          (λ place before. c.in_ok-made-items.ensures.goes_on place numbers before);
      count = given.1 ∙ made.ok.0 ∙ ap length (sym left);
    }

pub wait-requires-clause-own : goal.wait-requires-clause-own
wait-requires-clause-own g c = c.loop-made.invariant.reduced.own

pub wait-requires-clause-branches : goal.wait-requires-clause-branches
wait-requires-clause-branches g c = c.loop-made.invariant.reduced.branches

pub wait-requires-clause-numbers : goal.wait-requires-clause-numbers
wait-requires-clause-numbers g c =
    let at = c.loop-made in
    let steps : into_iter_items at.made-iterator ≡ c.in-Some.made ∷ into_iter_items c.next.new.self = c.in-Some.ensures.steps.0 in
    fewer-numbers at.steps.core.subparsers (into_iter_items at.made-iterator ++ numbers_of at.waiting.entries) (c.in-Some.made ∷ numbers_of at.waiting.entries) at.invariant.reduced.numbers
    (λ n.
    let first = ap (λ ns. times n (ns ++ numbers_of at.waiting.entries)) steps in
    let e = times-append n (c.in-Some.made ∷ into_iter_items c.next.new.self) (numbers_of at.waiting.entries) in
    omega (arith, first, e))

pub wait-requires-clause-weighed : goal.wait-requires-clause-weighed
wait-requires-clause-weighed g c = c.loop-made.invariant.reduced.weighed

pub wait-requires-clause-ranked : goal.wait-requires-clause-ranked
wait-requires-clause-ranked g c = λ s has.
    let at = c.loop-made in
    let R = IsRanked at.steps.core.source c.production-rank.result.left.0 in
    let steps : into_iter_items at.made-iterator ≡ c.in-Some.made ∷ into_iter_items c.next.new.self = c.in-Some.ensures.steps.0 in
    at-number R at.steps.core.subparsers c.in-Some.made (into_iter_items c.next.new.self) s has
    (subst (λ ns. Each R at.steps.core.subparsers ns) steps at.invariant.reduced.ranked)

pub wait-requires-clause-low : goal.wait-requires-clause-low
wait-requires-clause-low g c = let h = rule-left c.args.rule (production_of c.production-rank.result) c.production-rank.ensures in omega (arith, h)

pub loop-made-preserved : goal.loop-made-preserved
loop-made-preserved g c =
    let at = c.loop-made in
    let steps : into_iter_items at.made-iterator ≡ c.in-Some.made ∷ into_iter_items c.next.new.self = c.in-Some.ensures.steps.0 in
    let old = g.C.Conditions.sets c.args.conds.now in
    let now = g.C.Conditions.sets at.conds in
    record {
      reduced =
          reduced-next old now (g.C.Conditions.sets c.wait.new.conds) c.args.trees.now at.trees c.wait.new.trees c.args.steps.now at.steps c.wait.new.steps c.args.group.now c.args.waiting.now.entries
          c.production-rank.result.left.0 c.in-Some.made (into_iter_items c.next.new.self) at.waiting.entries c.wait.new.waiting.entries
          (subst (λ ns. HasReduced old now c.args.trees.now at.trees c.args.steps.now at.steps c.args.group.now c.args.waiting.now.entries c.production-rank.result.left.0 ns at.waiting.entries) steps at.invariant.reduced)
          c.in_ok-wait.ensures.goes_on c.in_ok-wait.ensures.replaces c.in_ok-wait.ensures.weighed c.in_ok-wait.ensures.at c.in_ok-wait.ensures.below;
      count = let was = at.invariant.count in let gone = c.in-Some.ensures.steps.1 in let short = ap length steps in omega (arith, was, gone, short);
    }

-- none is left
done : (g : _) (c : goal.After-drop-made-iterator-2 g) → into_iter_items c.loop-made.made-iterator ≡ []
done g c = none-left (into_iter_items c.loop-made.made-iterator) (sym c.loop-made.invariant.count ∙ c.in-None.ensures.steps.0)

pub returns-clause-moves : goal.returns-clause-moves
returns-clause-moves g c = λ j each.
    subst (λ ns. Moves (g.C.Conditions.sets c.args.conds.now) (g.C.Conditions.sets c.loop-made.conds) c.args.trees.now c.loop-made.trees j c.args.steps.now c.loop-made.steps
    (c.args.group.now ++ numbers_of c.args.waiting.now.entries) (ns ++ numbers_of c.loop-made.waiting.entries))
    (done g c) (c.loop-made.invariant.reduced.moves j each)

pub returns-clause-weighed : goal.returns-clause-weighed
returns-clause-weighed g c = c.loop-made.invariant.reduced.weighed

pub returns-clause-below : goal.returns-clause-below
returns-clause-below g c = λ w heavy low. (c.loop-made.invariant.reduced.below w heavy low).0

pub returns-clause-keeps : goal.returns-clause-keeps
returns-clause-keeps g c = c.loop-made.invariant.reduced.keeps

pub returns-clause-grows : goal.returns-clause-grows
returns-clause-grows g c = c.loop-made.invariant.reduced.grows

pub returns-clause-owns : goal.returns-clause-owns
returns-clause-owns g c = c.loop-made.invariant.reduced.branches
