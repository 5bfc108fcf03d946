use Rattle.std.proofs.Common.{◌+◌, ap, arith, length, subst}
use Rattle.std.specs.Vec.Iter.{into_iter_items}
use Rattle.sc_base.proofs.Growth.{Extends-trans}
use Rattle.sc_model.proofs.SetLemmas.{Keeps-trans}
use Rattle.sc_parse.specs.Parses.{StopsFor}
use Rattle.std.proofs.lemmas.Result.{err_from_is_err_and}
use Rattle.sc_parse.proofs.ShiftLemmas.{no-items}
use Rattle.sc_parse.proofs.TurnLemmas.{next-between, next-numbers, next-waits, turn-begins, turn-ends, turn-filed, turn-more, turn-next, turn-place}
use Rattle.sc_parse.proofs.parsing.take_element.Goals as goal

pub shifted-requires-clause-at : goal.shifted-requires-clause-at
shifted-requires-clause-at g c = (c.args.at, c.take-row.ensures.taken c.args.steps.now.core.subparsers c.requires.filed.filed)

pub loop-number-init : goal.loop-number-init
loop-number-init g c =
    let gives = c.into_iter-number-iterator.ensures.into_iter_gives in
    let at = c.take-row.ensures.taken c.args.steps.now.core.subparsers c.requires.filed.filed in
    let shifted = c.in_ok-number-items.ensures.shifts c.args.at at in
    record {
      put =
          rw gives.0
          (turn-begins _ _ _ _ c.args.steps.now _ c.args.rows.now c.take-row.new.self c.args.at _ _ c.requires.own c.requires.filed c.take-row.ensures.numbers
          (c.take-row.ensures.filed c.args.steps.now.core.subparsers c.requires.filed.filed) (c.take-row.ensures.done c.requires.filed.done) c.take-row.ensures.long c.take-row.ensures.branches
          shifted.goes_on shifted.replaces shifted.behind);
      count = omega (arith, gives.1, ap length gives.0, c.in_ok-number-items.number-items.ok.0);
    }

pub part-requires-clause-own : goal.part-requires-clause-own
part-requires-clause-own g c = c.loop-number.invariant.put.goes.own

pub part-requires-clause-branches : goal.part-requires-clause-branches
part-requires-clause-branches g c = c.loop-number.invariant.put.goes.branches

pub part-requires-clause-numbers : goal.part-requires-clause-numbers
part-requires-clause-numbers g c = next-numbers (turn-next c.in-Some.ensures.steps.0 c.loop-number.invariant.put)

pub part-requires-clause-between : goal.part-requires-clause-between
part-requires-clause-between g c = (c.args.at + 1, next-between (turn-next c.in-Some.ensures.steps.0 c.loop-number.invariant.put))

pub part-requires-clause-filed : goal.part-requires-clause-filed
part-requires-clause-filed g c = c.loop-number.invariant.put.filed

pub part-requires-clause-long : goal.part-requires-clause-long
part-requires-clause-long g c = c.loop-number.invariant.put.long

pub loop-number-preserved : goal.loop-number-preserved
loop-number-preserved g c =
    let was = turn-next c.in-Some.ensures.steps.0 c.loop-number.invariant.put in
    let between = next-between was in
    let ensures = c.in_ok-part.ensures in
    record {
      put =
          turn-more was _ _ _ _ (ensures.goes_on (c.args.at + 1)) ensures.replaces ensures.filed (ensures.done (c.args.at + 1) between c.loop-number.invariant.put.done) ensures.long ensures.limit
          (λ names files input first run waits. ensures.waiting names files input first (c.args.at + 1) run between waits);
      count = omega (arith, ap length c.in-Some.ensures.steps.0, c.in-Some.ensures.steps.1, c.loop-number.invariant.count);
    }

pub returns-in_err-part-clause-stops : goal.returns-in_err-part-clause-stops
returns-in_err-part-clause-stops g c =
    let was = turn-next c.in-Some.ensures.steps.0 c.loop-number.invariant.put in
    let p = err_from_is_err_and c.from_residual-in_err-part.result c.from_residual-in_err-part.ensures.1 in
    rw (p.1, p.2)
    (λ names files input first place.
    subst (λ n. StopsFor input n c.in_err-part.field-0.0) was.limit
    (c.in_err-part.ensures.stops names files input first (c.args.at + 1) (was.goes.run names files input first place.run) (next-between was) (next-waits was names files input first place)))

pub returns-in_err-part-clause-keeps : goal.returns-in_err-part-clause-keeps
returns-in_err-part-clause-keeps g c = Keeps-trans c.loop-number.invariant.put.goes.keeps c.part.ensures.keeps

pub returns-in_err-part-clause-grows : goal.returns-in_err-part-clause-grows
returns-in_err-part-clause-grows g c = Extends-trans c.loop-number.invariant.put.goes.grows c.part.ensures.grows

pub returns-clause-goes_on : goal.returns-clause-goes_on
returns-clause-goes_on g c = c.loop-number.invariant.put.goes

pub returns-clause-filed : goal.returns-clause-filed
returns-clause-filed g c =
    turn-filed (turn-ends (no-items (into_iter_items c.loop-number.number-iterator) c.loop-number.invariant.count c.in-None.ensures.steps.0) c.loop-number.invariant.put)

pub returns-clause-limit : goal.returns-clause-limit
returns-clause-limit g c = c.loop-number.invariant.put.limit

pub returns-clause-place : goal.returns-clause-place
returns-clause-place g c =
    turn-place (turn-ends (no-items (into_iter_items c.loop-number.number-iterator) c.loop-number.invariant.count c.in-None.ensures.steps.0) c.loop-number.invariant.put)

pub returns-clause-keeps : goal.returns-clause-keeps
returns-clause-keeps g c = c.loop-number.invariant.put.goes.keeps

pub returns-clause-grows : goal.returns-clause-grows
returns-clause-grows g c = c.loop-number.invariant.put.goes.grows

pub returns-clause-owns : goal.returns-clause-owns
returns-clause-owns g c = c.loop-number.invariant.put.goes.branches
