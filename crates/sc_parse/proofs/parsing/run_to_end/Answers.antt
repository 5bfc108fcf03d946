use Rattle.std.proofs.Common.{◌≡◌, ◌+◌, length, sym, ap, ◌∙◌, subst, arith}
use Rattle.std.proofs.lemmas.Result.{err_from_is_err_and}
use Rattle.sc_base.proofs.Growth.{Extends-trans}
use Rattle.sc_fork.specs.declared.source.Source.{Source}
use Rattle.sc_model.proofs.SetLemmas.{Keeps-trans}
use Rattle.sc_parse.proofs.EndLemmas.{HasComeTo, classes-all, come-empty, come-on, come-parted, finished, first-between, first-none, first-there, no-waiting, places-all}
use Rattle.sc_parse.specs.Filed.{AreAllFiled, numbers_in}
use Rattle.sc_parse.specs.Parses.{StopsFor}
use Rattle.sc_parse.proofs.parsing.run_to_end.Goals as goal
use Rattle.sc_parse.proofs.parsing.run_to_end.Goals.{then-is_some+in_ok-part, else-is_some}

pub part-requires-clause-between : goal.part-requires-clause-between
part-requires-clause-between g c =
    let there = first-there c.args.steps.now c.look.result c.look.ensures.some c.if-is_some.ensures in
    (0, first-between c.args.steps.now c.requires.begun there.0 there.1)

pub part-requires-clause-filed : goal.part-requires-clause-filed
part-requires-clause-filed g c = c.in_ok-rows.ensures.filed c.args.steps.now.core.subparsers

pub returns-in_err-part-clause-stops : goal.returns-in_err-part-clause-stops
returns-in_err-part-clause-stops g c =
    let steps = c.args.steps.now in
    let there = first-there steps c.look.result c.look.ensures.some c.if-is_some.ensures in
    let p = err_from_is_err_and c.from_residual-in_err-part.result c.from_residual-in_err-part.ensures.1 in
    rw (p.1, p.2)
    (λ names files input first run.
    subst (λ n. StopsFor input n c.in_err-part.field-0.0) c.in_ok-rows.ensures.branches
    (c.in_err-part.ensures.stops names files input first 0 run (first-between steps c.requires.begun there.0 there.1)
    (no-waiting (g.C.Conditions.sets c.args.conds.now) input 0 steps.core.subparsers (numbers_in c.in_ok-rows.rows) c.in_ok-rows.ensures.numbers)))

pub loop-at-init : goal.loop-at-init
loop-at-init g c =
    let s = g.C.Conditions.sets in
    let steps = c.args.steps.now in
    let rows = c.in_ok-rows.ensures in
    elim c.if-is_some.branch [
      | then-is_some+in_ok-part w ↦
          let there = first-there steps c.look.result c.look.ensures.some w.if-is_some.ensures in
          rw (w.conds-is, w.trees-is, w.steps-is, w.rows-is)
          (come-parted (s c.args.conds.now) (s w.part.new.conds) c.args.trees.now w.part.new.trees c.args.elements c.args.branches steps w.part.new.steps c.in_ok-rows.rows w.part.new.self there.0
          c.requires.long c.requires.begun there.1 rows.numbers rows.long rows.branches w.in_ok-part.ensures.goes_on w.in_ok-part.ensures.replaces w.in_ok-part.ensures.filed w.in_ok-part.ensures.long
          w.in_ok-part.ensures.limit w.in_ok-part.ensures.waiting)
      | else-is_some w ↦
          rw (w.conds-is, w.trees-is, w.steps-is, w.rows-is)
          (come-empty (s c.args.conds.now) c.args.trees.now c.args.elements c.args.branches steps c.in_ok-rows.rows c.requires.own c.requires.branches c.requires.long c.requires.begun
          (c.look.ensures.none (first-none c.look.result w.if-is_some.ensures) c.requires.own.usable) rows.numbers (rows.filed steps.core.subparsers) rows.long rows.branches)
    ]

pub take_element-requires-clause-own : goal.take_element-requires-clause-own
take_element-requires-clause-own g c = c.loop-at.invariant.goes.own

pub take_element-requires-clause-branches : goal.take_element-requires-clause-branches
take_element-requires-clause-branches g c = c.loop-at.invariant.goes.branches

pub take_element-requires-clause-filed : goal.take_element-requires-clause-filed
take_element-requires-clause-filed g c = c.loop-at.invariant.filed

pub take_element-requires-clause-within : goal.take_element-requires-clause-within
take_element-requires-clause-within g c =
    let same : length c.loop-at.steps.core.source.list.now ≡ length c.args.steps.now.core.source.list.now =
    ap (λ (x : Source). length x.list.now) c.loop-at.invariant.goes.source
    in
    omega (arith, same, c.requires.long)

pub returns-in_err-take_element-clause-stops : goal.returns-in_err-take_element-clause-stops
returns-in_err-take_element-clause-stops g c =
    let p = err_from_is_err_and c.from_residual-in_err-take_element.result c.from_residual-in_err-take_element.ensures.1 in
    rw (p.1, p.2)
    (λ names files input first run.
    subst (λ n. StopsFor input n c.in_err-take_element.field-0.0) c.loop-at.invariant.limit
    (c.in_err-take_element.ensures.stops names files input first (c.loop-at.invariant.place names files input first run)))

pub returns-in_err-take_element-clause-keeps : goal.returns-in_err-take_element-clause-keeps
returns-in_err-take_element-clause-keeps g c = Keeps-trans c.loop-at.invariant.goes.keeps c.take_element.ensures.keeps

pub returns-in_err-take_element-clause-grows : goal.returns-in_err-take_element-clause-grows
returns-in_err-take_element-clause-grows g c = Extends-trans c.loop-at.invariant.goes.grows c.take_element.ensures.grows

pub loop-at-preserved : goal.loop-at-preserved
loop-at-preserved g c =
    let s = g.C.Conditions.sets in
    subst
    (λ n.
    HasComeTo (s c.args.conds.now) (s c.take_element.new.conds) c.args.trees.now c.take_element.new.trees c.args.elements c.args.branches (c.loop-at.at + 1) n c.args.steps.now
    c.take_element.new.steps c.take_element.new.rows)
    (sym c.max-classes.ensures)
    (come-on (s c.args.conds.now) (s c.loop-at.conds) (s c.take_element.new.conds) c.args.trees.now c.loop-at.trees c.take_element.new.trees c.args.elements c.args.branches c.loop-at.at c.loop-at.classes c.args.steps.now
    c.loop-at.steps c.take_element.new.steps c.loop-at.rows c.take_element.new.rows c.requires.long (omega arith) c.loop-at.invariant c.in_ok-take_element.ensures.goes_on c.in_ok-take_element.ensures.filed
    c.in_ok-take_element.ensures.limit c.in_ok-take_element.ensures.place)

pub returns-clause-goes_on : goal.returns-clause-goes_on
returns-clause-goes_on g c = c.loop-at.invariant.goes

pub returns-clause-done : goal.returns-clause-done
returns-clause-done g c =
    let s = g.C.Conditions.sets in
    let at : c.args.elements + 1 ≡ c.loop-at.at = omega arith in
    let same : length c.loop-at.steps.core.source.list.now ≡ length c.args.steps.now.core.source.list.now =
    ap (λ (x : Source). length x.list.now) c.loop-at.invariant.goes.source
    in
    finished (s c.loop-at.conds) (length c.loop-at.trees) c.loop-at.steps c.loop-at.rows c.args.elements c.loop-at.invariant.goes.own
    (subst (AreAllFiled c.loop-at.steps.core c.loop-at.rows) (sym at) c.loop-at.invariant.filed) (c.requires.long ∙ sym same)

pub returns-clause-places : goal.returns-clause-places
returns-clause-places g c =
    let s = g.C.Conditions.sets in
    places-all (s c.args.conds.now) (s c.loop-at.conds) c.args.trees.now c.loop-at.trees c.args.elements c.args.branches c.loop-at.at c.loop-at.classes c.args.steps.now c.loop-at.steps c.loop-at.rows
    c.requires.long (omega arith) c.loop-at.invariant

pub returns-clause-classes : goal.returns-clause-classes
returns-clause-classes g c =
    let s = g.C.Conditions.sets in
    classes-all (s c.args.conds.now) (s c.loop-at.conds) c.args.trees.now c.loop-at.trees c.args.elements c.args.branches c.loop-at.at c.loop-at.classes c.args.steps.now c.loop-at.steps c.loop-at.rows
    c.requires.long (omega arith) c.loop-at.invariant

pub returns-clause-few : goal.returns-clause-few
returns-clause-few g c = c.loop-at.invariant.few

pub returns-clause-keeps : goal.returns-clause-keeps
returns-clause-keeps g c = c.loop-at.invariant.goes.keeps

pub returns-clause-grows : goal.returns-clause-grows
returns-clause-grows g c = c.loop-at.invariant.goes.grows

pub returns-clause-owns : goal.returns-clause-owns
returns-clause-owns g c = c.loop-at.invariant.goes.branches
