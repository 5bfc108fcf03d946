use Rattle.std.proofs.Common.{subst, sym}
use Rattle.sc_base.proofs.Growth.{Extends-trans}
use Rattle.sc_model.proofs.SetLemmas.{Keeps-trans}
use Rattle.sc_parse.proofs.NumberLemmas.{numbers-after}
use Rattle.sc_parse.proofs.ShiftLemmas.{shifted-then}
use Rattle.sc_parse.specs.Numbers.{AreNumbers, Each, IsReady, Replaces}
use Rattle.sc_parse.proofs.parsing.shifted.Goals as goal

pub shift-requires-clause-own : goal.shift-requires-clause-own
shift-requires-clause-own g c = (c.in_ok-ready.ensures.goes_on c.requires.at.0 c.requires.at.1).own

pub shift-requires-clause-branches : goal.shift-requires-clause-branches
shift-requires-clause-branches g c = (c.in_ok-ready.ensures.goes_on c.requires.at.0 c.requires.at.1).branches

pub shift-requires-clause-numbers : goal.shift-requires-clause-numbers
shift-requires-clause-numbers g c =
    subst (AreNumbers c.reduced.new.steps.core.subparsers) (sym c.deref.ensures.value)
    (numbers-after c.args.steps.now.core.subparsers c.reduced.new.steps.core.subparsers c.args.row.items c.in_ok-ready.ready.items c.in_ok-ready.ensures.replaces c.requires.numbers)

pub shift-requires-clause-ready : goal.shift-requires-clause-ready
shift-requires-clause-ready g c =
    let t = c.reduced.new.steps.core in
    let j = c.requires.at.0 in
    (j, subst (Each (IsReady t.source j) t.subparsers) (sym c.deref.ensures.value) (c.in_ok-ready.ensures.ready j c.requires.at.1))

pub returns-in_err-behind-clause-keeps : goal.returns-in_err-behind-clause-keeps
returns-in_err-behind-clause-keeps g c = Keeps-trans c.reduced.ensures.keeps c.shift.ensures.keeps

pub returns-in_err-behind-clause-grows : goal.returns-in_err-behind-clause-grows
returns-in_err-behind-clause-grows g c = Extends-trans c.reduced.ensures.grows c.shift.ensures.grows

pub returns-clause-shifts : goal.returns-clause-shifts
returns-clause-shifts g c = λ j at.
    let t = c.reduced.new.steps.core in
    let same = sym c.deref.ensures.value in
    shifted-then _ _ _ _ _ _ j c.args.steps.now c.reduced.new.steps c.shift.new.steps c.args.row.items c.deref.result.now c.in_ok-behind.behind.items
    (subst (Replaces c.args.steps.now.core.subparsers t.subparsers c.args.row.items) same c.in_ok-ready.ensures.replaces) (c.in_ok-ready.ensures.goes_on j at)
    (c.in_ok-behind.ensures.shifts j (subst (Each (IsReady t.source j) t.subparsers) same (c.in_ok-ready.ensures.ready j at)))

pub returns-clause-keeps : goal.returns-clause-keeps
returns-clause-keeps g c = Keeps-trans c.reduced.ensures.keeps c.shift.ensures.keeps

pub returns-clause-grows : goal.returns-clause-grows
returns-clause-grows g c = Extends-trans c.reduced.ensures.grows c.shift.ensures.grows
