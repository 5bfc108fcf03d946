use Rattle.std.proofs.Common.{◌≡◌, ◌+◌, ◌≤◌, List, ◌∷◌, [], ℕ, Bool, true, false, Some, if◌then◌else◌, length, sym, ◌∙◌, subst, arith}
use Rattle.std.specs.Prelude.{slice_get, slice_set}
use Rattle.std.proofs.lemmas.List.Elements.{All-cons, All-nil}
use Rattle.c11_parsing.specs.Classes.{Input}
use Rattle.c11_parsing.specs.Core as core
use Rattle.sc_fork.specs.Enabled.{Has}
use Rattle.sc_merge.specs.declared.subparser.Subparser.{Subparser}
use Rattle.sc_merge.specs.Merges.{tables_with}
use Rattle.sc_parse.proofs.ClassLemmas.{more-classes}
use Rattle.sc_parse.proofs.NumberLemmas.{fewer-numbers, first-number}
use Rattle.sc_parse.proofs.RowLemmas.{all-apart, numbers_of, put-filed, put-none, put-replaces, put-waits, row-of, row-times, same-phase, with_row}
use Rattle.sc_parse.specs.declared.rows.Rows.{Rows}
use Rattle.sc_parse.specs.Filed.{AreFiled, HasNoneBefore, numbers_in}
use Rattle.sc_parse.specs.Numbers.{Each, IsAt, Replaces}
use Rattle.sc_parse.specs.Runs.{AreWaiting, IsRun}
use Rattle.sc_parse.proofs.rows.Rows.put.Given.{Over}
use Rattle.sc_parse.proofs.rows.Rows.put.Goals as goal
use Rattle.sc_parse.proofs.rows.Rows.put.Goals.{In_ok-join}

pub key-requires-clause-there : goal.key-requires-clause-there
key-requires-clause-there g c = first-number c.args.steps.now.core.subparsers c.args.number (numbers_in c.args.self.now) c.requires.numbers

pub join-requires-clause-numbers : goal.join-requires-clause-numbers
join-requires-clause-numbers g c =
    let rows = c.args.self.now.rows.items in
    let old = c.args.steps.now.core.subparsers in
    let phase = sym c.key.ensures.1.1.phase ∙ sym c.in-At.ensures in
    let row = c.index_mut-row.result.now in
    let is = row-of old rows c.args.number c.in-At.next c.key.ensures.0 row c.requires.at c.key.ensures.1.0 phase c.index_mut-row.ensures.value in
    fewer-numbers old (c.args.number ∷ numbers_in c.args.self.now) (c.args.number ∷ row.items) c.requires.numbers (λ n. omega (arith, row-times rows c.in-At.next n row is))

module _ (g : Over) (c : In_ok-join g) where
  phase : IsAt c.in-At.next c.key.ensures.0
  phase = sym c.key.ensures.1.1.phase ∙ sym c.in-At.ensures

  is-row : slice_get c.args.self.now.rows.items c.in-At.next ≡ Some c.index_mut-row.result.now
  is-row =
      row-of c.args.steps.now.core.subparsers c.args.self.now.rows.items c.args.number c.in-At.next c.key.ensures.0 c.index_mut-row.result.now c.requires.at c.key.ensures.1.0 phase
      c.index_mut-row.ensures.value

  replaced : Replaces c.args.steps.now.core.subparsers c.join.new.self.core.subparsers (c.args.number ∷ numbers_in c.args.self.now)
      (numbers_of (slice_set c.args.self.now.rows.items c.in-At.next c.join.new.others))
  replaced =
      put-replaces c.args.steps.now.core.subparsers c.join.new.self.core.subparsers c.args.self.now c.in-At.next c.args.number c.index_mut-row.result.now c.join.new.others is-row c.requires.numbers
      c.in_ok-join.ensures.replaces

  counted : (more : Bool) → c.in_ok-join.field-0 ≡ more → length c.join.new.others.items ≡ length c.index_mut-row.result.now.items + (if more then 1 else 0)
  counted more is = subst (λ b. length c.join.new.others.items ≡ length c.index_mut-row.result.now.items + (if b then 1 else 0)) is c.in_ok-join.ensures.count

  filed : (branches count : ℕ) → c.args.self.now.branches ≤ branches → count + length c.index_mut-row.result.now.items ≡ c.args.self.now.count + length c.join.new.others.items → count ≤ branches
      → AreFiled c.join.new.self.core.subparsers (with_row (record { rows = c.args.self.now.rows; count = c.args.self.now.count; branches = branches }) c.in-At.next c.join.new.others count)
  filed branches count room is few =
      let before = c.requires.filed in
      put-filed c.args.steps.now.core.subparsers c.join.new.self.core.subparsers (record { rows = c.args.self.now.rows; count = c.args.self.now.count; branches = branches }) c.in-At.next c.args.number
      c.index_mut-row.result.now c.join.new.others is-row c.requires.numbers c.in_ok-join.ensures.replaces count
      (record { at = before.at; apart = before.apart; count = before.count; few = omega (arith, before.few, room) })
      (All-cons (λ n. (s : Subparser) × (Has c.args.steps.now.core.subparsers n s × IsAt c.in-At.next s)) c.args.number [] (c.key.ensures.0, (c.key.ensures.1.0, phase))
      (All-nil (λ n. (s : Subparser) × (Has c.args.steps.now.core.subparsers n s × IsAt c.in-At.next s))))
      c.in_ok-join.ensures.alike c.in_ok-join.ensures.apart (omega (arith, is)) few

  none : (i k count : ℕ) → Each (IsAt k) c.args.steps.now.core.subparsers (c.args.number ∷ []) → i ≤ k → HasNoneBefore c.args.self.now i
      → HasNoneBefore (with_row c.args.self.now c.in-At.next c.join.new.others count) i
  none i k count at low before =
      let same = same-phase c.args.steps.now.core.subparsers c.args.number k c.in-At.next c.key.ensures.0 at c.key.ensures.1.0 phase in
      put-none c.args.steps.now.core.subparsers c.join.new.self.core.subparsers c.args.self.now c.in-At.next c.args.number c.index_mut-row.result.now c.join.new.others is-row c.requires.numbers
      c.in_ok-join.ensures.replaces i count (omega (arith, low, same)) before

  waited : (names files : List (List ℕ)) (input : Input) (first : core.Core) (place : ℕ)
      → IsRun (tables_with (g.C.Conditions.sets c.args.conds.now) c.args.trees.now names files) input first c.args.steps.now
      → AreWaiting (g.C.Conditions.sets c.args.conds.now) input place c.args.steps.now.core.subparsers (c.args.number ∷ numbers_in c.args.self.now)
      → AreWaiting (g.C.Conditions.sets c.join.new.conds) input place c.join.new.self.core.subparsers (numbers_of (slice_set c.args.self.now.rows.items c.in-At.next c.join.new.others))
  waited names files input first place run waits =
      let done = c.in_ok-join.ensures in
      put-waits (g.C.Conditions.sets c.args.conds.now) (g.C.Conditions.sets c.join.new.conds) c.args.trees.now c.join.new.trees place c.args.steps.now c.join.new.self names files input first
      (done.goes_on place) c.requires.own run c.args.self.now c.in-At.next c.args.number c.index_mut-row.result.now c.join.new.others is-row c.requires.numbers done.replaces
      (done.waiting names files input first place run) waits

pub returns-then-not-branch-clause-replaces : goal.returns-then-not-branch-clause-replaces
returns-then-not-branch-clause-replaces g c = replaced g (goal.at.returns-then-not-branch-clause-replaces g c).In_ok-join

pub returns-clause-replaces : goal.returns-clause-replaces
returns-clause-replaces g c = replaced g (goal.at.returns-clause-replaces g c).In_ok-join

pub returns-then-not-branch-clause-filed : goal.returns-then-not-branch-clause-filed
returns-then-not-branch-clause-filed g c =
    let joined = (goal.at.returns-then-not-branch-clause-filed g c).In_ok-join in
    filed g joined c.args.self.now.branches c.args.self.now.count (omega arith) (omega (arith, counted g joined false c.if-not-branch.true)) c.requires.filed.few

pub returns-clause-filed : goal.returns-clause-filed
returns-clause-filed g c =
    let joined = (goal.at.returns-clause-filed g c).In_ok-join in
    let more = counted g joined true c.if-not-branch.false in
    let one = c.in-Some.ensures.1 in
    filed g joined c.args.self.now.branches c.in-Some.count (omega arith) (omega (arith, more, one)) (omega (arith, one, c.requires.filed.few, c.if-self.false))

pub returns-then-not-branch-clause-done : goal.returns-then-not-branch-clause-done
returns-then-not-branch-clause-done g c = λ i k at low before.
    none g (goal.at.returns-then-not-branch-clause-done g c).In_ok-join i k c.args.self.now.count at low before

pub returns-clause-done : goal.returns-clause-done
returns-clause-done g c = λ i k at low before. none g (goal.at.returns-clause-done g c).In_ok-join i k c.in-Some.count at low before

pub returns-then-not-branch-clause-waiting : goal.returns-then-not-branch-clause-waiting
returns-then-not-branch-clause-waiting g c = λ names files input first place run waits.
    waited g (goal.at.returns-then-not-branch-clause-waiting g c).In_ok-join names files input first place run waits

pub returns-clause-waiting : goal.returns-clause-waiting
returns-clause-waiting g c = λ names files input first place run waits. waited g (goal.at.returns-clause-waiting g c).In_ok-join names files input first place run waits

pub returns-then-self-clause-stops : goal.returns-then-self-clause-stops
returns-then-self-clause-stops g c = λ names files input first place run waits within.
    let joined = (goal.at.returns-then-self-clause-stops g c).In_ok-join in
    let more = counted g joined true c.if-not-branch.false in
    let one = c.in-Some.ensures.1 in
    let full = c.if-self.true in
    let branches = c.args.self.now.branches in
    let now : Rows = record { rows = c.args.self.now.rows; count = c.args.self.now.count; branches = branches + 1 } in
    let after = filed g joined (branches + 1) c.in-Some.count (omega arith) (omega (arith, more, one)) (omega (arith, one, full)) in
    let numbers = numbers_of (slice_set c.args.self.now.rows.items c.in-At.next c.join.new.others) in (
      omega (arith, one, full),
      more-classes (tables_with (g.C.Conditions.sets c.join.new.conds) c.join.new.trees names files) input first place c.join.new.self
          ((c.in_ok-join.ensures.goes_on place).run names files input first run) branches numbers (waited g joined names files input first place run waits)
          (all-apart c.join.new.self.core.subparsers (with_row now c.in-At.next c.join.new.others c.in-Some.count) after) within (omega (arith, one, full, after.count)),
    )
