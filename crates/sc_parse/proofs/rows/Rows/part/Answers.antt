use Rattle.std.proofs.Common.{◌≡◌, ◌<◌, ◌∷◌, ◌++◌, [], length, ap, sym, subst, arith}
use Rattle.std.proofs.lemmas.List.Elements.{All-cons, All-nil}
use Rattle.std.specs.Prelude.{ℕ, List}
use Rattle.std.specs.Vec.Iter.{into_iter_items}
use Rattle.std.proofs.lemmas.List.{nil_from_length}
use Rattle.std.proofs.lemmas.Result.{err_from_is_err_and}
use Rattle.sc_base.proofs.Growth.{Extends-trans}
use Rattle.c11_parsing.specs.Classes.{Input}
use Rattle.c11_parsing.specs.Core as core
use Rattle.sc_fork.specs.Enabled.{Has}
use Rattle.sc_merge.specs.declared.subparser.Subparser.{Subparser}
use Rattle.sc_merge.specs.Merges.{tables_with}
use Rattle.sc_model.proofs.SetLemmas.{Keeps-trans}
use Rattle.sc_parse.proofs.PartLemmas.{ArePartlyFiled, next-looks, next-numbers, next-waits, parts-next, parts-start, place-within}
use Rattle.sc_parse.specs.Filed.{numbers_in}
use Rattle.sc_parse.specs.Numbers.{AreNumbers, Each, IsAt, IsBetween}
use Rattle.sc_parse.specs.Parses.{StopsFor}
use Rattle.sc_parse.specs.Runs.{AreWaiting, IsRun}
use Rattle.sc_parse.proofs.rows.Rows.part.Given.{Over}
use Rattle.sc_parse.proofs.rows.Rows.part.Goals as goal
use Rattle.sc_parse.proofs.rows.Rows.part.Goals.{In-Some}

pub loop-part-init : goal.loop-part-init
loop-part-init g c =
    let s = g.C.Conditions.sets in
    let done = c.in_ok-part-items.ensures in
    let items = c.into_iter-part-iterator.ensures.into_iter_gives in
    record {
      parts =
          subst (λ (ns : List ℕ). ArePartlyFiled (s c.args.conds.now) (s c.apply.new.conds) c.args.trees.now c.apply.new.trees c.args.number c.args.self.now c.args.steps.now ns c.args.self.now c.apply.new.self)
          (sym items.0)
          (parts-start (s c.args.conds.now) (s c.apply.new.conds) c.args.trees.now c.apply.new.trees c.args.number c.args.self.now c.args.steps.now c.apply.new.self c.in_ok-part-items.part-items.items
          c.requires.own c.requires.numbers done.made (λ place. done.goes_on place tt) done.step c.requires.filed);
      count = omega (arith, items.1, ap length items.0, c.in_ok-part-items.part-items.ok.0);
    }

module _ (g : Over) (c : In-Some g) where
  parts : ArePartlyFiled (g.C.Conditions.sets c.args.conds.now) (g.C.Conditions.sets c.loop-part.conds) c.args.trees.now c.loop-part.trees c.args.number c.args.self.now c.args.steps.now
      (c.in-Some.part ∷ into_iter_items c.next.new.self) c.loop-part.self c.loop-part.steps
  parts =
      subst (λ (ns : List ℕ). ArePartlyFiled (g.C.Conditions.sets c.args.conds.now) (g.C.Conditions.sets c.loop-part.conds) c.args.trees.now c.loop-part.trees c.args.number c.args.self.now
      c.args.steps.now ns c.loop-part.self c.loop-part.steps) c.in-Some.ensures.steps.0 c.loop-part.invariant.parts

  numbers : AreNumbers c.loop-part.steps.core.subparsers (c.in-Some.part ∷ numbers_in c.loop-part.self)
  numbers =
      next-numbers (g.C.Conditions.sets c.args.conds.now) (g.C.Conditions.sets c.loop-part.conds) c.args.trees.now c.loop-part.trees c.args.number c.args.self.now c.loop-part.self c.args.steps.now
      c.loop-part.steps c.in-Some.part (into_iter_items c.next.new.self) parts c.requires.numbers

  at : (k : ℕ) × (Each (IsAt k) c.loop-part.steps.core.subparsers (c.in-Some.part ∷ []) × k < length c.loop-part.self.rows.items)
  at =
      let one =
      next-looks (g.C.Conditions.sets c.args.conds.now) (g.C.Conditions.sets c.loop-part.conds) c.args.trees.now c.loop-part.trees c.args.number c.args.self.now c.loop-part.self c.args.steps.now
      c.loop-part.steps c.in-Some.part (into_iter_items c.next.new.self) parts c.requires.numbers c.requires.between.0 c.requires.between.1
      in
      let k = one.1.1.at in
      let P = λ (m : ℕ). (x : Subparser) × (Has c.loop-part.steps.core.subparsers m x × IsAt k x) in
      (k, (All-cons P c.in-Some.part [] (one.0, (one.1.0, one.1.1.phase)) (All-nil P), omega (arith, one.1.1.high, parts.long, c.requires.long)))

  waits : (names files : List (List ℕ)) (input : Input) (first : core.Core) (place : ℕ)
      → IsRun (tables_with (g.C.Conditions.sets c.args.conds.now) c.args.trees.now names files) input first c.args.steps.now
      → Each (IsBetween place) c.args.steps.now.core.subparsers (c.args.number ∷ [])
      → AreWaiting (g.C.Conditions.sets c.args.conds.now) input place c.args.steps.now.core.subparsers (numbers_in c.args.self.now)
      → AreWaiting (g.C.Conditions.sets c.loop-part.conds) input place c.loop-part.steps.core.subparsers (c.in-Some.part ∷ numbers_in c.loop-part.self)
  waits =
      next-waits (g.C.Conditions.sets c.args.conds.now) (g.C.Conditions.sets c.loop-part.conds) c.args.trees.now c.loop-part.trees c.args.number c.args.self.now c.loop-part.self c.args.steps.now
      c.loop-part.steps c.in-Some.part (into_iter_items c.next.new.self) parts c.requires.numbers

pub put-requires-clause-own : goal.put-requires-clause-own
put-requires-clause-own g c = (c.loop-part.invariant.parts.goes_on 0).own

pub put-requires-clause-branches : goal.put-requires-clause-branches
put-requires-clause-branches g c = (c.loop-part.invariant.parts.goes_on 0).branches

pub put-requires-clause-numbers : goal.put-requires-clause-numbers
put-requires-clause-numbers g c = numbers g (goal.at.put-requires-clause-numbers g c).In-Some

pub put-requires-clause-at : goal.put-requires-clause-at
put-requires-clause-at g c = at g (goal.at.put-requires-clause-at g c).In-Some

pub loop-part-preserved : goal.loop-part-preserved
loop-part-preserved g c =
    let s = g.C.Conditions.sets in
    let here = (goal.at.loop-part-preserved g c).In-Some in
    let done = c.in_ok-put.ensures in
    record {
      parts =
          parts-next (s c.args.conds.now) (s c.loop-part.conds) c.args.trees.now c.loop-part.trees c.args.number c.args.self.now c.loop-part.self c.args.steps.now c.loop-part.steps c.in-Some.part
          (into_iter_items c.next.new.self) (parts g here) c.requires.numbers (s c.put.new.conds) c.put.new.trees c.put.new.self c.put.new.steps done.goes_on done.replaces done.filed done.done
          done.long done.limit done.waiting;
      count = let was = c.loop-part.invariant.count in let gone = c.in-Some.ensures.steps.1 in let short = ap length c.in-Some.ensures.steps.0 in omega arith;
    }

pub returns-in_err-put-clause-stops : goal.returns-in_err-put-clause-stops
returns-in_err-put-clause-stops g c =
    let here = (goal.at.returns-in_err-put-clause-stops g c).In-Some in
    let goes = c.loop-part.invariant.parts.goes_on in
    let p = err_from_is_err_and c.from_residual-in_err-put.result c.from_residual-in_err-put.ensures.1 in
    rw (p.1, p.2)
    (λ names files input first place run between waiting.
    subst (λ n. StopsFor input n c.in_err-put.field-0.0) c.loop-part.invariant.parts.limit
    (c.in_err-put.ensures.stops names files input first place ((goes place).run names files input first run) (waits g here names files input first place run between waiting)
    (place-within (g.C.Conditions.sets c.args.conds.now) c.args.trees.now c.args.number place c.args.steps.now names files input first c.requires.own run between)))

pub returns-in_err-put-clause-keeps : goal.returns-in_err-put-clause-keeps
returns-in_err-put-clause-keeps g c = Keeps-trans (c.loop-part.invariant.parts.goes_on 0).keeps c.put.ensures.keeps

pub returns-in_err-put-clause-grows : goal.returns-in_err-put-clause-grows
returns-in_err-put-clause-grows g c = Extends-trans (c.loop-part.invariant.parts.goes_on 0).grows c.put.ensures.grows

pub returns-clause-goes_on : goal.returns-clause-goes_on
returns-clause-goes_on g c = c.loop-part.invariant.parts.goes_on

pub returns-clause-keeps : goal.returns-clause-keeps
returns-clause-keeps g c = (c.loop-part.invariant.parts.goes_on 0).keeps

pub returns-clause-grows : goal.returns-clause-grows
returns-clause-grows g c = (c.loop-part.invariant.parts.goes_on 0).grows

pub returns-clause-owns : goal.returns-clause-owns
returns-clause-owns g c = (c.loop-part.invariant.parts.goes_on 0).branches

pub returns-clause-waiting : goal.returns-clause-waiting
returns-clause-waiting g c = λ names files input first place run between waiting.
    let left = into_iter_items c.loop-part.part-iterator in
    let none : left ≡ [] = nil_from_length left (omega (arith, c.loop-part.invariant.count, c.in-None.ensures.steps.0)) in
    subst (λ (ns : List ℕ). AreWaiting (g.C.Conditions.sets c.loop-part.conds) input place c.loop-part.steps.core.subparsers (ns ++ numbers_in c.loop-part.self)) none
    (c.loop-part.invariant.parts.waiting names files input first place run between waiting)
