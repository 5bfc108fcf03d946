use Rattle.std.proofs.Common.{◌≡◌, ◌+◌, length, sym, ap, ◌∙◌, arith}
use Rattle.std.specs.Vec.Iter.{into_iter_items}
use Rattle.sc_base.proofs.Growth.{Extends-trans}
use Rattle.sc_merge.specs.declared.subparser.Phase.TheVariants.{Named}
use Rattle.sc_model.proofs.SetLemmas.{Keeps-trans}
use Rattle.sc_parse.proofs.DoneLemmas.{ready-enabled}
use Rattle.sc_parse.proofs.ShiftLemmas.{classify-before, classify-enabled, next-named, next-past, no-items, ready-before, shift-begins, shift-ends, shift-kept, shift-kinds, shift-next}
use Rattle.sc_parse.proofs.parsing.shift.Goals as goal
use Rattle.sc_parse.proofs.parsing.shift.Goals.{in-Named, in_default}

pub apply_all-requires-clause-enabled : goal.apply_all-requires-clause-enabled
apply_all-requires-clause-enabled g c = ready-enabled c.args.steps.now.core.source c.args.steps.now.core.subparsers c.requires.ready.0 c.args.ready.now c.requires.numbers c.requires.ready.1

pub loop-made-init : goal.loop-made-init
loop-made-init g c =
    let gives = c.into_iter-made-iterator.ensures.into_iter_gives in
    record {
      shifting = λ j ready.
          rw (c.into_iter-made-iterator.ensures.into_iter_gives.0, c.new-behind.ensures.items)
          (shift-begins _ _ _ _ c.args.steps.now _ j c.args.ready.now _ c.requires.numbers ready c.in_ok-made-items.ensures.done
          (c.in_ok-made-items.ensures.goes_on (j + 1) c.requires.numbers (ready-before c.args.steps.now.core.source c.args.steps.now.core.subparsers j c.args.ready.now ready)));
      count = omega (arith, gives.1, ap length gives.0, c.in_ok-made-items.made-items.ok.0);
    }

pub key-requires-clause-usable : goal.key-requires-clause-usable
key-requires-clause-usable g c = (c.loop-made.invariant.shifting c.requires.ready.0 c.requires.ready.1).goes.own.usable

pub key-requires-clause-there : goal.key-requires-clause-there
key-requires-clause-there g c =
    let next = next-past (shift-next c.in-Some.ensures.steps.0 (c.loop-made.invariant.shifting c.requires.ready.0 c.requires.ready.1)) in
    (next.0, next.1.0)

pub apply-requires-clause-own : goal.apply-requires-clause-own
apply-requires-clause-own g c = (c.loop-made.invariant.shifting c.requires.ready.0 c.requires.ready.1).goes.own

pub apply-requires-clause-branches : goal.apply-requires-clause-branches
apply-requires-clause-branches g c = (c.loop-made.invariant.shifting c.requires.ready.0 c.requires.ready.1).goes.branches

pub apply-requires-clause-enabled : goal.apply-requires-clause-enabled
apply-requires-clause-enabled g c = elim c.match-matches.branch [
  | in-Named w ↦
      classify-enabled c.loop-made.steps.core.source c.loop-made.steps.core.subparsers c.in-Some.made w.in-Named.field-0 c.key.ensures.0 c.key.ensures.1.0
      (sym c.key.ensures.1.1.phase ∙ sym w.in-Named.ensures)
  | in_default w ↦ absurd (cc)
]

pub returns-in_err-kinds-clause-keeps : goal.returns-in_err-kinds-clause-keeps
returns-in_err-kinds-clause-keeps g c = Keeps-trans (c.loop-made.invariant.shifting c.requires.ready.0 c.requires.ready.1).goes.keeps c.apply.ensures.keeps

pub returns-in_err-kinds-clause-grows : goal.returns-in_err-kinds-clause-grows
returns-in_err-kinds-clause-grows g c = Extends-trans (c.loop-made.invariant.shifting c.requires.ready.0 c.requires.ready.1).goes.grows c.apply.ensures.grows

pub returns-in_err-append-clause-keeps : goal.returns-in_err-append-clause-keeps
returns-in_err-append-clause-keeps g c = Keeps-trans (c.loop-made.invariant.shifting c.requires.ready.0 c.requires.ready.1).goes.keeps c.apply.ensures.keeps

pub returns-in_err-append-clause-grows : goal.returns-in_err-append-clause-grows
returns-in_err-append-clause-grows g c = Extends-trans (c.loop-made.invariant.shifting c.requires.ready.0 c.requires.ready.1).goes.grows c.apply.ensures.grows

pub loop-made-preserved-then-matches : goal.loop-made-preserved-then-matches
loop-made-preserved-then-matches g c = record {
  shifting = λ j ready. elim c.match-matches.branch [
    | in-Named w ↦
        let rows = c.loop-made.steps.core.subparsers in
        let is : c.key.ensures.0.phase ≡ Named w.in-Named.field-0 = sym c.key.ensures.1.1.phase ∙ sym w.in-Named.ensures in
        let was = shift-next c.in-Some.ensures.steps.0 (c.loop-made.invariant.shifting j ready) in
        rw c.in_ok-append.ensures.items (shift-kinds was c.requires.numbers _ _ c.apply.new.self c.key.ensures.0 w.in-Named.field-0 _ c.key.ensures.1.0 is c.in_ok-kinds.ensures.made
        (c.in_ok-kinds.ensures.goes_on (j + 1) (classify-before rows c.in-Some.made j c.key.ensures.0 c.key.ensures.1.0 (next-named was c.key.ensures.0 w.in-Named.field-0 c.key.ensures.1.0 is))))
    | in_default w ↦ absurd (cc)
  ];
  count = omega (arith, ap length c.in-Some.ensures.steps.0, c.in-Some.ensures.steps.1, c.loop-made.invariant.count);
}

pub loop-made-preserved : goal.loop-made-preserved
loop-made-preserved g c = record {
  shifting = λ j ready. elim c.match-matches.branch [
    | in-Named w ↦ absurd (cc)
    | in_default w ↦
        rw c.in_ok-push.ensures.items
        (shift-kept (shift-next c.in-Some.ensures.steps.0 (c.loop-made.invariant.shifting j ready)) c.key.ensures.0 c.key.ensures.1.0
        (λ k named. w.in_default.not-Named k (c.phase.ensures ∙ c.key.ensures.1.1.phase ∙ named)))
  ];
  count = omega (arith, ap length c.in-Some.ensures.steps.0, c.in-Some.ensures.steps.1, c.loop-made.invariant.count);
}

pub returns-in_err-push-clause-keeps : goal.returns-in_err-push-clause-keeps
returns-in_err-push-clause-keeps g c = (c.loop-made.invariant.shifting c.requires.ready.0 c.requires.ready.1).goes.keeps

pub returns-in_err-push-clause-grows : goal.returns-in_err-push-clause-grows
returns-in_err-push-clause-grows g c = (c.loop-made.invariant.shifting c.requires.ready.0 c.requires.ready.1).goes.grows

pub returns-in_err-push-clause-owns : goal.returns-in_err-push-clause-owns
returns-in_err-push-clause-owns g c = (c.loop-made.invariant.shifting c.requires.ready.0 c.requires.ready.1).goes.branches

pub returns-clause-shifts : goal.returns-clause-shifts
returns-clause-shifts g c j ready =
    shift-ends (no-items (into_iter_items c.loop-made.made-iterator) c.loop-made.invariant.count c.in-None.ensures.steps.0) (c.loop-made.invariant.shifting j ready)

pub returns-clause-keeps : goal.returns-clause-keeps
returns-clause-keeps g c = (c.loop-made.invariant.shifting c.requires.ready.0 c.requires.ready.1).goes.keeps

pub returns-clause-grows : goal.returns-clause-grows
returns-clause-grows g c = (c.loop-made.invariant.shifting c.requires.ready.0 c.requires.ready.1).goes.grows

pub returns-clause-owns : goal.returns-clause-owns
returns-clause-owns g c = (c.loop-made.invariant.shifting c.requires.ready.0 c.requires.ready.1).goes.branches
