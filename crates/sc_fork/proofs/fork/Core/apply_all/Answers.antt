use Rattle.std.proofs.Common.{drop, get_or, ◌+◌, inl, refl, arith}
use Rattle.sc_fork.specs.Bundles.{none_done}
use Rattle.sc_fork.proofs.BundleLemmas.{done-all, done-leads, done-more, done-seen, leads-given_up, leads-none, leads-then, next-left, still-enabled}
use Rattle.sc_fork.proofs.NodeLemmas.{added-more, added-none, adds-then}
use Rattle.sc_fork.proofs.fork.Core.apply_all.Goals as goal

pub loop-number-init : goal.loop-number-init
loop-number-init g c = record {
  done = rw c.new-made.ensures.items none_done;
  added = added-none c.args.kind c.args.members.now c.args.self.now c.args.trees.now;
  left = c.in_ok-can_do_all.ensures.ok.1;
  usable = c.in_ok-can_do_all.ensures.ok.0;
  own = c.requires.own;
  branches = c.requires.branches;
}

pub do_one-requires-clause-can : goal.do_one-requires-clause-can
do_one-requires-clause-can g c =
    let core = c.loop-number.self in
    let left = next-left core.source core.subparsers c.args.kind c.args.members.now c.loop-number.number-index 0 c.loop-number-test.true c.loop-number.invariant.left in
    left.each 0 0 (omega arith)

pub loop-number-preserved : goal.loop-number-preserved
loop-number-preserved g c =
    let s = g.C.Conditions.sets in
    let core = c.loop-number.self in
    let members = c.args.members.now in
    let i = c.loop-number.number-index in
    let done = c.in-Ok.ensures.done in
    let left = next-left core.source core.subparsers c.args.kind members i 0 c.loop-number-test.true c.loop-number.invariant.left in
    record {
      done =
          done-more (s c.args.conds.now) (s c.loop-number.conds) (s c.do_one.new.conds) c.args.trees.now c.loop-number.trees c.do_one.new.trees c.args.self.now core c.do_one.new.self
          c.args.kind members i 0 c.loop-number.made.items c.in-Ok.more.items c.append.new.self.items c.loop-number-test.true c.loop-number.invariant.done done c.in-Ok-append.ensures.items;
      added =
          added-more c.args.kind members i c.loop-number-test.true c.args.self.now core c.args.trees.now c.loop-number.trees c.loop-number.invariant.added c.do_one.new.trees c.do_one.new.self
          c.in-Ok.more.items c.do_one.ensures.adds left done.rows done.leads.source;
      left = still-enabled core c.do_one.new.self c.args.kind (get_or members i 0) (drop (i + 1) members) c.in-Ok.more.items left done.rows done.leads.source;
      usable = done.usable;
      own = done.own;
      branches = done.branches;
    }

-- ---- they can't be done

pub returns-in_err-can_do_all-clause-leads : goal.returns-in_err-can_do_all-clause-leads
returns-in_err-can_do_all-clause-leads g c = leads-none

pub returns-in_err-can_do_all-clause-one_node : goal.returns-in_err-can_do_all-clause-one_node
returns-in_err-can_do_all-clause-one_node g c = λ p stack line is all by. inl refl

-- ---- memory is short

pub returns-in_default-clause-choices : goal.returns-in_default-clause-choices
returns-in_default-clause-choices g c = λ names files input seen is stands sound.
    let run = done-seen names files input _ _ _ _ _ _ _ _ seen c.loop-number.invariant.done is stands in
    c.do_one.ensures.choices names files input run.applied.next run.applied.seen_after run.stands (run.sound sound)

pub returns-in_default-clause-leads : goal.returns-in_default-clause-leads
returns-in_default-clause-leads g c = leads-then (done-leads _ _ _ _ _ _ _ _ c.loop-number.invariant.done) c.do_one.ensures.leads

pub returns-in_default-append-clause-choices : goal.returns-in_default-append-clause-choices
returns-in_default-append-clause-choices g c = λ names files input seen is stands sound.
    let run = done-seen names files input _ _ _ _ _ _ _ _ seen c.loop-number.invariant.done is stands in
    c.do_one.ensures.choices names files input run.applied.next run.applied.seen_after run.stands (run.sound sound)

pub returns-in_default-append-clause-leads : goal.returns-in_default-append-clause-leads
returns-in_default-append-clause-leads g c =
    rw c.give_up.ensures (leads-given_up (leads-then (done-leads _ _ _ _ _ _ _ _ c.loop-number.invariant.done) c.do_one.ensures.leads))

pub returns-in_default-clause-one_node : goal.returns-in_default-clause-one_node
returns-in_default-clause-one_node g c =
    adds-then c.args.kind c.args.members.now c.loop-number.number-index c.loop-number-test.true c.args.self.now c.loop-number.self c.args.trees.now c.loop-number.trees c.loop-number.invariant.added
    c.do_one.new.trees c.do_one.ensures.adds

pub returns-in_default-append-clause-one_node : goal.returns-in_default-append-clause-one_node
returns-in_default-append-clause-one_node g c =
    adds-then c.args.kind c.args.members.now c.loop-number.number-index c.loop-number-test.true c.args.self.now c.loop-number.self c.args.trees.now c.loop-number.trees c.loop-number.invariant.added
    c.do_one.new.trees c.do_one.ensures.adds

-- ---- all are done

pub returns-clause-applied : goal.returns-clause-applied
returns-clause-applied g c = λ names files input seen is stands.
    let s = g.C.Conditions.sets in
    let done =
    done-all (s c.args.conds.now) (s c.loop-number.conds) c.args.trees.now c.loop-number.trees c.args.self.now c.loop-number.self c.args.kind c.args.members.now
    c.loop-number.number-index c.loop-number.made.items c.loop-number-test.false c.loop-number.invariant.done in
    (done-seen names files input _ _ _ _ _ _ _ _ seen done is stands).applied

pub returns-clause-choices : goal.returns-clause-choices
returns-clause-choices g c = λ names files input seen is stands sound.
    (done-seen names files input _ _ _ _ _ _ _ _ seen c.loop-number.invariant.done is stands).sound sound

pub returns-clause-leads : goal.returns-clause-leads
returns-clause-leads g c = done-leads _ _ _ _ _ _ _ _ c.loop-number.invariant.done

pub returns-clause-one_node : goal.returns-clause-one_node
returns-clause-one_node g c = c.loop-number.invariant.added.adds
