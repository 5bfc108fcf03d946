use Rattle.std.proofs.Common.{◌<◌, None, subst}
use Rattle.sc_base.proofs.Growth.{Extends-refl, Extends-trans}
use Rattle.sc_merge.specs.Merges.{none_kept}
use Rattle.sc_merge.proofs.ValueLemmas.{adds-more, adds-none, own-more, own-none, own-within, same-length, silent-at, values-step}
use Rattle.sc_merge.proofs.values.merged_values.Goals as goal

pub merged_value-requires-clause-left_own : goal.merged_value-requires-clause-left_own
merged_value-requires-clause-left_own c = (own-within c.args.left.now c.loop-i.invariant.grows.longer c.requires.left_own).each c.loop-i.i None c.loop-i-test.true

pub merged_value-requires-clause-right_own : goal.merged_value-requires-clause-right_own
merged_value-requires-clause-right_own c =
    let within = subst (λ n. c.loop-i.i < n) (same-length c.args.left.now c.args.right.now c.requires.silent) c.loop-i-test.true in
    (own-within c.args.right.now c.loop-i.invariant.grows.longer c.requires.right_own).each c.loop-i.i None within

pub merged_value-requires-clause-silent : goal.merged_value-requires-clause-silent
merged_value-requires-clause-silent c = silent-at c.args.left.now c.args.right.now c.loop-i.i c.loop-i-test.true c.requires.silent

pub loop-i-init : goal.loop-i-init
loop-i-init c = rw c.new-merged.ensures.items (record {
  adds = adds-none c.args.here c.args.there _;
  grows = Extends-refl _;
  own = own-none _;
  on_left = none_kept;
  on_right = none_kept;
})

pub loop-i-preserved : goal.loop-i-preserved
loop-i-preserved c =
    let within = subst (λ n. c.loop-i.i < n) (same-length c.args.left.now c.args.right.now c.requires.silent) c.loop-i-test.true in
    record {
      adds = adds-more c.loop-i.invariant.adds c.merged_value.ensures.adds;
      grows = Extends-trans c.loop-i.invariant.grows c.merged_value.ensures.grows;
      own = own-more c.loop-i.merged.items _ _ c.merged_value.ensures.grows.longer c.loop-i.invariant.own c.in_ok-merged_value.ensures.own c.in_ok-push.ensures.items;
      on_left = values-step c.loop-i.i c.args.left.now c.loop-i.merged.items _ _ c.loop-i.invariant.grows c.merged_value.ensures.grows c.loop-i-test.true
          c.loop-i.invariant.on_left c.in_ok-merged_value.ensures.left c.in_ok-push.ensures.items;
      on_right = values-step c.loop-i.i c.args.right.now c.loop-i.merged.items _ _ c.loop-i.invariant.grows c.merged_value.ensures.grows within
          c.loop-i.invariant.on_right c.in_ok-merged_value.ensures.right c.in_ok-push.ensures.items;
    }

pub returns-in_err-merged_value-clause-adds : goal.returns-in_err-merged_value-clause-adds
returns-in_err-merged_value-clause-adds c = adds-more c.loop-i.invariant.adds c.merged_value.ensures.adds

pub returns-in_err-push-clause-adds : goal.returns-in_err-push-clause-adds
returns-in_err-push-clause-adds c = adds-more c.loop-i.invariant.adds c.merged_value.ensures.adds
