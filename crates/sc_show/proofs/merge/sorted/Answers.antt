use Rattle.std.proofs.Common.{◌∙◌, ap, sym, subst, map, take_all, arith, rules}
use Rattle.std.specs.List.Sorted.{IsPermutation}
use Rattle.std.proofs.lemmas.List.Sorted.{IsPermutation-map, All-permutation, answers_always}
use Rattle.sc_base.specs.declared.fault.Fault.{Fault}
use Rattle.sc_guarded.specs.Items.{seen_fault}
use Rattle.sc_show.specs.Order.{IsKeyOf, IsInOrder}
use Rattle.sc_show.proofs.MergeOrdering.{Key, in_order_from_sort, keyed_faults, keyed_keys}
use Rattle.sc_show.proofs.merge.sorted.Goals as goal

pub returns : goal.returns
returns c =
    let moved = IsPermutation-map (λ pair. pair.1) _ _ c.sort_by_key.ensures.permutation in
    let before = c.loop-fault.invariant.faults ∙ take_all c.loop-fault.fault-index c.args.faults.now (omega arith) in
    let after = c.loop-fault-2.invariant ∙ ap (map (λ pair. pair.1)) (take_all c.loop-fault-2.fault-index c.deref-fault-items.result.now (omega arith) ∙ c.deref-fault-items.ensures.value) in
    let is_keyed = λ (pair : Key × Fault). IsKeyOf (seen_fault c.args.files.now pair.1) pair.0 in
    let keyed = All-permutation is_keyed _ _ c.sort_by_key.ensures.permutation c.loop-fault.invariant.keys in
    let order = in_order_from_sort c.args.files.now _ keyed (c.in_ok-sort_by_key.ensures.sorted (λ (pair : Key × Fault). pair.0) (answers_always _ _ _ (λ f a r g h. search rules))) in
    record {
      faults = subst (λ faults. IsPermutation faults c.loop-fault-2.sorted.items) before (subst (IsPermutation _) (sym after) moved);
      order = subst (λ faults. IsInOrder (map (seen_fault c.args.files.now) faults)) (sym after) order;
    }

pub loop-fault-preserved : goal.loop-fault-preserved
loop-fault-preserved c =
    let was = c.loop-fault.invariant in
    let i = c.loop-fault.fault-index in
    record {
      faults = keyed_faults c.args.files.now c.loop-fault.keyed.items c.push.new.self.items c.args.faults.now i _ c.key.result c.in_ok-push.ensures.items c.loop-fault-test.true was.faults;
      keys = keyed_keys c.args.files.now c.loop-fault.keyed.items c.push.new.self.items c.args.faults.now i _ c.key.result c.in_ok-push.ensures.items was.keys c.key.ensures;
    }
