use Rattle.std.proofs.Common.{◌≡◌, ◌++◌, map, length}
use Rattle.std.specs.Vec.Iter.{into_iter_items, into_iter_len}
use Rattle.sc_hoist.specs.Calls.{with_ends}
use Rattle.sc_hoist.proofs.call_branches.push_all.Given as goal

abbrev pub invariant-loop-branch : goal.invariant-loop-branch
invariant-loop-branch l = record {
  can : goal.iterator-loop-branch.can_next l.branch-iterator;
  finite : goal.iterator-loop-branch.is_finite l.branch-iterator;
  long : into_iter_len l.branch-iterator ≡ length (into_iter_items l.branch-iterator);
  all : l.branches.items ++ map (with_ends l.ends) (into_iter_items l.branch-iterator) ≡ l.fn.branches.items ++ map (with_ends l.ends) l.fn.found.items;
}
