use Rattle.std.proofs.Common.{◌≡◌, ◌≤◌, ◌-◌, List, All, drop, length}
use Rattle.sc_base.specs.declared.id.Name as declared_name
use Rattle.sc_expand.proofs.Terms.{IsHeldHidden, parted_with, seen_list}
use Rattle.sc_expand.specs.Arguments as model
use Rattle.sc_expand.proofs.arguments.parted.Given as goal

abbrev pub decreases-loop-index : goal.decreases-loop-index
decreases-loop-index l = length l.between - l.index

abbrev pub invariant-loop-index : goal.invariant-loop-index
invariant-loop-index l = record {
  is : (sets : List (List declared_name.Name)) → model.parted l.commas 0 (seen_list l.names sets l.between) ≡ parted_with l.names sets l.between l.index l.parting (seen_list l.names sets (drop l.index l.between));
  own : (sets : List (List declared_name.Name)) → All (IsHeldHidden l.names sets) l.between → All (All (IsHeldHidden l.names sets)) l.parting.arguments.items;
  begin : l.parting.begin ≤ l.index;
  inside : l.index ≤ length l.between;
  deep : l.parting.depth ≤ l.index;
}
