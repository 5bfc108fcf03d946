use Rattle.std.proofs.Common.{length, take}
use Rattle.sc_merge.specs.Merges.{AddsChoices, KeepValues, OwnsValues}
use Rattle.sc_model.specs.Growth.{Extends}
use Rattle.sc_merge.proofs.values.merged_values.Given as goal

abbrev pub invariant-loop-i : goal.invariant-loop-i
invariant-loop-i l = record {
  adds : AddsChoices l.here l.there l.fn.trees l.trees;
  grows : Extends l.fn.trees l.trees;
  own : OwnsValues (length l.trees) l.merged.items;
  on_left : KeepValues l.fn.trees l.trees l.here l.there (take l.i l.left) l.merged.items;
  on_right : KeepValues l.fn.trees l.trees l.there l.here (take l.i l.right) l.merged.items;
}
