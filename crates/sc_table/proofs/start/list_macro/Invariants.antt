use Rattle.std.proofs.Common.{◌≡◌, All, map, take}
use Rattle.sc_macro.specs.Seen.{IsHeldItem, seen_item}
use Rattle.sc_model.specs.Growth.{Extends}
use Rattle.sc_space.specs.Seen as spelled
use Rattle.sc_table.proofs.start.list_macro.Given as goal

abbrev pub invariant-loop-item : goal.invariant-loop-item
invariant-loop-item l = record {
  grows : Extends l.fn.names l.names;
  held : All (IsHeldItem l.names) l.items.items;
  seen : map (seen_item l.names) l.items.items ≡ map spelled.seen_item (take l.item-index l.list);
}
