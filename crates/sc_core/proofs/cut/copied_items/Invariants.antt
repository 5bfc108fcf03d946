use Rattle.std.proofs.Common.{◌≡◌, map, take}
use Rattle.sc_space.specs.Seen.{seen_item}
use Rattle.sc_core.proofs.cut.copied_items.Given as goal

abbrev pub invariant-loop-item : goal.invariant-loop-item
invariant-loop-item l = map seen_item l.copies.items ≡ map seen_item (take l.item-index l.items)
