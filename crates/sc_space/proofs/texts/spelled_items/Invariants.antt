use Rattle.std.proofs.Common.{◌≡◌, map, take}
use Rattle.sc_macro.specs.Seen as macro
use Rattle.sc_space.specs.Seen.{seen_item}
use Rattle.sc_space.proofs.texts.spelled_items.Given as goal

abbrev pub invariant-loop-item : goal.invariant-loop-item
invariant-loop-item l = map seen_item l.list.items ≡ map (macro.seen_item l.names) (take l.item-index l.items)
