use Rattle.std.proofs.Common.{arith}
use Rattle.sc_items.proofs.Opening.{IsOpenedBelow-push, IsOpened-done, EdgesWithin-done}
use Rattle.sc_items.proofs.kernel.opened.Goals as goal

pub loop-item-preserved : goal.loop-item-preserved
loop-item-preserved c = rw c.in_ok-push.ensures.items (IsOpenedBelow-push c.args.grammar.now c.loop-item.item c.loop-item.rows.items c.in_ok-opened_by.field-0 c.loop-item.invariant c.in_ok-opened_by.ensures)

pub returns-clause-rows : goal.returns-clause-rows
returns-clause-rows c = IsOpened-done c.args.grammar.now c.loop-item.item c.loop-item.rows.items (omega arith) c.loop-item.invariant

pub returns-clause-within : goal.returns-clause-within
returns-clause-within c = EdgesWithin-done c.args.grammar.now c.loop-item.item c.loop-item.rows.items (omega arith) c.loop-item.invariant
