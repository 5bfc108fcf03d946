use Rattle.std.proofs.Common.{◌<◌, ap, length, ◌∙◌, sym, arith}
use Rattle.std.proofs.lemmas.Option.{none-some}
use Rattle.sc_items.proofs.Opening.{RowsSoFar-none, RowsSoFar-left, RowsSoFar-kept, MovedSoFar-done}
use Rattle.sc_items.proofs.kernel.moved.Goals as goal
use Rattle.sc_items.proofs.kernel.moved.Goals.{in-Some+in_ok-push, in_default}

pub loop-item-init : goal.loop-item-init
loop-item-init c = RowsSoFar-none c.args.grammar.now c.args.rows.now.items c.requires.rows

pub loop-item-preserved : goal.loop-item-preserved
loop-item-preserved c =
    let g = c.args.grammar.now in
    let items = c.args.items.now in
    let k = c.loop-item.item-index in
    let rows = c.loop-item.rows.items in
    let h = c.loop-item.invariant in
    elim c.match-after.branch [
      | in-Some+in_ok-push w ↦ (
          let within : w.in-Some.next < length rows = omega (arith, h.long, w.in-Some.ensures.small) in
          rw (ap (λ v. v.items) w.rows-is) (RowsSoFar-kept g items k w.in-Some.next rows w.index_mut.result.now _ c.requires.rising c.loop-item-test.true h (sym w.in-Some.ensures.symbol) within w.index_mut.ensures.value w.in_ok-push.ensures.items))
      | in_default w ↦ rw (ap (λ v. v.items) w.rows-is) (RowsSoFar-left g items k rows c.loop-item-test.true h (λ x e. none-some x (w.in_default.ensures.symbol ∙ e)))
    ]

pub returns : goal.returns
returns c = record { long = c.loop-item.invariant.long; each = λ x row at. MovedSoFar-done c.args.grammar.now c.args.items.now x c.loop-item.item-index row.items c.loop-item-test.false (c.loop-item.invariant.each x row at) }
