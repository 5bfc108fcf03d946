use Rattle.std.proofs.Common.{◌<◌, length, ap, ◌∙◌, sym, arith}
use Rattle.std.proofs.lemmas.Option.{none-some}
use Rattle.sc_lalr.proofs.Leading.{IsLeadingBelow-none, IsLeadingBelow-push, IsLeadingBelow-skip, IsLeading-done, EdgesWithin-done}
use Rattle.sc_lalr.proofs.first.leading.Goals as goal
use Rattle.sc_lalr.proofs.first.leading.Goals.{in-Some+in-Some-after+in_ok-push, in-Some+in_default-after, in_default}

pub loop-item-init : goal.loop-item-init
loop-item-init c = IsLeadingBelow-none c.args.grammar.now c.in_ok-rows.rows.items c.in_ok-rows.ensures

pub loop-item-preserved : goal.loop-item-preserved
loop-item-preserved c =
    let g = c.args.grammar.now in
    let n = c.loop-item.item in
    let rows = c.loop-item.rows.items in
    let h = c.loop-item.invariant in
    elim c.match-begun.branch [
      | in-Some+in-Some-after+in_ok-push w ↦ (
          let within : w.in-Some-after.first < length rows = omega (arith, h.long, w.in-Some-after.ensures.small) in
          rw (ap (λ v. v.items) w.rows-is) (IsLeadingBelow-push g n w.in-Some.left w.in-Some-after.first rows w.index_mut.result.now _ h (sym w.in-Some.ensures.left) (sym w.in-Some-after.ensures.symbol) within w.index_mut.ensures.value w.in_ok-push.ensures.items))
      | in-Some+in_default-after w ↦ rw (ap (λ v. v.items) w.rows-is) (IsLeadingBelow-skip g n rows h (λ x y a b. none-some y (w.in_default-after.ensures.symbol ∙ b)))
      | in_default w ↦ rw (ap (λ v. v.items) w.rows-is) (IsLeadingBelow-skip g n rows h (λ x y a b. none-some x (w.in_default.ensures.left ∙ a)))
    ]

pub returns-clause-leading : goal.returns-clause-leading
returns-clause-leading c = IsLeading-done c.args.grammar.now c.loop-item.item c.loop-item.rows.items c.requires c.loop-item-test.false c.loop-item.invariant

pub returns-clause-edges : goal.returns-clause-edges
returns-clause-edges c = EdgesWithin-done c.args.grammar.now c.loop-item.item c.loop-item.rows.items c.requires c.loop-item.invariant
