use Rattle.std.proofs.Common.{◌≡◌, ◌<◌, ◌∙◌, ap, length, sym, subst, arith}
use Rattle.std.proofs.lemmas.Option.{none-some}
use Rattle.sc_items.specs.Kernel.{Begins, IsListOf}
use Rattle.sc_items.proofs.Opening.{BeginningsBelow-none, BeginningsBelow-push, BeginningsBelow-skip}
use Rattle.sc_items.proofs.kernel.beginnings.Goals as goal
use Rattle.sc_items.proofs.kernel.beginnings.Goals.{in-Some+in_ok-push, in_default}

pub loop-item-init : goal.loop-item-init
loop-item-init c = BeginningsBelow-none c.args.grammar.now c.in_ok-rows.rows.items c.in_ok-rows.ensures

pub loop-item-preserved : goal.loop-item-preserved
loop-item-preserved c =
    let g = c.args.grammar.now in
    let rows = c.loop-item.rows.items in
    let h = c.loop-item.invariant in
    elim c.match-begun.branch [
      | in-Some+in_ok-push w ↦ (
          let within : w.in-Some.left < length rows = omega (arith, h.long, w.in-Some.ensures.small) in
          rw (ap (λ v. v.items) w.rows-is) (BeginningsBelow-push g c.loop-item.item w.in-Some.left rows w.index_mut.result.now _ h (sym w.in-Some.ensures.left) within w.index_mut.ensures.value w.in_ok-push.ensures.items))
      | in_default w ↦ rw (ap (λ v. v.items) w.rows-is) (BeginningsBelow-skip g c.loop-item.item rows h (λ x b. none-some x (w.in_default.ensures.left ∙ b)))
    ]

pub returns : goal.returns
returns c =
    let e : c.loop-item.item ≡ length c.args.grammar.now.entries.now = omega arith in
    record { long = c.loop-item.invariant.long; each = λ x row at. subst (λ n. IsListOf n (Begins c.args.grammar.now x) row.items) e (c.loop-item.invariant.each x row at) }
