use Rattle.std.proofs.Common.{◌≡◌, ◌↔◌, ◌<◌, ◌+◌, ℕ, ap, refl, ◌∙◌}
use Rattle.std.specs.Int.{bit_at}
use Rattle.std.proofs.lemmas.List.{length_push}
use Rattle.std.proofs.lemmas.Option.{none-some}
use Rattle.sc_items.proofs.Opening.{each-push}
use Rattle.sc_lalr.proofs.first.own_marks.Goals as goal

pub loop-symbol-init : goal.loop-symbol-init
loop-symbol-init c = rw c.new-words.ensures.items (refl, record { each = λ x word at. absurd (none-some word at) })

pub loop-symbol-preserved : goal.loop-symbol-preserved
loop-symbol-preserved c =
    let h = c.loop-symbol.invariant in
    let words = c.loop-symbol.words.items in
    rw c.in_ok-push.ensures.items (
      length_push words c.own_mark.result ∙ ap (λ k. k + 1) h.0,
      record {
        each = each-push (λ x word. (b : ℕ) → b < 64 → (bit_at word b ≡ 1) ↔ (x ≡ c.args.from + b)) words c.own_mark.result c.loop-symbol.symbol h.0 h.1.each c.own_mark.ensures;
      },
    )
