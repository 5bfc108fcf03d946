use Rattle.std.proofs.Common.{◌≡◌, ◌-◌, ◌+◌, ◌∙◌, ◌++◌, ◌∷◌, [], append_assoc, ap, arith, reverse, sym, take}
use Rattle.sc_prep.proofs.Facts.{reverse-append, take-next}
use Rattle.sc_prep.proofs.Terms.{Cond, Token}
use Rattle.sc_prep.proofs.open_runs.reversed.Goals as goal

pub loop-index-preserved : goal.loop-index-preserved
loop-index-preserved c =
    let list = c.args.list.now in
    let j = c.loop-index.index - 1 in
    let x : Cond × Token = (c.item.result.0, c.item.result.1.now) in
    let at : c.loop-index.index ≡ j + 1 = omega arith in
    ap (λ xs. xs ++ reverse (take j list)) c.in_ok-push.ensures.ok
    ∙ (append_assoc c.loop-index.back (x ∷ []) (reverse (take j list))
    ∙ (ap (λ xs. c.loop-index.back ++ xs) (sym (reverse-append (take j list) (x ∷ [])) ∙ ap reverse (sym (take-next list j x c.item.ensures) ∙ ap (λ n. take n list) (sym at))) ∙ c.loop-index.invariant))
