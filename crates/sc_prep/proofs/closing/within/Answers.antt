use Rattle.std.proofs.Common.{◌∙◌, true≢false, [], sym, subst}
use Rattle.sc_expand.proofs.ClosingLemmas.{added, left_out}
use Rattle.sc_prep.proofs.Facts.{Denotes-Keeps, Denotes-self, Keeps-refl, Keeps-trans}
use Rattle.sc_prep.proofs.RunLemmas.{item-own, within-none, within-step}
use Rattle.sc_prep.proofs.Terms.{IsWithin}
use Rattle.sc_prep.proofs.closing.within.Goals as goal
use Rattle.sc_prep.proofs.closing.within.Goals.{then-not-is_never+in_ok-push, else-not-is_never}

pub loop-index-init : goal.loop-index-init
loop-index-init g c =
    let first = g.C.Conditions.sets c.args.conds.now in
    record { within = subst (IsWithin first [] (first.has c.args.by.0) first) (sym c.in_ok-kept.ensures) (within-none (first.has c.args.by.0)); keeps = Keeps-refl first }

pub loop-index-preserved : goal.loop-index-preserved
loop-index-preserved g c =
    let first = g.C.Conditions.sets c.args.conds.now in
    let items = c.args.items.now in
    let i = c.loop-index.index in
    let was = c.loop-index.invariant in
    let cond = c.item-item.result.0 in
    let by = c.args.by in
    let at = c.item-item.ensures in
    let keeps = c.in_ok-part.ensures.keeps in
    let part_is = c.in_ok-part.ensures.meaning (first.has cond.0) (first.has by.0) (Denotes-Keeps was.keeps (Denotes-self first cond.0 (item-own first items i cond c.item-item.result.1.now at c.requires.own)))
    (Denotes-Keeps was.keeps (Denotes-self first by.0 c.requires.by_own)) in
    record {
      within = elim c.if-not-is_never.branch [
        | then-not-is_never+in_ok-push w ↦ within-step items c.loop-index.kept c.if-not-is_never.kept i cond c.item-item.result.1.now by c.in_ok-part.part at was.keeps keeps was.within part_is
            (added (λ never. true≢false (sym (c.is_never.ensures.1 never) ∙ w.if-not-is_never.true)) (w.kept-is ∙ w.in_ok-push.ensures.ok))
        | else-not-is_never w ↦ within-step items c.loop-index.kept c.if-not-is_never.kept i cond c.item-item.result.1.now by c.in_ok-part.part at was.keeps keeps was.within part_is (left_out (c.is_never.ensures.0 w.if-not-is_never.false) w.kept-is)
      ];
      keeps = Keeps-trans was.keeps keeps;
    }

pub returns-in_err-part-clause-keeps : goal.returns-in_err-part-clause-keeps
returns-in_err-part-clause-keeps g c = Keeps-trans c.loop-index.invariant.keeps c.in_err-part.ensures.keeps

pub returns-in_err-push-clause-keeps : goal.returns-in_err-push-clause-keeps
returns-in_err-push-clause-keeps g c = Keeps-trans c.loop-index.invariant.keeps c.in_ok-part.ensures.keeps
