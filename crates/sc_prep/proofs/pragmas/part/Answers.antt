use Rattle.std.proofs.Common.{◌&&◌, ap, false, subst, sym}
use Rattle.sc_base.specs.declared.id.Cond.{Cond}
use Rattle.sc_prep.proofs.Facts.{Denotes-Keeps, Denotes-self}
use Rattle.sc_prep.proofs.RunLemmas.{denotes-as}
use Rattle.sc_prep.proofs.Terms.{Denotes}
use Rattle.sc_prep.proofs.pragmas.part.Goals as goal
use Rattle.sc_prep.proofs.pragmas.part.Goals.{then-is_next, else-is_next}

pub returns-clause-passing : goal.returns-clause-passing
returns-clause-passing g c =
    let old = g.C.Conditions.sets c.args.conds.now in
    let cond = c.args.cond.0 in
    let reading = c.args.reading.0 in
    let own = Denotes-self old cond c.requires.cond in
    Denotes-Keeps c.in_ok-others.ensures.keeps (elim c.if-is_next.branch [
      | then-is_next w ↦ denotes-as (λ d. old.has cond d && old.has reading d) (λ d. old.has cond d && (c.args.is_next && old.has reading d)) (λ d listed. ap (λ b. old.has cond d && (b && old.has reading d)) (sym w.if-is_next.true))
          (c.in_ok-passing.ensures.meaning (old.has cond) (old.has reading) own (subst (λ (n : Cond). Denotes old n.0 (old.has reading)) (sym w.next-is) (Denotes-self old reading c.requires.reading)))
      | else-is_next w ↦ denotes-as (λ d. old.has cond d && false) (λ d. old.has cond d && (c.args.is_next && old.has reading d)) (λ d listed. ap (λ b. old.has cond d && (b && old.has reading d)) (sym w.if-is_next.false))
          (c.in_ok-passing.ensures.meaning (old.has cond) (λ _. false) own (subst (λ (n : Cond). Denotes old n.0 (λ _. false)) (sym w.next-is) w.never-next.ensures.meaning))
    ])

pub returns-clause-others : goal.returns-clause-others
returns-clause-others g c =
    let old = g.C.Conditions.sets c.args.conds.now in
    let keeps = c.in_ok-passing.ensures.keeps in
    c.in_ok-others.ensures.meaning _ _ (Denotes-Keeps keeps (Denotes-self old c.args.cond.0 c.requires.cond))
    (Denotes-Keeps keeps (Denotes-self old c.args.reading.0 c.requires.reading))
