use Rattle.std.proofs.Common.{◌∙◌, true≢false, [], ap, sym, subst, take}
use Rattle.sc_base.specs.declared.fault.Fault.{Fault}
use Rattle.sc_expand.proofs.ClosingLemmas.{added, left_out}
use Rattle.sc_prep.proofs.Facts.{All-get_or, Denotes-Keeps, Denotes-self, Keeps-refl, Keeps-trans, take_more}
use Rattle.sc_prep.proofs.RunLemmas.{faults-next, within-none}
use Rattle.sc_prep.proofs.Terms.{IsCond, IsWithin, fault_items}
use Rattle.sc_prep.proofs.closing.faults_within.Goals as goal
use Rattle.sc_prep.proofs.closing.faults_within.Goals.{then-not-is_never+in_ok-push, else-not-is_never}

pub loop-fault-init : goal.loop-fault-init
loop-fault-init g c =
    let first = g.C.Conditions.sets c.args.conds.now in
    record { within = subst (λ fs. IsWithin first [] (first.has c.args.by.0) first (fault_items fs)) (sym c.new-kept.ensures.items) (within-none (first.has c.args.by.0)); keeps = Keeps-refl first }

pub loop-fault-preserved : goal.loop-fault-preserved
loop-fault-preserved g c =
    let first = g.C.Conditions.sets c.args.conds.now in
    let now = g.C.Conditions.sets c.apply_and.new.self in
    let faults = c.args.faults.now in
    let i = c.loop-fault.fault-index in
    let was = c.loop-fault.invariant in
    let keeps = c.in_ok-part.ensures.keeps in
    let by = c.args.by in
    let own = All-get_or (λ (f : Fault). IsCond first f.cond.0) faults i _ c.loop-fault-test.true c.requires.own in
    let part_is = c.in_ok-part.ensures.meaning _ (first.has by.0) (Denotes-Keeps was.keeps (Denotes-self first _ own)) (Denotes-Keeps was.keeps (Denotes-self first by.0 c.requires.by_own)) in
    record {
      within = subst (λ fs. IsWithin first (fault_items fs) (first.has by.0) now (fault_items c.if-not-is_never.kept.items)) (sym (take_more faults i _ c.loop-fault-test.true)) (elim c.if-not-is_never.branch [
        | then-not-is_never+in_ok-push w ↦ faults-next (take i faults) c.loop-fault.kept.items c.if-not-is_never.kept.items by c.in_ok-part.part _ was.keeps keeps was.within part_is
            (added (λ never. true≢false (sym (c.is_never.ensures.1 never) ∙ w.if-not-is_never.true)) (ap (λ v. v.items) w.kept-is ∙ w.in_ok-push.ensures.items))
        | else-not-is_never w ↦ faults-next (take i faults) c.loop-fault.kept.items c.if-not-is_never.kept.items by c.in_ok-part.part _ was.keeps keeps was.within part_is (left_out (c.is_never.ensures.0 w.if-not-is_never.false) (ap (λ v. v.items) w.kept-is))
      ]);
      keeps = Keeps-trans was.keeps keeps;
    }

pub returns-in_err-part-clause-keeps : goal.returns-in_err-part-clause-keeps
returns-in_err-part-clause-keeps g c = Keeps-trans c.loop-fault.invariant.keeps c.in_err-part.ensures.keeps

pub returns-in_err-push-clause-keeps : goal.returns-in_err-push-clause-keeps
returns-in_err-push-clause-keeps g c = Keeps-trans c.loop-fault.invariant.keeps c.in_ok-part.ensures.keeps
