use Rattle.std.proofs.Common.{[], sym, subst, take}
use Rattle.sc_base.specs.declared.fault.Fault.{Fault}
use Rattle.sc_prep.proofs.Facts.{All-cons, All-get_or, All-nil, Keeps-refl, Keeps-trans, take_more}
use Rattle.sc_prep.proofs.RunLemmas.{refuses-nothing, refuses-then}
use Rattle.sc_prep.proofs.Terms.{IsCond, RefusesEach}
use Rattle.sc_prep.proofs.walk.Walk.refuse_each.Goals as goal

pub loop-fault-init : goal.loop-fault-init
loop-fault-init g c = record {
  refuses = refuses-nothing (g.C.Conditions.sets c.args.conds.now) c.args.self.now c.requires.live c.requires.acting;
  keeps = Keeps-refl (g.C.Conditions.sets c.args.conds.now);
}

pub loop-fault-preserved : goal.loop-fault-preserved
loop-fault-preserved g c =
    let old = g.C.Conditions.sets c.args.conds.now in
    let faults = c.args.faults.now in
    let i = c.loop-fault.fault-index in
    let P : Fault → Type 0 = λ f. IsCond old f.cond.0 in
    record {
      refuses =
          subst (λ fs. RefusesEach old c.args.self.now fs (g.C.Conditions.sets c.refuse_at.new.conds) c.refuse_at.new.self) (sym (take_more faults i _ c.loop-fault-test.true))
          (refuses-then c.loop-fault.invariant.keeps c.in_ok-refuse_at.ensures.keeps c.args.self.now c.loop-fault.self c.refuse_at.new.self (take i faults) _
          (All-cons P _ [] (All-get_or P faults i _ c.loop-fault-test.true c.requires.faults) (All-nil P))
          c.loop-fault.invariant.refuses c.in_ok-refuse_at.ensures.refuses);
      keeps = Keeps-trans c.loop-fault.invariant.keeps c.in_ok-refuse_at.ensures.keeps;
    }
