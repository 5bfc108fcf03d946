use Rattle.std.proofs.Common.{◌+◌, ◌∙◌, ap, take}
use Rattle.sc_base.specs.declared.fault.Fault.{Fault}
use Rattle.sc_prep.proofs.Facts.{All-get_or, Denotes-Keeps, Denotes-self, Keeps-refl, Keeps-trans, faults_at-append, take_more}
use Rattle.sc_prep.proofs.RunLemmas.{without-nothing, without-one}
use Rattle.sc_prep.proofs.Terms.{IsCond, faults_at}
use Rattle.sc_prep.proofs.settling.without_faults.Goals as goal

pub loop-fault-init : goal.loop-fault-init
loop-fault-init g c = record {
  keeps = Keeps-refl (g.C.Conditions.sets c.args.conds.now);
  without = without-nothing Fault (g.C.Conditions.sets c.args.conds.now) c.args.all.0 c.requires.own;
}

pub loop-fault-preserved : goal.loop-fault-preserved
loop-fault-preserved g c =
    let first = g.C.Conditions.sets c.args.conds.now in
    let faults = c.args.faults.now in
    let i = c.loop-fault.fault-index in
    let was = c.loop-fault.invariant in
    record {
      keeps = Keeps-trans was.keeps c.in_ok-left.ensures.keeps;
      without = without-one (first.has c.args.all.0) _ (faults_at first (take i faults)) (faults_at first (take (i + 1) faults)) _
          (λ config. ap (λ xs. faults_at first xs config) (take_more faults i _ c.loop-fault-test.true) ∙ faults_at-append first (take i faults) _ config)
          (c.in_ok-left.ensures.meaning _ _ was.without
          (Denotes-Keeps was.keeps
          (Denotes-self first _ (All-get_or (λ (f : Fault). IsCond first f.cond.0) faults i _ c.loop-fault-test.true c.requires.faults))));
    }
