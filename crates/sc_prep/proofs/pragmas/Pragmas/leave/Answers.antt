use Rattle.std.proofs.Common.{List, not, subst}
use Rattle.sc_base.specs.declared.fault.Fault.{Fault}
use Rattle.sc_prep.proofs.Facts.{Denotes-Keeps, Denotes-self, IsConfig-Keeps, Keeps-trans}
use Rattle.sc_prep.proofs.PragmaMoves.{leaves-operators}
use Rattle.sc_prep.proofs.RunLemmas.{items-own, within-as}
use Rattle.sc_prep.proofs.Terms.{IsWithin, fault_items}
use Rattle.sc_prep.proofs.pragmas.Pragmas.leave.Goals as goal

pub returns-in_err-self-4-clause-keeps : goal.returns-in_err-self-4-clause-keeps
returns-in_err-self-4-clause-keeps g c =
    Keeps-trans (Keeps-trans (Keeps-trans c.in_ok-others.ensures.keeps c.in_ok-self.ensures.keeps) (Keeps-trans c.in_ok-self-2.ensures.keeps c.in_ok-self-3.ensures.keeps)) c.in_err-self-4.ensures.keeps

pub returns-in_err-self-5-clause-keeps : goal.returns-in_err-self-5-clause-keeps
returns-in_err-self-5-clause-keeps g c =
    Keeps-trans (Keeps-trans (Keeps-trans c.in_ok-others.ensures.keeps c.in_ok-self.ensures.keeps) (Keeps-trans c.in_ok-self-2.ensures.keeps c.in_ok-self-3.ensures.keeps))
    (Keeps-trans c.in_ok-self-4.ensures.keeps c.in_err-self-5.ensures.keeps)

pub returns-clause-leaves : goal.returns-clause-leaves
returns-clause-leaves g c =
    let old = g.C.Conditions.sets c.args.conds.now in
    let s4 = g.C.Conditions.sets c.apply_and-4.new.self in
    let p = c.args.self.now in
    let owns = c.requires.owns in
    let k0 = c.in_ok-others.ensures.keeps in
    let k1 = c.in_ok-self.ensures.keeps in
    let k2 = c.in_ok-self-2.ensures.keeps in
    let k3 = c.in_ok-self-3.ensures.keeps in
    let k4 = c.in_ok-self-4.ensures.keeps in
    let k5 = c.in_ok-self-5.ensures.keeps in
    let k01 = Keeps-trans k0 k1 in
    let k012 = Keeps-trans k01 k2 in
    let k0123 = Keeps-trans k012 k3 in
    let k01234 = Keeps-trans k0123 k4 in
    let k45 = Keeps-trans k4 k5 in
    let k345 = Keeps-trans k3 k45 in
    let others = c.in_ok-others.ensures.meaning (old.has c.args.cond.0) (Denotes-self old _ c.requires.own) in
    let others1 = Denotes-Keeps k1 others in
    let others2 = Denotes-Keeps k2 others1 in
    let others3 = Denotes-Keeps k3 others2 in
    let others4 = Denotes-Keeps k4 others3 in
    let inside = c.in_ok-self.ensures.meaning (old.has p.inside.0) _ (Denotes-Keeps k0 (Denotes-self old _ owns.inside)) others in
    let opens = c.in_ok-self-2.ensures.meaning (old.has p.opening.0) _ (Denotes-Keeps k01 (Denotes-self old _ owns.opening)) others1 in
    let texts = c.in_ok-self-3.ensures.meaning (old.has p.text.0) _ (Denotes-Keeps k012 (Denotes-self old _ owns.text)) others2 in
    let closes = c.in_ok-self-4.ensures.meaning (old.has p.closing.0) _ (Denotes-Keeps k0123 (Denotes-self old _ owns.closing)) others3 in
    leaves-operators c.args.cond.0 (Denotes-Keeps (Keeps-trans k2 k345) inside) (Denotes-Keeps k345 opens) (Denotes-Keeps k45 texts) (Denotes-Keeps k5 closes)
    (within-as (s4.has c.in_ok-others.others.0) (λ config. not (old.has c.args.cond.0 config)) k01234 (items-own old p.faults.items owns.faults) (λ config listed. others4.at config (IsConfig-Keeps k01234 listed))
    (subst (λ (fs : List Fault). IsWithin s4 (fault_items fs) (s4.has c.in_ok-others.others.0) (g.C.Conditions.sets c.faults_within.new.conds) (fault_items c.in_ok-self-5.field-0.items)) c.deref.ensures.value c.in_ok-self-5.ensures.within))
    (Keeps-trans k01234 k5)

pub returns-clause-keeps : goal.returns-clause-keeps
returns-clause-keeps g c =
    Keeps-trans (Keeps-trans (Keeps-trans c.in_ok-others.ensures.keeps c.in_ok-self.ensures.keeps) (Keeps-trans c.in_ok-self-2.ensures.keeps c.in_ok-self-3.ensures.keeps))
    (Keeps-trans c.in_ok-self-4.ensures.keeps c.in_ok-self-5.ensures.keeps)
