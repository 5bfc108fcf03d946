use Rattle.std.proofs.Common.{◌&&◌, ◌++◌, ◌∙◌, List, All, ap, subst, sym}
use Rattle.sc_base.specs.declared.fault.Fault.{Fault}
use Rattle.sc_prep.proofs.Facts.{IsConfig-Keeps, Keeps-trans}
use Rattle.sc_prep.proofs.PragmaMoves.{ends-operators, owns-pragmas}
use Rattle.sc_prep.proofs.RunLemmas.{items-own, within-as}
use Rattle.sc_prep.proofs.Terms.{Denotes, IsCond, IsWithin, fault_items, has_none}
use Rattle.sc_prep.proofs.pragmas.Pragmas.finish.Goals as goal

pub without_faults-requires : goal.without_faults-requires
without_faults-requires g c =
    let k1 = c.in_ok-put_outside.ensures.keeps in
    record {
      own = k1.own _ c.requires.acting;
      faults = subst (All (λ (f : Fault). IsCond (g.C.Conditions.sets c.put_outside.new.conds) f.cond.0)) (sym c.deref.ensures.value) (λ k d h. k1.own _ (c.requires.faults k d h));
    }

pub faults_within-requires : goal.faults_within-requires
faults_within-requires g c = record {
  own = subst (All (λ (f : Fault). IsCond (g.C.Conditions.sets c.without_faults.new.conds) f.cond.0)) (sym c.deref-2.ensures.value) (λ k d h. c.in_ok-free.ensures.keeps.own _ (c.in_ok-put_outside.ensures.puts.owns.faults k d h));
  by_own = c.in_ok-free.ensures.without.own;
}

pub leave-requires : goal.leave-requires
leave-requires g c =
    let later = Keeps-trans c.in_ok-free.ensures.keeps c.in_ok-unread.ensures.keeps in
    record { owns = owns-pragmas later c.in_ok-put_outside.ensures.puts.owns; own = (Keeps-trans c.in_ok-put_outside.ensures.keeps later).own _ c.requires.acting }

pub returns-clause-ends : goal.returns-clause-ends
returns-clause-ends g c =
    let sets = g.C.Conditions.sets in
    let old = sets c.args.conds.now in
    let s1 = sets c.put_outside.new.conds in
    let s2 = sets c.without_faults.new.conds in
    let s3 = sets c.faults_within.new.conds in
    let acting = c.args.acting.0 in
    let faults = c.args.faults.now.items in
    let read = c.put_outside.new.self in
    let k1 = c.in_ok-put_outside.ensures.keeps in
    let k2 = c.in_ok-free.ensures.keeps in
    let k3 = c.in_ok-unread.ensures.keeps in
    let k4 = c.in_ok-leave.ensures.keeps in
    let k23 = Keeps-trans k2 k3 in
    let free = subst (λ (fs : List Fault). Denotes s2 c.in_ok-free.free.0 (λ d. s1.has acting d && has_none s1 fs d)) c.deref.ensures.value c.in_ok-free.ensures.without in
    let within = subst (λ (fs : List Fault). IsWithin s2 (fault_items fs) (s2.has c.in_ok-free.free.0) s3 (fault_items c.in_ok-unread.unread.items)) c.deref-2.ensures.value c.in_ok-unread.ensures.within in
    ends-operators c.args.names.now c.args.items.now acting c.args.list.now faults c.in_ok-unread.unread.items k1 k23 k4 c.requires.faults c.requires.acting c.in_ok-put_outside.ensures.puts
    (within-as (s2.has c.in_ok-free.free.0) (λ d. s1.has acting d && has_none s1 faults d) k2 (items-own s1 read.faults.items c.in_ok-put_outside.ensures.puts.owns.faults) (λ d listed. free.at d (IsConfig-Keeps k2 listed)) within)
    (c.in_ok-hold.ensures ∙ ap (λ (fs : List Fault). faults ++ fs) c.deref-3.ensures.value) c.in_ok-leave.ensures.leaves

pub returns-in_err-unread-clause-keeps : goal.returns-in_err-unread-clause-keeps
returns-in_err-unread-clause-keeps g c = Keeps-trans c.in_ok-put_outside.ensures.keeps (Keeps-trans c.in_ok-free.ensures.keeps c.in_err-unread.ensures.keeps)

pub returns-in_err-leave-clause-keeps : goal.returns-in_err-leave-clause-keeps
returns-in_err-leave-clause-keeps g c = Keeps-trans c.in_ok-put_outside.ensures.keeps (Keeps-trans c.in_ok-free.ensures.keeps (Keeps-trans c.in_ok-unread.ensures.keeps c.in_err-leave.ensures.keeps))

pub returns-in_err-hold-clause-keeps : goal.returns-in_err-hold-clause-keeps
returns-in_err-hold-clause-keeps g c = Keeps-trans c.in_ok-put_outside.ensures.keeps (Keeps-trans c.in_ok-free.ensures.keeps (Keeps-trans c.in_ok-unread.ensures.keeps c.in_ok-leave.ensures.keeps))

pub returns-clause-keeps : goal.returns-clause-keeps
returns-clause-keeps g c = Keeps-trans c.in_ok-put_outside.ensures.keeps (Keeps-trans c.in_ok-free.ensures.keeps (Keeps-trans c.in_ok-unread.ensures.keeps c.in_ok-leave.ensures.keeps))
