use Rattle.std.proofs.Common.{◌≡◌, ◌+◌, ◌&&◌, ◌∙◌, List, All, Ok, ap, refl, subst, sym}
use Rattle.sc_base.specs.declared.fault.Fault.{Fault}
use Rattle.sc_expand.specs.Stops.{HasConfigs}
use Rattle.sc_prep.proofs.Facts.{Denotes-Keeps, Denotes-self, Extends-refl, Extends-trans, IsConfig-kept, Keeps-trans, and_parts}
use Rattle.sc_prep.proofs.SettleMoves.{settled-closes, stage-stored, stays-stage, stored-kept, unheld-now, with-sets}
use Rattle.sc_prep.proofs.SharesLater.{shares-later}
use Rattle.sc_prep.proofs.Terms.{Denotes, IsCond, Walk, has_none}
use Rattle.sc_prep.proofs.walk.Walk.settle_within.Goals as goal

pub without_faults-requires-clause-faults : goal.without_faults-requires-clause-faults
without_faults-requires-clause-faults g c =
    subst (All (λ (f : Fault). IsCond (g.C.Conditions.sets c.args.conds.now) f.cond.0)) (sym c.deref.ensures.value) c.requires.stored.owns.runs.held

pub settle_in-requires : goal.settle_in-requires
settle_in-requires g c =
    let old = g.C.Conditions.sets c.args.conds.now in
    let s1 = g.C.Conditions.sets c.without_faults.new.conds in
    let w = c.args.self.now in
    let stored = c.requires.stored in
    let k2 = c.in_ok-acting.ensures.keeps in
    let keeps = Keeps-trans c.in_ok-live.ensures.keeps k2 in
    let told = subst (λ (fs : List Fault). Denotes s1 c.in_ok-live.live.0 (λ config. old.has w.prepared.live.0 config && has_none old fs config)) c.deref.ensures.value c.in_ok-live.ensures.without in
    let later = Denotes-Keeps k2 told in
    record {
      stored = stored-kept c.args.files.now keeps (Extends-refl c.args.names.now) w (Extends-refl w.runs.sets) stored;
      asked = record { live = unheld-now keeps w stored.owns c.in_ok-live.live.0 later; own = later.own; within = λ config listed has. has; acting = λ config listed has acts. has };
    }

pub settle_in-requires-2 : goal.settle_in-requires-2
settle_in-requires-2 g c =
    let old = g.C.Conditions.sets c.args.conds.now in
    let s1 = g.C.Conditions.sets c.without_faults.new.conds in
    let s3 = g.C.Conditions.sets c.settle_in.new.conds in
    let w = c.args.self.now in
    let v = c.settle_in.new.self in
    let live = c.in_ok-live.live.0 in
    let acting = c.in_ok-acting.acting.0 in
    let stored = c.requires.stored in
    let k1 = c.in_ok-live.ensures.keeps in
    let k3 = c.in_ok-all.ensures.keeps in
    let k23 = Keeps-trans c.in_ok-acting.ensures.keeps k3 in
    let same : v ≡ with-sets w v.runs.sets = (c.in_ok-all.ensures.full (ap Ok c.if-all.false)).0 in
    let told = subst (λ (fs : List Fault). Denotes s1 live (λ config. old.has w.prepared.live.0 config && has_none old fs config)) c.deref.ensures.value c.in_ok-live.ensures.without in
    let later = Denotes-Keeps k23 told in
    let both = Denotes-Keeps k3 (c.in_ok-acting.ensures.meaning (s1.has live) (s1.has w.acting.0) (Denotes-self s1 live told.own) (Denotes-self s1 w.acting.0 (k1.own w.acting.0 stored.owns.acting))) in
    record {
      stored = stage-stored k3 c.in_ok-all.ensures.stays;
      asked = record {
        live = subst (λ (u : Walk). Denotes s3 live (λ config. s3.has u.prepared.live.0 config && has_none s3 u.runs.held.items config)) (sym same) (unheld-now (Keeps-trans k1 k23) w stored.owns live later);
        own = both.own;
        within = λ config listed has. k23.at live config told.own (IsConfig-kept k23 listed) ∙ (and_parts (s1.has live config) (s1.has w.acting.0 config) (sym (both.at config listed) ∙ has)).0;
        acting = λ config listed has acts.
            let was = IsConfig-kept k23 listed in
            let is_live = sym (k23.at live config told.own was) ∙ has in
            let is_acting = sym (k23.at w.acting.0 config (k1.own w.acting.0 stored.owns.acting) was) ∙ (ap (λ (u : Walk). s3.has u.acting.0 config) (sym same) ∙ acts) in
            both.at config listed ∙ (λ i. is_live i && is_acting i);
      };
    }

pub returns-then-all-clause-stays : goal.returns-then-all-clause-stays
returns-then-all-clause-stays g c =
    let w = c.args.self.now in
    let keeps = Keeps-trans c.in_ok-live.ensures.keeps c.in_ok-acting.ensures.keeps in
    settled-closes keeps (stays-stage c.args.files.now keeps (Extends-refl c.args.names.now) w (Extends-refl w.runs.sets) c.requires.stored) c.in_ok-all.ensures.stays

pub returns-then-all-clause-ends : goal.returns-then-all-clause-ends
returns-then-all-clause-ends g c = λ _. (c.in_ok-all.ensures.ends (ap Ok c.if-all.true)).0

pub returns-then-all-clause-early : goal.returns-then-all-clause-early
returns-then-all-clause-early g c = λ _. (c.in_ok-all.ensures.ends (ap Ok c.if-all.true)).1 refl

pub returns-then-all-clause-shares : goal.returns-then-all-clause-shares
returns-then-all-clause-shares g c = λ few.
    let keeps = Keeps-trans c.in_ok-live.ensures.keeps c.in_ok-acting.ensures.keeps in
    shares-later keeps c.args.self.now c.requires.stored (c.in_ok-all.ensures.shares (ap Ok c.if-all.true) refl)

pub returns-clause-stays : goal.returns-clause-stays
returns-clause-stays g c =
    let w = c.args.self.now in
    let keeps = Keeps-trans c.in_ok-live.ensures.keeps c.in_ok-acting.ensures.keeps in
    let first = settled-closes keeps (stays-stage c.args.files.now keeps (Extends-refl c.args.names.now) w (Extends-refl w.runs.sets) c.requires.stored) c.in_ok-all.ensures.stays in
    settled-closes (Keeps-trans keeps c.in_ok-all.ensures.keeps) first c.in_ok-some.ensures.stays

pub returns-clause-ends : goal.returns-clause-ends
returns-clause-ends g c = λ is. (c.in_ok-some.ensures.ends is).0

pub returns-clause-full : goal.returns-clause-full
returns-clause-full g c = λ _. subst (λ arities. HasConfigs arities (c.args.limit + 1)) (Keeps-trans c.in_ok-live.ensures.keeps c.in_ok-acting.ensures.keeps).arities (c.in_ok-all.ensures.full (ap Ok c.if-all.false)).1

pub returns-clause-early : goal.returns-clause-early
returns-clause-early g c = λ few. absurd (few (subst (λ arities. HasConfigs arities (c.args.limit + 1)) (Keeps-trans c.in_ok-live.ensures.keeps c.in_ok-acting.ensures.keeps).arities (c.in_ok-all.ensures.full (ap Ok c.if-all.false)).1))

pub returns-clause-shares : goal.returns-clause-shares
returns-clause-shares g c = λ few. absurd (few (subst (λ arities. HasConfigs arities (c.args.limit + 1)) (Keeps-trans c.in_ok-live.ensures.keeps c.in_ok-acting.ensures.keeps).arities (c.in_ok-all.ensures.full (ap Ok c.if-all.false)).1))

pub returns-then-all-clause-keeps : goal.returns-then-all-clause-keeps
returns-then-all-clause-keeps g c = Keeps-trans c.in_ok-live.ensures.keeps (Keeps-trans c.in_ok-acting.ensures.keeps c.in_ok-all.ensures.keeps)

pub returns-in_err-acting-clause-keeps : goal.returns-in_err-acting-clause-keeps
returns-in_err-acting-clause-keeps g c = Keeps-trans c.in_ok-live.ensures.keeps c.in_err-acting.ensures.keeps

pub returns-in_err-all-clause-keeps : goal.returns-in_err-all-clause-keeps
returns-in_err-all-clause-keeps g c = Keeps-trans c.in_ok-live.ensures.keeps (Keeps-trans c.in_ok-acting.ensures.keeps c.in_err-all.ensures.keeps)

pub returns-in_err-some-clause-keeps : goal.returns-in_err-some-clause-keeps
returns-in_err-some-clause-keeps g c = Keeps-trans c.in_ok-live.ensures.keeps (Keeps-trans c.in_ok-acting.ensures.keeps (Keeps-trans c.in_ok-all.ensures.keeps c.in_err-some.ensures.keeps))

pub returns-clause-keeps : goal.returns-clause-keeps
returns-clause-keeps g c = Keeps-trans c.in_ok-live.ensures.keeps (Keeps-trans c.in_ok-acting.ensures.keeps (Keeps-trans c.in_ok-all.ensures.keeps c.in_ok-some.ensures.keeps))

pub returns-in_err-some-clause-names : goal.returns-in_err-some-clause-names
returns-in_err-some-clause-names g c = Extends-trans c.in_ok-all.ensures.names c.in_err-some.ensures.names

pub returns-clause-names : goal.returns-clause-names
returns-clause-names g c = Extends-trans c.in_ok-all.ensures.names c.in_ok-some.ensures.names
