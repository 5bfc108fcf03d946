use Rattle.std.proofs.Common.{◌++◌, ◌∙◌, not, List, All, ap, refl, subst, sym}
use Rattle.sc_base.specs.declared.fault.Fault.{Fault}
use Rattle.sc_guarded.specs.declared.expanded.Expanded.{Expanded}
use Rattle.sc_prep.proofs.EndMoves.{within-told}
use Rattle.sc_prep.proofs.Facts.{Denotes-Keeps, Denotes-self, IsConfig-Keeps, Keeps-refl, Keeps-trans}
use Rattle.sc_prep.proofs.ReadMoves.{ends-between}
use Rattle.sc_prep.proofs.RunLemmas.{closed-later, items-own}
use Rattle.sc_prep.proofs.Terms.{IsCond, IsWithin, OpenRuns, fault_items}
use Rattle.sc_prep.specs.Settles.{TakesEnded}
use Rattle.sc_prep.proofs.walk.Walk.take_ended.Goals as goal

pub returns-clause-takes : goal.returns-clause-takes
returns-clause-takes g c =
    let sets = g.C.Conditions.sets in
    let old = sets c.args.conds.now in
    let w = c.args.self.now in
    let owns = c.requires in
    let k1 = c.in_ok-ended.ensures.keeps in
    let k2 = Keeps-trans k1 c.in_ok-others.ensures.keeps in
    let k3 = Keeps-trans k2 c.in_ok-gathered.ensures.keeps in
    let k4 = Keeps-trans k3 c.in_ok-holding.ensures.keeps in
    let k5 = Keeps-trans k4 c.in_ok-held.ensures.keeps in
    let l4 = Keeps-trans c.in_ok-held.ensures.keeps c.in_ok-end.ensures.keeps in
    let l3 = Keeps-trans c.in_ok-holding.ensures.keeps l4 in
    let held_own = items-own old w.runs.held.items owns.runs.held in
    let others = c.in_ok-others.ensures.meaning (old.has w.acting.0) (Denotes-Keeps k1 (Denotes-self old w.acting.0 owns.acting)) in
    let others_then = Denotes-Keeps (Keeps-trans c.in_ok-gathered.ensures.keeps c.in_ok-holding.ensures.keeps) others in
    let holding = subst (λ (fs : List Fault). IsWithin (sets c.within.new.conds) (fault_items fs) ((sets c.within.new.conds).has w.acting.0) (sets c.faults_within.new.conds) (fault_items c.in_ok-holding.holding.items)) c.deref.ensures.value c.in_ok-holding.ensures.within in
    let held = subst (λ (fs : List Fault). IsWithin (sets c.faults_within.new.conds) (fault_items fs) ((sets c.faults_within.new.conds).has c.in_ok-others.others.0) (sets c.faults_within-2.new.conds) (fault_items c.in_ok-held.held.items)) c.deref-2.ensures.value c.in_ok-held.ensures.within in
    let taken : Expanded = record c.in_ok-ended.ended { faults = c.hold.new.held } in
    subst (λ (r : OpenRuns). TakesEnded old w (sets c.end.new.conds) (record w { runs = r }) taken) (sym c.in_ok-end.ensures.same) (record {
      e = c.in_ok-ended.ended;
      closed = closed-later k1 (Keeps-trans c.in_ok-others.ensures.keeps (Keeps-trans c.in_ok-gathered.ensures.keeps l3)) c.in_ok-ended.ensures.closed;
      ended = c.in_ok-holding.holding.items;
      ends = within-told (old.has w.acting.0) k3 c.in_ok-holding.ensures.keeps l4 held_own (λ config listed. k3.at w.acting.0 config owns.acting listed) holding;
      list = refl;
      faults = c.in_ok-hold.ensures ∙ ap (λ (fs : List Fault). c.in_ok-ended.ended.faults.items ++ fs) c.deref-3.ensures.value;
      same = refl;
      gathered = within-told (λ config. not (old.has w.acting.0 config)) k2 c.in_ok-gathered.ensures.keeps l3 owns.runs.gathered (λ config listed. others.at config (IsConfig-Keeps k2 listed)) c.in_ok-gathered.ensures.within;
      held = within-told (λ config. not (old.has w.acting.0 config)) k4 c.in_ok-held.ensures.keeps c.in_ok-end.ensures.keeps held_own (λ config listed. others_then.at config (IsConfig-Keeps k4 listed)) held;
      read = ends-between k5 c.in_ok-end.ensures.keeps (Keeps-refl (sets c.end.new.conds)) owns.runs.read owns.acting owns.prepared.live c.in_ok-end.ensures.ends;
    })

pub within-requires-clause-own : goal.within-requires-clause-own
within-requires-clause-own g c = λ k d h. (Keeps-trans c.in_ok-ended.ensures.keeps c.in_ok-others.ensures.keeps).own _ (c.requires.runs.gathered k d h)

pub faults_within-requires-clause-own : goal.faults_within-requires-clause-own
faults_within-requires-clause-own g c =
    let keeps = Keeps-trans c.in_ok-ended.ensures.keeps (Keeps-trans c.in_ok-others.ensures.keeps c.in_ok-gathered.ensures.keeps) in
    subst (All (λ (f : Fault). IsCond (g.C.Conditions.sets c.within.new.conds) f.cond.0)) (sym c.deref.ensures.value) (λ k d h. keeps.own _ (c.requires.runs.held k d h))

pub faults_within-requires-clause-by_own : goal.faults_within-requires-clause-by_own
faults_within-requires-clause-by_own g c =
    (Keeps-trans c.in_ok-ended.ensures.keeps (Keeps-trans c.in_ok-others.ensures.keeps c.in_ok-gathered.ensures.keeps)).own _ c.requires.acting

pub faults_within-requires-2-clause-own : goal.faults_within-requires-2-clause-own
faults_within-requires-2-clause-own g c =
    let keeps = Keeps-trans c.in_ok-ended.ensures.keeps (Keeps-trans c.in_ok-others.ensures.keeps (Keeps-trans c.in_ok-gathered.ensures.keeps c.in_ok-holding.ensures.keeps)) in
    subst (All (λ (f : Fault). IsCond (g.C.Conditions.sets c.faults_within.new.conds) f.cond.0)) (sym c.deref-2.ensures.value) (λ k d h. keeps.own _ (c.requires.runs.held k d h))

pub end-requires : goal.end-requires
end-requires g c =
    let keeps = Keeps-trans c.in_ok-ended.ensures.keeps (Keeps-trans c.in_ok-others.ensures.keeps (Keeps-trans c.in_ok-gathered.ensures.keeps (Keeps-trans c.in_ok-holding.ensures.keeps c.in_ok-held.ensures.keeps))) in
    record { own = λ k d h. keeps.own _ (c.requires.runs.read k d h); acting = keeps.own _ c.requires.acting; live = keeps.own _ c.requires.prepared.live }

pub returns-in_err-others-clause-keeps : goal.returns-in_err-others-clause-keeps
returns-in_err-others-clause-keeps g c = Keeps-trans c.in_ok-ended.ensures.keeps c.in_err-others.ensures.keeps

pub returns-in_err-gathered-clause-keeps : goal.returns-in_err-gathered-clause-keeps
returns-in_err-gathered-clause-keeps g c = Keeps-trans c.in_ok-ended.ensures.keeps (Keeps-trans c.in_ok-others.ensures.keeps c.in_err-gathered.ensures.keeps)

pub returns-in_err-holding-clause-keeps : goal.returns-in_err-holding-clause-keeps
returns-in_err-holding-clause-keeps g c = Keeps-trans c.in_ok-ended.ensures.keeps (Keeps-trans c.in_ok-others.ensures.keeps (Keeps-trans c.in_ok-gathered.ensures.keeps c.in_err-holding.ensures.keeps))

pub returns-in_err-held-clause-keeps : goal.returns-in_err-held-clause-keeps
returns-in_err-held-clause-keeps g c =
    Keeps-trans c.in_ok-ended.ensures.keeps (Keeps-trans c.in_ok-others.ensures.keeps (Keeps-trans c.in_ok-gathered.ensures.keeps (Keeps-trans c.in_ok-holding.ensures.keeps c.in_err-held.ensures.keeps)))

pub returns-in_err-end-clause-keeps : goal.returns-in_err-end-clause-keeps
returns-in_err-end-clause-keeps g c =
    Keeps-trans c.in_ok-ended.ensures.keeps (Keeps-trans c.in_ok-others.ensures.keeps (Keeps-trans c.in_ok-gathered.ensures.keeps (Keeps-trans c.in_ok-holding.ensures.keeps
    (Keeps-trans c.in_ok-held.ensures.keeps c.in_err-end.ensures.keeps))))

pub returns-in_err-hold-clause-keeps : goal.returns-in_err-hold-clause-keeps
returns-in_err-hold-clause-keeps g c =
    Keeps-trans c.in_ok-ended.ensures.keeps (Keeps-trans c.in_ok-others.ensures.keeps (Keeps-trans c.in_ok-gathered.ensures.keeps (Keeps-trans c.in_ok-holding.ensures.keeps
    (Keeps-trans c.in_ok-held.ensures.keeps c.in_ok-end.ensures.keeps))))

pub returns-clause-keeps : goal.returns-clause-keeps
returns-clause-keeps g c =
    Keeps-trans c.in_ok-ended.ensures.keeps (Keeps-trans c.in_ok-others.ensures.keeps (Keeps-trans c.in_ok-gathered.ensures.keeps (Keeps-trans c.in_ok-holding.ensures.keeps
    (Keeps-trans c.in_ok-held.ensures.keeps c.in_ok-end.ensures.keeps))))
