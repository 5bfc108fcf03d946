use Rattle.std.proofs.Common.{◌&&◌, ◌∙◌, ◌++◌, not, List, All, ap, refl, subst, sym}
use Rattle.sc_base.specs.declared.fault.Fault.{Fault}
use Rattle.sc_prep.proofs.Facts.{Denotes-Keeps, Denotes-self, IsConfig-Keeps, Keeps-trans}
use Rattle.sc_prep.proofs.PragmaMoves.{owns-pragmas}
use Rattle.sc_prep.proofs.RunLemmas.{within-as, within-later}
use Rattle.sc_prep.proofs.Terms.{Denotes, IsCond, has_none}
use Rattle.sc_prep.proofs.walk.Walk.keep_settled.Goals as goal

pub without_faults-requires-clause-faults : goal.without_faults-requires-clause-faults
without_faults-requires-clause-faults g c = subst (All (λ (f : Fault). IsCond (g.C.Conditions.sets c.args.conds.now) f.cond.0)) (sym c.deref.ensures.value) c.requires.settled.faults

pub within-requires-clause-own : goal.within-requires-clause-own
within-requires-clause-own g c = λ k d h. (Keeps-trans c.in_ok-free.ensures.keeps c.in_ok-others.ensures.keeps).own _ (c.requires.own k d h)

pub put_outside-requires : goal.put_outside-requires
put_outside-requires g c =
    let later = Keeps-trans c.in_ok-others.ensures.keeps c.in_ok-left.ensures.keeps in
    let all = Keeps-trans c.in_ok-free.ensures.keeps later in
    record {
      owns = owns-pragmas all c.requires.pragmas;
      own = λ k d h. all.own _ (c.requires.settled.done k d h);
      by = later.own _ c.in_ok-free.ensures.without.own;
      held = c.requires.settled.held;
    }

pub returns-clause-puts : goal.returns-clause-puts
returns-clause-puts g c =
    let old = g.C.Conditions.sets c.args.conds.now in
    let s1 = g.C.Conditions.sets c.without_faults.new.conds in
    let s2 = g.C.Conditions.sets c.apply_without.new.self in
    let live = c.args.live.0 in
    let asked = c.args.asked.0 in
    let k1 = c.in_ok-free.ensures.keeps in
    let k2 = c.in_ok-others.ensures.keeps in
    let k3 = c.in_ok-left.ensures.keeps in
    let k12 = Keeps-trans k1 k2 in
    let free = subst (λ (fs : List Fault). Denotes s1 c.in_ok-free.free.0 (λ config. old.has asked config && has_none old fs config)) c.deref.ensures.value c.in_ok-free.ensures.without in
    let others = c.in_ok-others.ensures.meaning _ _ (Denotes-Keeps k1 (Denotes-self old live c.requires.live))
    (Denotes-Keeps k1 (Denotes-self old asked c.requires.asked)) in
    record {
      same = refl;
      middle = g.C.Conditions.sets c.within.new.conds;
      until = Keeps-trans k12 k3;
      later = c.in_ok-put_outside.ensures.keeps;
      free = c.in_ok-free.free.0;
      left = c.in_ok-left.left;
      gathered = c.in_ok-append.ensures;
      held = c.in_ok-hold.ensures ∙ ap (λ (fs : List Fault). c.args.self.now.runs.held.items ++ fs) c.deref-2.ensures.value;
      is_free = Denotes-Keeps (Keeps-trans k2 k3) free;
      puts = c.in_ok-put_outside.ensures.puts;
      stays = within-later (Keeps-trans k12 k3) c.in_ok-put_outside.ensures.keeps (within-as (s2.has c.in_ok-others.others.0) (λ config. old.has live config && not (old.has asked config)) k12 c.requires.own
          (λ config listed. others.at config (IsConfig-Keeps k12 listed)) c.in_ok-left.ensures.within);
    }

pub returns-in_err-others-clause-keeps : goal.returns-in_err-others-clause-keeps
returns-in_err-others-clause-keeps g c = Keeps-trans c.in_ok-free.ensures.keeps c.in_err-others.ensures.keeps

pub returns-in_err-left-clause-keeps : goal.returns-in_err-left-clause-keeps
returns-in_err-left-clause-keeps g c = Keeps-trans c.in_ok-free.ensures.keeps (Keeps-trans c.in_ok-others.ensures.keeps c.in_err-left.ensures.keeps)

pub returns-in_err-put_outside-clause-keeps : goal.returns-in_err-put_outside-clause-keeps
returns-in_err-put_outside-clause-keeps g c = Keeps-trans c.in_ok-free.ensures.keeps (Keeps-trans c.in_ok-others.ensures.keeps (Keeps-trans c.in_ok-left.ensures.keeps c.in_err-put_outside.ensures.keeps))

pub returns-in_err-hold-clause-keeps : goal.returns-in_err-hold-clause-keeps
returns-in_err-hold-clause-keeps g c = Keeps-trans c.in_ok-free.ensures.keeps (Keeps-trans c.in_ok-others.ensures.keeps (Keeps-trans c.in_ok-left.ensures.keeps c.in_ok-put_outside.ensures.keeps))

pub returns-in_err-append-clause-keeps : goal.returns-in_err-append-clause-keeps
returns-in_err-append-clause-keeps g c = Keeps-trans c.in_ok-free.ensures.keeps (Keeps-trans c.in_ok-others.ensures.keeps (Keeps-trans c.in_ok-left.ensures.keeps c.in_ok-put_outside.ensures.keeps))

pub returns-clause-keeps : goal.returns-clause-keeps
returns-clause-keeps g c = Keeps-trans c.in_ok-free.ensures.keeps (Keeps-trans c.in_ok-others.ensures.keeps (Keeps-trans c.in_ok-left.ensures.keeps c.in_ok-put_outside.ensures.keeps))
