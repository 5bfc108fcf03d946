use Rattle.std.proofs.Common.{List, All, subst, sym}
use Rattle.sc_base.specs.declared.fault.Fault.{Fault}
use Rattle.sc_prep.proofs.EndMoves.{ends-runs, taken-held, taken-list, taken-own}
use Rattle.sc_prep.proofs.Facts.{All-append, Keeps-trans}
use Rattle.sc_prep.proofs.PragmaMoves.{owns-pragmas}
use Rattle.sc_prep.proofs.SharesEnded.{ended-shares}
use Rattle.sc_prep.proofs.Terms.{IsCond, RefusesEach, Walk}
use Rattle.sc_prep.specs.Pragmas.{OwnsPragmas}
use Rattle.sc_prep.proofs.walk.Walk.end_runs.Goals as goal

pub returns-clause-ends : goal.returns-clause-ends
returns-clause-ends g c =
    let sets = g.C.Conditions.sets in
    let between = c.take_ended.new.self in
    let refuses = subst (λ (fs : List Fault). RefusesEach (sets c.finish.new.conds) (record between { runs = record between.runs { pragmas = c.finish.new.self }; prepared = record between.prepared { list = c.finish.new.list } }) fs
    (sets c.refuse_each.new.conds) c.refuse_each.new.self) c.deref.ensures.value c.in_ok-refuse_each.ensures.refuses in
    ends-runs c.in_ok-ended.ensures.keeps c.in_ok-finish.ensures.keeps c.in_ok-refuse_each.ensures.keeps c.requires.owns.acting c.requires.owns.prepared.live c.in_ok-ended.ensures.takes
    c.in_ok-finish.ensures.ends refuses

pub returns-clause-shares : goal.returns-clause-shares
returns-clause-shares g c = λ files stored settled. ended-shares files c.args.names.now c.args.self.now c.refuse_each.new.self stored settled (returns-clause-ends g c)

pub finish-requires : goal.finish-requires
finish-requires g c =
    let takes = c.in_ok-ended.ensures.takes in
    let keeps = c.in_ok-ended.ensures.keeps in
    record {
      owns = subst (λ (w : Walk). OwnsPragmas (g.C.Conditions.sets c.take_ended.new.conds) w.runs.pragmas) (sym takes.same) (owns-pragmas keeps c.requires.owns.runs.pragmas);
      own = taken-list takes;
      acting = keeps.own _ c.requires.owns.acting;
      held = taken-held takes c.args.names.now (λ k d h. (c.requires.held k d h).token);
      faults = taken-own takes;
    }

pub refuse_each-requires : goal.refuse_each-requires
refuse_each-requires g c =
    let keeps = Keeps-trans c.in_ok-ended.ensures.keeps c.in_ok-finish.ensures.keeps in
    let takes = c.in_ok-ended.ensures.takes in
    let ends = c.in_ok-finish.ensures.ends in
    let F : Fault → Type 0 = λ f. IsCond (g.C.Conditions.sets c.finish.new.conds) f.cond.0 in
    let own = subst (All F) (sym ends.is) (All-append F c.in_ok-ended.ended.faults.items ends.unread (λ k d h. c.in_ok-finish.ensures.keeps.own _ (taken-own takes k d h)) ends.faults_own) in
    record {
      live = subst (λ (w : Walk). IsCond (g.C.Conditions.sets c.finish.new.conds) w.prepared.live.0) (sym takes.same) (keeps.own _ c.requires.owns.prepared.live);
      acting = subst (λ (w : Walk). IsCond (g.C.Conditions.sets c.finish.new.conds) w.acting.0) (sym takes.same) (keeps.own _ c.requires.owns.acting);
      faults = subst (All F) (sym c.deref.ensures.value) own;
    }

pub returns-in_err-finish-clause-keeps : goal.returns-in_err-finish-clause-keeps
returns-in_err-finish-clause-keeps g c = Keeps-trans c.in_ok-ended.ensures.keeps c.in_err-finish.ensures.keeps

pub returns-in_err-refuse_each-clause-keeps : goal.returns-in_err-refuse_each-clause-keeps
returns-in_err-refuse_each-clause-keeps g c = Keeps-trans c.in_ok-ended.ensures.keeps (Keeps-trans c.in_ok-finish.ensures.keeps c.in_err-refuse_each.ensures.keeps)

pub returns-clause-keeps : goal.returns-clause-keeps
returns-clause-keeps g c = Keeps-trans c.in_ok-ended.ensures.keeps (Keeps-trans c.in_ok-finish.ensures.keeps c.in_ok-refuse_each.ensures.keeps)
