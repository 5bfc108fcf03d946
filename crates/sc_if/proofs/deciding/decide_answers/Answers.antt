use Rattle.std.proofs.Common.{Bool, false, Ok, Result, get_or}
use Rattle.sc_base.specs.declared.id.Cond.{Cond}
use Rattle.sc_if.proofs.DecidedLemmas.{decided-more, decided-none}
use Rattle.sc_if.proofs.PutLemmas.{same-default}
use Rattle.sc_model.proofs.SetLemmas.{Keeps-refl, Keeps-trans}
use Rattle.sc_model.specs.declared.cause.Cause.{Cause}
use Rattle.sc_if.proofs.deciding.decide_answers.Goals as goal

pub loop-answer-init : goal.loop-answer-init
loop-answer-init g c =
    let old = g.C.Conditions.sets c.args.conds.now in
    record {
      keeps = Keeps-refl old;
      decided = decided-none old c.args.hash (record { taken = c.never.result; faults = c.new.result }) c.new.ensures.items c.never.ensures.meaning;
    }

pub enter-requires-clause-own : goal.enter-requires-clause-own
enter-requires-clause-own g c = c.loop-answer.invariant.keeps.own _ (c.requires c.loop-answer.answer-index (record { 0 = 0 }, Ok false) c.loop-answer-test.true)

pub returns-in_err-enter-clause-keeps : goal.returns-in_err-enter-clause-keeps
returns-in_err-enter-clause-keeps g c = Keeps-trans c.loop-answer.invariant.keeps c.enter.ensures.keeps

pub loop-answer-preserved : goal.loop-answer-preserved
loop-answer-preserved g c =
    let was = c.loop-answer.invariant in
    let xs = c.args.answers.now in
    let i = c.loop-answer.answer-index in
    let none : Cond × Result Bool Cause = (record { 0 = 0 }, Ok false) in
    let within = c.loop-answer-test.true in
    record {
      keeps = Keeps-trans was.keeps c.enter.ensures.keeps;
      decided = decided-more xs i (get_or xs i none) c.loop-answer.decided c.enter.new.self within (same-default xs i none (get_or xs i none) within) was.keeps (c.requires i none within) was.decided c.in_ok-enter.ensures.entered;
    }
