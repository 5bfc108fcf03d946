use Rattle.std.proofs.Common.{take}
use Rattle.sc_if.specs.Decided.{AreDecided}
use Rattle.sc_model.specs.Sets.{Keeps}
use Rattle.sc_if.proofs.deciding.decide_answers.Given as goal

abbrev pub invariant-loop-answer : goal.invariant-loop-answer
invariant-loop-answer g l =
    let old = g.C.Conditions.sets l.fn.conds in
    let now = g.C.Conditions.sets l.conds in
    record {
      keeps : Keeps old now;
      decided : AreDecided old now l.hash (take l.answer-index l.answers) l.decided;
    }
