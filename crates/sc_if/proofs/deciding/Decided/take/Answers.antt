use Rattle.std.proofs.Common.{refl}
use Rattle.sc_if.proofs.EnteringLemmas.{entered-taken}
use Rattle.sc_model.proofs.SetLemmas.{Denotes-self}
use Rattle.sc_if.proofs.deciding.Decided.take.Goals as goal

pub returns-clause-entered : goal.returns-clause-entered
returns-clause-entered g c = λ hash.
    let s = g.C.Conditions.sets c.args.conds.now in
    let d = c.args.self.now in
    entered-taken s (g.C.Conditions.sets c.apply_or.new.self) hash c.args.cond d (record d { taken = c.in_ok-self.field-0 }) c.apply_or.ensures.keeps refl
    (c.in_ok-self.ensures.meaning _ _ (Denotes-self s d.taken.0 c.requires.taken) (Denotes-self s c.args.cond.0 c.requires.own))
