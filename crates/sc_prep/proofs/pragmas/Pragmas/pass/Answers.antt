use Rattle.std.proofs.Common.{◌&&◌, not, refl}
use Rattle.sc_prep.proofs.Facts.{Denotes-Keeps, Keeps-trans}
use Rattle.sc_prep.proofs.PragmaMoves.{passes-token, told-back}
use Rattle.sc_prep.proofs.pragmas.Pragmas.pass.Goals as goal

pub returns-clause-passes : goal.returns-clause-passes
returns-clause-passes g c =
    let owns = c.requires.owns in
    let own = c.requires.own in
    let k1 = c.in_ok-opening.ensures.keeps in
    let k2 = c.in_ok-text.ensures.keeps in
    let k3 = c.in_ok-closing.ensures.keeps in
    let k4 = c.in_ok-self.ensures.keeps in
    let k5 = c.in_ok-self-2.ensures.keeps in
    let k12 = Keeps-trans k1 k2 in
    let k23 = Keeps-trans k2 k3 in
    let k34 = Keeps-trans k3 k4 in
    let k45 = Keeps-trans k4 k5 in
    let texts = told-back (λ a b. a && not b) k1 k2 owns.text own c.in_ok-text.ensures.others in
    let named = told-back (λ a b. a && (c.is_text.result && b)) k1 k2 owns.text own c.in_ok-text.ensures.passing in
    let closes = told-back (λ a b. a && not b) k12 k3 owns.closing own c.in_ok-closing.ensures.others in
    let closed = told-back (λ a b. a && (c.is_spelled-2.result && b)) k12 k3 owns.closing own c.in_ok-closing.ensures.passing in
    passes-token c.args.names.now c.args.reading.0 c.args.token owns (Keeps-trans k12 (Keeps-trans k34 k5)) c.is_spelled.result c.is_text.result c.is_spelled-2.result c.is_spelled.ensures c.is_text.ensures c.is_spelled-2.ensures refl refl
    (Denotes-Keeps (Keeps-trans k23 k45) c.in_ok-opening.ensures.others)
    (Denotes-Keeps k5 (c.in_ok-self.ensures.meaning _ _ (Denotes-Keeps k3 texts) (Denotes-Keeps k23 c.in_ok-opening.ensures.passing)))
    (c.in_ok-self-2.ensures.meaning _ _ (Denotes-Keeps k4 closes) (Denotes-Keeps k34 named))
    (Denotes-Keeps k45 closed)
    c.in_ok-leave.ensures.leaves

pub leave-requires-clause-owns : goal.leave-requires-clause-owns
leave-requires-clause-owns g c =
    let k45 = Keeps-trans c.in_ok-self.ensures.keeps c.in_ok-self-2.ensures.keeps in
    let later = Keeps-trans c.in_ok-text.ensures.keeps (Keeps-trans c.in_ok-closing.ensures.keeps k45) in
    let all = Keeps-trans c.in_ok-opening.ensures.keeps later in
    record {
      inside = all.own _ c.requires.owns.inside;
      opening = later.own _ c.in_ok-opening.ensures.others.own;
      text = c.in_ok-self-2.ensures.keeps.own _ c.in_ok-self.ensures.own;
      closing = c.in_ok-self-2.ensures.own;
      faults = λ k d h. all.own _ (c.requires.owns.faults k d h);
    }

pub returns-in_err-closing-clause-keeps : goal.returns-in_err-closing-clause-keeps
returns-in_err-closing-clause-keeps g c = Keeps-trans (Keeps-trans c.in_ok-opening.ensures.keeps c.in_ok-text.ensures.keeps) c.in_err-closing.ensures.keeps

pub returns-in_err-self-clause-keeps : goal.returns-in_err-self-clause-keeps
returns-in_err-self-clause-keeps g c = Keeps-trans (Keeps-trans c.in_ok-opening.ensures.keeps c.in_ok-text.ensures.keeps) (Keeps-trans c.in_ok-closing.ensures.keeps c.in_err-self.ensures.keeps)

pub returns-in_err-self-2-clause-keeps : goal.returns-in_err-self-2-clause-keeps
returns-in_err-self-2-clause-keeps g c =
    Keeps-trans (Keeps-trans c.in_ok-opening.ensures.keeps c.in_ok-text.ensures.keeps) (Keeps-trans c.in_ok-closing.ensures.keeps (Keeps-trans c.in_ok-self.ensures.keeps c.in_err-self-2.ensures.keeps))

pub returns-in_err-leave-clause-keeps : goal.returns-in_err-leave-clause-keeps
returns-in_err-leave-clause-keeps g c =
    Keeps-trans (Keeps-trans c.in_ok-opening.ensures.keeps c.in_ok-text.ensures.keeps)
    (Keeps-trans c.in_ok-closing.ensures.keeps (Keeps-trans c.in_ok-self.ensures.keeps (Keeps-trans c.in_ok-self-2.ensures.keeps c.in_err-leave.ensures.keeps)))

pub returns-clause-keeps : goal.returns-clause-keeps
returns-clause-keeps g c =
    Keeps-trans (Keeps-trans c.in_ok-opening.ensures.keeps c.in_ok-text.ensures.keeps)
    (Keeps-trans c.in_ok-closing.ensures.keeps (Keeps-trans c.in_ok-self.ensures.keeps (Keeps-trans c.in_ok-self-2.ensures.keeps c.in_ok-leave.ensures.keeps)))
