use Rattle.sc_model.proofs.SetLemmas.{Denotes-Keeps}
use Rattle.sc_table.proofs.change.with_free.Goals as goal

pub returns-clause-meaning : goal.returns-clause-meaning
returns-clause-meaning g c = λ f live others mine_is live_is others_is.
    c.in_ok-whole.ensures.meaning _ _ (Denotes-Keeps c.apply_without.ensures.keeps mine_is) (c.in_ok-taken.ensures.meaning _ _ live_is others_is)
