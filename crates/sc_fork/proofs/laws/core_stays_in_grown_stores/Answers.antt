use Rattle.sc_fork.proofs.CoreLemmas.{IsCore-Grows}
use Rattle.sc_fork.proofs.OwnLemmas.{OwnsCore-Grows}
use Rattle.sc_fork.proofs.ReduceEvents.{branches-Keeps}
use Rattle.sc_fork.proofs.laws.core_stays_in_grown_stores.Goals as goal

pub returns : goal.returns
returns c = record {
  seen = λ old new lines added names files input core seen keeps longer is. IsCore-Grows old new lines added names files input core seen keeps longer is;
  own = λ old new lines added core keeps longer own. OwnsCore-Grows core keeps longer own;
  branches = branches-Keeps;
}
