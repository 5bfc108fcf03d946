use Rattle.sc_subst.proofs.RisingLaws.{inserted_rising, inserted_any, filter_rising, filter_has}
use Rattle.sc_subst.proofs.hide_sets.HideSets.names_of.Goals as goal
use Rattle.sc_subst.proofs.hide_sets.HideSets.names_of.Goals.{in-With+in_ok-insert-in-With, in-Meet+in_ok-common-in-Meet, in-Union+in_ok-union-in-Union}

pub returns-clause-rising : goal.returns-clause-rising
returns-clause-rising c = elim c.match-what.branch [
  | in-With+in_ok-insert-in-With w ↦ rw (w.result-is, w.in_ok-insert-in-With.ensures) (inserted_rising _ _ w.set.ensures.rising)
  | in-Meet+in_ok-common-in-Meet w ↦ rw (w.result-is, w.in_ok-common-in-Meet.ensures) (filter_rising _ _ w.set-in-Meet.ensures.rising)
  | in-Union+in_ok-union-in-Union w ↦ rw w.result-is w.in_ok-union-in-Union.ensures.rising
]

pub returns-clause-exact : goal.returns-clause-exact
returns-clause-exact c = elim c.match-what.branch [
  | in-With+in_ok-insert-in-With w ↦ rw (w.in-With.is, w.result-is, w.in_ok-insert-in-With.ensures, ← w.set.ensures.is) (λ test. inserted_any test w.set.result.now w.in-With.name)
  | in-Meet+in_ok-common-in-Meet w ↦ rw (w.in-Meet.is, w.result-is, w.in_ok-common-in-Meet.ensures, ← w.set-in-Meet.ensures.is, ← w.set-in-Meet-2.ensures.is) (filter_has w.set-in-Meet.result.now w.set-in-Meet-2.result.now)
  | in-Union+in_ok-union-in-Union w ↦ rw (w.in-Union.is, w.result-is, ← w.set-in-Union.ensures.is, ← w.set-in-Union-2.ensures.is) w.in_ok-union-in-Union.ensures.exact
]
