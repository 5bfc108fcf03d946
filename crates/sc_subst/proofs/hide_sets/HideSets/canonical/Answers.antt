use Rattle.sc_subst.proofs.Store.{IsCanonical-IsStore}
use Rattle.sc_subst.proofs.hide_sets.HideSets.canonical.Goals as goal

pub returns : goal.returns
returns c = rw (← c.self.view_is) (IsCanonical-IsStore _ c.self.invariant.0)
