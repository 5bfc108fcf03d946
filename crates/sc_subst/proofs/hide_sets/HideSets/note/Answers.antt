use Rattle.sc_subst.proofs.Operating.{AreMade-noted}
use Rattle.sc_subst.proofs.hide_sets.HideSets.note.Goals as goal

pub invariant_of-self : goal.invariant_of-self
invariant_of-self c = (
  c.self.invariant.0,
  AreMade-noted c.insert.result c.self.invariant.1 (rw c.self.view_is c.requires) c.insert.ensures.entries c.insert.ensures.err,
)
