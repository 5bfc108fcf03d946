use Rattle.std.proofs.lemmas.Map.Views.{IfSome-lookup}
use Rattle.sc_subst.proofs.Operating.{same_operation, some_made}
use Rattle.sc_subst.proofs.hide_sets.HideSets.find.Goals as goal

pub returns : goal.returns
returns c =
    rw (c.copied.ensures, c.get.ensures.value, ← c.self.view_is)
    (some_made c.args.what _ c.self.invariant.1 (IfSome-lookup same_operation c.args.what c.self.inside.known.entries))
