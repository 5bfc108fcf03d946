use Rattle.sc_diagram.proofs.store.Store.canonical.Goals as goal

pub returns : goal.returns
returns c = rw (← c.self.view_is) c.canonical.ensures
