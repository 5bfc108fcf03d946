use Rattle.sc_expand.proofs.PhaseStops.{IsBetweenTurns}
use Rattle.sc_expand.proofs.PlainTables.{entry_names, within-table}
use Rattle.sc_expand.proofs.RunLemmas.{steps_in}
use Rattle.sc_expand.proofs.Terms.{macros_at, stores}
use Rattle.sc_expand.proofs.expansion.Expansion.run.Given as goal

abbrev pub invariant-loop-self : goal.invariant-loop-self
invariant-loop-self g l = IsBetweenTurns l.files (macros_at (g.C.Conditions.sets l.initial.conds) l.initial.names l.table)
    (stores (g.C.Conditions.sets l.initial.conds) l.initial.names l.initial.self.sets) (stores (g.C.Conditions.sets l.conds) l.names l.self.sets) l.initial.self l.self

abbrev pub decreases-loop-self : goal.decreases-loop-self
decreases-loop-self g l =
    steps_in (g.C.Conditions.sets l.initial.conds).arities l.files (macros_at (g.C.Conditions.sets l.initial.conds) l.initial.names l.table) (entry_names l.initial.names l.table.entries.entries)
    (within-table (g.C.Conditions.sets l.initial.conds) l.initial.names l.table) (stores (g.C.Conditions.sets l.conds) l.names l.self.sets) l.self
