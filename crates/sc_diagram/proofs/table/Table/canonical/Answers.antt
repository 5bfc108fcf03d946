use Rattle.std.proofs.Common.{subst}
use Rattle.sc_diagram.specs.Diagram.{IsDiagram}
use Rattle.sc_diagram.proofs.DiagramLemmas.{IsCanonical-IsDiagram}
use Rattle.sc_diagram.proofs.table.Table.canonical.Goals as goal

pub returns : goal.returns
returns c = IsCanonical-IsDiagram (subst IsDiagram c.self.view_is c.self.invariant)
