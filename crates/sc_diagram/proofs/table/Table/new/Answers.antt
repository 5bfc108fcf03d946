use Rattle.sc_diagram.proofs.TableLemmas.{IsDiagram-first, nodes_at_first}
use Rattle.sc_diagram.proofs.table.Table.new.Goals as goal

pub invariant_of-result : goal.invariant_of-result
invariant_of-result c =
    rw c.in_ok-from_slice.ensures.items
    (IsDiagram-first _ _ _ c.requires (rw c.new-nodes.ensures at c.in_ok-insert.ensures.interns) c.in_ok-insert-2.ensures.interns)

pub returns-clause-nodes : goal.returns-clause-nodes
returns-clause-nodes c = nodes_at_first c.args.arities.now _ _ (rw c.new-nodes.ensures at c.in_ok-insert.ensures.interns) c.in_ok-insert-2.ensures.interns

pub returns-clause-valid : goal.returns-clause-valid
returns-clause-valid c = invariant_of-result c
