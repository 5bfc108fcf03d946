use Rattle.std.proofs.Common.{sym}
use Rattle.sc_fork.specs.Enabled.{missing}
use Rattle.sc_fork.proofs.EnabledLemmas.{none_past, none_at, has_at}
use Rattle.sc_fork.proofs.enabled.lent_at.Goals as goal

pub returns-in_default-clause-err : goal.returns-in_default-clause-err
returns-in_default-clause-err c = missing (none_past c.args.rows.now c.args.number c.in_default.ensures.lookup.3)

pub returns-in-Some-lent-clause-ok : goal.returns-in-Some-lent-clause-ok
returns-in-Some-lent-clause-ok c =
    has_at c.args.rows.now c.args.number c.in-Some.row.now c.in-Some-lent.lent c.in-Some.ensures.lookup.3.0 c.in-Some.ensures.lookup.1 (sym c.in-Some-lent.ensures)

pub returns-in-None-clause-err : goal.returns-in-None-clause-err
returns-in-None-clause-err c =
    missing (none_at c.args.rows.now c.args.number c.in-Some.row.now c.in-Some.ensures.lookup.3.0 c.in-Some.ensures.lookup.1 (sym c.in-None.ensures))
