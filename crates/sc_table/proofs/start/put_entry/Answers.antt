use Rattle.std.proofs.Common.{refl}
use Rattle.sc_table.proofs.Starting.{started-insert}
use Rattle.sc_table.proofs.start.put_entry.Goals as goal

pub returns : goal.returns
returns c = λ names arities macros says one own started entry.
    started-insert _ (λ k l. refl) names arities macros says c.args.table.now (record { entries = c.insert.new.self }) c.args.name c.args.entry one own started entry c.in_ok-insert.ensures.entries
