use Rattle.std.proofs.Common.{refl}
use Rattle.sc_table.proofs.TableLemmas.{Puts-insert}
use Rattle.sc_table.proofs.table.MacroTable.set.Goals as goal

pub returns-clause-ok : goal.returns-clause-ok
returns-clause-ok c = λ s names one is own made named known.
    Puts-insert _ (λ k l. refl) c.args.name c.args.parts c.args.defined one is own made named known c.in_ok-insert.ensures.entries
