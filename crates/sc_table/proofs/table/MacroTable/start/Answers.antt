use Rattle.std.proofs.Common.{◌∙◌, List, map, length, ap, sym}
use Rattle.sc_space.specs.Seen.{seen_variable}
use Rattle.sc_space.specs.declared.space.Variable.{Variable}
use Rattle.sc_table.proofs.table.MacroTable.start.Goals as goal

pub returns-clause-table : goal.returns-clause-table
returns-clause-table c = λ s same.
    (c.in_ok-add_predefined.ensures.added _ _ c.in_ok-add_variables.ensures.started).sound s
    (same ∙ ap (λ (vs : List Variable). map (λ v. length v.options) (map seen_variable vs)) (sym c.as_slice.ensures.value))
