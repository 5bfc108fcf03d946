use Rattle.std.proofs.Common.{◌∙◌}
use Rattle.sc_table.proofs.Growth.{IsTable-Extends, IsTable-Keeps, macros_at-Extends, macros_at-Keeps}
use Rattle.sc_table.proofs.laws.tables_keep_their_meaning.Goals as goal

pub returns-clause-table : goal.returns-clause-table
returns-clause-table g = λ old new names more table keeps grows is. IsTable-Extends grows (IsTable-Keeps keeps is)

pub returns-clause-still : goal.returns-clause-still
returns-clause-still g = λ old new names more table keeps grows is config text listed.
    macros_at-Extends grows (IsTable-Keeps keeps is) config text ∙ macros_at-Keeps {names = names} keeps is config text listed
