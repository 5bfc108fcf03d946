use Rattle.std.proofs.Common.{◌≡◌, ◌++◌, map, Ok}
use Rattle.sc_space.specs.Seen.{seen_variable}
use Rattle.sc_space.specs.Texts.{AreTexts, Texts}
use Rattle.sc_space.specs.SpaceFile.{◌>>=◌, read_variables}
use Rattle.toml.specs.View.{members_view, table_view}
use Rattle.sc_space.proofs.variables.read_variables.Given as goal

abbrev pub invariant-loop-name : goal.invariant-loop-name
invariant-loop-name l =
    (texts : Texts) → AreTexts texts
    → read_variables texts (table_view l.table) ≡ (read_variables texts (members_view l.name-iterator) >>= (λ vs. Ok (map seen_variable l.variables.items ++ vs)))
