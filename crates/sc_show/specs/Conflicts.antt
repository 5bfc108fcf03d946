-- The text of the conflicts of tables.
use Rattle.std.specs.Prelude.{ℕ, ◌<◌, List, [], ◌∷◌, ◌++◌, map, codes}
use Rattle.sc_grammar.specs.declared.TheConstants.{TERMINALS}
use Rattle.sc_grammar.specs.Terminals.{terminal_names}
use Rattle.sc_base.specs.Seen.{text_at}
use Rattle.lr_tables.specs.declared.grammar.Action.{Action}
use Rattle.lr_tables.specs.declared.grammar.Action.TheVariants.{Shift, Reduce}
use Rattle.lr_tables.specs.declared.grammar.Conflict.{Conflict}
use Rattle.sc_text.specs.Text.{numeral, line_text, end_line}

-- the terminal of the conflict has a name
pub record IsNamed (c : Conflict) : Type 0 where
  pub terminal : c.terminal.0 < TERMINALS

-- what was kept: a shift, or the reduction by a production
abbrev pub action_text : Action → List ℕ
action_text (Shift state) = codes "s"
action_text (Reduce production) = codes "r" ++ numeral production

-- a state, a terminal, and what was kept and lost there
abbrev pub conflict_text : Conflict → List ℕ
conflict_text c =
    codes "k " ++ numeral c.state ++ codes " " ++ text_at terminal_names c.terminal.0 ++ codes " " ++ action_text c.kept ++ codes " " ++ action_text (Reduce c.lost) ++ codes "\n"

abbrev pub conflict_pieces : List Conflict → List (List ℕ)
conflict_pieces conflicts = map conflict_text conflicts ++ line_text end_line ∷ []
