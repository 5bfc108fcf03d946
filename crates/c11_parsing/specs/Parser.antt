-- What a parser of a grammar goes by.
use Rattle.std.specs.Prelude.{ℕ, ◌==◌, ◌||◌, Bool, List, Option}
use Rattle.lr_tables.specs.Grammar.{Production}
use Rattle.lr_tables.specs.Tables.{Tables}
use Rattle.sc_model.specs.Token.{Token}
use Rattle.c11_parsing.specs.Bindings.{Declarators}

-- The productions of the grammar, its tables, which terminal a token is, and how declarators are
-- made. An identifier is the terminal of a name and then one of its kind; the end of the tokens is
-- a terminal too.
pub record Parser : Type 0 where
  pub productions : List Production
  pub terminals : ℕ
  pub tables : Tables
  pub terminal_of : Token → Option ℕ
  pub name : ℕ
  pub typedef_kind : ℕ
  pub variable_kind : ℕ
  pub end : ℕ
  pub declarators : Declarators

-- the terminal is no token's, so it has no tree
abbrev pub is_silent : Parser → ℕ → Bool
is_silent m x = x == m.typedef_kind || x == m.variable_kind || x == m.end
