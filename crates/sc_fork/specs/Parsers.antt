-- The parser of the grammar of C11, by the constants of a standard.
use Rattle.std.specs.Prelude.{◌≡◌}
use Rattle.lr_tables.specs.declared.grammar.Grammar.{Grammar}
use Rattle.lr_tables.specs.Grammar.{entries_of}
use Rattle.lr_tables.specs.Tables.{AreTables, Tables}
use Rattle.c11_parsing.specs.C11.{c11_declarators}
use Rattle.c11_parsing.specs.Parser.{Parser}
use Rattle.sc_grammar.specs.C11.{productions}
use Rattle.sc_grammar.specs.declared.TheConstants.{TERMINALS, NONTERMINALS}
use Rattle.sc_kinds.specs.Kinds.{terminal_of}
use Rattle.sc_model.specs.declared.standard.Standard.{Standard}

-- with these tables
abbrev pub c11_parser : Standard → Tables → Parser
c11_parser standard tables = record {
  productions = productions;
  terminals = 96;
  tables = tables;
  terminal_of = λ token. terminal_of standard token.kind token.spelling;
  name = 0;
  typedef_kind = 1;
  variable_kind = 2;
  end = 95;
  declarators = c11_declarators;
}

-- the LALR(1) tables of the grammar of C11
pub record AreC11Tables (tables : Tables) : Type 0 where
  pub grammar : Grammar
  pub entries : grammar.entries.now ≡ entries_of productions
  pub terminals : grammar.terminals ≡ TERMINALS
  pub nonterminals : grammar.nonterminals ≡ NONTERMINALS
  pub exact : AreTables grammar tables

-- the parser of C11, with such tables
pub record IsC11Parser (standard : Standard) (parser : Parser) : Type 0 where
  pub tables : Tables
  pub are_tables : AreC11Tables tables
  pub is : parser ≡ c11_parser standard tables
