use Rattle.tests_parser.proofs.ParseLemmas.{c11-tables}
use Rattle.tests_parser.proofs.parse.c11_tables.Goals as goal

pub returns : goal.returns
returns c = c11-tables c.grammar-grammar.result c.build.result c.build.ensures c.grammar-grammar.ensures.productions c.grammar-grammar.ensures.terminals c.grammar-grammar.ensures.nonterminals
