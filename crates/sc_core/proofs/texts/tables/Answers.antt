use Rattle.std.proofs.lemmas.Result.{IfOk-weaker}
use Rattle.sc_core.proofs.texts.tables.Goals as goal

pub returns : goal.returns
returns c =
    let grammar = c.grammar-grammar in
    IfOk-weaker c.build.result _ _ (λ tables are. record {
      states = are.states;
      are = record {
        grammar = grammar.result;
        entries = grammar.ensures.productions;
        terminals = grammar.ensures.terminals;
        nonterminals = grammar.ensures.nonterminals;
        exact = are.exact;
      };
    }) c.build.ensures
