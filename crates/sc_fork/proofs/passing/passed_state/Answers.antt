use Rattle.std.proofs.Common.{◌≡◌, Some, drop, refl, sym, ap, ◌∙◌, rules}
use Rattle.lr_tables.specs.declared.grammar.Action.TheVariants.{Reduce}
use Rattle.sc_fork.specs.Seen.{action_in}
use Rattle.sc_fork.proofs.PassLemmas.{if-found, no-mark, one-symbol}
use Rattle.sc_fork.proofs.ReduceEvents.{in-range}
use Rattle.sc_grammar.specs.Production.{production_of}
use Rattle.sc_lalr.specs.Tables.{goto_of}
use Rattle.sc_merge.specs.declared.subparser.Subparser.{Subparser}
use Rattle.sc_stack.specs.Entries.{state_of}
use Rattle.sc_fork.proofs.passing.passed_state.Goals as goal
use Rattle.sc_fork.proofs.passing.passed_state.Goals.{In-Reduce}

acts : (c : In-Reduce) → action_in c.args.source.now c.in-Ok.parent c.in-Ok.at ≡ Some (Reduce c.in-Reduce.rule)
acts c = sym c.in_ok-rule.ensures ∙ ap Some c.in-Reduce.is

pub production-rule-requires-clause-first : goal.production-rule-requires-clause-first
production-rule-requires-clause-first c =
    let own = c.requires.own c.in-Ok.parent c.in-Ok.ensures.ok.has in
    (in-range own.0 own.1.0 c.args.source.now c.in-Ok.parent c.in-Ok.at c.in-Reduce.rule c.requires.source own.1.1 (acts c)).0

pub production-rule-requires-clause-last : goal.production-rule-requires-clause-last
production-rule-requires-clause-last c =
    let own = c.requires.own c.in-Ok.parent c.in-Ok.ensures.ok.has in
    (in-range own.0 own.1.0 c.args.source.now c.in-Ok.parent c.in-Ok.at c.in-Reduce.rule c.requires.source own.1.1 (acts c)).1

pub returns : goal.returns
returns c = if-found c.goto.result (λ state is.
    let own = c.requires.own c.in-Ok.parent c.in-Ok.ensures.ok.has in
    let rule = c.production-rule.result in
    record {
      parent = c.in-Ok.parent;
      at = c.in-Ok.at;
      looks = c.in-Ok.ensures.ok;
      number = c.in-Reduce.rule;
      acts = acts (goal.at.returns c).In-Reduce;
      rule = production_of rule;
      numbered = c.production-rule.ensures;
      one = one-symbol own.0 own.1.0 c.args.source.now c.in-Ok.parent c.in-Ok.at c.in-Reduce.rule rule.right.now (production_of rule) c.requires.source own.1.1
          (acts (goal.at.returns c).In-Reduce) c.production-rule.ensures refl (search (rules, c.if-rule-ne1.false));
      unmarked = no-mark rule.mark (sym c.is_some.ensures ∙ c.if-is_some.false);
      goes = sym (c.goto.ensures ∙ ap (λ k. goto_of c.args.source.now.tables.now k rule.left.0)
          (c.state_below.ensures ∙ ap (λ (p : Subparser). state_of (drop 1 p.stack)) c.parent.view_is)) ∙ is;
    })
