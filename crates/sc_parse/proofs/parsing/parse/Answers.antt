use Rattle.std.proofs.Common.{List, length, sym, ap, ◌∙◌, subst}
use Rattle.std.proofs.lemmas.Result.{err_from_is_err_and}
use Rattle.sc_base.specs.declared.id.Cond.{Cond}
use Rattle.sc_base.specs.declared.token.Token.{Token}
use Rattle.sc_fork.specs.Choices.{AddsLeaves}
use Rattle.sc_fork.proofs.ChoiceLemmas.{leaves-then}
use Rattle.sc_fork.proofs.OutcomeLemmas.{sound-same}
use Rattle.sc_merge.specs.Merges.{tables_with}
use Rattle.sc_model.proofs.SetLemmas.{Keeps-trans}
use Rattle.sc_parse.proofs.EventLemmas.{run-stands-seen}
use Rattle.sc_parse.proofs.ResultLemmas.{IsStarted, begins, has-begun, is-c11, own-parsed, parsed, run-over, schedule}
use Rattle.sc_parse.proofs.parsing.parse.Given as given
use Rattle.sc_parse.proofs.parsing.parse.Goals as goal
use Rattle.sc_parse.proofs.parsing.parse.Goals.{After-len}

started : (g : given.Over) (c : After-len g)
    → IsStarted (g.C.Conditions.sets c.args.conds.now) (g.C.Conditions.sets c.start.new.conds) c.args.names.now c.args.list.now c.args.tables.now c.args.standard c.args.end c.args.live (record { core = c.in_ok-core.core; events = c.new.result })
started g c = record {
  list_is = c.in_ok-core.ensures.list;
  tables_is = c.in_ok-core.ensures.tables;
  end_is = c.in_ok-core.ensures.end;
  terminals = c.in_ok-core.ensures.terminals;
  start = λ lines files. c.in_ok-core.ensures.start lines files;
  first = c.in_ok-core.ensures.first;
  ended = c.in_ok-core.ensures.ended;
  events = c.new.ensures.items;
  keeps = c.in_ok-core.ensures.keeps;
  own_live = c.requires.live;
  own = c.requires.items;
  held = c.requires.held;
  apart = c.one_to_one.ensures;
}

pub run_to_end-requires-clause-own : goal.run_to_end-requires-clause-own
run_to_end-requires-clause-own g c = record { core = c.in_ok-core.ensures.own (length c.args.trees.now); usable = c.in_ok-core.ensures.usable }

pub run_to_end-requires-clause-begun : goal.run_to_end-requires-clause-begun
run_to_end-requires-clause-begun g c = has-begun _ _ _ _ _ _ _ _ _ (started g c)

pub returns-in_err-classes-clause-stops : goal.returns-in_err-classes-clause-stops
returns-in_err-classes-clause-stops g c =
    let p = err_from_is_err_and c.from_residual-in_err-classes.result c.from_residual-in_err-classes.ensures.1 in
    rw (p.1, p.2) (λ files input of.
    let begun = begins _ _ _ _ _ _ _ _ _ (started g (goal.at.returns-in_err-classes-clause-stops g c).After-len) c.args.trees.now files input of in
    c.in_err-classes.ensures.stops c.args.names.now files input begun.0 begun.1)

pub returns-in_err-classes-clause-keeps : goal.returns-in_err-classes-clause-keeps
returns-in_err-classes-clause-keeps g c = Keeps-trans c.in_ok-core.ensures.keeps c.run_to_end.ensures.keeps

pub returns-in_err-outcome-clause-keeps : goal.returns-in_err-outcome-clause-keeps
returns-in_err-outcome-clause-keeps g c = Keeps-trans c.in_ok-core.ensures.keeps (Keeps-trans c.run_to_end.ensures.keeps c.result.ensures.keeps)

pub returns-clause-parse : goal.returns-clause-parse
returns-clause-parse g c = λ files input of.
    let s = g.C.Conditions.sets in
    let names = c.args.names.now in
    let w = tables_with (s c.run_to_end.new.conds) c.run_to_end.new.trees names files in
    let v = tables_with (s c.result.new.conds) c.result.new.trees names files in
    let steps = c.run_to_end.new.steps in
    let begun = begins _ _ _ _ _ _ _ _ _ (started g (goal.at.returns-clause-parse g c).After-len) c.args.trees.now files input of in
    let run = c.in_ok-classes.ensures.goes_on.run names files input begun.0 begun.1 in
    let stands = run-stands-seen w input begun.0 steps run in
    parsed input run.last (run-over w input begun.0 steps run c.in_ok-classes.ensures.done) stands v c.in_ok-outcome.outcome c.in_ok-classes.classes steps.events
    (of.arities ∙ sym (Keeps-trans c.in_ok-core.ensures.keeps (Keeps-trans c.run_to_end.ensures.keeps c.in_ok-outcome.ensures.keeps)).arities) (is-c11 _ _ _ _ _ _ input c.requires.tables of)
    (c.in_ok-outcome.ensures.outcome names files input run.last run.is stands) (c.in_ok-classes.ensures.classes names files input begun.0 begun.1)

pub returns-clause-schedule : goal.returns-clause-schedule
returns-clause-schedule g c = λ files input of.
    let names = c.args.names.now in
    let w = tables_with (g.C.Conditions.sets c.run_to_end.new.conds) c.run_to_end.new.trees names files in
    let begun = begins _ _ _ _ _ _ _ _ _ (started g (goal.at.returns-clause-schedule g c).After-len) c.args.trees.now files input of in
    let run = c.in_ok-classes.ensures.goes_on.run names files input begun.0 begun.1 in
    schedule w input begun.0 c.run_to_end.new.steps run c.in_ok-classes.ensures.done
    (c.in_ok-classes.ensures.places names files input begun.0 begun.1)

pub returns-clause-own : goal.returns-clause-own
returns-clause-own g c =
    let source = c.in_ok-classes.ensures.goes_on.source in
    own-parsed (g.C.Conditions.sets c.result.new.conds) (length c.result.new.trees) c.run_to_end.new.steps.core.source c.args.list.now c.args.end c.in_ok-outcome.outcome
    c.in_ok-classes.classes c.run_to_end.new.steps.events (ap (λ x. x.list.now) source ∙ c.in_ok-core.ensures.list) (ap (λ x. x.end) source ∙ c.in_ok-core.ensures.end) c.in_ok-outcome.ensures.own

pub returns-clause-leaves : goal.returns-clause-leaves
returns-clause-leaves g c =
    let goes = c.in_ok-classes.ensures.goes_on in
    let list = c.in_ok-core.ensures.list in
    leaves-then c.args.list.now c.args.trees.now c.run_to_end.new.trees c.result.new.trees
    (subst (λ (xs : List (Cond × Token)). AddsLeaves xs c.args.trees.now c.run_to_end.new.trees) list goes.leaves)
    (subst (λ (xs : List (Cond × Token)). AddsLeaves xs c.run_to_end.new.trees c.result.new.trees) (ap (λ x. x.list.now) goes.source ∙ list) c.in_ok-outcome.ensures.leaves)

pub returns-clause-choices : goal.returns-clause-choices
returns-clause-choices g c = λ files input of sound.
    let names = c.args.names.now in
    let w = tables_with (g.C.Conditions.sets c.run_to_end.new.conds) c.run_to_end.new.trees names files in
    let begun = begins _ _ _ _ _ _ _ _ _ (started g (goal.at.returns-clause-choices g c).After-len) c.args.trees.now files input of in
    let goes = c.in_ok-classes.ensures.goes_on in
    let run = goes.run names files input begun.0 begun.1 in
    c.in_ok-outcome.ensures.choices names files input run.last run.is (run-stands-seen w input begun.0 c.run_to_end.new.steps run)
    (goes.sound names files input begun.0 begun.1 (sound-same (g.C.Conditions.sets c.args.conds.now) (g.C.Conditions.sets c.start.new.conds) c.args.trees.now c.in_ok-core.ensures.keeps c.requires.branches sound))

pub returns-clause-keeps : goal.returns-clause-keeps
returns-clause-keeps g c = Keeps-trans c.in_ok-core.ensures.keeps (Keeps-trans c.run_to_end.ensures.keeps c.result.ensures.keeps)
