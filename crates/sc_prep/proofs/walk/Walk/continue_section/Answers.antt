use Rattle.std.proofs.Common.{ap, length, rules, []}
use Rattle.sc_prep.proofs.DirectiveStops.{alternative-stops}
use Rattle.sc_prep.proofs.ExpressionMoves.{empty_context, section-goes_on}
use Rattle.sc_prep.proofs.Facts.{All-nil, Denotes-self, Keeps-trans}
use Rattle.sc_prep.proofs.Stages.{text-then}
use Rattle.sc_prep.proofs.Terms.{ComesAt, IsPlaced, MomentsHave, StopsStage, any_token, seen_line, test_in}
use Rattle.sc_prep.proofs.walk.Walk.continue_section.Goals as goal

pub decide_test-requires-clause-line : goal.decide_test-requires-clause-line
decide_test-requires-clause-line g c = ap test_in c.requires.line

pub decide_test-requires-clause-among_own : goal.decide_test-requires-clause-among_own
decide_test-requires-clause-among_own g c = c.untaken-untaken.ensures.own _ c.requires.stored.owns

pub begin_branch-requires-clause-owns : goal.begin_branch-requires-clause-owns
begin_branch-requires-clause-owns g c = (c.in_ok-taken.ensures.decides.at empty_context).simulates.owns

pub returns-clause-decides : goal.returns-clause-decides
returns-clause-decides g c = λ x.
    let names = c.decide_test.new.names in
    let count = length c.args.files.now in
    let decides = c.in_ok-taken.ensures.decides in
    let begins = c.in_ok-begin_branch.ensures in
    let was = decides.at x in
    record {
      simulates = section-goes_on c.args.files.now x (seen_line c.args.standard c.args.names.now c.args.files.now c.args.line.now) c.requires.line c.in_ok-taken.ensures.keeps c.untaken-untaken.result c.in_ok-taken.taken
          (λ config m simulates. c.untaken-untaken.ensures.at (g.C.Conditions.sets c.args.conds.now) c.args.names.now c.args.files.now config m simulates) was.simulates
          (begins.moved names _ (Denotes-self (g.C.Conditions.sets c.decide_test.new.conds) c.in_ok-taken.taken.0 decides.own));
      text = text-then c.args.self.now c.decide_test.new.self c.begin_branch.new.self was.text
          (begins.printable names [] count any_token (All-nil (IsPlaced names count)) was.text.held) begins.list begins.runs;
    }

pub returns-in_err-begin_branch-clause-keeps : goal.returns-in_err-begin_branch-clause-keeps
returns-in_err-begin_branch-clause-keeps g c = Keeps-trans c.in_ok-taken.ensures.keeps c.in_err-begin_branch.ensures.keeps

pub returns-clause-keeps : goal.returns-clause-keeps
returns-clause-keeps g c = Keeps-trans c.in_ok-taken.ensures.keeps c.in_ok-begin_branch.ensures.keeps

pub returns-in_err-taken-clause-stops : goal.returns-in_err-taken-clause-stops
returns-in_err-taken-clause-stops g c = λ x.
    let s = g.C.Conditions.sets c.args.conds.now in
    let names = c.args.names.now in
    let files = c.args.files.now in
    let l = seen_line c.args.standard names files c.args.line.now in
    let stops = c.in_err-taken.ensures.stops in
    let kept : StopsStage s names files c.args.self.now c.args.line.now (λ config m. MomentsHave (ComesAt x m l)) c.args.limit c.in_err-taken.field-0.0 =
    record {
      by = stops.by;
      at_place = λ apart. alternative-stops s names files c.args.self.now x l c.requires.line c.untaken-untaken.result
          (λ config m simulates. c.untaken-untaken.ensures.at s names files config m simulates) c.args.limit c.in_err-taken.field-0.0 (stops.at_place apart);
    } in
    search rules
