use Rattle.std.proofs.Common.{ap, length, rules, []}
use Rattle.sc_prep.proofs.DirectiveStops.{opening-stops}
use Rattle.sc_prep.proofs.ExpressionMoves.{empty_context, section-opened}
use Rattle.sc_prep.proofs.Facts.{All-nil, Denotes-self, Keeps-trans}
use Rattle.sc_prep.proofs.Stages.{stage-stops, text-then}
use Rattle.sc_prep.proofs.Terms.{Comes, ComesAt, IsPlaced, MomentsHave, StopsAtPlace, any_machine, any_token, seen_line, test_in}
use Rattle.sc_prep.proofs.walk.Walk.open_section.Goals as goal

pub decide_test-requires-clause-line : goal.decide_test-requires-clause-line
decide_test-requires-clause-line g c = ap test_in c.requires.line

pub begin_section-requires-clause-owns : goal.begin_section-requires-clause-owns
begin_section-requires-clause-owns g c = (c.in_ok-taken.ensures.decides.at empty_context).simulates.owns

pub returns-clause-decides : goal.returns-clause-decides
returns-clause-decides g c = λ x.
    let names = c.decide_test.new.names in
    let count = length c.args.files.now in
    let decides = c.in_ok-taken.ensures.decides in
    let begins = c.in_ok-begin_section.ensures in
    let was = decides.at x in
    record {
      simulates = section-opened c.args.files.now x (seen_line c.args.standard c.args.names.now c.args.files.now c.args.line.now) c.requires.line c.in_ok-taken.ensures.keeps c.in_ok-taken.taken was.simulates
          (begins.opened names _ (Denotes-self (g.C.Conditions.sets c.decide_test.new.conds) c.in_ok-taken.taken.0 decides.own));
      text = text-then c.args.self.now c.decide_test.new.self c.begin_section.new.self was.text
          (begins.printable names [] count any_token (All-nil (IsPlaced names count)) was.text.held) begins.list begins.runs;
    }

pub returns-in_err-begin_section-clause-keeps : goal.returns-in_err-begin_section-clause-keeps
returns-in_err-begin_section-clause-keeps g c = Keeps-trans c.in_ok-taken.ensures.keeps c.in_err-begin_section.ensures.keeps

pub returns-clause-keeps : goal.returns-clause-keeps
returns-clause-keeps g c = Keeps-trans c.in_ok-taken.ensures.keeps c.in_ok-begin_section.ensures.keeps

pub returns-in_err-taken-clause-stops : goal.returns-in_err-taken-clause-stops
returns-in_err-taken-clause-stops g c = λ x.
    let s = g.C.Conditions.sets c.args.conds.now in
    let names = c.args.names.now in
    let files = c.args.files.now in
    let l = seen_line c.args.standard names files c.args.line.now in
    let w = c.args.self.now in
    let stops = c.in_err-taken.ensures.stops in
    stage-stops s names files w c.args.line.now (λ config m. MomentsHave (ComesAt x m l)) c.args.limit c.from_residual.result (let by = stops.by in search (rules, by))
    (λ apart.
    let kept : StopsAtPlace s.arities (Comes s names files w any_machine (λ config m. MomentsHave (ComesAt x m l))) c.args.limit c.in_err-taken.field-0.0 =
    opening-stops s names files w x l c.requires.line c.args.limit c.in_err-taken.field-0.0 (stops.at_place apart) in
    search rules)
