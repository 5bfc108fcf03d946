use Rattle.std.proofs.Common.{◌∙◌, ◌++◌, All, refl, sym, ap, subst, Some, length, rules, []}
use Rattle.c11_directives.specs.declared.directive.Directive.TheVariants as kind
use Rattle.sc_prep.proofs.ApartLemmas.{apart-left, apart-right, gathers-same, gathers-then}
use Rattle.sc_prep.proofs.Grown.{placed-grown, plain-grown}
use Rattle.sc_prep.proofs.DirectiveStops.{carried-stops, closing-stops}
use Rattle.sc_prep.proofs.Facts.{Extends-trans, IfErr-weaker, Keeps-trans, on_ok_weaker}
use Rattle.sc_prep.proofs.LineSteps.{directive-long}
use Rattle.sc_prep.proofs.Stages.{no-memory, ok-three, stage-stops}
use Rattle.sc_prep.proofs.TakeLine.{barrier-unconditional, stays-plain, takes-carried, takes-closed, unsaid}
use Rattle.sc_prep.proofs.Terms.{AllPass, ComesAt, IsPlaced, MomentsHave, StopsBy, any_machine, any_token, is_plain, seen_line, tokens_read}
use Rattle.sc_prep.proofs.CalmShares.{directive-shares, number-shares}
use Rattle.sc_prep.proofs.walk.Walk.barrier_line.Goals as goal

pub number_line-requires-clause-placed : goal.number_line-requires-clause-placed
number_line-requires-clause-placed g c = λ k d h. placed-grown c.in_ok-close_runs.ensures.names (length c.args.files.now) _ (c.requires.placed k d h)

pub number_line-requires-clause-line : goal.number_line-requires-clause-line
number_line-requires-clause-line g c = directive-long c.args.standard c.args.names.now c.args.line.now (Some c.args.directive) c.requires.directive (λ e. absurd (cc))

pub number_line-requires-clause-stored : goal.number_line-requires-clause-stored
number_line-requires-clause-stored g c =
    let closed = c.in_ok-close_runs.ensures.closes in
    record { owns = closed.simulates.owns; table = closed.simulates.table; held = closed.held }

pub plain_directive-requires-clause-held : goal.plain_directive-requires-clause-held
plain_directive-requires-clause-held g c = λ k d h. (placed-grown c.in_ok-close_runs.ensures.names (length c.args.files.now) _ (c.requires.placed k d h)).held

pub plain_directive-requires-clause-line : goal.plain_directive-requires-clause-line
plain_directive-requires-clause-line g c = directive-long c.args.standard c.args.names.now c.args.line.now (Some c.args.directive) c.requires.directive (λ e. absurd (cc))

pub returns-in-Line-clause-takes : goal.returns-in-Line-clause-takes
returns-in-Line-clause-takes g c = on_ok_weaker c.number_line.result (λ carries x.
    let first = c.in_ok-close_runs.ensures in
    let closed = first.closes in
    let stage = carries c.args.standard x in
    let line = c.args.line.now in
    record {
      simulates = takes-carried c.args.standard c.args.files.now line kind.Line (ap Some (sym c.in-Line.is) ∙ c.requires.directive) refl first.names (λ k d h. (c.requires.placed k d h).held) first.keeps closed.simulates x stage.simulates;
      held = stage.text.held;
      plain = λ plain was. subst (AllPass (is_plain c.number_line.new.names)) (sym stage.text.list)
          (plain-grown c.number_line.ensures.names (length c.args.files.now) c.close_runs.new.self.prepared.list closed.held.list (closed.plain plain was));
      gathers = gathers-then [] line c.args.self.now c.close_runs.new.self c.number_line.new.self closed.gathers
          (gathers-same line c.close_runs.new.self c.number_line.new.self stage.text.runs);
    }) c.number_line.ensures.carries

pub returns-in-Line-clause-stops : goal.returns-in-Line-clause-stops
returns-in-Line-clause-stops g c = λ x.
    let first = c.in_ok-close_runs.ensures in
    let line = c.args.line.now in
    stage-stops (g.C.Conditions.sets c.args.conds.now) c.args.names.now c.args.files.now c.args.self.now (tokens_read c.args.self.now.runs.read ++ line)
    (λ config m. MomentsHave (ComesAt x m (seen_line c.args.standard c.args.names.now c.args.files.now line))) c.args.limit c.number_line.result
    (IfErr-weaker c.number_line.result _ _ (λ stop stops. subst (λ arities. StopsBy arities c.args.limit stop) first.keeps.arities stops.by) c.number_line.ensures.stops)
    (λ apart.
    carried-stops c.args.limit c.number_line.result c.args.standard c.args.names.now c.args.files.now (g.C.Conditions.sets c.args.conds.now) c.args.self.now any_machine x line kind.Line (ap Some (sym c.in-Line.is) ∙ c.requires.directive) refl first.names
    (λ k d h. (c.requires.placed k d h).held) first.keeps first.closes.simulates
    (λ d directed says. IfErr-weaker c.number_line.result _ _ (λ stop stops. stops.at_place c.args.standard d directed says (apart-right (tokens_read c.args.self.now.runs.read) line apart)) c.number_line.ensures.stops))

pub returns-in-Line-clause-keeps : goal.returns-in-Line-clause-keeps
returns-in-Line-clause-keeps g c = Keeps-trans c.in_ok-close_runs.ensures.keeps c.number_line.ensures.keeps

pub returns-in-Line-clause-names : goal.returns-in-Line-clause-names
returns-in-Line-clause-names g c = Extends-trans c.in_ok-close_runs.ensures.names c.number_line.ensures.names

pub returns-in_default-clause-takes : goal.returns-in_default-clause-takes
returns-in_default-clause-takes g c =
    let p = c.plain_directive.ensures in
    ok-three c.plain_directive.result (λ moved stays gathers x.
    let first = c.in_ok-close_runs.ensures in
    let closed = first.closes in
    let d = c.args.directive in
    let line = c.args.line.now in
    let count = length c.args.files.now in
    let placed : All (IsPlaced c.close_runs.new.names count) line = λ k e h. placed-grown first.names count _ (c.requires.placed k e h) in
    record {
      simulates = takes-closed c.args.standard c.args.files.now line d c.requires.directive c.requires.barrier.0 (unsaid d c.requires.barrier.1 c.in_default.not-Line) (barrier-unconditional d c.requires.barrier.0)
          first.names (λ k e h. (c.requires.placed k e h).held) first.keeps closed.simulates moved x;
      held = stays count any_token placed closed.held;
      plain = λ plain was. stays-plain c.close_runs.new.names count line c.close_runs.new.self c.plain_directive.new.self stays placed closed.held (closed.plain plain was);
      gathers = gathers-then [] line c.args.self.now c.close_runs.new.self c.plain_directive.new.self closed.gathers gathers;
    }) p.moved p.printable p.gathers

pub returns-in_default-clause-stops : goal.returns-in_default-clause-stops
returns-in_default-clause-stops g c = λ x. IfErr-weaker c.plain_directive.result _ _ (no-memory _ _ _ _ _ _ c.args.limit) c.plain_directive.ensures.memory

pub returns-in_default-clause-keeps : goal.returns-in_default-clause-keeps
returns-in_default-clause-keeps g c = Keeps-trans c.in_ok-close_runs.ensures.keeps c.plain_directive.ensures.keeps

pub returns-in_err-close_runs-clause-stops : goal.returns-in_err-close_runs-clause-stops
returns-in_err-close_runs-clause-stops g c = λ x.
    let line = c.args.line.now in
    let stops = c.in_err-close_runs.ensures.stops in
    stage-stops (g.C.Conditions.sets c.args.conds.now) c.args.names.now c.args.files.now c.args.self.now (tokens_read c.args.self.now.runs.read ++ line)
    (λ config m. MomentsHave (ComesAt x m (seen_line c.args.standard c.args.names.now c.args.files.now line))) c.args.limit c.from_residual.result (let by = stops.by in search (rules, by))
    (λ apart.
    let at_place = stops.at_place (apart-left (tokens_read c.args.self.now.runs.read) line apart) in
    closing-stops c.args.limit c.from_residual.result c.args.standard c.args.names.now c.args.files.now (g.C.Conditions.sets c.args.conds.now) c.args.self.now any_machine x line c.args.directive c.requires.directive c.requires.barrier.0
    (search (rules, at_place)))

pub returns-in-Line-clause-shares : goal.returns-in-Line-clause-shares
returns-in-Line-clause-shares g c = on_ok_weaker c.number_line.result (λ carries few.
    let first = c.in_ok-close_runs.ensures in
    number-shares c.args.standard c.args.files.now first.keeps first.closes (first.shares few) c.args.line.now c.number_line.ensures.keeps c.number_line.ensures.names (carries c.args.standard)) c.number_line.ensures.carries

pub returns-in_default-clause-shares : goal.returns-in_default-clause-shares
returns-in_default-clause-shares g c =
    let p = c.plain_directive.ensures in
    ok-three c.plain_directive.result (λ moved runs list few.
    let first = c.in_ok-close_runs.ensures in
    directive-shares c.args.standard c.args.files.now first.keeps first.closes (first.shares few) c.args.line.now c.args.directive p.keeps moved runs list) p.moved p.runs p.list
