use Rattle.std.proofs.Common.{◌∙◌, sym, subst, length}
use Rattle.sc_prep.proofs.ApartLemmas.{apart-right, gathers-same}
use Rattle.sc_prep.proofs.Grown.{plain-grown}
use Rattle.sc_prep.proofs.Facts.{IfErr-weaker, on_ok_weaker}
use Rattle.sc_prep.proofs.TakeLine.{conditional-found, takes-decided}
use Rattle.sc_prep.proofs.Terms.{AllPass, is_plain, tokens_read}
use Rattle.sc_prep.proofs.CalmShares.{conditional-shares, directive-puts}
use Rattle.c11_directives.specs.declared.directive.Directive.TheVariants as kind
use Rattle.sc_prep.proofs.walk.Walk.local_line.Goals as goal

pub conditional_line-requires-clause-directive : goal.conditional_line-requires-clause-directive
conditional_line-requires-clause-directive g c = conditional-found c.args.line.now.directive c.in-Some.conditional c.in-Some.ensures ∙ c.requires.directive

pub unconditional_line-requires-clause-local : goal.unconditional_line-requires-clause-local
unconditional_line-requires-clause-local g c = (sym c.in-None.ensures, c.requires.local)

pub returns-in-Some-clause-takes : goal.returns-in-Some-clause-takes
returns-in-Some-clause-takes g c = on_ok_weaker c.conditional_line.result (λ decides x.
    let w = c.args.self.now in
    let next = c.conditional_line.new.self in
    let stage = decides x in
    record {
      simulates = takes-decided c.args.standard c.args.files.now c.args.tokens.now c.in-Some.conditional
          (conditional-found c.args.line.now.directive c.in-Some.conditional c.in-Some.ensures ∙ c.requires.directive) x stage.simulates;
      held = stage.text.held;
      plain = λ plain was. subst (AllPass (is_plain c.conditional_line.new.names)) (sym stage.text.list)
          (plain-grown c.conditional_line.ensures.names (length c.args.files.now) w.prepared.list c.requires.stored.held.list was);
      gathers = gathers-same c.args.tokens.now w next stage.text.runs;
    }) c.conditional_line.ensures.decides

pub returns-in-Some-clause-stops : goal.returns-in-Some-clause-stops
returns-in-Some-clause-stops g c = λ x.
    IfErr-weaker c.conditional_line.result _ _ (λ stop stops. record {
      by = stops.by;
      at_place = λ apart. stops.at_place (apart-right (tokens_read c.args.self.now.runs.read) c.args.tokens.now apart);
    }) (c.conditional_line.ensures.stops x)

pub returns-in-Some-clause-shares : goal.returns-in-Some-clause-shares
returns-in-Some-clause-shares g c = on_ok_weaker c.conditional_line.result (λ decides few.
    let p = c.conditional_line.ensures in
    conditional-shares c.args.standard c.args.files.now p.keeps p.names c.requires.stored c.args.tokens.now c.in-Some.conditional
    (conditional-found c.args.line.now.directive c.in-Some.conditional c.in-Some.ensures ∙ c.requires.directive) decides) c.conditional_line.ensures.decides

pub returns-in-Some-clause-text : goal.returns-in-Some-clause-text
returns-in-Some-clause-text g c = on_ok_weaker c.conditional_line.result (λ decides few apart.
    directive-puts c.args.standard c.args.files.now c.args.tokens.now (kind.Conditional c.in-Some.conditional)
    (conditional-found c.args.line.now.directive c.in-Some.conditional c.in-Some.ensures ∙ c.requires.directive)) c.conditional_line.ensures.decides
