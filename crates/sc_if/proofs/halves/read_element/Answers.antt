use Rattle.std.proofs.Common.{◌∷◌, [], List, subst, sym}
use Rattle.std.proofs.lemmas.List.Elements.{All-nil, All-push}
use Rattle.sc_if.proofs.HalfLemmas.{Element, read-Keeps, read-before}
use Rattle.sc_if.specs.declared.halves.Way.{Way}
use Rattle.sc_if.specs.Halves.{AreReadFrom, AreWays}
use Rattle.sc_if.specs.Readings.{state_in}
use Rattle.sc_model.proofs.SetLemmas.{Keeps-refl, Keeps-trans}
use Rattle.sc_model.specs.Sets.{IsCond}
use Rattle.sc_if.proofs.halves.read_element.Goals as goal

pub loop-start-init : goal.loop-start-init
loop-start-init g c =
    let s = g.C.Conditions.sets c.args.conds.now in
    let line : List Element = c.args.element ∷ [] in
    record {
      keeps = Keeps-refl s;
      ways = subst (λ (l : List Way). AreWays s s line c.args.live.0 l) (sym {A = List Way} c.new-ways.ensures.items)
          (All-nil (λ (way : Way). AreReadFrom s s line c.args.live.0 (state_in way.start) way.ends.items));
    }

pub returns-in_err-way-clause-keeps : goal.returns-in_err-way-clause-keeps
returns-in_err-way-clause-keeps g c = Keeps-trans c.loop-start.invariant.keeps c.way_of.ensures.keeps

pub returns-in_err-push-clause-keeps : goal.returns-in_err-push-clause-keeps
returns-in_err-push-clause-keeps g c = Keeps-trans c.loop-start.invariant.keeps c.way_of.ensures.keeps

pub loop-start-preserved : goal.loop-start-preserved
loop-start-preserved g c =
    let s = g.C.Conditions.sets c.args.conds.now in
    let new = g.C.Conditions.sets c.way_of.new.conds in
    let was = c.loop-start.invariant in
    let line : List Element = c.args.element ∷ [] in
    let Own : Element → Type 0 = λ x. IsCond s x.0.0 in
    let Read : Way → Type 0 = λ way. AreReadFrom s new line c.args.live.0 (state_in way.start) way.ends.items in
    record {
      keeps = Keeps-trans was.keeps c.way_of.ensures.keeps;
      ways = subst (λ (l : List Way). AreWays s new line c.args.live.0 l) (sym {A = List Way} c.in_ok-push.ensures.items)
          (All-push Read c.loop-start.ways.items c.in_ok-way.way (λ k d below. read-Keeps was.keeps c.way_of.ensures.keeps (was.ways k d below))
          (read-before was.keeps (All-push Own [] c.args.element (All-nil Own) c.requires.own) c.requires.live_own c.in_ok-way.ensures.read));
    }
