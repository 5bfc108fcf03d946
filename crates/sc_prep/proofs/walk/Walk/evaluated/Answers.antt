use Rattle.std.proofs.Common.{◌≡◌, ◌∙◌, List, length, rules, sym, subst, ◌&&◌, ◌<◌, is_none, map}
use Rattle.sc_base.specs.declared.fault.Fault.{Fault}
use Rattle.sc_if.proofs.LineAnswers.{refuses-before}
use Rattle.sc_prep.proofs.ExpressionMoves.{evaluates-at}
use Rattle.sc_prep.proofs.Facts.{All-weaker, Denotes-self, Extends-refl, IsConfig-Keeps, IsTable-Keeps, Keeps-trans, macros_at-Keeps}
use Rattle.sc_prep.proofs.PartFootprints.{parts-stop}
use Rattle.sc_prep.proofs.StageRefusals.{refused-stage}
use Rattle.sc_prep.proofs.Terms.{EvaluatesAt, RefusesAt, RefusesEach, StopsBy, is_asked, items_at, seen, seen_place}
use Rattle.sc_prep.proofs.WalkMoves.{owns-kept}
use Rattle.sc_prep.proofs.walk.Walk.evaluated.Goals as goal

pub decide-requires-clause-own : goal.decide-requires-clause-own
decide-requires-clause-own g c = λ k d h. c.in_ok-live.ensures.keeps.own _ (c.requires.list_own k d h)

pub returns-in_err-decided-clause-stops : goal.returns-in_err-decided-clause-stops
returns-in_err-decided-clause-stops g c =
    let old = g.C.Conditions.sets c.args.conds.now in
    let s = g.C.Conditions.sets c.apply_and.new.self in
    let w = c.args.self.now in
    let names = c.args.names.now in
    let list = c.args.list.now in
    let limit = c.args.limit in
    let stop = c.in_err-decided.field-0.0 in
    let keeps = c.in_ok-live.ensures.keeps in
    let refused = c.in_err-decided.ensures.refused in
    let live = c.in_ok-live.ensures.meaning (old.has c.args.among.0) (old.has w.prepared.live.0) (Denotes-self old c.args.among.0 c.requires.among_own) (Denotes-self old w.prepared.live.0 c.requires.owns.prepared.live) in
    let kept : StopsBy old.arities limit stop × RefusesAt c.args.standard old names list (is_asked old w c.args.among.0) limit stop = (
      subst (λ arities. StopsBy arities limit stop) keeps.arities (parts-stop c.args.standard s names list (s.has c.in_ok-live.live.0) limit stop refused),
      refuses-before c.args.standard names list (is_asked old w c.args.among.0) (s.has c.in_ok-live.live.0) limit keeps c.requires.list_own (λ config listed has. sym (live.at config (IsConfig-Keeps keeps listed)) ∙ has) stop refused,
    ) in
    search rules

pub returns-clause-evaluates : goal.returns-clause-evaluates
returns-clause-evaluates g c =
    let old = g.C.Conditions.sets c.args.conds.now in
    let w = c.args.self.now in
    let names = c.args.names.now in
    let k1 = c.in_ok-live.ensures.keeps in
    let x = c.in_ok-decided.ensures in
    let k3 = c.in_ok-refuse_each.ensures.keeps in
    let d = c.in_ok-decided.decided in
    let new = g.C.Conditions.sets c.refuse_each.new.conds in
    let k2 = Keeps-trans k1 x.keeps in
    let refuses = subst (λ (fs : List Fault). RefusesEach (g.C.Conditions.sets c.decide.new.conds) w fs new c.refuse_each.new.self) c.deref.ensures.value c.in_ok-refuse_each.ensures.refuses in
    let live = c.in_ok-live.ensures.meaning (old.has c.args.among.0) (old.has w.prepared.live.0) (Denotes-self old c.args.among.0 c.requires.among_own) (Denotes-self old w.prepared.live.0 c.requires.owns.prepared.live) in
    record {
      own = k3.own _ x.own;
      stage = λ files there held.
          refused-stage files names names k2 k3 (Extends-refl names) w c.refuse_each.new.self w.table d.faults.items c.requires.owns c.requires.table held (IsTable-Keeps k2 c.requires.table)
          (macros_at-Keeps k2 c.requires.table) x.faults_own refuses
          (λ config m n. EvaluatesAt c.args.standard (seen_place files c.args.hash) (map (seen names files) (items_at old c.args.list.now config)) (old.has c.args.among.0 config && is_none m.fault) m (new.has d.taken.0 config) n)
          (All-weaker (λ (f : Fault). f.place ≡ c.args.hash) (λ (f : Fault). f.place.file.0 < length files) (λ f is. subst (λ p. p.file.0 < length files) (sym is) there) _ x.places)
          (evaluates-at k1 w c.args.among c.in_ok-live.live live x.keeps k3 c.args.list.now c.requires.list_own c.args.hash d x.own (λ config listed has. x.decided files config listed has) x.others);
    }

pub refuse_each-requires-clause-live : goal.refuse_each-requires-clause-live
refuse_each-requires-clause-live g c = (owns-kept (Keeps-trans c.in_ok-live.ensures.keeps c.in_ok-decided.ensures.keeps) c.args.self.now c.requires.owns).prepared.live

pub refuse_each-requires-clause-acting : goal.refuse_each-requires-clause-acting
refuse_each-requires-clause-acting g c = (owns-kept (Keeps-trans c.in_ok-live.ensures.keeps c.in_ok-decided.ensures.keeps) c.args.self.now c.requires.owns).acting

pub returns-in_err-refuse_each-clause-keeps : goal.returns-in_err-refuse_each-clause-keeps
returns-in_err-refuse_each-clause-keeps g c = Keeps-trans c.in_ok-live.ensures.keeps (Keeps-trans c.in_ok-decided.ensures.keeps c.in_err-refuse_each.ensures.keeps)

pub returns-clause-keeps : goal.returns-clause-keeps
returns-clause-keeps g c = Keeps-trans c.in_ok-live.ensures.keeps (Keeps-trans c.in_ok-decided.ensures.keeps c.in_ok-refuse_each.ensures.keeps)
