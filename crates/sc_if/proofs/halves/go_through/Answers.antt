use Rattle.std.proofs.Common.{◌≡◌, [], ◌∙◌, All, List, Some, ap, get_or, subst, sym, arith}
use Rattle.std.proofs.lemmas.List.{take_all}
use Rattle.std.proofs.lemmas.List.Elements.{All-nil}
use Rattle.sc_if.proofs.HalfLemmas.{added-none, added-some, joined-more, joined-none}
use Rattle.sc_if.proofs.PutLemmas.{Entry}
use Rattle.sc_if.specs.declared.halves.Way.{Way}
use Rattle.sc_if.specs.Halves.{AreFollowed, AreJoined}
use Rattle.sc_if.specs.Readings.{seen_reading}
use Rattle.sc_model.proofs.SetLemmas.{Keeps-refl, Keeps-trans}
use Rattle.sc_model.specs.Sets.{IsCond}
use Rattle.sc_if.proofs.halves.go_through.Goals.{in-None+in_ok-put-in-None, in-Some+in-Some-way_from+in_ok-follow-in-Some-way_from}
use Rattle.sc_if.proofs.halves.go_through.Goals as goal

pub loop-reading-init : goal.loop-reading-init
loop-reading-init g c =
    let s = g.C.Conditions.sets c.args.conds.now in
    let Own : Entry → Type 0 = λ x. IsCond s x.0.0 in
    record {
      keeps = Keeps-refl s;
      own = subst (All Own) (sym {A = List Entry} c.new-ends.ensures.items) (All-nil Own);
      joined = λ back live ways. subst (λ (l : List Entry). AreJoined s s back live [] l) (sym {A = List Entry} c.new-ends.ensures.items) (joined-none s back live);
    }

pub loop-reading-preserved : goal.loop-reading-preserved
loop-reading-preserved g c =
    let s = g.C.Conditions.sets c.args.conds.now in
    let mid = g.C.Conditions.sets c.loop-reading.conds in
    let was = c.loop-reading.invariant in
    let xs = c.args.middle.now in
    let i = c.loop-reading.reading-index in
    let x : Entry = c.reading-item.result in
    let is : x ≡ get_or xs i x = c.reading-item.is in
    let within = c.loop-reading-test.true in
    let own = subst (λ (y : Entry). IsCond s y.0.0) (sym is) (c.requires.middle i x within) in
    elim c.match-reading.branch [
      | in-None+in_ok-put-in-None w ↦ rw (w.conds-is, w.ends-is) (record {
        keeps = Keeps-trans was.keeps w.put.ensures.keeps;
        own = w.in_ok-put-in-None.ensures.put.own;
        joined = λ back live ways. joined-more xs i x within is (was.joined back live ways) (added-none x was.keeps own (ap seen_reading w.in-None.is) w.in_ok-put-in-None.ensures.put);
      })
      | in-Some+in-Some-way_from+in_ok-follow-in-Some-way_from w ↦ rw (w.conds-is, w.ends-is) (record {
        keeps = Keeps-trans was.keeps w.follow.ensures.keeps;
        own = w.in_ok-follow-in-Some-way_from.ensures.followed.own;
        joined = λ back live ways.
            let k = w.in-Some-way_from.index in
            let found = w.in-Some-way_from.ensures in
            let d : Way = w.index-seconds-index.result in
            joined-more xs i x within is (was.joined back live ways)
            (added-some x was.keeps own (get_or c.args.seconds.now k d) (ap seen_reading w.in-Some.is ∙ ap Some (sym (found.1 d))) (ways k d found.0)
            (subst (λ (l : List Entry). AreFollowed mid (g.C.Conditions.sets w.follow.new.conds) x.0.0 l c.loop-reading.ends.items w.follow.new.ends.items) w.deref.ensures.value
            w.in_ok-follow-in-Some-way_from.ensures.followed));
      })
    ]

pub returns-clause-joined : goal.returns-clause-joined
returns-clause-joined g c = λ back live ways.
    let s = g.C.Conditions.sets c.args.conds.now in
    let new = g.C.Conditions.sets c.loop-reading.conds in
    subst (λ (l : List Entry). AreJoined s new back live l c.loop-reading.ends.items) (take_all c.loop-reading.reading-index c.args.middle.now (omega (arith, c.loop-reading-test.false)))
    (c.loop-reading.invariant.joined back live ways)
