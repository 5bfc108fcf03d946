use Rattle.std.proofs.Common.{◌≡◌, All, List, get_or, subst, sym}
use Rattle.std.proofs.lemmas.Result.{on_ok_weaker}
use Rattle.sc_if.proofs.PutLemmas.{Entry, HaveRead-pushed, put-pushed}
use Rattle.sc_if.specs.Readings.{HaveRead, IsPut, seen_reading}
use Rattle.sc_if.proofs.readings.put.Goals as goal

pub returns-in-Some-clause-put : goal.returns-in-Some-clause-put
returns-in-Some-clause-put g c =
    let s = g.C.Conditions.sets c.args.conds.now in
    let now = g.C.Conditions.sets c.join.new.conds in
    let x : Entry = (c.args.cond, c.args.reading) in
    let same = subst (λ (l : List Entry). seen_reading (get_or l c.in-Some.index x).1 ≡ seen_reading c.args.reading) c.deref.ensures.value (c.in-Some.ensures.some.1 x) in
    on_ok_weaker c.join.result (λ f. subst (λ r. IsPut s now c.args.cond.0 r c.args.readings.now.items c.join.new.readings.items) same (f x)) c.join.ensures.put

pub returns-in-Some-clause-read : goal.returns-in-Some-clause-read
returns-in-Some-clause-read g c = on_ok_weaker c.join.result (λ f item within some going. f item within) c.join.ensures.read

pub returns-in_ok-push-in-None-clause-put : goal.returns-in_ok-push-in-None-clause-put
returns-in_ok-push-in-None-clause-put g c =
    let s = g.C.Conditions.sets c.args.conds.now in
    subst (λ (l : List Entry). IsPut s s c.args.cond.0 (seen_reading c.args.reading) c.args.readings.now.items l) (sym {A = List Entry} c.in_ok-push-in-None.ensures.items)
    (put-pushed s c.args.readings.now.items c.args.cond c.args.reading c.requires.own c.requires.cond_own)

pub returns-in_ok-push-in-None-clause-read : goal.returns-in_ok-push-in-None-clause-read
returns-in_ok-push-in-None-clause-read g c = λ item within some going were.
    let s = g.C.Conditions.sets c.args.conds.now in
    let none = subst (All (λ (x : Entry). seen_reading x.1 ≡ seen_reading c.args.reading → ⊥)) c.deref.ensures.value c.in-None.ensures.none in
    subst (HaveRead s item) (sym {A = List Entry} c.in_ok-push-in-None.ensures.items) (HaveRead-pushed s item c.args.readings.now.items c.args.cond c.args.reading within some going none were)
