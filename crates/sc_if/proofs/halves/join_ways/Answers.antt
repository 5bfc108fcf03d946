use Rattle.std.proofs.Common.{◌≡◌, ℕ, ◌++◌, List, Option, Vec, Global, get_or, subst, sym}
use Rattle.std.specs.Prelude.{IfSome}
use Rattle.std.proofs.lemmas.List.Elements.{All-nil, All-push}
use Rattle.sc_if.proofs.HalfLemmas.{Element, read-Keeps, read-before, read-joined, read-later}
use Rattle.sc_if.proofs.PutLemmas.{Entry, all-parts}
use Rattle.sc_if.specs.declared.halves.Way.{Way}
use Rattle.sc_if.specs.Halves.{AreJoined, AreReadFrom, AreWays}
use Rattle.sc_if.specs.Readings.{state_in}
use Rattle.sc_model.proofs.SetLemmas.{Keeps-refl, Keeps-trans}
use Rattle.sc_model.specs.Sets.{IsCond}
use Rattle.sc_if.proofs.halves.join_ways.Goals as goal

pub loop-first-init : goal.loop-first-init
loop-first-init g c =
    let s = g.C.Conditions.sets c.args.conds.now in
    record {
      keeps = Keeps-refl s;
      joined = λ front back live own live_own firsts seconds.
          subst (λ (l : List Way). AreWays s s (front ++ back) live l) (sym {A = List Way} c.new-ways.ensures.items)
          (All-nil (λ (way : Way). AreReadFrom s s (front ++ back) live (state_in way.start) way.ends.items));
    }

pub loop-first-preserved : goal.loop-first-preserved
loop-first-preserved g c =
    let s = g.C.Conditions.sets c.args.conds.now in
    let mid = g.C.Conditions.sets c.loop-first.conds in
    let new = g.C.Conditions.sets c.go_through.new.conds in
    let was = c.loop-first.invariant in
    let x : Way = c.first-item.result in
    let i = c.loop-first.first-index in
    let is : x ≡ get_or c.args.firsts.now i x = c.first-item.is in
    let goes = c.go_through.ensures.keeps in
    let ends = c.in-Some.ends in
    let joined = subst (λ (o : Option (Vec Entry Global)). IfSome o (λ found. (back : List Element) (live : ℕ) → AreWays mid mid back live c.args.seconds.now → AreJoined mid new back live c.deref.result.now found.items))
    c.in-Some.is c.in_ok-ends.ensures.joined in
    record {
      keeps = Keeps-trans was.keeps goes;
      joined = λ front back live own live_own firsts seconds.
          let parts = all-parts (λ (y : Element). IsCond s y.0.0) front back own in
          let Read : Way → Type 0 = λ way. AreReadFrom s new (front ++ back) live (state_in way.start) way.ends.items in
          let first = subst (λ (y : Way). AreReadFrom s s front live (state_in y.start) y.ends.items) (sym is) (firsts i x c.loop-first-test.true) in
          let through = subst (λ (l : List Entry). AreJoined mid new back live l ends.items) c.deref.ensures.value (joined back live (λ k d below. read-later (Keeps-refl s) was.keeps parts.1 live_own (seconds k d below))) in
          let made = read-before was.keeps own live_own (read-joined (read-later (Keeps-refl s) was.keeps parts.0 live_own first) through) in
          subst (λ (l : List Way). AreWays s new (front ++ back) live l) (sym {A = List Way} c.in_ok-push.ensures.items)
          (All-push Read c.loop-first.ways.items (record { start = c.in_ok-copy.field-0; ends = ends })
          (λ k d below. read-Keeps was.keeps goes (was.joined front back live own live_own firsts seconds k d below))
          (subst (λ t. AreReadFrom s new (front ++ back) live t ends.items) (sym c.in_ok-copy.ensures) made));
    }
