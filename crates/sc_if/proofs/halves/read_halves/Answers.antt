use Rattle.std.proofs.Common.{[], All, List, Option, Vec, Global, subst, sym}
use Rattle.std.specs.Prelude.{IfSome}
use Rattle.c11_expressions.proofs.Reader.{wanting}
use Rattle.sc_if.proofs.HalfLemmas.{found-weaker, halves-read, unread-from}
use Rattle.sc_if.proofs.PutLemmas.{Entry}
use Rattle.sc_if.specs.declared.halves.Way.{Way}
use Rattle.sc_if.specs.Halves.{AreReadFrom, AreWays, OwnWays}
use Rattle.sc_model.specs.Sets.{IsCond}
use Rattle.sc_model.specs.declared.standard.Standard.TheVariants.{C11}
use Rattle.sc_if.proofs.halves.read_halves.Goals as goal

pub go_through-requires-clause-middle : goal.go_through-requires-clause-middle
go_through-requires-clause-middle g c =
    let mid = g.C.Conditions.sets c.read_part.new.conds in
    subst (All (λ (x : Entry). IsCond mid x.0.0)) (sym {A = List Entry} c.deref.ensures.value) (c.in_ok-middle.ensures C11 []).own

pub go_through-requires-clause-seconds : goal.go_through-requires-clause-seconds
go_through-requires-clause-seconds g c =
    let s = g.C.Conditions.sets c.args.conds.now in
    let mid = g.C.Conditions.sets c.read_part.new.conds in
    let ways = subst (λ (o : Option (Vec Way Global)). IfSome o (λ found. AreWays s mid c.args.line.now c.args.live.0 found.items)) c.in-Some.is c.in_ok-ways.ensures.read in
    subst (λ (l : List Way). OwnWays mid l) (sym {A = List Way} c.deref-2.ensures.value) (λ k d below. (ways k d below).own)

pub returns-clause-read : goal.returns-clause-read
returns-clause-read g c =
    let s = g.C.Conditions.sets c.args.conds.now in
    let mid = g.C.Conditions.sets c.read_part.new.conds in
    let line = c.args.line.now in
    let live = c.args.live.0 in
    let ways = subst (λ (o : Option (Vec Way Global)). IfSome o (λ found. AreWays s mid line live found.items)) c.in-Some.is c.in_ok-ways.ensures.read in
    let middle = subst (λ (l : List Entry). AreReadFrom mid mid [] live (wanting []) l) (sym {A = List Entry} c.deref.ensures.value) (unread-from (c.in_ok-middle.ensures C11 [])) in
    found-weaker c.go_through.result
    (λ (ends : Vec Entry Global) joined. halves-read c.in-Some.ways.items c.read_part.ensures.keeps c.requires.own c.requires.live_own ways middle
    (λ known. joined line live (subst (λ (l : List Way). AreWays mid mid line live l) (sym {A = List Way} c.deref-2.ensures.value) known)))
    c.go_through.ensures.joined
