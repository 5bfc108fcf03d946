use Rattle.std.proofs.Common.{◌≡◌, ◌++◌, ◌∙◌, List, Option, Vec, Global, subst, sym}
use Rattle.std.proofs.lemmas.List.{take-append-drop}
use Rattle.std.specs.Prelude.{IfOk, IfSome}
use Rattle.sc_if.proofs.HalfLemmas.{Element, found-weaker, one-element, ways-joined}
use Rattle.sc_if.proofs.PutLemmas.{own-Keeps}
use Rattle.sc_if.specs.declared.halves.Way.{Way}
use Rattle.sc_if.specs.Halves.{AreWays, OwnWays}
use Rattle.sc_model.proofs.SetLemmas.{Keeps-trans}
use Rattle.sc_if.proofs.halves.+read_part.Goals as goal

pub returns-in_err-seconds-in_default-clause-keeps : goal.returns-in_err-seconds-in_default-clause-keeps
returns-in_err-seconds-in_default-clause-keeps g t c = Keeps-trans c.read_part.ensures.keeps c.read_part-in_default.ensures.keeps

pub returns-in_default-3-clause-keeps : goal.returns-in_default-3-clause-keeps
returns-in_default-3-clause-keeps g t c = Keeps-trans c.read_part.ensures.keeps c.read_part-in_default.ensures.keeps

pub returns-in-Some-2-clause-keeps : goal.returns-in-Some-2-clause-keeps
returns-in-Some-2-clause-keeps g t c = Keeps-trans (Keeps-trans c.read_part.ensures.keeps c.read_part-in_default.ensures.keeps) c.join_ways.ensures.keeps

pub join_ways-requires-clause-firsts : goal.join_ways-requires-clause-firsts
join_ways-requires-clause-firsts g t c =
    let s = g.C.Conditions.sets c.args.conds.now in
    let mid = g.C.Conditions.sets c.read_part.new.conds in
    let last = g.C.Conditions.sets c.read_part-in_default.new.conds in
    let firsts = subst (λ (o : Option (Vec Way Global)). IfSome o (λ ways. AreWays s mid c.split_at.result.0.now c.args.live.0 ways.items)) c.in-Some.is c.in_ok-firsts-in_default.ensures.read in
    subst (λ (l : List Way). OwnWays last l) (sym {A = List Way} c.deref-in_default-2.ensures.value) (λ k d below. own-Keeps c.read_part-in_default.ensures.keeps _ (firsts k d below).own)

pub join_ways-requires-clause-seconds : goal.join_ways-requires-clause-seconds
join_ways-requires-clause-seconds g t c =
    let mid = g.C.Conditions.sets c.read_part.new.conds in
    let last = g.C.Conditions.sets c.read_part-in_default.new.conds in
    let seconds = subst (λ (o : Option (Vec Way Global)). IfSome o (λ ways. AreWays mid last c.split_at.result.1.now c.args.live.0 ways.items)) c.in-Some-2.is c.in_ok-seconds-in_default.ensures.read in
    subst (λ (l : List Way). OwnWays last l) (sym {A = List Way} c.deref-in_default-3.ensures.value) (λ k d below. (seconds k d below).own)

pub returns-in-len1-clause-read : goal.returns-in-len1-clause-read
returns-in-len1-clause-read g t c =
    let s = g.C.Conditions.sets c.args.conds.now in
    let new = g.C.Conditions.sets c.read_element.new.conds in
    subst (λ (l : List Element). IfOk c.read_element.result (λ read. IfSome read (λ ways. AreWays s new l c.args.live.0 ways.items)))
    (one-element c.args.line.now _ c.in-len1.len_at_least c.in-len1.len_below) c.read_element.ensures.read

pub returns-in-Some-2-clause-read : goal.returns-in-Some-2-clause-read
returns-in-Some-2-clause-read g t c =
    let s = g.C.Conditions.sets c.args.conds.now in
    let mid = g.C.Conditions.sets c.read_part.new.conds in
    let last = g.C.Conditions.sets c.read_part-in_default.new.conds in
    let front = c.split_at.result.0.now in
    let back = c.split_at.result.1.now in
    let live = c.args.live.0 in
    let firsts = subst (λ (o : Option (Vec Way Global)). IfSome o (λ ways. AreWays s mid front live ways.items)) c.in-Some.is c.in_ok-firsts-in_default.ensures.read in
    let seconds = subst (λ (o : Option (Vec Way Global)). IfSome o (λ ways. AreWays mid last back live ways.items)) c.in-Some-2.is c.in_ok-seconds-in_default.ensures.read in
    let whole : front ++ back ≡ c.args.line.now = (λ j. c.split_at.ensures.front j ++ c.split_at.ensures.back j) ∙ take-append-drop _ c.args.line.now in
    found-weaker c.join_ways.result
    (λ (ways : Vec Way Global) joined. ways-joined c.in-Some.firsts.items c.in-Some-2.seconds.items ways.items whole c.read_part.ensures.keeps c.read_part-in_default.ensures.keeps c.requires.own c.requires.live_own firsts seconds
    (λ own live_own fronts backs. joined front back live own live_own (subst (λ (l : List Way). AreWays last last front live l) (sym {A = List Way} c.deref-in_default-2.ensures.value) fronts)
    (subst (λ (l : List Way). AreWays last last back live l) (sym {A = List Way} c.deref-in_default-3.ensures.value) backs)))
    c.join_ways.ensures.joined
