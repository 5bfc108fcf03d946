use Rattle.std.proofs.Common.{[], ◌∙◌, All, List, Option, Vec, Global, subst, sym}
use Rattle.std.specs.Prelude.{IfSome}
use Rattle.c11_expressions.proofs.Reader.{wanting}
use Rattle.sc_if.proofs.HalfLemmas.{Element, err-weaker, line-conditions, line-read, ok-weaker, readings-before}
use Rattle.sc_if.proofs.LineAnswers.{refuses-before}
use Rattle.sc_if.proofs.PutLemmas.{Entry}
use Rattle.sc_if.specs.Halves.{AreReadFrom}
use Rattle.sc_model.proofs.SetLemmas.{Keeps-refl, Keeps-trans}
use Rattle.sc_model.specs.Sets.{IsCond, Keeps}
use Rattle.sc_if.proofs.readings.read_line.Goals.{then-len-gt-SHORT+in_ok-line+in_ok-readings+in_default, else-len-gt-SHORT}
use Rattle.sc_if.proofs.readings.read_line.Goals as goal

pub read_halves-requires-clause-own : goal.read_halves-requires-clause-own
read_halves-requires-clause-own g c =
    let s = g.C.Conditions.sets c.args.conds.now in
    subst (All (λ (x : Element). IsCond s x.0.0)) (sym {A = List Element} c.deref.ensures.value)
    (line-conditions c.args.standard c.args.names.now c.args.list.now c.in_ok-line.line.items c.in_ok-line.ensures (λ x. IsCond s x.0) c.requires.own)

pub returns-in-Some-clause-read : goal.returns-in-Some-clause-read
returns-in-Some-clause-read g c =
    let s = g.C.Conditions.sets c.args.conds.now in
    let new = g.C.Conditions.sets c.read_halves.new.conds in
    let live = c.args.live.0 in
    let read = subst (λ (o : Option (Vec Entry Global)). IfSome o (λ ends. AreReadFrom s new c.deref.result.now live (wanting []) ends.items)) c.in-Some.is c.in_ok-readings.ensures.read in
    line-read c.args.standard c.args.names.now c.args.list.now c.in_ok-line.line.items c.in_ok-line.ensures
    (subst (λ (l : List Element). AreReadFrom s new l live (wanting []) c.in-Some.readings.items) c.deref.ensures.value read)

pub returns-clause-keeps : goal.returns-clause-keeps
returns-clause-keeps g c =
    let s = g.C.Conditions.sets c.args.conds.now in
    let before : Keeps s (g.C.Conditions.sets c.if-len-gt-SHORT.conds) = elim c.if-len-gt-SHORT.branch [
      | then-len-gt-SHORT+in_ok-line+in_ok-readings+in_default w ↦ rw (w.conds-is) w.read_halves.ensures.keeps
      | else-len-gt-SHORT w ↦ rw (w.conds-is) (Keeps-refl s)
    ] in
    Keeps-trans before c.read_through.ensures.keeps

pub returns-clause-read : goal.returns-clause-read
returns-clause-read g c =
    let s = g.C.Conditions.sets c.args.conds.now in
    let before : Keeps s (g.C.Conditions.sets c.if-len-gt-SHORT.conds) = elim c.if-len-gt-SHORT.branch [
      | then-len-gt-SHORT+in_ok-line+in_ok-readings+in_default w ↦ rw (w.conds-is) w.read_halves.ensures.keeps
      | else-len-gt-SHORT w ↦ rw (w.conds-is) (Keeps-refl s)
    ] in
    ok-weaker c.read_through.result (λ readings read. readings-before before c.requires.own c.requires.live_own read) c.read_through.ensures.read

pub returns-clause-refused : goal.returns-clause-refused
returns-clause-refused g c =
    let s = g.C.Conditions.sets c.args.conds.now in
    let mid = g.C.Conditions.sets c.if-len-gt-SHORT.conds in
    let before : Keeps s mid = elim c.if-len-gt-SHORT.branch [
      | then-len-gt-SHORT+in_ok-line+in_ok-readings+in_default w ↦ rw (w.conds-is) w.read_halves.ensures.keeps
      | else-len-gt-SHORT w ↦ rw (w.conds-is) (Keeps-refl s)
    ] in
    err-weaker c.read_through.result
    (λ stop refused. refuses-before c.args.standard c.args.names.now c.args.list.now (s.has c.args.live.0) (mid.has c.args.live.0) c.args.limit before c.requires.own
    (λ x listed has. sym (before.at c.args.live.0 x c.requires.live_own listed) ∙ has) stop refused)
    c.read_through.ensures.refused
