use Rattle.std.proofs.Common.{◌++◌, ◌∷◌, [], ◌∙◌, List, Some, ap, subst, sym}
use Rattle.sc_if.proofs.PutLemmas.{Entry}
use Rattle.sc_if.proofs.ReadingLemmas.{unread-none, unread-one}
use Rattle.sc_if.specs.Readings.{AreReadings}
use Rattle.sc_if.proofs.readings.unread.Goals as goal

pub returns-then-is_never : goal.returns-then-is_never
returns-then-is_never g c = λ standard names.
    let s = g.C.Conditions.sets c.args.conds.now in
    subst (λ (l : List Entry). AreReadings standard s s names [] c.args.live.0 l) (sym {A = List Entry} c.new-readings.ensures.items) (unread-none standard s names c.args.live.0 (c.is_never.ensures.0 c.if-is_never.true))

pub returns : goal.returns
returns g c = λ standard names.
    let s = g.C.Conditions.sets c.args.conds.now in
    let x : Entry = (c.args.live, Some c.start.result) in
    subst (λ (l : List Entry). AreReadings standard s s names [] c.args.live.0 l) (sym {A = List Entry} (c.in_ok-push.ensures.items ∙ ap (λ (l : List Entry). l ++ x ∷ []) c.new-readings.ensures.items))
    (unread-one standard s names c.args.live (Some c.start.result) c.requires (ap Some c.start.ensures))
