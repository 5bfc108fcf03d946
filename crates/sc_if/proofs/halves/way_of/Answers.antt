use Rattle.std.proofs.Common.{◌++◌, ◌∷◌, [], ◌∙◌, All, List, Some, ap, option_map, subst, sym}
use Rattle.std.proofs.lemmas.List.Elements.{All-nil, All-push}
use Rattle.sc_if.proofs.HalfLemmas.{read-one}
use Rattle.sc_if.proofs.PutLemmas.{Entry}
use Rattle.sc_if.specs.Halves.{AreReadFrom}
use Rattle.sc_if.specs.Readings.{AreMoved, state_in}
use Rattle.sc_if.specs.Symbols.{seen_symbol}
use Rattle.sc_model.specs.Sets.{IsCond}
use Rattle.sc_if.proofs.halves.way_of.Goals as goal

pub advance-requires-clause-own : goal.advance-requires-clause-own
advance-requires-clause-own g c =
    let Own : Entry → Type 0 = λ x. IsCond (g.C.Conditions.sets c.args.conds.now) x.0.0 in
    let x : Entry = (c.args.live, Some c.in_ok-copy.field-0) in
    subst (All Own) (sym {A = List Entry} (c.in_ok-push.ensures.items ∙ ap (λ (l : List Entry). l ++ x ∷ []) c.new-before.ensures.items)) (All-push Own [] x (All-nil Own) c.requires.live_own)

pub returns-clause-read : goal.returns-clause-read
returns-clause-read g c =
    let s = g.C.Conditions.sets c.args.conds.now in
    let new = g.C.Conditions.sets c.advance.new.conds in
    let x : Entry = (c.args.live, Some c.in_ok-copy.field-0) in
    let symbol = option_map seen_symbol c.args.element.1 in
    let moved = subst (λ (l : List Entry). AreMoved s new c.args.element.0.0 symbol l c.in_ok-next.next) (c.in_ok-push.ensures.items ∙ ap (λ (l : List Entry). l ++ x ∷ []) c.new-before.ensures.items) c.in_ok-next.ensures.moved in
    subst (λ (l : List Entry). AreReadFrom s new (c.args.element ∷ []) c.args.live.0 (state_in c.args.start) l) (sym {A = List Entry} c.in_ok-append.ensures.items)
    (read-one c.args.element c.args.live (state_in c.args.start) (Some c.in_ok-copy.field-0) (ap Some c.in_ok-copy.ensures) moved)
