use Rattle.std.proofs.Common.{◌∙◌, ◌++◌, ◌∷◌, [], ℕ, List, ap, sym}
use Rattle.std.proofs.lemmas.Result.{on_ok_weaker}
use Rattle.std.specs.Option.{option_or}
use Rattle.c11_macros.specs.Macros.{definition_named, predefined_macros}
use Rattle.sc_model.specs.Token.{name_of}
use Rattle.sc_table.proofs.Starting.{defined_over, predefined_by, predefined-macros, started-as}
use Rattle.sc_table.proofs.StartLemmas.{plain_quoted}
use Rattle.sc_table.proofs.start.add_predefined.Goals as goal

pub add_item-requires-4 : goal.add_item-requires-4
add_item-requires-4 c =
    let literal = (c.deref.ensures.value ∙ c.in_ok-time.ensures) ∙ ap (λ (t : List ℕ). 34 ∷ t ++ 34 ∷ []) c.as_bytes-2.ensures.value in
    record { plain = ap name_of literal ∙ (plain_quoted (c.args.time.now ++ 34 ∷ []) ∙ sym literal) }

pub add_item-requires-5 : goal.add_item-requires-5
add_item-requires-5 c =
    let literal = (c.deref-2.ensures.value ∙ c.in_ok-date.ensures) ∙ ap (λ (t : List ℕ). 34 ∷ t ++ 34 ∷ []) c.as_bytes.ensures.value in
    record { plain = ap name_of literal ∙ (plain_quoted (c.args.date.now ++ 34 ∷ []) ∙ sym literal) }

pub returns-clause-added : goal.returns-clause-added
returns-clause-added c = on_ok_weaker c.add_placed-2.result (λ added arities macros started.
    let date = c.deref-2.result.now in
    let time = c.deref.result.now in
    started-as (λ config. defined_over (predefined_by date time) (macros config)) (λ config text. option_or (definition_named (predefined_macros c.args.date.now c.args.time.now) text) (macros config text))
    (λ config text listed. predefined-macros c.args.date.now c.args.time.now date time c.requires.date c.requires.time
    ((c.deref-2.ensures.value ∙ c.in_ok-date.ensures) ∙ ap (λ (t : List ℕ). 34 ∷ t ++ 34 ∷ []) c.as_bytes.ensures.value)
    ((c.deref.ensures.value ∙ c.in_ok-time.ensures) ∙ ap (λ (t : List ℕ). 34 ∷ t ++ 34 ∷ []) c.as_bytes-2.ensures.value) (macros config) text)
    (added arities _ (c.in_ok-add_placed.ensures.added arities _ (c.in_ok-add_item-5.ensures.added arities _ (c.in_ok-add_item-4.ensures.added arities _
    (c.in_ok-add_item-3.ensures.added arities _ (c.in_ok-add_item-2.ensures.added arities _ (c.in_ok-add_item.ensures.added arities macros started))))))))
    c.add_placed-2.ensures.added
